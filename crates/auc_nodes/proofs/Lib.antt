-- for use above
pub mod Chains
-- for this crate
mod Joining
mod Tables
mod Linked
mod Moving
mod Splicing
mod Contents
mod Steps
mod Parts
mod Counting
mod Growing
mod Making
