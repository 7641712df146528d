-- The laws of steps, of runs and of empty boxes are for the crates above too; the rest is this crate's own.
mod Tables
mod Lanes
mod Keeping
mod Changing
mod Making
mod Closing
mod Posting
mod Taking
pub mod StepLaws
pub mod EmptyBoxes
mod Outcomes
pub mod RunLaws
mod WorkedRows
