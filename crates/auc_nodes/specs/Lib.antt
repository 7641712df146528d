-- The definitions that contracts of pools cite.
pub mod Limits
pub mod Lists
pub mod Links
pub mod Pool
