-- The definitions that contracts of jobs cite.
pub mod Lines
pub mod Statuses
pub mod Claims
pub mod Verdicts
pub mod Refusals
pub mod Problems
pub mod Completions
pub mod Solutions
pub mod Starts
pub mod Reports
pub mod Jobs
pub mod Said
pub mod Replies
