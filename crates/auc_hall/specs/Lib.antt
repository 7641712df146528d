-- The definitions that contracts of completions cite.
pub mod Assignment
pub mod HallSet
pub mod OfProblem
pub mod Matching
pub mod Partial
pub mod Matched
pub mod Search
pub mod Chosen
pub mod Completion
pub mod Full
