pub mod Claims
pub mod Answers
pub mod Prepared
