-- The definitions that contracts of mails cite.
pub mod Limits
pub mod Mail
pub mod Step
pub mod Run
pub mod Letters
pub mod Equality
pub mod Pool
