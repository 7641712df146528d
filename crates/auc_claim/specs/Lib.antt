pub mod Spelled
pub mod InRange
pub mod Claim
pub mod Start
