-- for use above
pub mod ClaimLaws
pub mod HallLaws
pub mod Converse
pub mod RisingLaws
pub mod VersionLaws
pub mod StartLaws
pub mod RangeLaws
-- for this crate
mod CostSums
mod ValueLaws
mod RepeatLaws
mod FlagLaws
mod SlackLaws
