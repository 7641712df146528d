-- for use above
pub mod PlaceLaws
pub mod PickLaws
pub mod ToldLaws
pub mod LimitedLaws
-- for this crate
mod StartLaws
mod RunLaws
mod HandLaws
mod MadeLaws
mod SolvingLaws
mod CheckLaws
mod ToldChecks
mod DriverLaws
