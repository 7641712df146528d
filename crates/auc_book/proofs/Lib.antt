-- for use above
pub mod Seats
pub mod Settled
pub mod Lines
-- for this crate
mod Noting
mod LockedMailLaws
mod Telling
mod WorkedRows
