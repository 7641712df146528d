-- The definitions that contracts of mails with trails cite.
pub mod Limits
pub mod Trail
pub mod Replies
pub mod State
pub mod Seat
pub mod LockedMail
pub mod Seats
pub mod Settling
