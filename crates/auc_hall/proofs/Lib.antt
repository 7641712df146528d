-- Membership, FlagLaws and ProblemLaws are for the crates above too; the rest is this crate's own.
mod Options
pub mod Membership
mod MatchedLaws
mod PlacingLaws
mod QueueLaws
pub mod FlagLaws
mod ExchangeLaws
mod CompletionLaws
mod SearchLaws
mod AnswerLaws
pub mod ProblemLaws
mod TooFewObjects
mod FullLaws
mod WorkedMatchings
