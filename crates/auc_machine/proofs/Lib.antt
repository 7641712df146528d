-- What a new world and its rounds are, how candidate lists stay correct, and that counted holders pass the checker is
-- for the solver above too; the rest is this crate's own.
mod Keeping
mod WorldOf
mod PostingLaws
mod BiddingLaws
mod HearingLaws
mod SellingLaws
mod HubLaws
pub mod Made
mod TurnByTurn
pub mod RoundLaws
mod GatherLaws
pub mod Bridge
pub mod ListLaws
