-- Hall sets' certificates, and what choices and brackets are to a problem, are for the crates above too; the rest is
-- this crate's own.
pub mod Replicated
pub mod HallCertificates
pub mod FoundLaws
mod MatchingPicks
mod PlacedLaws
pub mod BracketLaws
mod PreparedLaws
