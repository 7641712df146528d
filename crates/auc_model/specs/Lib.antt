-- the world, its turns and schedules, and what a phase begins with
pub mod Put
pub mod World
pub mod Mails
pub mod Bidding
pub mod Posting
pub mod Hearing
pub mod Selling
pub mod Hub
pub mod Start
pub mod Schedule
pub mod Slack
pub mod Still
pub mod Chosen
-- the invariants that every turn keeps
pub mod Letters
pub mod Places
pub mod Prices
pub mod Channels
pub mod Counts
pub mod SlackBids
pub mod Invariants
pub mod Room
-- the measure of work that the turns of a round use up
pub mod Work
