-- for use above
pub mod Bounds
pub mod BidsLaws
pub mod MarketLaws
pub mod PhasesLaws
pub mod EndingLaws
pub mod Moving
pub mod Opening
pub mod Augmentations
pub mod CeilingLaws
-- for this crate
mod ScanLaws
mod Shortlists
mod BidLaws
mod Incumbents
mod Example
mod StartLaws
mod Serving
mod HallLaws
