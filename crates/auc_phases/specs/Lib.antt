pub mod Eps
pub mod Limits
pub mod Begins
pub mod Shards
pub mod Boxes
pub mod Hub
pub mod Reasons
