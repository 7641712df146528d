-- How shards begin and stay is for the crates above too.
mod WorkedEps
pub mod NewShards
pub mod ShardLaws
