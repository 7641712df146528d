pub mod Script
pub mod ScriptLimits
pub mod Replies
