pub mod Spots
pub mod Sentences
pub mod Names
pub mod Phrases
pub mod Remarks
pub mod Pages
pub mod Forms
