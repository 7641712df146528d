pub mod Parts
pub mod Making
pub mod Gathering
pub mod Rounds
pub mod Mails
pub mod Posting
pub mod Lists
pub mod Certified
