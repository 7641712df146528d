pub mod Adopted
pub mod Phases
pub mod Starts
pub mod Endings
pub mod Runs
pub mod Held
pub mod Told
