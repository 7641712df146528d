pub mod Writing
pub mod Form
pub mod Text
pub mod CertReading
pub mod Fields
pub mod SecondLine
pub mod Runs
