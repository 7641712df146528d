-- The definitions that contracts of the command line cite.
pub mod Grammar
pub mod Arguments
pub mod CommandLine
pub mod Options
