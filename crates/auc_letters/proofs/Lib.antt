pub mod Award
mod WorkedAwards
