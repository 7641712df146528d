pub mod Price
pub mod Routing
pub mod Award
pub mod Persons
