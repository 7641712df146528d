pub mod Objects
pub mod Answers
pub mod PackedSales
