-- for use above
pub mod PackedSales
pub mod Sales
pub mod Letters
