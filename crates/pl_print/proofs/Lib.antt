pub mod Joins
pub mod Names
pub mod RowText
