pub mod Order
pub mod Same
pub mod Marks
pub mod Lent
