pub mod Least
pub mod Judged
pub mod Holding
