pub mod Found
pub mod Standing
pub mod Rows
pub mod LinesAhead
pub mod Tables
pub mod Turns
pub mod Places
