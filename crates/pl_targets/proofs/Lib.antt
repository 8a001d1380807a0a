pub mod InTurn
pub mod Lifted
pub mod Places
