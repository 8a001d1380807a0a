pub mod Cause
pub mod Format
pub mod Frame
pub mod Header
pub mod Lent
