pub mod Line
pub mod Command
pub mod Lines
pub mod Script
pub mod Printed
pub mod Endings
pub mod Covers
pub mod Runs
pub mod Parts
pub use Rattle.pl_session.specs as pl_session
