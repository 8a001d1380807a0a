pub mod Bodies
pub mod Texts
pub mod Done
pub use Rattle.pl_reading.proofs as of_pl_reading
