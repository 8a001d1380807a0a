pub mod Equations
pub mod Named
pub mod Entered
pub mod Options
