mod Front
mod Drawn
mod Zipped
mod Behind
mod Loops
mod Before
pub mod SourceEquations
mod Shortened
mod Chosen
mod Kept
mod KeptTables
mod Whole
mod Few
mod Standing
mod Passing
mod Turns
mod Single
