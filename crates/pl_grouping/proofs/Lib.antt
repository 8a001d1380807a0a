mod Equations
mod ReadsEquations
mod SourceEquations
