mod Ends
mod Equations
mod Pairs
mod Plain
mod Quiet
mod Refused
mod Saves
