pub mod Frames
pub mod Heading
pub mod Returning
pub mod Conditions
pub mod Raising
pub mod Declaring
pub mod Simple
pub mod Rules
