mod Goes
pub mod Parts
mod Rolled
pub mod Values
mod Products
mod Items
mod Draws
mod Selected
pub mod Rows
pub mod Told
