pub mod Formats
pub mod Found
pub mod Newest
pub mod Told
