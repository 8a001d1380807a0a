pub mod Lists
pub mod Only
