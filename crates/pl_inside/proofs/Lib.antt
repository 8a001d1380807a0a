mod Lists
mod Parts
mod Alike
mod Names
mod Queries
