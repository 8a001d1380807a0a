mod Total
mod Stable
mod Numbered
mod Kept
