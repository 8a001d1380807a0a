mod Computed
mod Opened
mod Overs
mod Repeats
mod Counted
