mod Places
mod Rows
mod Plain
mod Marked
