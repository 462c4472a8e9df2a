pub mod Allowed
pub mod Bounds
pub mod WordList
pub mod Starts
pub mod Rows
pub mod Places
