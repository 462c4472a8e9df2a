pub mod Lists
pub mod Writing
pub mod Lengths
