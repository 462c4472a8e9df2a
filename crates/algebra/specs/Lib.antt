pub mod Ring
pub mod Lists
pub mod Counting
pub mod Sum
pub mod Polynomial
pub mod Halving
