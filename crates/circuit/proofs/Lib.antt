pub mod Entries
pub mod Sums
pub mod Mask
pub mod Parts
pub mod Fitting
