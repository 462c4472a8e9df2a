pub mod Reserved
pub mod Filling
pub mod Parts
