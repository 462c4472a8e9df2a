pub mod Count
pub mod Figures
pub mod Tuples
pub mod Sheet
pub mod Placed
