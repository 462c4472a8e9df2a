pub mod OpeningsGiven
pub mod Parted
pub mod LineGiven
pub mod MatrixValues
