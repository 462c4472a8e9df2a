pub mod Stores
pub mod Coefficients
pub mod WordLists
pub mod LentParts
