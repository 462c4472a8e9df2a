pub mod JobText
pub mod Parts
