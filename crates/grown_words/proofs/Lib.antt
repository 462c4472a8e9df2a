pub mod MoveLaws
pub mod PlaceLaws
