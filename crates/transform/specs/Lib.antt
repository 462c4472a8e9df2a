pub mod Reading
pub mod Product
