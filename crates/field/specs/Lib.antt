pub mod Prime
pub mod Element
pub mod Power
pub mod Meanings
