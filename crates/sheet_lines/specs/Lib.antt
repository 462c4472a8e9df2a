pub mod Numbers
pub mod Lines
pub mod Scanning
pub mod Meanings
