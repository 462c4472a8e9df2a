pub mod Answers
pub mod Layout
