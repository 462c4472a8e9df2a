pub mod Meanings
pub mod Answers
