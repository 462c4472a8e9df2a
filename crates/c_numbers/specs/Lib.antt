pub mod Answers
pub mod Inputs
