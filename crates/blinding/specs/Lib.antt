pub mod Given
pub mod Judgement
