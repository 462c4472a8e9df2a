pub mod Given
pub mod Judgement
pub mod IndexLists
