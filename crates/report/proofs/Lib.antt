pub mod PrintedLaws
pub mod RoundLaws
pub mod RoundResults
pub mod Bounds
