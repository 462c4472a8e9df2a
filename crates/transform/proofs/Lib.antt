pub mod FilledHalves
pub mod Halves
pub mod Parts
pub mod Directions
pub mod CosetLaws
pub mod CosetWords
pub mod TableLaws
