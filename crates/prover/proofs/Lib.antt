pub mod WitnessLaws
pub mod ProductLaws
pub mod RowLaws
pub mod LineLaws
pub mod LineParts
pub mod CallLaws
