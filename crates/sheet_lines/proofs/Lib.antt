pub mod ScanLaws
pub mod LineLaws
pub mod CircuitLaws
