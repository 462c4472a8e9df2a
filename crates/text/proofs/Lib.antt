pub mod WrittenLaws
pub mod DecimalLaws
