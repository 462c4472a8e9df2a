pub mod OpeningLaws
pub mod OutsideLaws
pub mod ValueLaws
pub mod WordValues
