pub mod Ascii
pub mod Decimal
pub mod Buffer
pub mod Written
