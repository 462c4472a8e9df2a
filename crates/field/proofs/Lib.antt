pub mod Primality
pub mod Remainders
pub mod ElementLaws
pub mod Fermat
pub mod Field
pub mod Words
pub mod Prepared
