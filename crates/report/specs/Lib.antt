pub mod ProofText
pub mod Printed
pub mod Stages
