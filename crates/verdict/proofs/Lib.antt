pub mod SharedInverse
