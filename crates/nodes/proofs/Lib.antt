pub mod Terms
pub mod Lines
pub mod Quantifiers
