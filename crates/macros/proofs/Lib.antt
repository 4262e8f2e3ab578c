pub mod Opening
pub mod Filling
