pub mod Saying
pub mod Lifting
pub mod Lines
