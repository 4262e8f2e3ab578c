pub mod Naming
pub mod Saying
pub mod Recording
pub mod Retaining
