pub mod Noting
pub mod Passing
