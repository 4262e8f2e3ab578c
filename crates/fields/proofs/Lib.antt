pub mod Words
pub mod Ops
pub mod Numbers
pub mod Pushing
pub mod Spelling
pub mod Runs
