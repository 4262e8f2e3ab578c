pub mod Wording
pub mod Pushing
pub mod Spelling
