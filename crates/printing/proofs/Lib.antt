pub mod Texts
pub mod Parts
pub mod Sums
pub mod Lists
pub mod Answers
pub mod Written
pub mod Passes
