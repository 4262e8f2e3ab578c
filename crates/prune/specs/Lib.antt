pub mod Listing
pub mod Follow
pub mod Loops
pub mod Rows
pub mod Kept
