pub mod Sorting
pub mod Token
pub mod Choosing
pub mod Answering
pub mod Finishing
pub mod Writing
