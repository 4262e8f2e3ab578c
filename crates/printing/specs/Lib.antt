-- The definitions that the contracts cite.
pub mod Printed
pub mod Answers
