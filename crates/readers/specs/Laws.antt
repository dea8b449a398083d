-- The laws of the readers' contracts, by which each of their returns is proved.
pub mod Answers
pub mod Exits
pub mod Operands
pub mod Lists
pub mod Functions
pub mod Statements
pub mod Loops
pub mod Assignments
