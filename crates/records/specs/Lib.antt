pub mod Kinds
pub mod Words
pub mod Rows
pub mod Nodes
pub mod Meanings
