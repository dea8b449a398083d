-- The laws of kinds, packed fields, rows, pools and nodes. Promises.antt states the theorems; the proofs stand here.
pub mod Kinds
pub mod Words
pub mod Rows
pub mod Nodes
pub mod Meanings
pub mod Pools
