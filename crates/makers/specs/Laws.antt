-- The laws of the makers' contracts, and what the cycle's readers come to by them.
pub mod Apart
pub mod Acts
pub mod Turns
pub mod Chains
pub mod Chaining
pub mod PlainEnds
pub mod PlainMade
pub mod PlainGrouped
pub mod Plain
pub mod Names
pub mod NamesWalk
pub mod NamesRead
pub mod NamesLast
pub mod NamesUnit
