pub mod Answers
pub mod Duties
pub mod Chains
pub mod Plain
pub mod Names
pub mod Laws
