pub mod Promises
pub mod Laws
pub mod TrialSuits
pub mod TrialExamples
