-- The laws of the calculus, for any grammar. Promises.antt states the theorems; the proofs stand here.
pub mod Exact
pub mod Grows
pub mod Crosses
pub mod Counts
pub mod Suits
pub mod Rules
pub mod Unlimited
pub mod Entry
pub mod Says
pub mod Does
pub mod Apart
