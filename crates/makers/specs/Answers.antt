-- What the readers answer, where it is not the last record made.
pub mod Items
pub mod Part
pub mod Reduced
