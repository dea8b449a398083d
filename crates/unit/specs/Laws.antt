-- The laws of the readers of classes, of the unit's items and of the entries.
pub mod Exits
pub mod Classes
pub mod Items
pub mod Entering
