-- The laws of sheets, of decimals, of what parts of the text print as, and of lists of words.
pub mod Sheets
pub mod Numbers
pub mod Texts
pub mod Words
pub mod Fields
pub mod Kinds
pub mod Lines
pub mod Lengths
