-- THE GRAMMAR SUITS the calculus of reading: its recursion ends, its loops have turns enough, its refusals are a rule's to give, and each
-- record's fields are what the table says of them. Rule by rule, in the order of the rules' own files.
pub mod Falling
pub mod Expressions
pub mod Functions
pub mod Statements
pub mod Classes
pub mod Units
