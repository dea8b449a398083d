pub mod Sizing
pub mod Within
