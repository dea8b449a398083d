pub mod Promises
pub mod Sheets
pub mod Listing
pub mod Laws
pub mod Examples
