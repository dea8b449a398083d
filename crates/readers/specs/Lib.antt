pub mod Rules
pub mod Reading
pub mod Laws
