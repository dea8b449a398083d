pub mod Cases
pub mod CaseLaws
pub mod WalkLaws
pub mod Walks
