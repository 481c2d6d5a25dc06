pub mod Gaps
pub mod Laws
