pub mod Packed
pub mod Stages
pub mod Begun
