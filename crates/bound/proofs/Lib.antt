pub mod Witness
pub mod Circling
pub mod Theorem
pub mod Stages
pub mod ToRoot
