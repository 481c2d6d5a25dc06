pub mod Witness
pub mod Follow
pub mod Handed
pub mod Theorem
pub mod Balance
pub mod Link
pub mod Resumed
