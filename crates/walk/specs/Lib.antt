pub mod Walk
pub mod LawsWalk
