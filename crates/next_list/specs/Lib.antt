pub mod Next
pub mod LawsNext
