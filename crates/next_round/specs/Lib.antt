-- the round to receive next, and one record by it
pub mod Next
pub mod Laws
