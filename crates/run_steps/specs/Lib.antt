pub mod Inside
pub mod Going
