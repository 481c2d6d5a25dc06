-- how rounds on arrays end
pub mod Ends
