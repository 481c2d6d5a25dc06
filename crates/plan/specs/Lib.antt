-- loops that call loops: passes over an array, and blocks of entries
pub mod Passes
-- what the table holds, and that it is what the machine needs
pub mod Table
pub mod Heads
pub mod Limits
pub mod Loops
pub mod Filled
-- the layout of a shape
pub mod Laid
