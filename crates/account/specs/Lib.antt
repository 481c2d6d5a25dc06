-- the law reaches the code
pub mod Link
-- the statement
pub mod Account
-- one record, round after round, piece after piece; what was read
pub mod ByCalls
pub mod Ends
pub mod Follow
pub mod Front
-- the law's numbers in the streams
pub mod Sums
-- the proof
-- status 0 of a decoding
pub mod Codes
-- what a caller is left with; document 01's first session, and one of model 1
pub mod Handed
pub mod Witness
