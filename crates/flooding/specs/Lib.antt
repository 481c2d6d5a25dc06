pub mod LawsFlood
-- the turns of the loop over directions
pub mod LawsScan
