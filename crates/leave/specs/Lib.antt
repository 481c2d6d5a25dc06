-- what leaves with a round, by entries
pub mod Leaving
-- how its loops prove it
pub mod LawsLeaving
