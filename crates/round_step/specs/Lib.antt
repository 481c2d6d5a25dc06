-- what a round leaves of nodes, marks and edges
pub mod Falls
pub mod LawsFalls
