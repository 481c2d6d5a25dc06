-- what is to be shown of each rule
pub mod Rules
pub mod Play
-- sums and nodes
pub mod Sums
pub mod Nodes
-- the clusters: what holds of them in each stage
pub mod Graph
pub mod GraphLaws
pub mod Fallen
pub mod ClustersFresh
pub mod ClustersRound
pub mod ClustersGrow
pub mod Turn
pub mod Flood
pub mod ClustersMerging
pub mod Quiet
pub mod Syncing
pub mod ClustersRest
pub mod Rested
pub mod Clusters
-- conservation: no defect is lost
pub mod Receipts
pub mod Conserved
pub mod ConservedFresh
pub mod ConservedGrow
pub mod Layered
pub mod LayerEdges
pub mod LayerEnds
pub mod Absent
pub mod RoundEdges
pub mod RoundDefects
pub mod ConservedRound
pub mod Around
pub mod Pushed
pub mod ConservedMerging
pub mod Conservation
-- the proof; a session of model 1 by value, and why both ends of an edge count
pub mod Theorem
pub mod CircuitWitness
pub mod OneEnd
