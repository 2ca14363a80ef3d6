pub mod Members
pub mod Queue
pub mod PeerSets
