pub mod GossipLemmas
pub mod IdOrder
pub mod PacketLemmas
pub mod EffectLemmas
pub mod KnownLemmas
