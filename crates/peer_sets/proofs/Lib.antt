pub mod MemberLemmas
pub mod QueueLemmas
pub mod SoundLemmas
pub mod TakenLemmas
pub mod BatchLemmas
