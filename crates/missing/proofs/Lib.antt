pub mod SlotLemmas
pub mod TimerLemmas
pub mod SlotWants
pub mod WantLemmas
pub mod PlaceLemmas
pub mod SoundLemmas
