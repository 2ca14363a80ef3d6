pub mod FloodCore
pub mod impl_proofs
