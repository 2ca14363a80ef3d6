-- The order of ids, as those who take it from here call it.
pub use Rattle.known_messages.proofs.IdOrder.{id_total, id_ties, id_antisymmetric}
