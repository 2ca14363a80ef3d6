-- Lemmas on the count of a core's own messages, where one more is held: proofs, with nothing to take on trust.
use Rattle.std.specs.Prelude.{◌≡◌, ◌+◌, ◌<◌, ◌≤◌, ℕ, List, [], ◌∷◌, ◌++◌}
use Rattle.std.proofs.Common.{inl, inr, sym, ◌∙◌, ap, subst}
use Rattle.std.proofs.Math.Nat.{le-add_left, le_of_lt, le_refl, le_trans}
use Rattle.std.proofs.Math.Numerals.{lt-add-one}
use Rattle.node_names.specs.declared.ids.MsgId.{MsgId}
use Rattle.node_names.specs.declared.ids.Origin.{Origin}
use Rattle.protocol.specs.impl_proofs.Held.{held_after_push}
use Rattle.flood.specs.FloodCore.{HoldsCounted}

-- a pushed message of another origin is not counted, and one of this origin with the next number is
pub counts_others : (me : Origin) (held : List (MsgId × List ℕ)) (count : ℕ) (id : MsgId) (p : List ℕ) →
    HoldsCounted me held count →
    (id.origin ≡ me → ⊥) →
    HoldsCounted me (held ++ (id, p) ∷ []) count
counts_others me held count id p counted other j is mine =
    elim (held_after_push held id p j is) [ inl was ↦ counted j was mine | inr same ↦ absurd (other (sym (ap (λ (i : MsgId). i.origin) same) ∙ mine)) ]

pub counts_next : (me : Origin) (held : List (MsgId × List ℕ)) (count : ℕ) (id : MsgId) (p : List ℕ) →
    HoldsCounted me held count →
    id.seq ≡ count + 1 →
    HoldsCounted me (held ++ (id, p) ∷ []) (count + 1)
counts_next me held count id p counted next j is mine =
    elim (held_after_push held id p j is) [
      | inl was ↦ let bounds : (0 < j.seq) × (j.seq ≤ count) = counted j was mine in (bounds.0, le_trans bounds.1 (le_of_lt (lt-add-one count)))
      | inr same ↦
          let seq : j.seq ≡ count + 1 = ap (λ (i : MsgId). i.seq) same ∙ next in
          (subst (λ n. 0 < n) (sym seq) (le-add_left 1 count), subst (λ n. n ≤ count + 1) (sym seq) (le_refl (count + 1)))
    ]
