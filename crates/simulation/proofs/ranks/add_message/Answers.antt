-- The last one is there already.
use Rattle.std.proofs.Common.{◌≡◌, ◌∙◌, ℕ, zero, suc, Bool, true, false, ◌||◌, List, [], ◌∷◌, ◌++◌, Bor, None, Option, Some, ap, sym, refl, if◌then◌else◌}
use Rattle.std.specs.List.{list_any, slice_get}
use Rattle.std.specs.Option.{option_copied, option_eq}
use Rattle.indexmap.specs.IndexSet.{insert_key}
use Rattle.node_names.specs.Same.{same_id, same_id-Decides, same_id-laws}
use Rattle.node_names.specs.declared.ids.MsgId.{MsgId}
use Rattle.simulation.proofs.ranks.add_message.Goals as goal

there : (ids : List MsgId) (i : ℕ) (id : MsgId) → slice_get ids i ≡ Some id → list_any (same_id id) ids ≡ true
there [] i id e = absurd (cc e)
there (first ∷ ids) zero id e =
    let is : first ≡ id = cc e in
    ap (λ (b : Bool). b || list_any (same_id id) ids) (ap (same_id id) is ∙ same_id-laws.refl id)
there (first ∷ ids) (suc i) id e = either (same_id id first) _ (there ids i id e)
  where
    either : (a b : Bool) → b ≡ true → a || b ≡ true
    either true b e = refl
    either false b e = e

unchanged : (ids : List MsgId) (i : ℕ) (id : MsgId) → slice_get ids i ≡ Some id → ids ≡ insert_key same_id ids id
unchanged ids i id e = sym (ap (λ (b : Bool). if b then ids else ids ++ id ∷ []) (there ids i id e))

equal_last : (last : Option (Bor MsgId)) (id : Bor MsgId) →
    true ≡ option_eq (λ (x y : Bor MsgId). same_id x.now y.now) last (Some id) →
    option_copied last ≡ Some id.now
equal_last None id e = absurd (cc e)
equal_last (Some last) id e = ap Some ((same_id-Decides last.now id.now).0 (sym e))

pub returns-then-eq : goal.returns-then-eq
returns-then-eq g c = unchanged c.args.ids.now.keys _ c.args.id.now (sym c.last.ensures.key ∙ equal_last c.last.result c.args.id c.if-eq.ensures)
