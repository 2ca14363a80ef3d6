-- The last of a list.
use Rattle.std.proofs.Common.{◌≡◌, ◌+◌, ◌-◌, List, [], ◌∷◌, ◌++◌, length, refl, sym, ap, ◌∙◌, arith, Option, None, Some, subst, take}
use Rattle.std.specs.Prelude.{slice_get, get_or}
use Rattle.std.proofs.lemmas.List.{take_at}
use Rattle.std.proofs.lemmas.Option.{slice_get_read}
use Rattle.std.proofs.Math.Seq.{get_or-append_seam}
use Rattle.std.proofs.Math.ListN.{length-append}
use Rattle.node_names.specs.declared.ids.MsgId.{MsgId}
use Rattle.protocol.specs.Delivery.{Delivery}
use Rattle.protocol.specs.DeliveryLaw.{ids}
use Rattle.protocol.specs.Trace.{Step}
use Rattle.frames.specs.Frame.{Frame}
use Rattle.wire_node.specs.Recording.{Noted, with_step}

-- The last of a list that ends with d is d.
pub last_of : {A : Type 0} (before : List A) (d : A) → slice_get (before ++ d ∷ []) (length (before ++ d ∷ []) - 1) ≡ Some d
last_of before d =
    let long : length (before ++ d ∷ []) ≡ length before + 1 = length-append before (d ∷ []) in
    slice_get_read (before ++ d ∷ []) (length (before ++ d ∷ [])) (length (before ++ d ∷ []) - 1) d refl (omega (arith, long))
    (subst (λ n. d ≡ get_or (before ++ d ∷ []) n d) (sym (ap (λ n. n - 1) long ∙ (omega arith))) (sym (get_or-append_seam before d [] d)))

abbrev kept : Noted → Option Noted → Noted
kept d None = d
kept d (Some n) = n

abbrev with_last_gone : Noted → Noted
with_last_gone n = record { opening = n.opening; first = n.first; steps = take (length n.steps - 1) n.steps }

rest_of : (n : Noted) (step : Step Frame) → take (length (n.steps ++ step ∷ []) - 1) (n.steps ++ step ∷ []) ≡ n.steps
rest_of n step =
    let long : length (n.steps ++ step ∷ []) ≡ length n.steps + 1 = length-append n.steps (step ∷ []) in
    take_at n.steps (step ∷ []) (length (n.steps ++ step ∷ []) - 1) (omega (arith, long))

-- Without the step that was noted last, it is what was noted before.
pub without_last : (n : Noted) (before : Option Noted) (step : Step Frame) → Some n ≡ with_step before step → Some (with_last_gone n) ≡ before
without_last n None step e = absurd cc
without_last n (Some b) step e =
    ap (λ (m : Noted). Some (with_last_gone m)) (ap (kept n) e)
    ∙ ap (λ (steps : List (Step Frame)). Some (record { opening = b.opening; first = b.first; steps = steps })) (rest_of b step)

ids_one : (given : List Delivery) (i : MsgId) → ids given ≡ i ∷ [] → (d : Delivery) × (given ≡ d ∷ []) × (d.id ≡ i)
ids_one [] i e = absurd cc
ids_one (d ∷ []) i e = (d, refl, ap (λ (l : List MsgId). get_or l 0 i) e)
ids_one (d ∷ other ∷ rest) i e = let long : length (ids (d ∷ other ∷ rest)) ≡ 1 = ap length e in absurd (omega (arith, long))

abbrev id_or : MsgId → Option MsgId → MsgId
id_or i None = i
id_or i (Some id) = id

-- What delivers one message more has its id last.
pub last_id_is : (pending given pending' : List Delivery) (i id : MsgId) (r : Option MsgId) → ids given ≡ i ∷ [] → pending' ≡ pending ++ given
    → ((before : List Delivery) (last : Delivery) → pending' ≡ before ++ last ∷ [] → r ≡ Some last.id) → r ≡ Some id → id ≡ i
last_id_is pending given pending' i id r one more last is =
    let d = ids_one given i one in
    let its : r ≡ Some d.0.id = last pending d.0 (more ∙ ap (λ (g : List Delivery). pending ++ g) d.1) in
    ap (id_or i) (sym is ∙ its) ∙ d.2
