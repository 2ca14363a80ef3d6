-- The turns in which a node asks for what did not come.
use Rattle.std.proofs.Common.{◌≡◌, ◌∙◌, ◌&&◌, ◌⊎◌, ◌++◌, ℕ, Bool, true, false, List, [], ap, drop, inl, inr, length, map, nat_eq, refl, subst, sym, take}
use Rattle.std.specs.Prelude.{if◌then◌else◌, min}
use Rattle.std.proofs.Math.Nat.{min-le_right}
use Rattle.std.proofs.lemmas.List.{take-append-drop, take-append-le, take_min}
use Rattle.std.proofs.lemmas.List.Elements.{filter-append}
use Rattle.node_names.specs.Same.{has_id}
use Rattle.node_names.specs.declared.dice.Dice.{Dice}
use Rattle.node_names.specs.declared.ids.MsgId.{MsgId}
use Rattle.wire_node.specs.Moving.{Engine, MovesAll, firing}
use Rattle.wire_node.specs.Ticking.{Asking, Asks, AsksAt, IsAskedFor, IsDueStill, armed_of, awaited_at, is_turn}

-- what waited is due
abbrev begun : Asking → Asking
begun a = record { waited = []; due = a.waited; asked = a.asked }

due_is : (b turn : Bool) (a mid : Asking) → b ≡ turn → mid ≡ (if b then begun a else a) → mid.due ≡ (if turn then a.waited else a.due)
due_is true turn a mid e h = ap (λ (x : Asking). x.due) h ∙ ap (λ (t : Bool). if t then a.waited else a.due) e
due_is false turn a mid e h = ap (λ (x : Asking). x.due) h ∙ ap (λ (t : Bool). if t then a.waited else a.due) e

asked_is : (b : Bool) (a mid : Asking) → mid ≡ (if b then begun a else a) → mid.asked ≡ a.asked
asked_is true a mid h = ap (λ (x : Asking). x.asked) h
asked_is false a mid h = ap (λ (x : Asking). x.asked) h

waits_is : (b turn is_over : Bool) (a mid : Asking) (timers waited : List MsgId) →
    b ≡ turn →
    mid ≡ (if b then begun a else a) →
    waited ≡ (if b && is_over then timers else mid.waited)
    → waited ≡ (if turn then (if is_over then timers else []) else a.waited)
waits_is true turn is_over a mid timers waited e h w =
    w
    ∙ ap (λ (l : List MsgId). if is_over then timers else l) (ap (λ (x : Asking). x.waited) h)
    ∙ ap (λ (t : Bool). if t then (if is_over then timers else []) else a.waited) e
waits_is false turn is_over a mid timers waited e h w =
    w ∙ ap (λ (x : Asking). x.waited) h ∙ ap (λ (t : Bool). if t then (if is_over then timers else []) else a.waited) e

waited_is : (b turn : Bool) (a mid : Asking) → b ≡ turn → mid ≡ (if b then begun a else a) → mid.waited ≡ (if turn then [] else a.waited)
waited_is true turn a mid e h = ap (λ (x : Asking). x.waited) h ∙ ap (λ (t : Bool). if t then [] else a.waited) e
waited_is false turn a mid e h = ap (λ (x : Asking). x.waited) h ∙ ap (λ (t : Bool). if t then [] else a.waited) e

-- A turn begins or not, the node asks, and the turn ends or not.
pub asks_at : (old new : Engine) (a mid asked last : Asking) (ticks : ℕ) (dice : Dice) (b : Bool) → b ≡ is_turn a ticks → mid ≡ (if b then begun a else a)
    → Asks old mid.due (awaited_at old mid.asked ticks) dice new asked.due asked.asked → asked.waited ≡ mid.waited
    → last ≡ record asked { waited = (if b && nat_eq (length asked.due) 0 then new.machine.core.gossip.missing.timers else asked.waited) }
    → AsksAt old a ticks dice new last
asks_at old new a mid asked last ticks dice b e h asks same l =
    subst (λ (x : Asking). AsksAt old a ticks dice new x) (sym l)
    (record {
      asks =
          subst (λ (due : List MsgId). Asks old due (awaited_at old a.asked ticks) dice new asked.due asked.asked) (due_is b (is_turn a ticks) a mid e h)
          (subst (λ (x : List MsgId). Asks old mid.due (awaited_at old x ticks) dice new asked.due asked.asked) (asked_is b a mid h) asks);
      waits = waits_is b (is_turn a ticks) (nat_eq (length asked.due) 0) a mid new.machine.core.gossip.missing.timers _ e h
          (ap (λ (w : List MsgId). if b && nat_eq (length asked.due) 0 then new.machine.core.gossip.missing.timers else w) same);
    })

-- ---- asking that is refused

-- the first timers of a part are the first of all
first_armed : (old : Engine) (ids : List MsgId) (count most : ℕ)
    → take most (armed_of old (take count ids)) ≡ take (min most (length (armed_of old (take count ids)))) (armed_of old ids)
first_armed old ids count most =
    let part = armed_of old (take count ids) in
    let all : armed_of old ids ≡ part ++ armed_of old (drop count ids) =
    ap (armed_of old) (sym (take-append-drop count ids)) ∙ filter-append (has_id old.machine.core.gossip.missing.timers) (take count ids) (drop count ids) in
    sym (take_min most part)
    ∙ sym (take-append-le (min most (length part)) part (armed_of old (drop count ids)) (min-le_right most (length part)))
    ∙ ap (take (min most (length part))) (sym all)

-- the first of those that are due fired
pub fired_first : (old new : Engine) (dice : Dice) (ids armed : List MsgId) (count most : ℕ) →
    armed ≡ armed_of old (take count ids) →
    MovesAll old (map (firing dice) (take most armed)) new →
    (n : ℕ) × MovesAll old (map (firing dice) (take n (armed_of old ids))) new
fired_first old new dice ids armed count most is fires = (
  min most (length (armed_of old (take count ids))),
  subst (λ (some : List MsgId). MovesAll old (map (firing dice) some) new) (ap (take most) is ∙ first_armed old ids count most) fires,
)

-- none fired
pub fired_none : (old : Engine) (dice : Dice) (ids : List MsgId) → (n : ℕ) × MovesAll old (map (firing dice) (take n (armed_of old ids))) old
fired_none old dice ids = (0, refl)

-- The node was refused while it asked, and what is due stays so.
pub still_due : (old new : Engine) (a mid left : Asking) (ticks : ℕ) (dice : Dice) (b : Bool) → b ≡ is_turn a ticks → mid ≡ (if b then begun a else a)
    → (n : ℕ) × MovesAll old (map (firing dice) (take n (armed_of old mid.due))) new
    → left.due ≡ mid.due → left.waited ≡ mid.waited → (left.asked ≡ mid.asked) ⊎ (left.asked ≡ awaited_at old mid.asked ticks)
    → IsDueStill old a ticks dice new left
still_due old new a mid left ticks dice b e h fires due waited asked = record {
  count = fires.0;
  fires =
      subst (λ (ids : List MsgId). MovesAll old (map (firing dice) (take fires.0 (armed_of old ids))) new) (due_is b (is_turn a ticks) a mid e h) fires.1;
  due = due ∙ due_is b (is_turn a ticks) a mid e h;
  waits = waited ∙ waited_is b (is_turn a ticks) a mid e h;
  asked = elim asked [
    | inl same ↦ inl (same ∙ asked_is b a mid h)
    | inr some ↦ inr (some ∙ ap (λ (ids : List MsgId). awaited_at old ids ticks) (asked_is b a mid h))
  ];
}

-- The node asked, and what waits for the next turn was not noted.
pub asked_for : (old new : Engine) (a mid left : Asking) (ticks : ℕ) (dice : Dice) (b : Bool) → b ≡ is_turn a ticks → mid ≡ (if b then begun a else a)
    → Asks old mid.due (awaited_at old mid.asked ticks) dice new left.due left.asked → left.waited ≡ mid.waited
    → IsAskedFor old a ticks dice new left
asked_for old new a mid left ticks dice b e h asks waited = record {
  asks =
      subst (λ (due : List MsgId). Asks old due (awaited_at old a.asked ticks) dice new left.due left.asked) (due_is b (is_turn a ticks) a mid e h)
      (subst (λ (x : List MsgId). Asks old mid.due (awaited_at old x ticks) dice new left.due left.asked) (asked_is b a mid h) asks);
  waits = inr (waited ∙ waited_is b (is_turn a ticks) a mid e h);
}
