-- A message is said once: its name never runs twice under one incarnation, and broadcasts are counted.
use Rattle.std.proofs.Common.{◌≡◌, ◌∙◌, ◌<◌, ◌≤◌, ℕ, suc, List, [], ◌∷◌, true, false, sym, ap, refl, subst, inl, inr, arith}
use Rattle.std.specs.Prelude.{◌⊎◌, Bool, Option, Some, cond}
use Rattle.node_names.specs.Same.{same_name, same_name-Decides}
use Rattle.node_names.specs.declared.ids.Incarnation.{Incarnation}
use Rattle.node_names.specs.declared.ids.MsgId.{MsgId}
use Rattle.world.specs.Entry.{Entry}
use Rattle.world.specs.Event.{Event}
use Rattle.world.specs.History.{Said, Says, broadcasts_of, counted_by, incarnation_of, started_by}
use Rattle.world.specs.Honest.{HasOnePayload}
use Rattle.world.specs.declared.event.EventOf.TheVariants.{Start, Broadcast, Arrive, Lose, Again, Fire, Flush, Down, Shuffle, Join, Stop}

-- A start is under a greater incarnation than the name's last one.
abbrev pub IsFreshAfter : List Entry → Event → Type 0
IsFreshAfter past (Start name incarnation peers contact) = (last : Incarnation) → incarnation_of name past ≡ Some last → last.0 < incarnation.0
IsFreshAfter past (Broadcast name payload) = Unit {0}
IsFreshAfter past (Arrive place dice) = Unit {0}
IsFreshAfter past (Lose place) = Unit {0}
IsFreshAfter past (Again number) = Unit {0}
IsFreshAfter past (Fire name id) = Unit {0}
IsFreshAfter past (Flush name) = Unit {0}
IsFreshAfter past (Down name peer dice) = Unit {0}
IsFreshAfter past (Shuffle name dice) = Unit {0}
IsFreshAfter past (Join name contact) = Unit {0}
IsFreshAfter past (Stop name) = Unit {0}

-- Every start of the history is.
abbrev pub AreFresh : List Entry → Type 0
AreFresh [] = Unit {0}
AreFresh (entry ∷ past) = IsFreshAfter past entry.event × AreFresh past

-- The id is of an earlier incarnation of its name than the last one, or of the last one and among its broadcasts.
pub record IsCounted (id : MsgId) (last : Option Incarnation) (broadcasts : ℕ) : Type 0 where
  pub incarnation : Incarnation
  pub started : last ≡ Some incarnation
  pub counted : (id.origin.incarnation.0 < incarnation.0) ⊎ ((id.origin.incarnation.0 ≡ incarnation.0) × (id.seq ≤ broadcasts))

-- whose incarnation is therefore not later than the last one
not_later : (id : MsgId) (last : Option Incarnation) (broadcasts : ℕ) (is : IsCounted id last broadcasts) → id.origin.incarnation.0 ≤ is.incarnation.0
not_later id last broadcasts is =
    elim is.counted [
      | inl less ↦ omega arith
      | inr same ↦ omega arith
    ]

-- what is counted stays so where more is
more : (id : MsgId) (last : Option Incarnation) (few many : ℕ) → few ≤ many → IsCounted id last few → IsCounted id last many
more id last few many less is =
    record {
      incarnation = is.incarnation;
      started = is.started;
      counted = elim is.counted [
        | inl earlier ↦ inl earlier
        | inr same ↦ inr (same.0, omega arith)
      ];
    }

-- what was counted before an event is counted after it
still : (id : MsgId) (past : List Entry) (event : Event) →
    IsFreshAfter past event →
    IsCounted id (incarnation_of id.origin.name past) (broadcasts_of id.origin.name past) →
    IsCounted id (started_by id.origin.name event (incarnation_of id.origin.name past)) (counted_by id.origin.name event (broadcasts_of id.origin.name past))
still id past (Start name incarnation peers contact) fresh is = go (same_name id.origin.name name) refl
  where
    go : (b : Bool) →
        same_name id.origin.name name ≡ b →
        IsCounted id (cond b (Some incarnation) (incarnation_of id.origin.name past)) (cond b 0 (broadcasts_of id.origin.name past))
    go false apart = is
    go true same =
        let here : id.origin.name ≡ name = (same_name-Decides id.origin.name name).0 same in
        let greater : is.incarnation.0 < incarnation.0 = fresh is.incarnation (subst (λ n. incarnation_of n past ≡ Some is.incarnation) here is.started) in
        let before : id.origin.incarnation.0 ≤ is.incarnation.0 = not_later id _ _ is in
        record { incarnation = incarnation; started = refl; counted = inl (omega arith) }
still id past (Broadcast name payload) fresh is = go (same_name id.origin.name name)
  where
    go : (b : Bool) → IsCounted id (incarnation_of id.origin.name past) (cond b (suc (broadcasts_of id.origin.name past)) (broadcasts_of id.origin.name past))
    go false = is
    go true = more id _ (broadcasts_of id.origin.name past) (suc (broadcasts_of id.origin.name past)) (omega arith) is
still id past (Arrive place dice) fresh is = is
still id past (Lose place) fresh is = is
still id past (Again number) fresh is = is
still id past (Fire name fired) fresh is = is
still id past (Flush name) fresh is = is
still id past (Down name peer dice) fresh is = is
still id past (Shuffle name dice) fresh is = is
still id past (Join name contact) fresh is = is
still id past (Stop name) fresh is = is

-- what an event says is counted after it
now : (id : MsgId) (p : List ℕ) (past : List Entry) (event : Event) →
    Says event past id p →
    IsCounted id (started_by id.origin.name event (incarnation_of id.origin.name past)) (counted_by id.origin.name event (broadcasts_of id.origin.name past))
now id p past (Broadcast name payload) says =
    let here : same_name id.origin.name name ≡ true = (same_name-Decides id.origin.name name).1 says.0 in
    let seq : id.seq ≡ suc (broadcasts_of id.origin.name past) = says.2 ∙ ap (λ n. suc (broadcasts_of n past)) (sym says.0) in
    let count : cond (same_name id.origin.name name) (suc (broadcasts_of id.origin.name past)) (broadcasts_of id.origin.name past)
    ≡ suc (broadcasts_of id.origin.name past) =
    ap (λ b. cond b (suc (broadcasts_of id.origin.name past)) (broadcasts_of id.origin.name past)) here in
    record {
      incarnation = id.origin.incarnation;
      started = subst (λ n. incarnation_of n past ≡ Some id.origin.incarnation) (sym says.0) says.1;
      counted = inr (refl, omega arith);
    }
now id p past (Start name incarnation peers contact) says = absurd says
now id p past (Arrive place dice) says = absurd says
now id p past (Lose place) says = absurd says
now id p past (Again number) says = absurd says
now id p past (Fire name fired) says = absurd says
now id p past (Flush name) says = absurd says
now id p past (Down name peer dice) says = absurd says
now id p past (Shuffle name dice) says = absurd says
now id p past (Join name contact) says = absurd says
now id p past (Stop name) says = absurd says

-- so whatever was said is counted
pub said_counted : (id : MsgId) (p : List ℕ) (history : List Entry) →
    AreFresh history →
    Said history id p →
    IsCounted id (incarnation_of id.origin.name history) (broadcasts_of id.origin.name history)
said_counted id p [] fresh said = absurd said
said_counted id p (entry ∷ past) fresh said =
    elim said [
      | inl says ↦ now id p past entry.event says
      | inr before ↦ still id past entry.event fresh.0 (said_counted id p past fresh.1 before)
    ]

-- and not said again
pub not_again : (id : MsgId) (p : List ℕ) (past : List Entry) (event : Event) →
    Says event past id p →
    IsCounted id (incarnation_of id.origin.name past) (broadcasts_of id.origin.name past) →
    ⊥
not_again id p past (Broadcast name payload) says is =
    let started : incarnation_of id.origin.name past ≡ Some id.origin.incarnation =
    subst (λ n. incarnation_of n past ≡ Some id.origin.incarnation) (sym says.0) says.1 in
    let same : Some id.origin.incarnation ≡ Some is.incarnation = sym started ∙ is.started in
    let this : id.origin.incarnation ≡ is.incarnation = cc in
    let equal : id.origin.incarnation.0 ≡ is.incarnation.0 = ap (λ (i : Incarnation). i.0) this in
    let seq : id.seq ≡ suc (broadcasts_of id.origin.name past) = says.2 ∙ ap (λ n. suc (broadcasts_of n past)) (sym says.0) in
    elim is.counted [
      | inl less ↦ absurd (omega arith)
      | inr counted ↦ absurd (omega arith)
    ]
not_again id p past (Start name incarnation peers contact) says is = absurd says
not_again id p past (Arrive place dice) says is = absurd says
not_again id p past (Lose place) says is = absurd says
not_again id p past (Again number) says is = absurd says
not_again id p past (Fire name fired) says is = absurd says
not_again id p past (Flush name) says is = absurd says
not_again id p past (Down name peer dice) says is = absurd says
not_again id p past (Shuffle name dice) says is = absurd says
not_again id p past (Join name contact) says is = absurd says
not_again id p past (Stop name) says is = absurd says

-- one event says one payload
one_event : (id : MsgId) (p q : List ℕ) (past : List Entry) (event : Event) → Says event past id p → Says event past id q → p ≡ q
one_event id p q past (Broadcast name payload) one other = one.3 ∙ sym other.3
one_event id p q past (Start name incarnation peers contact) one other = absurd one
one_event id p q past (Arrive place dice) one other = absurd one
one_event id p q past (Lose place) one other = absurd one
one_event id p q past (Again number) one other = absurd one
one_event id p q past (Fire name fired) one other = absurd one
one_event id p q past (Flush name) one other = absurd one
one_event id p q past (Down name peer dice) one other = absurd one
one_event id p q past (Shuffle name dice) one other = absurd one
one_event id p q past (Join name contact) one other = absurd one
one_event id p q past (Stop name) one other = absurd one

-- so a message has one payload in every history whose starts are fresh
pub says_one : (history : List Entry) → AreFresh history → HasOnePayload history
says_one [] fresh id p q one other = absurd one
says_one (entry ∷ past) fresh id p q one other =
    elim one [
      | inl now_p ↦ elim other [
        | inl now_q ↦ one_event id p q past entry.event now_p now_q
        | inr then_q ↦ absurd (not_again id p past entry.event now_p (said_counted id q past fresh.1 then_q))
      ]
      | inr then_p ↦ elim other [
        | inl now_q ↦ absurd (not_again id q past entry.event now_q (said_counted id p past fresh.1 then_p))
        | inr then_q ↦ says_one past fresh.1 id p q then_p then_q
      ]
    ]
