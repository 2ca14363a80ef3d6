-- What a core starts with.
use Rattle.std.specs.Prelude.{◌≡◌, ◌+◌, ◌++◌, ◌⊎◌, ◌^◌, ◌-◌, ℕ, List, [], Option, None, Some, IsSome, length, refl, IfErr, IsErrAnd}
use Rattle.std.specs.declared.result.Result.{Result}
use Rattle.std.specs.declared.result.Result.TheVariants.{Ok, Err}
use Rattle.std.proofs.Common.{◌∙◌, ap, arith, inl, inr, subst, sym}
use Rattle.std.proofs.lemmas.List.{append-nil}
use Rattle.node_names.specs.NodeName.{Name}
use Rattle.node_names.specs.Limits.{Limits, IsAllowed as AreAllowed}
use Rattle.node_names.specs.declared.dice.Dice.{Dice}
use Rattle.node_names.specs.declared.ids.Origin.{Origin}
use Rattle.frames.specs.Body.{Body}
use Rattle.frames.specs.Frame.{Frame}
use Rattle.protocol.specs.Output.{Output}
use Rattle.protocol.specs.declared.protocol.CoreError.{CoreError}
use Rattle.protocol.specs.declared.protocol.CoreError.TheVariants.{SeqSpent, OutOfMemory}
use Rattle.membership.specs.declared.event.EventOf.TheVariants as on
use Rattle.membership.specs.Membership.{Membership, Moves, Ends, still}
use Rattle.membership.specs.Table.{table}
use Rattle.gossip_core.specs.State.{GossipState}
use Rattle.node_core.specs.Fits.{FitsFrames, AreFit}
use Rattle.node_core.specs.Steps.{PlumStartsCounted, appended, newcomer, numbered, opening}

-- the packets of a start fit frames
pub opening_fits : (contact : Option Name) → AreFit (opening contact)
opening_fits None = tt
opening_fits (Some contact) = ((refl, refl), tt)

-- and so does a gossip that holds nothing
pub newcomer_fits : (me : Origin) (limits : Limits) (peers : List Name) (spent framed : ℕ) → FitsFrames (newcomer me limits peers spent framed).gossip
newcomer_fits me limits peers spent framed = record { held = tt; queued = tt; wants = tt }

-- the contact is sent JOIN, and the membership stays as it was
pub greets : (m : Membership) (o : Option Name) (contact : Name) →
    o ≡ Some contact →
    (none moves : Moves) (new : Membership) →
    none ≡ record { sends = []; downs = []; ups = [] } →
    ((dice : Dice) → Ends (table (on.Joins contact) dice (still m)) none new moves) →
    (sends : List (Name × Body)) →
    sends ≡ moves.sends →
    (new ≡ m) × (sends ≡ opening o)
greets m o contact is none moves new is_none ends sends are_sent =
    let end : Ends (table (on.Joins contact) (record { 0 = [] }) (still m)) none new moves = ends (record { 0 = [] }) in (
      end.node,
      are_sent ∙ end.sends ∙ ap (λ (n : Moves). n.sends ++ (table (on.Joins contact) (record { 0 = [] }) (still m)).sends) is_none ∙ ap opening (sym is),
    )

-- the parts are those of a newcomer, and what was opened with is given
pub started_is : (me : Origin) (limits : Limits) (peers : List Name) (contact : Option Name) (spent framed : ℕ) →
    AreAllowed limits →
    (m : Membership) →
    m ≡ (newcomer me limits peers spent framed).membership →
    (g : GossipState) →
    g ≡ (newcomer me limits peers spent framed).gossip →
    (given : List (Name × Body)) →
    given ≡ opening contact →
    (before after : Output Frame) →
    after ≡ appended me framed given None before →
    (last : ℕ) →
    last ≡ framed + length given →
    (sends : List (Name × Frame))
    × PlumStartsCounted spent framed me limits peers contact sends (record { me = me; membership = m; gossip = g; framed = last })
    × (after ≡ record before { sends = before.sends ++ sends })
started_is me limits peers contact spent framed allowed m is_m g is_g given is_given before after is_after last is_last = (
  numbered me framed given,
  record {
    allowed = allowed;
    leaves = λ i. record { me = me; membership = is_m i; gossip = is_g i; framed = (is_last ∙ ap (λ sends. framed + length sends) is_given) i };
    sent = ap (numbered me framed) is_given;
  },
  is_after ∙ ap (λ deliveries. record { sends = before.sends ++ numbered me framed given; deliveries = deliveries }) (append-nil before.deliveries),
)

-- Why a start is refused.
abbrev pub IsRefusal : Option Name → ℕ → CoreError → Type 0
IsRefusal contact framed e = (e ≡ OutOfMemory) ⊎ ((e ≡ SeqSpent) × IsSome contact × (framed ≡ 2 ^ 64 - 1))

-- if no number is spent, one is left
pub only_memory : {T : Type 0} (result : Result T CoreError) (contact : Option Name) → IfErr result (IsRefusal contact 0) → IfErr result (λ e. e ≡ OutOfMemory)
only_memory (Ok x) contact refused = tt
only_memory (Err e) contact (inl memory) = memory
only_memory (Err e) contact (inr spent) = absurd (omega (arith, spent.2))

-- what holds of an error holds of what a refusal passes on
pub passed_on :
    {T : Type 0} (result : Result T CoreError) (P : CoreError → Type 0) (e : CoreError) → IsErrAnd result (λ passed. passed ≡ e) → P e → IfErr result P
passed_on (Ok x) P e is p = tt
passed_on (Err passed) P e is p = subst P (sym is) p
