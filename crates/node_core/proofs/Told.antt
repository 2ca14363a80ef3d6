-- What a core's step gives.
use Rattle.std.specs.Prelude.{◌≡◌, ◌+◌, IfOk, IsErrAnd, OnOk, is_ok, length, refl}
use Rattle.std.specs.declared.result.Result.{Result}
use Rattle.std.specs.declared.result.Result.TheVariants.{Ok, Err}
use Rattle.std.proofs.Common.{ap}
use Rattle.std.proofs.lemmas.Bool.{true≢false}
use Rattle.protocol.specs.Output.{Output, Stepped}
use Rattle.protocol.specs.Stimulus.{Stimulus}
use Rattle.protocol.specs.declared.protocol.Prepared.{Prepared}
use Rattle.frames.specs.Frame.{Frame}
use Rattle.node_core.specs.Parts.{IsTurn, Makes, PreparedStep}
use Rattle.node_core.specs.Plum.{Plum}
use Rattle.node_core.specs.Steps.{IsAllowed, PlumSteps, appended, delivered_at, numbered, plum_after, turned}

-- what is sent and delivered is given
stepped_is : (core : Plum) (stimulus : Stimulus Frame) →
    IsAllowed stimulus →
    (before after : Output Frame) →
    after ≡ appended core.me core.framed (turned core.me core.membership core.gossip stimulus).sends
    (turned core.me core.membership core.gossip stimulus).delivered before →
    Stepped PlumSteps core stimulus before (plum_after core stimulus) after
stepped_is core stimulus allowed before after is_after =
    record {
      sends = numbered core.me core.framed (turned core.me core.membership core.gossip stimulus).sends;
      given = delivered_at core.me (turned core.me core.membership core.gossip stimulus).delivered;
      stepped = record { allowed = allowed; leaves = refl; sent = refl; delivers = refl };
      sent = ap (λ (out : Output Frame). out.sends) is_after;
      delivered = ap (λ (out : Output Frame). out.deliveries) is_after;
    }

-- a step that was not refused gives what its stimulus does
pub gives_step : {T E : Type 0} (result : Result T E) (core : Plum) (stimulus : Stimulus Frame) (before after : Output Frame) →
    OnOk result (IsAllowed stimulus) →
    OnOk result (after ≡ appended core.me core.framed (turned core.me core.membership core.gossip stimulus).sends
    (turned core.me core.membership core.gossip stimulus).delivered before) →
    OnOk result (Stepped PlumSteps core stimulus before (plum_after core stimulus) after)
gives_step (Ok x) core stimulus before after allowed is = stepped_is core stimulus allowed before after is
gives_step (Err e) core stimulus before after allowed is = tt

-- and what it keeps is its turn
pub keeps_turn : {E : Type 0} (result : Result (Prepared PreparedStep) E) (core : Plum) (stimulus : Stimulus Frame) →
    OnOk result (IsAllowed stimulus) →
    IfOk result (λ prepared.
    Makes core.membership core.gossip (turned core.me core.membership core.gossip stimulus) prepared.turn.moved prepared.turn.row) →
    IfOk result (λ prepared. prepared.turn.framed ≡ core.framed + length (turned core.me core.membership core.gossip stimulus).sends) →
    IfOk result (λ prepared. IsTurn core stimulus prepared.turn)
keeps_turn (Ok prepared) core stimulus allowed makes framed = record { allowed = allowed; makes = makes; framed = framed }
keeps_turn (Err e) core stimulus allowed makes framed = tt

-- the error that a refusal passes on is the one that it returns
pub error_is : {T E : Type 0} (result : Result T E) (e x : E) → IsErrAnd result (λ passed. passed ≡ e) → result ≡ Err x → e ≡ x
error_is (Ok v) e x is returned = absurd is
error_is (Err passed) e x is returned = cc

-- what went well is no error
pub no_error : {T E : Type 0} (v : T) (e : E) → Ok v ≡ Err e → ⊥
no_error v e returned = true≢false (ap is_ok returned)
