-- A step that was made does what a node's step does.
use Rattle.std.specs.Prelude.{◌≡◌, ℕ, false, List, [], ◌∷◌, ◌++◌, Option, Some, None, Result, Ok, Err}
use Rattle.std.specs.Prelude.{IfErr, IfOk, OnErr, OnSome, IsErrAnd, length, map, option_map, slice_get, refl}
use Rattle.std.proofs.Common.{◌∙◌, ap, sym, subst}
use Rattle.node_names.specs.NodeName.{Name}
use Rattle.node_names.specs.declared.ids.MsgId.{MsgId}
use Rattle.protocol.specs.CoreState.{CoreState}
use Rattle.protocol.specs.Delivery.{Delivery}
use Rattle.protocol.specs.DeliveryLaw.{ids}
use Rattle.protocol.specs.OneDelivery.{OneDelivery}
use Rattle.protocol.specs.Output.{Output}
use Rattle.protocol.specs.Stimulus.{Stimulus}
use Rattle.protocol.specs.Trace.{Trace}
use Rattle.protocol.specs.declared.stimulus.StimulusOf.TheVariants.{Broadcast, Arrive, Fire, Flush, Down, Shuffle, Join}
use Rattle.frames.specs.Frame.{Frame}
use Rattle.node_threads.specs.Applying.{Applies, Puts, broadcast_id, id_given, mail_to, unlinked}
use Rattle.node_threads.specs.Cell.{Cell, Link, steps_made}

-- the first id is the id of the first
first_id : (given : List Delivery) → option_map (λ d. d.id) (slice_get given 0) ≡ slice_get (ids given) 0
first_id [] = refl
first_id (d ∷ given) = refl

id_is : {C : Type 0} (state : C → CoreState) (steps : C → Stimulus Frame → List (Name × Frame) → List Delivery → C → Type 0) →
    OneDelivery state steps →
    (old : C) (stimulus : Stimulus Frame) (sends : List (Name × Frame)) (given : List Delivery) (new : C) →
    steps old stimulus sends given new →
    id_given stimulus given ≡ broadcast_id (state old) stimulus
id_is state steps one old (Broadcast payload) sends given new made =
    first_id given ∙ ap (λ is. slice_get is 0) (one.of_broadcast old payload sends given new made)
id_is state steps one old (Arrive sender frame dice) sends given new made = refl
id_is state steps one old (Fire id) sends given new made = refl
id_is state steps one old Flush sends given new made = refl
id_is state steps one old (Down peer dice) sends given new made = refl
id_is state steps one old (Shuffle dice) sends given new made = refl
id_is state steps one old (Join contact) sends given new made = refl

module _
    {C : Type 0}
    (state : C → CoreState)
    (steps : C → Stimulus Frame → List (Name × Frame) → List Delivery → C → Type 0)
    (one : OneDelivery state steps)
    (old : Cell C)
    (stimulus : Stimulus Frame)
    (out : Output Frame)
    (core after : C)
    (trace : Trace Frame)
    (pending : List Delivery)
    (mails : List (List (List ℕ)))
    (live : List Link)
    (full lacking : List Name)
    (id : Option MsgId)
    (place : ℕ)
  where
    -- the node after the step
    abbrev pub after_step : Cell C
    after_step = record {
      core = core;
      since = old.since;
      trace = trace;
      limit = old.limit;
      links = live;
      pending = pending;
      handed_out = old.handed_out;
      is_shut = old.is_shut;
    }

    pub made_applies :
        steps old.core stimulus out.sends out.deliveries after
        → core ≡ after
        → id ≡ id_given stimulus out.deliveries
        → place ≡ steps_made old
        → trace ≡ record old.trace { steps = old.trace.steps ++ record { stimulus = stimulus; out = out } ∷ [] }
        → pending ≡ old.pending ++ out.deliveries
        → mails ≡ map (mail_to out.sends) old.links
        → Puts mails old.links live full
        → lacking ≡ unlinked old.links out.sends
        → old.is_shut ≡ false
        → Applies state steps old stimulus after_step id place full lacking
    made_applies stepped is_after its_id its_place recorded delivers its_mails put lacks is_open =
        record {
          out = out;
          stepped = subst (steps old.core stimulus out.sends out.deliveries) (sym is_after) stepped;
          its_id = its_id ∙ id_is state steps one old.core stimulus out.sends out.deliveries after stepped;
          its_place = its_place;
          recorded = recorded;
          delivers = delivers;
          posts = subst (λ ms. Puts ms old.links live full) its_mails put;
          lacks = lacks;
          its_limit = refl;
          its_since = refl;
          handed_out = refl;
          is_open = is_open;
        }

-- what holds anyway holds at an error
pub at_error : {T E : Type 0} (result : Result T E) (P : Type 0) → P → OnErr result P
at_error (Ok x) P p = tt
at_error (Err e) P p = p

-- what holds anyway holds where something is there
pub at_some : {T : Type 0} (option : Option T) (P : Type 0) → P → OnSome option P
at_some (Some x) P p = p
at_some None P p = tt

-- what a refusal passes on is no success
pub no_success : {T E : Type 0} (result : Result T E) (Q : E → Type 0) (P : T → Type 0) → IsErrAnd result Q → IfOk result P
no_success (Ok x) Q P is = absurd is
no_success (Err passed) Q P is = tt

-- what holds of an error holds of what a refusal passes on
pub passed_on : {T E : Type 0} (result : Result T E) (P : E → Type 0) (e : E) → IsErrAnd result (λ passed. passed ≡ e) → P e → IfErr result P
passed_on (Ok x) P e is p = tt
passed_on (Err passed) P e is p = subst P (sym is) p
