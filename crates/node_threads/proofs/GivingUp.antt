-- How far what came out of a link is what its node sent.
use Rattle.std.specs.Prelude.{◌≡◌, ◌≤◌, ◌<◌, ◌+◌, ◌-◌, ◌==◌, ℕ, true, false, List, [], ◌∷◌, ◌++◌, Some, drop, length, map, take, refl, if◌then◌else◌}
use Rattle.std.specs.List.{slice_get}
use Rattle.std.proofs.Common.{◌∙◌, ap, append_assoc, arith, get_or, sym, zero, suc, zero-le}
use Rattle.std.proofs.lemmas.List.{append-nil, drop_more, length-drop, map-append, take-append-drop, take_more}
use Rattle.std.proofs.lemmas.Option.{get_or_from_slice_get, slice_get_within}
use Rattle.std.proofs.Math.Seq.{take-add}
use Rattle.std.proofs.lemmas.Bool.{eqb-true, false_from_ne_true}
use Rattle.node_names.specs.NodeName.{Name}
use Rattle.node_names.specs.Same.{same_name}
use Rattle.protocol.specs.Trace.{Step, Trace}
use Rattle.frames.specs.Frame.{Frame}
use Rattle.node_threads.specs.Applying.{mail_for}
use Rattle.node_threads.specs.Forgetting.{CameOut, GivesUp}
use Rattle.node_threads.specs.LinkText.{sent_to, spelling, text_of, text_since}
use Rattle.node_threads.specs.Outlet.{Outlet}
use Rattle.node_threads.proofs.Stripping.{opening_mail}

-- a packet to another name has no mail to this one
pub others_mail : (peer : Name) (send : Name × Frame) → same_name send.0 peer ≡ false → mail_for (send ∷ []) peer ≡ []
others_mail peer send other = ap (λ b. map spelling (map (λ (s : Name × Frame). s.1) (if b then send ∷ [] else []))) other

its_mail : (peer : Name) (send : Name × Frame) → same_name send.0 peer ≡ true → mail_for (send ∷ []) peer ≡ spelling send.1 ∷ []
its_mail peer send its = ap (λ b. map spelling (map (λ (s : Name × Frame). s.1) (if b then send ∷ [] else []))) its

-- one frame more is that of the packet
pub packet_more : (given : List (List ℕ)) (count : ℕ) (frame : List ℕ) (peer : Name) (send : Name × Frame) →
    slice_get given count ≡ Some frame →
    frame ≡ spelling send.1 →
    same_name send.0 peer ≡ true →
    take (count + 1) given ≡ take count given ++ mail_for (send ∷ []) peer
packet_more given count frame peer send here is its =
    take_more given count frame (slice_get_within given count frame here)
    ∙ ap (λ f. take count given ++ f ∷ []) (get_or_from_slice_get given count frame frame here ∙ is)
    ∙ ap (λ m. take count given ++ m) (sym (its_mail peer send its))

-- ---- step by step

module _ (since : ℕ) (trace : Trace Frame) (peer : Name) (opened : ℕ) (given : List (List ℕ)) where
  -- So many frames are what the node sent from the opening on, up to this place among the steps that the trace has.
  pub record Reached (place frames : ℕ) : Type 0 where
    pub gone : List Frame
    pub so_many : frames ≤ length given
    pub came : take frames given ≡ map spelling gone
    pub ahead : text_since since trace peer opened ≡ gone ++ text_of peer (drop place trace.steps)
    pub behind : opened ≤ since + place

  pub reached_first : (sends : List (Name × Frame)) (frames : ℕ) →
      sends ≡ (if opened == 0 then trace.opening.sends else []) →
      since ≤ opened →
      frames ≤ length given →
      take frames given ≡ mail_for sends peer →
      Reached (opened - since) frames
  reached_first sends frames first past few came = record {
    gone = if opened == 0 then sent_to peer trace.opening.sends else [];
    so_many = few;
    came = came ∙ ap (λ ss. mail_for ss peer) first ∙ opening_mail peer (opened == 0) trace.opening.sends;
    ahead = refl;
    behind = omega (arith, past);
  }

  pub reached_next : (place frames more : ℕ) (step : Step Frame) (sends : List (Name × Frame)) →
      Reached place frames →
      Some step ≡ slice_get trace.steps place →
      sends ≡ step.out.sends →
      more ≤ length (drop frames given) →
      take more (drop frames given) ≡ mail_for sends peer →
      Reached (place + 1) (frames + more)
  reached_next place frames more step sends reached here its few came =
      let first : get_or trace.steps place step ≡ step = get_or_from_slice_get trace.steps place step step (sym here) in
      let steps : drop place trace.steps ≡ step ∷ drop (place + 1) trace.steps =
      drop_more trace.steps place step (slice_get_within trace.steps place step (sym here)) ∙ ap (λ s. s ∷ drop (place + 1) trace.steps) first in
      let sent : List Frame = sent_to peer step.out.sends in
      let some = reached.so_many in
      let past = reached.behind in
      record {
        gone = reached.gone ++ sent;
        so_many = omega (arith, few, some, length-drop frames given);
        came =
            take-add frames more given
            ∙ ap (λ fs. fs ++ take more (drop frames given)) reached.came
            ∙ ap (λ fs. map spelling reached.gone ++ fs) (came ∙ ap (λ ss. mail_for ss peer) its)
            ∙ sym (map-append spelling reached.gone sent);
        ahead =
            reached.ahead
            ∙ ap (λ ss. reached.gone ++ text_of peer ss) steps
            ∙ sym (append_assoc reached.gone sent (text_of peer (drop (place + 1) trace.steps)));
        behind = omega (arith, past);
      }

  not_first : (place : ℕ) → (since + (place + 1) == 0) ≡ false
  not_first place = false_from_ne_true (since + (place + 1) == 0) (λ yes. let z = eqb-true (since + (place + 1)) 0 yes in absurd (omega (arith, z)))

  -- up to the next place all frames came out
  pub reached_whole : (place frames at : ℕ) →
      Reached (place + 1) frames →
      place < length trace.steps →
      at ≡ since + (place + 1) →
      CameOut since trace peer opened given at frames
  reached_whole place frames at reached within is =
      let back : since + (place + 1) - since ≡ place + 1 = omega arith in
      let opening : List Frame = sent_to peer trace.opening.sends in
      let text : text_since since trace peer (since + (place + 1)) ≡ text_of peer (drop (place + 1) trace.steps) =
      ap (λ b. (if b then opening else []) ++ text_of peer (drop (since + (place + 1) - since) trace.steps)) (not_first place)
      ∙ ap (λ n. text_of peer (drop n trace.steps)) back in
      let past = reached.behind in
      record {
        gone = reached.gone;
        so_many = reached.so_many;
        came_out = reached.came;
        sent = reached.ahead ∙ ap (λ t. reached.gone ++ t) (sym (ap (text_since since trace peer) is ∙ text));
        later = omega (arith, past, is);
        within = λ before. omega (arith, within, is);
      }

  -- nothing has come out before the first step
  pub none_came : CameOut since trace peer opened given opened 0
  none_came = record { gone = []; so_many = zero-le; came_out = refl; sent = refl; later = omega arith; within = λ before. before }

-- ---- an outlet

-- the outlet without what came out
pub gives_up : (since : ℕ) (trace : Trace Frame) (old new : Outlet) (place frames : ℕ) →
    CameOut since trace old.peer old.opened old.given place frames →
    new ≡ record old { opened = place; given = drop frames old.given } →
    GivesUp since trace old new
gives_up since trace old new place frames came is =
    let given : new.given ≡ drop frames old.given = ap (λ (o : Outlet). o.given) is in
    let opened : new.opened ≡ place = ap (λ (o : Outlet). o.opened) is in
    let peer : new.peer ≡ old.peer = ap (λ (o : Outlet). o.peer) is in
    let later = came.later in
    record {
      gone = came.gone;
      came_out =
          sym (take-append-drop frames old.given) ∙ ap (λ fs. fs ++ drop frames old.given) came.came_out ∙ ap (λ fs. map spelling came.gone ++ fs) (sym given);
      sent = came.sent ∙ ap (λ n. came.gone ++ text_since since trace old.peer n) (sym opened);
      later = omega (arith, later, opened);
      within = λ before. (let inside = came.within before in omega (arith, inside, opened));
      peer = peer;
      seen = ap (λ (o : Outlet). o.seen) is;
    }
