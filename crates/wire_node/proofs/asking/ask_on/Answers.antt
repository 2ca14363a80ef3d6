use Rattle.std.proofs.Common.{◌∙◌, OnErr, ap, inr, refl, subst}
use Rattle.wire_node.specs.Ticking.{Asking, AsksInPart, lacked_of}
use Rattle.wire_node.proofs.Stepping.{err_both}
use Rattle.wire_node.proofs.asking.ask_on.Goals as goal

pub returns-clause-err : goal.returns-clause-err
returns-clause-err g c =
    let old = c.args.engine.now in
    let inside = c.asking.inside in
    let new : Asking = record { waited = inside.waited.items; due = c.ask_front.new.due.items; asked = c.ask_front.new.asked.items } in
    subst (λ (a : Asking). OnErr c.ask_front.result (AsksInPart old a c.args.dice.now c.ask_front.new.engine new)) c.asking.view_is
    (err_both c.ask_front.result c.ask_front.ensures.err c.ask_front.ensures.kept
    (λ fires kept. record {
      count = fires.0;
      fires = fires.1;
      due = kept.0;
      waits = refl;
      asked = inr (kept.1 ∙ c.in_ok-asking-inside.ensures ∙ ap (lacked_of old) c.as_slice.ensures.value);
    }))
