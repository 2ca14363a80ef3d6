-- The packet flies already, or is put last into flight.
use Rattle.std.proofs.Common.{◌≡◌, ◌∙◌, ◌++◌, ℕ, List, [], ◌∷◌, ap, length, subst, sym}
use Rattle.std.specs.Prelude.{Some, slice_get}
use Rattle.world.specs.Run.{Repeats}
use Rattle.world.specs.declared.event.EventOf.TheVariants.{Again}
use Rattle.trace_merge.specs.Merging.{IsMerging, Merge, Plays}
use Rattle.trace_merge.proofs.ListLemmas.{slice_get-last}
use Rattle.trace_merge.proofs.RepeatLemmas.{repeats, repeats_on}
use Rattle.trace_merge.proofs.merging.Merging.fly.Goals as goal

pub returns-in-Ok : goal.returns-in-Ok
returns-in-Ok g c =
    let limits = c.args.self.now.world.limits in
    let m : Merge = c.args.self.now in
    let plays : Plays (Again c.args.number) m c.play.new.self = c.in-Ok.ensures.ok in
    let again : Repeats m.world.group c.args.number plays.applied.entry c.play.new.self.world.group =
    repeats limits c.args.traces.now m c.requires.merging c.play.new.self.world c.args.number plays.given plays.applied c.play.new.self.frames plays.found
    in
    let was : c.flight-place.result.now ≡ m.world.group.flight = c.flight-place.ensures ∙ ap (λ (n : Merge). n.world.group.flight) c.self.view_is in
    record {
      limits = plays.applied.same_limits;
      places = plays.places;
      packets = again.others.sent;
      ok = subst (IsMerging limits c.args.traces.now)
          (λ i. record { world = c.play.new.self.world; events = sym plays.pushed i; places = sym plays.places i; frames = c.play.new.self.frames })
          (repeats_on limits c.args.traces.now m c.requires.merging c.play.new.self.world
          c.args.number plays.given plays.applied c.play.new.self.frames plays.found);
      place = subst (λ xs. slice_get xs (length c.flight-place.result.now) ≡ Some c.args.number) (sym again.flight)
          (subst (λ (xs : List ℕ). slice_get (m.world.group.flight ++ c.args.number ∷ []) (length xs) ≡ Some c.args.number)
          (sym was) (slice_get-last m.world.group.flight c.args.number));
      err = tt;
    }
