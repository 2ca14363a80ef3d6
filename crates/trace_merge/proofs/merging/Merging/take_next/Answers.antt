-- A step that is no arrival is played by its event.
use Rattle.std.proofs.Common.{subst}
use Rattle.node_names.specs.declared.ids.Origin.{Origin}
use Rattle.protocol.specs.Trace.{Step}
use Rattle.frames.specs.Frame.{Frame}
use Rattle.trace_merge.specs.Merging.{Tells}
use Rattle.trace_merge.proofs.merging.Merging.take_next.Goals as goal

pub take_step-requires : goal.take_step-requires
take_step-requires g c =
    let group = c.args.self.now.world.group in
    record {
      distinct = c.requires.distinct;
      merging = c.requires.merging;
      listed = c.requires.listed;
      placed = c.requires.placed;
      taken = c.requires.taken;
      tells = subst (λ (o : Origin). Tells group c.in_ok-event.event o.name c.args.step.now.stimulus) c.origin.ensures
          (subst (λ (s : Step Frame). Tells group c.in_ok-event.event c.origin.result.name s.stimulus) c.step.view_is (c.in_ok-event.ensures group));
    }

pub returns : goal.returns
returns g c =
    let done = c.in_ok-take_step.ensures in
    record {
      played = λ it. record { limits = done.limits; places = done.places; merging = done.ok };
      same = λ no. cc;
      waits = λ no. let never : ⊥ = cc in absurd never;
      err = tt;
    }
