-- The run goes on by the stimulus.
use Rattle.std.proofs.Common.{subst, sym}
use Rattle.protocol.specs.Stimulus.{Stimulus, lent}
use Rattle.frames.specs.Frame.{Frame}
use Rattle.run_check.specs.Following.{Follows, Goes, Kept}
use Rattle.run_check.specs.Refusals.{IsRefused}
use Rattle.run_check.proofs.Following.{goes_on, going}
use Rattle.run_check.proofs.Refusing.{no_step, refused_so}
use Rattle.run_check.proofs.run_check.RunCheck.take.Goals as goal

pub returns-clause-goes : goal.returns-clause-goes
returns-clause-goes g c =
    let old : Kept g.row.C.Denot =
    record { limits = c.self.inside.limits; nodes = c.self.inside.nodes.map.entries; packets = c.self.inside.flying.map.entries } in
    let new : Kept g.row.C.Denot = record { limits = c.self.inside.limits; nodes = c.step.new.self.map.entries; packets = c.post.new.self.map.entries } in
    let inside =
    going g.C.Core.state g.C.Core.starts g.C.Core.steps old c.args.run.now (lent c.as_ref-lent.result) c.in_ok-did.did.given.items
    c.in_ok-did.did.sends.items c.in_ok-did.did.moved c.step.new.self.map.entries c.step.new.flying.map.entries c.receive.new.self.map.entries
    c.post.new.self.map.entries c.in_ok-judge.ensures.there c.in_ok-did.ensures.packets c.receive.ensures.leaves c.in_ok-did.ensures.steps c.post.ensures in
    subst (λ k. Goes g.C.Core.state g.C.Core.starts g.C.Core.steps k c.args.run.now c.args.stimulus.now c.in_ok-did.did.given.items new) c.self.view_is
    (
    subst (λ (told : Stimulus Frame). Goes g.C.Core.state g.C.Core.starts g.C.Core.steps old c.args.run.now told c.in_ok-did.did.given.items new)
    c.as_ref-lent.ensures inside
    )

pub returns-clause-goes_on : goal.returns-clause-goes_on
returns-clause-goes_on g c = λ past group follows.
    let new : Kept g.row.C.Denot = record { limits = c.self.inside.limits; nodes = c.step.new.self.map.entries; packets = c.post.new.self.map.entries } in
    (goes_on g.C.Core.state g.C.Core.starts g.C.Core.steps c.args.self.now past group c.args.run.now c.args.stimulus.now
    c.in_ok-did.did.given.items new follows (returns-clause-goes g c)).takes_on

pub returns-in_err-did-clause-refused : goal.returns-in_err-did-clause-refused
returns-in_err-did-clause-refused g c =
    let inside : Kept g.row.C.Denot =
    record { limits = c.self.inside.limits; nodes = c.self.inside.nodes.map.entries; packets = c.self.inside.flying.map.entries } in
    let why =
    subst (λ told. IsRefused g.C.Core.is_spent inside c.args.run.now told c.in_err-did.field-0.0) c.as_ref-lent.ensures
    (no_step g.C.Core.is_spent inside c.args.run.now (lent c.as_ref-lent.result) c.in_err-did.field-0.0 c.in_err-did.ensures.refused) in
    refused_so c.from_residual-in_err-did.result
    (IsRefused g.C.Core.is_spent c.args.self.now c.args.run.now c.args.stimulus.now) c.in_err-did.field-0.0 c.from_residual-in_err-did.ensures.1
    (subst (λ k. IsRefused g.C.Core.is_spent k c.args.run.now c.args.stimulus.now c.in_err-did.field-0.0) c.self.view_is why)
