use Rattle.std.proofs.Common.{◌≡◌, ◌∙◌, ap, arith, subst, sym}
use Rattle.std.specs.List.{IsDistinct}
use Rattle.std.proofs.lemmas.List.{take_all}
use Rattle.node_names.specs.Same.{has_name, same_name}
use Rattle.wire_node.specs.Waiting.{receivers_of}
use Rattle.wire_node.proofs.Apart.{receive_all, receive_once}
use Rattle.wire_node.proofs.outputs.receivers_of.Goals as goal

pub returns-clause-once : goal.returns-clause-once
returns-clause-once g c =
    let ws = c.args.entries.now in
    let its : c.loop-entry.names.items ≡ receivers_of ws =
    c.loop-entry.invariant ∙ ap receivers_of (take_all c.loop-entry.entry-index ws (omega (arith, c.loop-entry-test.false))) in
    subst (IsDistinct same_name) (sym its) (receive_once ws c.requires)

pub returns-clause-all : goal.returns-clause-all
returns-clause-all g c name =
    let ws = c.args.entries.now in
    let its : c.loop-entry.names.items ≡ receivers_of ws =
    c.loop-entry.invariant ∙ ap receivers_of (take_all c.loop-entry.entry-index ws (omega (arith, c.loop-entry-test.false))) in
    ap (λ names. has_name names name) its ∙ receive_all ws name c.requires
