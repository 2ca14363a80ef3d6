use Rattle.std.proofs.Common.{◌≡◌, ◌∙◌, ◌++◌, ap, append_assoc, drop, rules, sym, take}
use Rattle.std.proofs.lemmas.List.{take-append-drop}
use Rattle.node_threads.proofs.cell.outlet.Tap.give_up.Goals as goal

pub invariant_of-self : goal.invariant_of-self
invariant_of-self g c =
    let all = c.self.inside.given.items in
    let before = c.self.invariant.0 in
    let left : c.drop-drain.new.self.0.items ≡ drop c.args.frames all = search rules in (
      before ++ take c.args.frames all,
      c.self.invariant.1
          ∙ ap (λ fs. before ++ fs) (sym (take-append-drop c.args.frames all))
          ∙ sym (append_assoc before (take c.args.frames all) (drop c.args.frames all))
          ∙ ap (λ fs. (before ++ take c.args.frames all) ++ fs) (sym left),
    )
