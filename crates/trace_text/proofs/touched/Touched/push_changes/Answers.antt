-- The seven parts, one after the other.
use Rattle.std.proofs.Common.{◌∙◌, ◌++◌, ap, string_bytes}
use Rattle.std.proofs.lemmas.Result.{on_ok_weaker}
use Rattle.trace_text.specs.Parts.{Parts, changes_text}
use Rattle.trace_text.proofs.Texts.{seven}
use Rattle.trace_text.proofs.touched.Touched.push_changes.Goals as goal

pub returns : goal.returns
returns g c =
    let fresh : Parts = record {
      active = string_bytes c.new.inside.active;
      passive = string_bytes c.new.inside.passive;
      eager = string_bytes c.new.inside.eager;
      lazy = string_bytes c.new.inside.lazy;
      queue = string_bytes c.new.inside.queue;
      wants = string_bytes c.new.inside.wants;
      timers = string_bytes c.new.inside.timers;
    } in
    on_ok_weaker c.push_changed-7.result (λ told.
    seven _ _ _ _ _ _ _ _ _ _ _ _ _ _ _ c.in_ok-push_changed.ensures c.in_ok-push_changed-2.ensures c.in_ok-push_changed-3.ensures
    c.in_ok-push_changed-4.ensures c.in_ok-push_changed-5.ensures c.in_ok-push_changed-6.ensures told
    ∙ ap (λ (old : Parts). string_bytes c.args.text.now ++ changes_text old fresh) c.self.view_is
    ∙ ap (λ (new : Parts). string_bytes c.args.text.now ++ changes_text c.args.self.now new) c.new.view_is)
    c.push_changed-7.ensures
