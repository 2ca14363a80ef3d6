-- The seven parts, one after the other.
use Rattle.std.proofs.Common.{◌∙◌, ◌++◌, ap, string_bytes}
use Rattle.std.proofs.lemmas.Result.{on_ok_weaker}
use Rattle.trace_text.specs.Parts.{Parts, parts_text}
use Rattle.trace_text.proofs.Texts.{seven}
use Rattle.trace_text.proofs.touched.Touched.push_all.Goals as goal

pub returns : goal.returns
returns g c =
    on_ok_weaker c.push_part-7.result (λ told.
    seven _ _ _ _ _ _ _ _ _ _ _ _ _ _ _ c.in_ok-push_part.ensures c.in_ok-push_part-2.ensures
    c.in_ok-push_part-3.ensures c.in_ok-push_part-4.ensures c.in_ok-push_part-5.ensures c.in_ok-push_part-6.ensures told
    ∙ ap (λ (parts : Parts). string_bytes c.args.text.now ++ parts_text parts) c.self.view_is) c.push_part-7.ensures
