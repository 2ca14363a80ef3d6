use Rattle.std.proofs.Common.{◌∙◌, ◌≤◌, ℕ, List, ap, arith, drop, length, subst, sym, take}
use Rattle.std.specs.Int.{w32, from_be_bytes}
use Rattle.step_records.specs.Block.{check_after}
use Rattle.step_records.proofs.Blocks.{text_of_block}
use Rattle.step_records.proofs.block.read_block.Goals as goal

pub returns-clause-text : goal.returns-clause-text
returns-clause-text c =
    let len = c.number_in-stated.result in
    let body = c.split_at-2.result.0.now in
    text_of_block c.args.before.now.0 c.args.bytes.now body c.after-check.result.0 len
    (λ i. omega (arith, c.type_inv.bytes i)) (omega arith)
    (c.number_in-stated.ensures ∙ ap (from_be_bytes w32) c.split_at.ensures.front)
    (subst (λ (t : List ℕ). len ≤ length t) c.split_at.ensures.back c.if-rest-len.false)
    (c.split_at-2.ensures.front ∙ ap (take len) c.split_at.ensures.back)
    (c.after-check.ensures ∙ ap (λ t. check_after c.args.before.now.0 t body) c.split_at.ensures.front)
    (
    ap (take 8) (sym (c.split_at-2.ensures.back ∙ ap (drop len) c.split_at.ensures.back))
    ∙ c.are_same.ensures.0 c.if-not-are_same.false
    ∙ c.as_slice.ensures
    )
