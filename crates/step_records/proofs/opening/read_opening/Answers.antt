use Rattle.std.proofs.Common.{◌≡◌, ◌∙◌, ◌≤◌, ◌++◌, ap, drop, length, subst}
use Rattle.step_records.specs.Block.{block, check_after, word_of}
use Rattle.step_records.specs.Text.{number_text}
use Rattle.step_records.specs.Writing.{start}
use Rattle.step_records.specs.declared.place.Place.{Place}
use Rattle.step_records.proofs.Blocks.{some_part}
use Rattle.step_records.proofs.Files.{opening_read}
use Rattle.step_records.proofs.opening.read_opening.Goals as goal

pub returns-clause-text : goal.returns-clause-text
returns-clause-text c =
    let bytes = c.args.bytes.now in
    let rest = c.in-Some.rest.now in
    let found = c.in_ok-block.field-0 in
    let read = c.in-Some-2.block in
    let is = c.in-Some-2.is in
    opening_read bytes rest read.body.now c.in_ok-front.front.now c.in_ok-front.back.now c.in_ok-from_slice.field-0.items c.args.reached.now.check.0
    read.check.0 c.args.reached.now.entries read.len
    (some_part c.in_ok-rest.field-0 c.in-Some.rest (λ r. bytes ≡ start ++ r.now) c.in-Some.is c.in_ok-rest.ensures.text)
    (some_part found read (λ b. b.len ≤ length rest) is c.in_ok-block.ensures.within)
    (some_part found read (λ b. rest ≡ block start b.body.now ++ drop b.len rest) is c.in_ok-block.ensures.text)
    c.in_ok-front.ensures
    (subst (λ (p : Place). c.in_ok-front.back.now ≡ number_text p.entries ++ p.check.0) c.in_ok-goes_on.ensures.place c.in_ok-place.ensures)
    c.in_ok-from_slice.ensures.items
    (some_part found read (λ b. b.check.0 ≡ check_after start (word_of b.body.now) b.body.now) is c.in_ok-block.ensures.check)
