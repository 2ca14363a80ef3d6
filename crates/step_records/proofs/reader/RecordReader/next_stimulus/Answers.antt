use Rattle.std.proofs.Common.{◌≡◌, ◌∙◌, ◌≤◌, ◌++◌, ℕ, ap, drop, length, subst}
use Rattle.step_records.specs.Block.{block, check_after, word_of}
use Rattle.step_records.specs.Reading.{Reading, ReadsEntry, counted}
use Rattle.step_records.specs.declared.TheConstants.{MAX_BODY}
use Rattle.step_records.proofs.Blocks.{entry_read, some_part}
use Rattle.step_records.proofs.reader.RecordReader.next_stimulus.Goals as goal

pub returns-clause-reads : goal.returns-clause-reads
returns-clause-reads c =
    let old : Reading = record {
      head = c.self.inside.head.items;
      entries = c.self.inside.place.entries;
      check = c.self.inside.place.check.0;
      is_open = c.self.inside.is_open;
      at = c.self.inside.at;
      unread = c.self.inside.unread;
    } in
    let bytes = c.as_slice-bytes.result.now in
    let found = c.in_ok-block.field-0 in
    let read = c.in-Some.block in
    let is = c.in-Some.is in
    let same = c.as_slice-bytes.ensures in
    subst (λ (r : Reading). ReadsEntry r c.in_ok-stimulus.stimulus c.pass.new.self) c.self.view_is
    (entry_read old c.pass.new.self c.in_ok-stimulus.stimulus read.body.now read.check.0 read.len
    (ap (λ (r : Reading). r.is_open) c.self.view_is ∙ c.requires) c.in_ok-stimulus.ensures
    (some_part found read (λ b. length b.body.now ≤ MAX_BODY) is c.in_ok-block.ensures.few)
    (some_part found read (λ b. b.check.0 ≡ check_after old.check (word_of b.body.now) b.body.now) is c.in_ok-block.ensures.check)
    (subst (λ t. read.len ≤ length t) same (some_part found read (λ b. b.len ≤ length bytes) is c.in_ok-block.ensures.within))
    (subst (λ t. t ≡ block old.check read.body.now ++ drop read.len t) same
    (some_part found read (λ b. bytes ≡ block old.check b.body.now ++ drop b.len bytes) is c.in_ok-block.ensures.text))
    (
    c.pass.ensures
    ∙ ap (λ (n : ℕ). record {
      head = old.head;
      entries = n;
      check = read.check.0;
      is_open = old.is_open;
      at = counted old.at read.len;
      unread = drop read.len old.unread;
    }) c.saturating_add.ensures
    ))
