use Rattle.std.proofs.Common.{◌≡◌, ◌∙◌, ◌++◌, ap, rules, subst}
use Rattle.std.specs.Prelude.{IfOk}
use Rattle.step_records.specs.Block.{block, check_after, word_of}
use Rattle.step_records.specs.Writing.{start}
use Rattle.step_records.proofs.Files.{file_kept, file_written}
use Rattle.step_records.proofs.writer.put_file.Goals as goal

pub returns-clause-ok : goal.returns-clause-ok
returns-clause-ok c =
    file_written c.put_block.result c.args.out.now.items c.extend_from_slice.new.self.items c.put_block.new.out.items c.args.head.now
    c.in_ok-body.body.items c.args.place.now.check.0 c.args.place.now.entries c.in_ok-extend_from_slice.ensures.items c.in_ok-body.ensures
    (
    subst (λ body. IfOk c.put_block.result (λ check. check.0 ≡ check_after start (word_of body) body)) c.as_slice.ensures.value
    c.put_block.ensures.check
    )
    (
    subst (λ body. IfOk c.put_block.result (λ check. c.put_block.new.out.items ≡ c.extend_from_slice.new.self.items ++ block start body))
    c.as_slice.ensures.value c.put_block.ensures.bytes
    )

pub returns-clause-err : goal.returns-clause-err
returns-clause-err c =
    file_kept c.put_block.result c.args.out.now.items c.extend_from_slice.new.self.items c.put_block.new.out.items
    c.in_ok-extend_from_slice.ensures.items c.put_block.ensures.err
