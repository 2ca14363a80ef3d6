use Rattle.std.proofs.Common.{subst}
use Rattle.std.specs.Prelude.{Option}
use Rattle.step_records.specs.Reading.{Reads}
use Rattle.step_records.specs.declared.reader.Entry.{Entry}
use Rattle.record_merge.proofs.Telling.{fewer_bytes, one_file_more}
use Rattle.record_merge.proofs.entries.Entries.next.Goals as goal

pub returns-in-Some-clause-fewer : goal.returns-in-Some-clause-fewer
returns-in-Some-clause-fewer c =
    fewer_bytes c.files.invariant.0 c.args.self.now c.files.self c.next_here.new.self c.in-Some.entry c.files.invariant.1
    (subst (λ (found : Option Entry). Reads c.files.self.reader found c.next_here.new.self.reader) c.in-Some.is c.in_ok-entry.ensures.reads)
    c.next_here.ensures.files

pub files-preserved : goal.files-preserved
files-preserved c =
    one_file_more c.files.invariant.0 c.args.self.now c.files.self c.next_here.new.self c.begin_file.new.self c.files.invariant.1
    c.next_here.ensures.files c.next_here.ensures.begun
    (subst (λ (found : Option Entry). Reads c.files.self.reader found c.next_here.new.self.reader) c.in-None.is c.in_ok-entry.ensures.reads)
    (c.in_ok-begin_file-in-None.ensures.begins c.if-not-branch.false)
