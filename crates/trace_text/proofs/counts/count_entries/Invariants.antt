use Rattle.std.proofs.Common.{◌≡◌, ◌+◌, take}
use Rattle.node_names.specs.declared.ids.MsgId.{MsgId}
use Rattle.trace_text.specs.Counts.{announcements_in, count_at}
use Rattle.trace_text.proofs.counts.count_entries.Given as goal

-- the announcements so far are counted
abbrev pub invariant-loop-entry : goal.invariant-loop-entry
invariant-loop-entry g l =
    (id : MsgId) → count_at id l.counts.entries ≡ count_at id l.initial.counts.entries + announcements_in id (take l.entry-index l.entries)
