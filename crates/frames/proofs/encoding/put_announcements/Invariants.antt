use Rattle.std.proofs.Common.{◌≡◌, ◌++◌, length, take}
use Rattle.std.specs.Int.{w16, to_be_bytes}
use Rattle.std.specs.List.{flat_map, AllByRecursion}
use Rattle.frames.specs.Field.{announcement_octets, IsAnnouncement}
use Rattle.frames.proofs.encoding.put_announcements.Given as goal

abbrev pub invariant-loop-entry : goal.invariant-loop-entry
invariant-loop-entry g l =
    (l.out.items ≡ l.fn.out.items ++ (to_be_bytes w16 (length l.entries) ++ flat_map announcement_octets (take l.entry-index l.entries)))
    × AllByRecursion IsAnnouncement (take l.entry-index l.entries)
