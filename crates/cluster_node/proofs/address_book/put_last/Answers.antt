-- What was told of a name goes last, and the first entry gives way where there are too many.
use Rattle.std.proofs.Common.{◌∙◌, ◌≤◌, ◌<◌, ap, arith, length}
use Rattle.indexmap.proofs.CallerLemmas.{insert_entry-new}
use Rattle.node_names.specs.Same.{same_name}
use Rattle.cluster_node.specs.Addresses.{without}
use Rattle.cluster_node.specs.declared.address_book.TheConstants.{MAX_ADDRESSES}
use Rattle.cluster_node.proofs.Books.{put_gives_way, put_stays}
use Rattle.cluster_node.proofs.address_book.put_last.Goals as goal

pub returns-then-len-gt-MAX_ADDRESSES-clause-ok : goal.returns-then-len-gt-MAX_ADDRESSES-clause-ok
returns-then-len-gt-MAX_ADDRESSES-clause-ok g c =
    let fits : length c.shift_remove.new.self.entries ≤ MAX_ADDRESSES =
    omega (arith, c.shift_remove.ensures.len, ap length c.in_ok-reserve.ensures.entries, c.requires.within) in
    let many : MAX_ADDRESSES < length c.insert.new.self.entries = omega (arith, c.len.ensures.len, c.if-len-gt-MAX_ADDRESSES.true) in
    c.shift_remove_index.ensures.entries
    ∙ put_gives_way c.args.name c.args.told c.args.entries.now.entries c.shift_remove.new.self.entries c.insert.new.self.entries
    (c.shift_remove.ensures.entries ∙ ap (without c.args.name) c.in_ok-reserve.ensures.entries)
    fits
    (c.in_ok-insert.ensures.entries ∙ insert_entry-new same_name c.shift_remove.new.self c.args.name c.args.told c.shift_remove.ensures.updates.1)
    many

pub returns-else-len-gt-MAX_ADDRESSES-clause-ok : goal.returns-else-len-gt-MAX_ADDRESSES-clause-ok
returns-else-len-gt-MAX_ADDRESSES-clause-ok g c =
    put_stays c.args.name c.args.told c.args.entries.now.entries c.shift_remove.new.self.entries c.insert.new.self.entries
    (c.shift_remove.ensures.entries ∙ ap (without c.args.name) c.in_ok-reserve.ensures.entries)
    (c.in_ok-insert.ensures.entries ∙ insert_entry-new same_name c.shift_remove.new.self c.args.name c.args.told c.shift_remove.ensures.updates.1)
    (omega (arith, c.len.ensures.len, c.if-len-gt-MAX_ADDRESSES.false))
