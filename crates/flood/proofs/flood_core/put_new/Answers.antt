-- The insertion succeeds, and a new key goes last.
use Rattle.std.proofs.Common.{◌≡◌, ◌∙◌}
use Rattle.indexmap.specs.IndexMap.{insert_entry}
use Rattle.indexmap.proofs.CallerLemmas.{insert_entry-new}
use Rattle.node_names.specs.Same.{same_id}
use Rattle.flood.proofs.flood_core.put_new.Goals as goal

pub returns : goal.returns
returns g c =
    let put : c.insert.new.self.entries ≡ insert_entry same_id c.args.held.now.entries c.args.id.now c.args.payload =
    rw c.unwrap.ensures at c.insert.ensures.entries in
    put ∙ insert_entry-new same_id c.args.held.now c.args.id.now c.args.payload c.requires.absent
