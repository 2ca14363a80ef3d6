-- The insertion succeeds, and a new name goes last.
use Rattle.std.proofs.Common.{◌≡◌, ◌∙◌, ◌++◌, ◌∷◌, [], ap}
use Rattle.std.specs.Prelude.{if◌then◌else◌}
use Rattle.indexmap.specs.IndexSet.{insert_key}
use Rattle.node_names.specs.Same.{same_name}
use Rattle.world.proofs.commit.put_name.Goals as goal

pub returns : goal.returns
returns g c =
    let put : c.insert.new.self.keys ≡ insert_key same_name c.args.names.now.keys c.args.name = rw c.unwrap.ensures at c.insert.ensures.keys in
    put ∙ ap (λ b. if b then c.args.names.now.keys else c.args.names.now.keys ++ c.args.name ∷ []) c.requires.absent
