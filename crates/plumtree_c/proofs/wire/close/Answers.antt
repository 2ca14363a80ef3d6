use Rattle.std.proofs.Common.{◌⊎◌, inl, inr}
use Rattle.std.specs.Prelude.{Err, Ok, OnErr, OnOk, Result}
use Rattle.plumtree_c.proofs.wire.close.Goals as goal

either : {T E P Q : Type 0} (r : Result T E) → OnOk r P → OnErr r Q → Q ⊎ P
either (Ok x) ok err = inr ok
either (Err e) ok err = inl err

pub returns : goal.returns
returns c = either c.ended.result c.ended.ensures.ok c.ended.ensures.err
