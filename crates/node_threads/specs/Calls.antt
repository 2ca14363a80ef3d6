-- What a call under a lock returns.
use Rattle.std.specs.Fn.{FnOnceReturnsAtMut}
use denote.Param.Members.{Once}
use denote.Ref.{MutBor}

-- If the call borrows some value, it may return this answer and leave some value in its place.
pub record MayAnswer {F T R : Type 0} (g : Once F (MutBor T × Unit {0}) (R × (MutBor T × Unit {0}))) (call : F) (answer : R) : Type 0 where
  pub old : T
  pub new : T
  pub returns : FnOnceReturnsAtMut g call old answer new
