-- What an answer of Ok gives.
use Rattle.std.specs.Prelude.{IfOk, Ok, Err, Result}

-- what follows of each value holds of the answer's
pub ok-weaken : {T E : Type 0} (r : Result T E) (P Q : T → Type 0) → ((x : T) → P x → Q x) → IfOk r P → IfOk r Q
ok-weaken (Ok x) P Q f h = f x h
ok-weaken (Err e) P Q f h = tt
