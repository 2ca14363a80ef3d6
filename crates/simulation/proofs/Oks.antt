-- What a result says where it is no error.
use Rattle.std.proofs.Common.{◌≡◌, ◌≢◌, Ok, Err, subst}
use Rattle.std.specs.Prelude.{Result, IfErr, IsOk, OnOk}

pub fact_of_ok : {T E : Type 0} (r : Result T E) (P : Type 0) → IsOk r → OnOk r P → P
fact_of_ok (Ok x) P is_ok fact = fact
fact_of_ok (Err e) P is_ok fact = absurd (cc is_ok)

pub ok_is_no_error : {T E : Type 0} (r : Result T E) (e : E) → IsOk r → r ≢ Err e
ok_is_no_error (Ok x) e is_ok same = absurd (cc same)
ok_is_no_error (Err f) e is_ok same = absurd (cc is_ok)

-- what holds anyway holds of an Ok
pub on_ok : {T E : Type 0} (r : Result T E) (P : Type 0) → P → OnOk r P
on_ok (Ok x) P fact = fact
on_ok (Err e) P fact = tt

-- and what follows of what holds of an Ok
pub on_ok_weaker : {T E : Type 0} (r : Result T E) (P Q : Type 0) → (P → Q) → OnOk r P → OnOk r Q
on_ok_weaker (Ok x) P Q f fact = f fact
on_ok_weaker (Err e) P Q f fact = tt

-- what holds of an error's value
pub fact_of_err : {T E : Type 0} (r : Result T E) (P : E → Type 0) (e : E) → r ≡ Err e → IfErr r P → P e
fact_of_err r P e is fact = subst (λ s. IfErr s P) is fact
