-- Which bytes are refused at once.
use Rattle.std.proofs.Common.{◌≡◌, ◌≢◌, ℕ, ◌<◌, Bool, true, false, eqb, ltb, List, [], ◌∷◌, Err, refl, ◌∙◌}
use Rattle.std.specs.Prelude.{◌||◌}
use Rattle.std.proofs.lemmas.Bool.{lt-ltb}
use Rattle.std.proofs.lemmas.Bool.Decides.{Decides-eqb}
use Rattle.handshake.specs.declared.TheConstants.{MAX_HELLO}
use Rattle.handshake.specs.declared.error.HandshakeError.TheVariants as Fault
use Rattle.handshake.specs.Connection.{opened}
use Rattle.handshake.specs.Inbound.{run, start, step}
use Rattle.handshake.proofs.Connections.{at, goes_on_from, kind_read}

-- a number that is another
other_number : (a b : ℕ) → a ≢ b → eqb a b ≡ false
other_number a b h = other_by a b (eqb a b) refl h where
  other_by : (a b : ℕ) (t : Bool) → eqb a b ≡ t → a ≢ b → t ≡ false
  other_by a b true e h = absurd (h ((Decides-eqb a b).0 e))
  other_by a b false e h = refl

pub no_hello : (kind : ℕ) (rest : List ℕ) → kind ≢ 1 → run start (kind ∷ rest) ≡ Err (Fault.NoHello kind)
unfolding step
no_hello kind rest h = let other = other_number kind 1 h in rw other refl

pub unknown_kind : (kind : ℕ) (rest : List ℕ) → kind ≢ 0 → kind ≢ 2 → run opened (kind ∷ rest) ≡ Err (Fault.UnknownRecord kind)
unfolding step
unknown_kind kind rest h k =
    let no_frame = other_number kind 0 h in
    let no_introduction = other_number kind 2 k in
    rw (no_frame, no_introduction) refl

or_true : (a : Bool) → (a || true) ≡ true
or_true true = refl
or_true false = refl

second_refused : (len : ℕ) (rest : List ℕ) → MAX_HELLO < len → run (at false (1 ∷ [])) (len ∷ rest) ≡ Err (Fault.BadLength len)
unfolding step
second_refused len rest long =
    let above : ltb MAX_HELLO len ≡ true = lt-ltb _ _ long in
    let wrong : (eqb len 0 || ltb MAX_HELLO len) ≡ true = rw above (or_true (eqb len 0)) in
    rw wrong refl

pub too_long : (len : ℕ) (rest : List ℕ) → MAX_HELLO < len → run start (1 ∷ len ∷ rest) ≡ Err (Fault.BadLength len)
too_long len rest long = goes_on_from start (at false (1 ∷ [])) (1 ∷ []) (len ∷ rest) (kind_read false) ∙ second_refused len rest long
