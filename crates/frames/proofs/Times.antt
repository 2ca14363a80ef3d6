-- Reading a list item by item.
use Rattle.std.proofs.Common.{◌≡◌, ℕ, suc, ◌+◌, ◌-◌, ◌<◌, ◌≤◌, List, [], ◌∷◌, ◌++◌, Result, Ok, Err, refl, sym, ap, ◌∙◌, append_assoc, arith}
use Rattle.std.proofs.lemmas.List.{append-nil}
use Rattle.frames.specs.declared.fault.FrameFault.{FrameFault}
use Rattle.frames.specs.Reading.{Reader, go_on, done, times, end, alone}

-- what is read, behind what was read before
abbrev pub with_front : {X : Type 0} → List X → Result (List X × List ℕ) FrameFault → Result (List X × List ℕ) FrameFault
with_front front (Ok x) = Ok (front ++ x.0, x.1)
with_front front (Err fault) = Err fault

abbrev pub with_first : {X : Type 0} → X → Result (List X × List ℕ) FrameFault → Result (List X × List ℕ) FrameFault
with_first first (Ok x) = Ok (first ∷ x.0, x.1)
with_first first (Err fault) = Err fault

first_is : {X : Type 0} (first : X) (read : Result (List X × List ℕ) FrameFault) → go_on (λ others. done (first ∷ others)) read ≡ with_first first read
first_is first (Ok x) = refl
first_is first (Err fault) = refl

-- one more item, which is the front's last or the others' first
pub regroup : {X : Type 0} (front : List X) (item : X) (read : Result (List X × List ℕ) FrameFault) →
    with_front front (with_first item read) ≡ with_front (front ++ item ∷ []) read
regroup front item (Ok x) = ap (λ items. Ok (items, x.1)) (sym (append_assoc front (item ∷ []) x.0))
regroup front item (Err fault) = refl

module _ {X : Type 0} (r : Reader X) where
  times-suc : (n : ℕ) (bytes after : List ℕ) (item : X) → r bytes ≡ Ok (item, after) → times (suc n) r bytes ≡ with_first item (times n r after)
  unfolding times
  times-suc n bytes after item h = rw h (first_is item (times n r after))

  -- an item was read
  pub goes_on :
      (front : List X) (count i : ℕ) (bytes after : List ℕ) (item : X) (total : Result (List X × List ℕ) FrameFault) → i < count → r bytes ≡ Ok (item, after)
      → with_front front (times (count - i) r bytes) ≡ total → with_front (front ++ item ∷ []) (times (count - (i + 1)) r after) ≡ total
  goes_on front count i bytes after item total lt h so_far =
      let k : count - i ≡ suc (count - (i + 1)) = omega arith in
      let one : with_front front (times (count - i) r bytes) ≡ with_front (front ++ item ∷ []) (times (count - (i + 1)) r after) =
      rw (k, times-suc (count - (i + 1)) bytes after item h) (regroup front item (times (count - (i + 1)) r after)) in
      sym one ∙ so_far

  -- an item was not read
  pub stops :
      (front : List X) (count i : ℕ) (bytes : List ℕ) (fault : FrameFault) (total : Result (List X × List ℕ) FrameFault) → i < count → r bytes ≡ Err fault
      → with_front front (times (count - i) r bytes) ≡ total → total ≡ Err fault
  unfolding times
  stops front count i bytes fault total lt h so_far =
      let k : count - i ≡ suc (count - (i + 1)) = omega arith in
      let one : with_front front (times (count - i) r bytes) ≡ Err fault = rw (k, h) refl in
      sym so_far ∙ one

  -- all items were read
  pub is_done : (front : List X) (count i : ℕ) (bytes : List ℕ) (total : Result (List X × List ℕ) FrameFault) → count ≤ i
      → with_front front (times (count - i) r bytes) ≡ total → total ≡ Ok (front, bytes)
  unfolding times
  is_done front count i bytes total le so_far =
      let k : count - i ≡ 0 = omega arith in
      let one : with_front front (times (count - i) r bytes) ≡ Ok (front, bytes) = rw k (ap (λ items. Ok (items, bytes)) (append-nil front)) in
      sym so_far ∙ one

  -- nothing is left after it
  pub alone-ok : (old new after : List ℕ) (x : X) → r old ≡ Ok (x, new) → end new ≡ Ok (tt, after) → alone r old ≡ Ok (x, [])
  unfolding alone end
  alone-ok old [] after x h e = rw h refl
  alone-ok old (b ∷ new) after x h e = absurd cc

  pub alone-err : (old : List ℕ) (fault : FrameFault) → r old ≡ Err fault → alone r old ≡ Err fault
  unfolding alone
  alone-err old fault h = rw h refl

  pub alone-trailing : (old new : List ℕ) (x : X) (fault : FrameFault) → r old ≡ Ok (x, new) → end new ≡ Err fault → alone r old ≡ Err fault
  unfolding alone
  alone-trailing old new x fault h e = rw (h, e) refl
