-- One more body is numbered, or what was appended is taken back.
use Rattle.std.specs.Prelude.{◌≡◌, ◌+◌, ℕ, suc, List, [], ◌∷◌, ◌++◌, length, take}
use Rattle.std.proofs.Common.{◌≤◌, sym, ◌∙◌, ap, subst, arith, length-append}
use Rattle.std.proofs.Math.Seq.{take-append_seam, take-take}
use Rattle.node_names.specs.NodeName.{Name}
use Rattle.node_names.specs.declared.ids.Origin.{Origin}
use Rattle.frames.specs.Body.{Body}
use Rattle.node_core.specs.Fits.{AreFit, IsFit}
use Rattle.node_core.specs.Steps.{numbered}

-- one of those that fit fits
pub middle_fits : (xs zs : List (Name × Body)) (x : Name × Body) (all : List (Name × Body)) → xs ++ x ∷ zs ≡ all → AreFit all → IsFit x.1
middle_fits xs zs x all e fit = go xs (subst AreFit (sym e) fit)
  where
    go : (ys : List (Name × Body)) → AreFit (ys ++ x ∷ zs) → IsFit x.1
    go [] h = h.0
    go (y ∷ ys) h = go ys h.1

-- the body that comes last has the next number
pub numbered-push : (me : Origin) (framed : ℕ) (sends : List (Name × Body)) (send : Name × Body) (number : ℕ) →
    number ≡ framed + length sends →
    numbered me framed (sends ++ send ∷ []) ≡ numbered me framed sends ++ (send.0, record { sender = me; number = number + 1; body = send.1 }) ∷ []
numbered-push me framed [] send number e = ap (λ n. (send.0, record { sender = me; number = n + 1; body = send.1 }) ∷ []) (omega (arith, e))
numbered-push me framed (first ∷ sends) send number e =
    ap (λ rest. (first.0, record { sender = me; number = framed + 1; body = first.1 }) ∷ rest)
    (numbered-push me (framed + 1) sends send number (e ∙ shift framed (length sends)))
  where
    shift : (a b : ℕ) → a + suc b ≡ (a + 1) + b
    shift a b = omega arith

-- those behind others have the numbers behind theirs
pub numbered-append : (me : Origin) (framed : ℕ) (sends more : List (Name × Body)) (number : ℕ) →
    number ≡ framed + length sends →
    numbered me framed (sends ++ more) ≡ numbered me framed sends ++ numbered me number more
numbered-append me framed [] more number e = ap (λ n. numbered me n more) (omega (arith, e))
numbered-append me framed (first ∷ sends) more number e =
    ap (λ rest. (first.0, record { sender = me; number = framed + 1; body = first.1 }) ∷ rest)
    (numbered-append me (framed + 1) sends more number (e ∙ shift framed (length sends)))
  where
    shift : (a b : ℕ) → a + suc b ≡ (a + 1) + b
    shift a b = omega arith

-- what fits behind others fits
pub behind_fits : (sends more : List (Name × Body)) → AreFit (sends ++ more) → AreFit more
behind_fits [] more fit = fit
behind_fits (first ∷ sends) more fit = behind_fits sends more fit.1

-- what came before an item that was appended is still there, if the item is
pub back_within : {X : Type 0} (old more mid new : List X) → mid ≡ old ++ more → take (length mid) new ≡ mid → take (length old) new ≡ old
back_within old more mid new is_mid kept =
    sym (take-take (length old) (length mid) new within)
    ∙ ap (take (length old)) (kept ∙ is_mid)
    ∙ take-append_seam old more
  where
    within : length old ≤ length mid
    within = omega (arith, length-append old more, ap length is_mid)
