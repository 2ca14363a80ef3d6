-- The frame that was taken is the first that was seen.
use Rattle.std.proofs.Common.{◌≡◌, ◌∙◌, ◌++◌, ◌∷◌, [], ℕ, List, ap, append_assoc, rules, sym}
use Rattle.rtrb.specs.Ring.{received}
use Rattle.node_threads.specs.Outlet.{Tap}
use Rattle.node_threads.proofs.cell.outlet.Tap.pop.Goals as goal

-- lists that are equal begin alike
begin_same : (x y : List ℕ) (xs ys : List (List ℕ)) → x ∷ xs ≡ y ∷ ys → x ≡ y
begin_same x y xs ys is = cc

pub returns-clause-seen : goal.returns-clause-seen
returns-clause-seen g c item is =
    let taken : List ℕ = c.pop_known-frame.result in
    let ahead : List (List ℕ) = c.pop_known-frame.new.self.end.ahead in
    let more = c.slots.ensures.looked.2 in
    let first = c.peek_known.ensures in
    let heads : (c.peek_known.result.now ∷ []) ++ first.0 ≡ taken ∷ ahead = first.1 ∙ c.pop_known-frame.ensures.received.1 in
    let same : c.in_ok-bytes.bytes ≡ item = cc in
    let its : taken ≡ item = sym (begin_same c.peek_known.result.now taken first.0 ahead heads) ∙ sym c.in_ok-bytes.ensures.value ∙ same in (
      more.0,
      ap (λ seen. seen ++ more.0) (sym (ap (λ (t : Tap). t.seen) c.self.view_is))
          ∙ more.1
          ∙ c.pop_known-frame.ensures.received.1
          ∙ ap (λ frame. frame ∷ ahead) its,
    )

pub invariant_of-self-2 : goal.invariant_of-self-2
invariant_of-self-2 g c =
    let before = c.self.invariant.0 in
    let all = c.self.inside.given.items in
    let frame : List ℕ = c.pop_known-frame.result in
    let got : received c.pop_known-frame.new.self ≡ received c.self.inside.ring ++ frame ∷ [] = search rules in
    let pushed : c.push.new.self.items ≡ all ++ frame ∷ [] = search rules in (
      before,
      got
          ∙ ap (λ fs. fs ++ frame ∷ []) c.self.invariant.1
          ∙ append_assoc before all (frame ∷ [])
          ∙ ap (λ fs. before ++ fs) (sym pushed),
    )
