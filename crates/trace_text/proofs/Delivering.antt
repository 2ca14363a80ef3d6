-- Which runs have delivered a message.
use Rattle.std.proofs.Common.{◌≡◌, ◌∙◌, ◌+◌, ◌<◌, ℕ, List, [], ◌∷◌, ◌++◌, get_or, length, take, true, false, ap, refl, sym, if◌then◌else◌}
use Rattle.std.specs.List.{list_any}
use Rattle.std.specs.Prelude.{◌||◌, Bool, Option, Some, None, cond}
use Rattle.std.proofs.lemmas.List.{take_more}
use Rattle.std.proofs.lemmas.List.Folds.{list_any-append}
use Rattle.node_names.specs.Same.{same_origin}
use Rattle.node_names.specs.declared.ids.Origin.{Origin}
use Rattle.node_core.specs.Plum.{Plum}
use Rattle.at_rest.specs.declared.branch.Branch.{Branch}
use Rattle.trace_text.specs.Ends.{lacking_line, lacking_unless, lacks_line}

-- a set that has the run of one branch more
pub runs-more : (branches : List Branch) (i : ℕ) (branch : Branch) (run : Origin) (old new : Bool) →
    i < length branches →
    branch ≡ get_or branches i branch →
    old ≡ list_any (λ b. same_origin b.node run) (take i branches) →
    new ≡ cond (same_origin branch.node run) true old →
    new ≡ list_any (λ b. same_origin b.node run) (take (i + 1) branches)
runs-more branches i branch run old new within at before after =
    after
    ∙ either (same_origin branch.node run) old
    ∙ ap (λ (b : Bool). b || (same_origin branch.node run || false)) before
    ∙ sym (list_any-append (λ (b : Branch). same_origin b.node run) (take i branches) (branch ∷ []))
    ∙ sym
    (ap (list_any (λ (b : Branch). same_origin b.node run)) (take_more branches i branch within ∙ ap (λ (b : Branch). take i branches ++ b ∷ []) (sym at)))
  where
    either : (b a : Bool) → cond b true a ≡ (a || (b || false))
    either true true = refl
    either true false = refl
    either false true = refl
    either false false = refl

-- the line of a node, by whether one of the branches is that of its run
pub lacking_is : (branches : List Branch) (node : Origin) (core : Option Plum) (delivered : Bool) →
    delivered ≡ list_any (λ b. same_origin b.node node) branches →
    lacking_unless delivered node core ≡ lacking_line branches node core
lacking_is branches node None delivered is = refl
lacking_is branches node (Some core) delivered is = ap (λ (b : Bool). if b then [] else lacks_line node) is
