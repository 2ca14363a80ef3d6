-- The news of a step.
use Rattle.std.proofs.Common.{◌≡◌, ◌∙◌, ◌++◌, ◌&&◌, Bool, true, false, List, [], ◌∷◌, Option, None, Some, ap, refl, subst, sym}
use Rattle.std.specs.Prelude.{if◌then◌else◌}
use Rattle.std.specs.List.{flat_map}
use Rattle.std.proofs.lemmas.Bool.{false≢true, or_left, or_right}
use Rattle.std.proofs.lemmas.List.{append-nil}
use Rattle.node_names.specs.NodeName.{Name}
use Rattle.node_names.specs.Same.{has_name, same_name, same_name-Decides}
use Rattle.protocol.specs.SameNames.{SameNames}
use Rattle.protocol.specs.Stimulus.{Stimulus}
use Rattle.frames.specs.Frame.{Frame}
use Rattle.node_core.specs.News.{Change, Telling, all_news, arrival_of, changes, departure_of, farewell_of, last_news, news_of, turn_of}
use Rattle.node_core.specs.declared.news.Farewell.{Farewell}
use Rattle.node_core.specs.declared.news.News.{News}

-- The step's news wait behind those before it, if steps are told of.
pub record TellsOf (s : Stimulus Frame) (old : Telling) (before : List Name) (new : Telling) (after : List Name) : Type 0 where
  pub tells : all_news new after ≡ all_news old before ++ (if old.tells then news_of s before after else [])
  pub goes_on : new.tells ≡ old.tells

-- ---- a view that has the same names tells nothing

has_first : (name : Name) (names : List Name) → has_name (name ∷ names) name ≡ true
has_first name names = or_left (same_name name name) (has_name names name) ((same_name-Decides name name).1 refl)

has_more : (other : Name) (names : List Name) (name : Name) → has_name names name ≡ true → has_name (other ∷ names) name ≡ true
has_more other names name h = or_right (same_name name other) (has_name names name) h

empty_if : {X : Type 0} (b : Bool) (xs : List X) → b ≡ true → (if b then [] else xs) ≡ []
empty_if true xs e = refl
empty_if false xs e = absurd (false≢true e)

none_gone : (farewell : Option Farewell) (after names : List Name) →
    ((name : Name) → has_name names name ≡ true → has_name after name ≡ true) →
    flat_map (departure_of farewell after) names ≡ []
none_gone farewell after [] all = refl
none_gone farewell after (name ∷ names) all =
    ap (λ (l : List News). l ++ flat_map (departure_of farewell after) names) (empty_if (has_name after name) _ (all name (has_first name names)))
    ∙ none_gone farewell after names (λ n h. all n (has_more name names n h))

none_came : (before names : List Name) → ((name : Name) → has_name names name ≡ true → has_name before name ≡ true) → flat_map (arrival_of before) names ≡ []
none_came before [] all = refl
none_came before (name ∷ names) all =
    ap (λ (l : List News). l ++ flat_map (arrival_of before) names) (empty_if (has_name before name) _ (all name (has_first name names)))
    ∙ none_came before names (λ n h. all n (has_more name names n h))

no_turn : (before after : List Name) → SameNames before after → turn_of before after ≡ []
no_turn [] [] same = refl
no_turn [] (name ∷ names) same = absurd (false≢true (same name ∙ has_first name names))
no_turn (name ∷ names) [] same = absurd (false≢true (sym (same name) ∙ has_first name names))
no_turn (name ∷ names) (other ∷ others) same = refl

no_changes : (farewell : Option Farewell) (before after : List Name) → SameNames before after → changes farewell before after ≡ []
no_changes farewell before after same =
    ap (λ (l : List News). l ++ (flat_map (arrival_of before) after ++ turn_of before after)) (none_gone farewell after before (λ n h. sym (same n) ∙ h))
    ∙ ap (λ (l : List News). l ++ turn_of before after) (none_came before after (λ n h. same n ∙ h))
    ∙ no_turn before after same

-- ---- what is kept of a step tells its news

-- what is kept of a step, where it is told of and moves the view
abbrev pub kept_of : Bool → Bool → Stimulus Frame → List Name → Option Change
kept_of tells moved s before = if tells && moved then Some (record { before = before; farewell = farewell_of s }) else None

last_is : (tells moved : Bool) (s : Stimulus Frame) (before after : List Name) → (moved ≡ false → SameNames before after)
    → last_news (kept_of tells moved s before) after ≡ (if tells then news_of s before after else [])
last_is false moved s before after same = refl
last_is true true s before after same = refl
last_is true false s before after same = sym (no_changes (farewell_of s) before after (same refl))

pub tells_of : (s : Stimulus Frame) (old new : Telling) (change : Option Change) (moved : Bool) (before after : List Name)
    → old.last ≡ None → change ≡ kept_of old.tells moved s before → new ≡ record old { last = change } → (moved ≡ false → SameNames before after)
    → TellsOf s old before new after
tells_of s old new change moved before after none kept is same =
    subst (λ (t : Telling). TellsOf s old before t after) (sym is)
    (record {
      tells =
          ap (λ (c : Option Change). old.news ++ last_news c after) kept
          ∙ ap (λ (l : List News). old.news ++ l) (last_is old.tells moved s before after same)
          ∙ ap (λ (l : List News). l ++ (if old.tells then news_of s before after else []))
          (sym (ap (λ (c : Option Change). old.news ++ last_news c before) none ∙ append-nil old.news));
      goes_on = refl;
    })

-- ---- news that are worked out

-- they are the same news
pub settled_news : (old new : Telling) (active : List Name) →
    new ≡ record { tells = old.tells; news = all_news old active; last = None } →
    all_news new active ≡ all_news old active
settled_news old new active is = ap (λ (t : Telling). all_news t active) is ∙ append-nil (all_news old active)
