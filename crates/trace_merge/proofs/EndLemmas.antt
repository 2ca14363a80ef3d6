-- How merging begins and ends.
use Rattle.std.proofs.Common.{◌≡◌, ◌∙◌, ℕ, zero, suc, List, [], ◌∷◌, ap, length, refl, subst, sym}
use Rattle.std.specs.List.{AllByRecursion as Each}
use Rattle.std.specs.Prelude.{Option, Some, None, replicate, slice_get}
use Rattle.std.proofs.Math.Seq.{take-length}
use Rattle.node_names.specs.Limits.{Limits}
use Rattle.protocol.specs.Trace.{Trace}
use Rattle.world.specs.Group.{Logged}
use Rattle.world.specs.Headline.{Headline}
use Rattle.frames.specs.Content.{frame_content}
use Rattle.frames.specs.Frame.{Frame}
use Rattle.node_core.specs.Plum.{Plum, plum_state}
use Rattle.trace_merge.specs.Held.{AreOut}
use Rattle.trace_merge.specs.Merging.{AreDistinct, IsMerged, IsMerging, IsOut, Merge, Stands, cut, place_at}
use Rattle.trace_merge.specs.Projection.{projection_in}

-- no trace is started yet
none_at : (n i : ℕ) → place_at (replicate n None) i ≡ None
none_at zero i = refl
none_at (suc n) zero = refl
none_at (suc n) (suc i) = none_at n i

count_of : (n : ℕ) → length (replicate {A = Option ℕ} n None) ≡ n
count_of zero = refl
count_of (suc n) = ap suc (count_of n)

-- a group without nodes
abbrev pub nobody : Limits → Logged Plum Frame
nobody limits = record { limits = limits; group = record { nodes = []; sent = []; flight = [] }; log = [] }

-- nothing is played yet
pub begins : (limits : Limits) (traces : List (Trace Frame)) →
    IsMerging limits traces (record { world = nobody limits; events = []; places = replicate (length traces) None; frames = [] })
begins limits traces = record {
  same_limits = refl;
  ran = record { no_nodes = refl; nothing_sent = refl; nothing_in_flight = refl };
  of_events = refl;
  kept = tt;
  started = tt;
  counted = count_of (length traces);
  stands = λ i t at. subst (Stands limits (nobody limits) t) (sym (none_at (length traces) i)) refl;
  later = λ i j k s t at_i at_j same waits goes. (let no : None ≡ Some k = sym (none_at (length traces) j) ∙ goes in cc);
  known = λ name node is. (let no : None ≡ Some node = is in cc);
  in_sent = λ i k t send at goes one. (let no : None ≡ Some k = sym (none_at (length traces) i) ∙ goes in cc);
  sent_by = λ packet one. absurd one;
  found = record { found = λ packet one. absurd one; told = λ id n is. (let no : None ≡ Some n = is in cc) };
}

-- what holds at each place of a list holds of each of it
pub each_at : {X : Type 0} (P : X → Type 0) (xs : List X) → ((i : ℕ) (x : X) → slice_get xs i ≡ Some x → P x) → Each P xs
each_at P [] h = tt
each_at P (x ∷ xs) h = (h 0 x refl, each_at P xs (λ i y at. h (suc i) y at))

-- all is played
pub ends : (limits : Limits) (traces : List (Trace Frame)) (m : Merge) →
    AreDistinct traces →
    IsMerging limits traces m →
    AreOut traces m.places →
    Headline plum_state frame_content m.world →
    IsMerged limits traces m.events
ends limits traces m distinct mm out headline = record {
  distinct = distinct;
  world = m.world;
  same_limits = mm.same_limits;
  ran = mm.ran;
  of_events = mm.of_events;
  headline = headline;
  kept = mm.kept;
  started = mm.started;
  projected =
      each_at (λ (t : Trace Frame). projection_in t.origin m.world ≡ Some t) traces (λ i t at. whole t (place_at m.places i) (mm.stands i t at) (out i t at));
}
  where
    whole : (t : Trace Frame) (p : Option ℕ) → Stands limits m.world t p → IsOut t p → projection_in t.origin m.world ≡ Some t
    whole t None stands over = absurd over
    whole t (Some k) stands over =
        stands.1 ∙ ap (λ n. Some (cut n t)) over ∙ ap (λ steps. Some (record t { steps = steps })) (take-length t.steps)
