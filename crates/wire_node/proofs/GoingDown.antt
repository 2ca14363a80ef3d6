-- Names that go down one after the other.
use Rattle.std.proofs.Common.{◌≡◌, ◌<◌, ◌≤◌, ◌+◌, ℕ, Bool, true, false, List, [], ◌∷◌, ◌++◌, All, length, map, take, refl, ap, sym, subst, ◌∙◌}
use Rattle.std.proofs.Common.{append_assoc, arith, inl, inr}
use Rattle.std.specs.Prelude.{get_or, if◌then◌else◌}
use Rattle.std.proofs.lemmas.List.{append-nil, length-append, map-append, take_more}
use Rattle.std.proofs.lemmas.List.Elements.{All-head, All-tail}
use Rattle.node_names.specs.NodeName.{Name}
use Rattle.node_names.specs.Same.{same_name}
use Rattle.node_names.specs.declared.dice.Dice.{Dice}
use Rattle.node_names.specs.declared.ids.MsgId.{MsgId}
use Rattle.protocol.specs.declared.stimulus.StimulusOf.TheVariants.{Fire}
use Rattle.wire_node.specs.Acting.{GoDown, GoesDown, IsOverfull, Machine}
use Rattle.wire_node.specs.Moving.{Engine, Move, Moves, MovesAll, Relieves, firing}
use Rattle.wire_node.specs.Waiting.{Waiting, settled_for}
use Rattle.wire_node.proofs.Taking.{moves_one, moves_then}

-- So many names went down so far.
pub record Relieving (limit : ℕ) (old : Machine) (lost : List Name) (dice : Dice) (new : Machine) (lost' : List Name) (count : ℕ) : Type 0 where
  pub names : List Name
  pub downs : GoDown limit old names dice new
  pub noted : lost' ≡ lost ++ names
  pub counted : length names ≡ count

-- none
pub relieving_none : (limit : ℕ) (old : Machine) (lost : List Name) (dice : Dice) → Relieving limit old lost dice old lost 0
relieving_none limit old lost dice = record { names = []; downs = refl; noted = sym (append-nil lost); counted = refl }

down_more : (limit : ℕ) (old : Machine) (names : List Name) (dice : Dice) (mid : Machine) (name : Name) (new : Machine) →
    GoDown limit old names dice mid →
    IsOverfull limit mid name →
    GoesDown mid name dice new →
    GoDown limit old (names ++ name ∷ []) dice new
down_more limit old [] dice mid name new downs full down =
    (new, subst (λ m. IsOverfull limit m name) (sym downs) full, subst (λ m. GoesDown m name dice new) (sym downs) down, refl)
down_more limit old (n ∷ names) dice mid name new downs full down =
    (downs.0, downs.1, downs.2, down_more limit downs.0 names dice mid name new downs.3 full down)

-- one more
pub relieving_more : (limit : ℕ) (old : Machine) (lost : List Name) (dice : Dice) (mid : Machine) (lost' : List Name)
    (count : ℕ) (name : Name) (new : Machine) (lost'' : List Name)
    → Relieving limit old lost dice mid lost' count → IsOverfull limit mid name → GoesDown mid name dice new → lost'' ≡ lost' ++ name ∷ []
    → Relieving limit old lost dice new lost'' (count + 1)
relieving_more limit old lost dice mid lost' count name new lost'' r full down noted = record {
  names = r.names ++ name ∷ [];
  downs = down_more limit old r.names dice mid name new r.downs full down;
  noted = noted ∙ ap (λ (l : List Name). l ++ name ∷ []) r.noted ∙ append_assoc lost r.names (name ∷ []);
  counted = length-append r.names (name ∷ []) ∙ ap (λ (n : ℕ). n + 1) r.counted;
}

-- for none more than the limit waits
pub relieved_all : (limit : ℕ) (old : Machine) (lost : List Name) (dice : Dice) (new : Machine) (lost' : List Name) (count : ℕ)
    → Relieving limit old lost dice new lost' count → ((name : Name) → length (settled_for new.waiting name) ≤ limit)
    → Relieves limit old lost dice new lost' false
relieved_all limit old lost dice new lost' count r few =
    record { names = r.names; downs = r.downs; noted = r.noted; until = λ _. inl few; refused = λ e. absurd cc }

-- as many went down as there were
pub relieved_many : (limit : ℕ) (old : Machine) (lost : List Name) (dice : Dice) (new : Machine) (lost' : List Name) (count : ℕ)
    → Relieving limit old lost dice new lost' count → count ≡ length old.waiting → Relieves limit old lost dice new lost' false
relieved_many limit old lost dice new lost' count r all =
    record { names = r.names; downs = r.downs; noted = r.noted; until = λ _. inr (r.counted ∙ all); refused = λ e. absurd cc }

-- the step of one was refused
pub relieved_some : (limit : ℕ) (old : Machine) (lost : List Name) (dice : Dice) (new : Machine) (lost' : List Name) (count : ℕ) (name : Name)
    → Relieving limit old lost dice new lost' count → IsOverfull limit new name → Relieves limit old lost dice new lost' true
relieved_some limit old lost dice new lost' count name r full =
    record { names = r.names; downs = r.downs; noted = r.noted; until = λ e. absurd cc; refused = λ _. (name, full) }

-- where too much is kept for none, too much waits for none
pub few_for : (limit : ℕ) (ws : List Waiting) → All (λ (w : Waiting). length w.settled ≤ limit) ws → (name : Name) → length (settled_for ws name) ≤ limit
few_for limit [] all name = omega arith
few_for limit (w ∷ ws) all name =
    go (same_name name w.name) (few_for limit ws (All-tail (λ (v : Waiting). length v.settled ≤ limit) w ws all) name)
  where
    go : (b : Bool) → length (settled_for ws name) ≤ limit → length (if b then w.settled else settled_for ws name) ≤ limit
    go true more = All-head (λ (v : Waiting). length v.settled ≤ limit) w ws all
    go false more = more

-- one more timer fires
pub fires_more : (old : Engine) (dice : Dice) (ids : List MsgId) (i : ℕ) (id : MsgId) (mid new : Engine) →
    i < length ids →
    id ≡ get_or ids i id →
    MovesAll old (map (firing dice) (take i ids)) mid →
    Moves mid (Fire id) dice new
    → MovesAll old (map (firing dice) (take (i + 1) ids)) new
fires_more old dice ids i id mid new within at run step =
    subst (λ (moves : List Move). MovesAll old moves new)
    (sym (ap (λ (some : List MsgId). map (firing dice) some) (take_more ids i id within ∙ ap (λ x. take i ids ++ x ∷ []) (sym at))
    ∙ map-append (firing dice) (take i ids) (id ∷ [])))
    (moves_then old (map (firing dice) (take i ids)) (firing dice id ∷ []) mid new run (moves_one mid (firing dice id) new step))
