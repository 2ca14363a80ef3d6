-- The two views of a node, and what each operation makes of them.
use Rattle.std.specs.Prelude.{◌≡◌, ◌≤◌, ◌+◌, ◌%◌, ℕ, zero, suc, Bool, true, false, ◌||◌, List, [], ◌∷◌}
use Rattle.std.specs.Prelude.{◌++◌, Option, Some, None, if◌then◌else◌, nat_lt, length, find, fold}
use Rattle.std.specs.Option.{option_map_or}
use Rattle.std.specs.List.{IsDistinct}
use Rattle.node_names.specs.NodeName.{Name}
use Rattle.node_names.specs.Limits.{Limits, IsAllowed}
use Rattle.node_names.specs.Same.{same_name, has_name}
use Rattle.node_names.specs.declared.dice.Dice.{Dice}
use Rattle.views.specs.Names.{word, chosen, without, without_chosen, evicted, with_room}

-- The views of the owner, each in the order in which its names were added.
pub record Views : Type 0 where
  pub owner : Name
  pub limits : Limits
  pub active : List Name
  pub passive : List Name

-- The peers that a node may start with as its active view: they fit it, are distinct, and do not include the owner.
pub record ArePeers (owner : Name) (limits : Limits) (peers : List Name) : Type 0 where
  pub within : length peers ≤ limits.active
  pub distinct : IsDistinct same_name peers
  pub of_others : has_name peers owner ≡ false

-- Each view is within its limit, names no node twice and does not name the owner, and no name is in both.
pub record AreSound (v : Views) : Type 0 where
  pub allowed : IsAllowed v.limits
  pub active_within : length v.active ≤ v.limits.active
  pub passive_within : length v.passive ≤ v.limits.passive
  pub active_distinct : IsDistinct same_name v.active
  pub passive_distinct : IsDistinct same_name v.passive
  pub active_of_others : has_name v.active v.owner ≡ false
  pub passive_of_others : has_name v.passive v.owner ≡ false
  pub disjoint : (name : Name) → has_name v.active name ≡ true → has_name v.passive name ≡ false

-- the views at the start: the peers are active
abbrev pub fresh : Name → Limits → List Name → Views
fresh owner limits peers = record { owner = owner; limits = limits; active = peers; passive = [] }

-- whether the name is the owner's, active or passive
abbrev pub knows : Views → Name → Bool
knows v name = same_name name v.owner || (has_name v.active name || has_name v.passive name)

-- whether the active view has room for one more name
abbrev pub has_room : Views → Bool
has_room v = nat_lt (length v.active) v.limits.active

-- Add passive: a name that the views do not know is added last to the passive view, from which word 3 evicts one first
-- if it is full.
abbrev pub add_passive : Dice → Name → Views → Views
add_passive dice name v = if knows v name then v else record v { passive = with_room v.limits.passive (word dice 3) v.passive ++ name ∷ [] }

-- the name that this evicts
abbrev pub evicted_for : Dice → Name → Views → Option Name
evicted_for dice name v = if knows v name then None else evicted v.limits.passive (word dice 3) v.passive

-- Demote: an active name leaves the active view, and is added to the passive view.
abbrev pub demote : Dice → Name → Views → Views
demote dice name v = if has_name v.active name then add_passive dice name (record v { active = without name v.active }) else v

-- the active name that word 0 chooses is demoted
abbrev pub drop_active : Dice → Views → Views
drop_active dice v = option_map_or (λ name. demote dice name v) (chosen (word dice 0) v.active) v

-- room is made in the active view: if it is full, the name that word 0 chooses is demoted
abbrev pub make_room : Dice → Views → Views
make_room dice v = if has_room v then v else drop_active dice v

-- whether adding the name to the active view does nothing: it is the owner's or active
abbrev pub is_settled : Views → Name → Bool
is_settled v name = same_name name v.owner || has_name v.active name

-- the views without the name in the passive view
abbrev pub forget_passive : Name → Views → Views
forget_passive name v = record v { passive = without name v.passive }

-- the name is added last to the active view
abbrev pub put_active : Name → Views → Views
put_active name v = record v { active = v.active ++ name ∷ [] }

-- Add active: a name that is neither the owner's nor active leaves the passive view and is added last to the active
-- view, from which word 0 demotes one first if it is full.
abbrev pub add_active : Dice → Name → Views → Views
add_active dice name v = if is_settled v name then v else put_active name (make_room dice (forget_passive name v))

-- the name that this demotes
abbrev pub dropped_for : Dice → Name → Views → Option Name
dropped_for dice name v = if is_settled v name then None else evicted v.limits.active (word dice 0) v.active

-- the name leaves whichever view has it
abbrev pub forget : Name → Views → Views
forget name v = record v { active = without name v.active; passive = without name v.passive }

-- whether either view has the name
abbrev pub has_either : Views → Name → Bool
has_either v name = has_name v.active name || has_name v.passive name

-- ---- integration of a shuffle's names

-- The passive view in the course of an integration, and how many names it has evicted at random.
pub record Integration : Type 0 where
  pub views : Views
  pub evictions : ℕ

-- the name is added last to the passive view
abbrev pub put_passive : Name → Views → Views
put_passive name v = record v { passive = v.passive ++ name ∷ [] }

-- a full passive view loses the first of the sent names that it has, or else the one that the next of words 12 to 15
-- chooses
abbrev pub clear_place : List Name → Dice → Integration → Integration
clear_place sent dice i =
    option_map_or
    (λ gone. record i { views = forget_passive gone i.views })
    (find (has_name i.views.passive) sent)
    (record { views = record i.views { passive = without_chosen (word dice (12 + i.evictions % 4)) i.views.passive }; evictions = i.evictions + 1 })

-- a name that the views do not know is added to the passive view, after a place is cleared if it is full
abbrev pub integrate_one : List Name → Dice → Integration → Name → Integration
integrate_one sent dice i name =
    if knows i.views name then i
    else (
    let roomy = if nat_lt (length i.views.passive) i.views.limits.passive then i else clear_place sent dice i in
    record roomy { views = put_passive name roomy.views })

-- Integrate: each of the names that the views do not know is added to the passive view, in turn. If it is full, the
-- names that were sent leave it first.
abbrev pub integrate : List Name → List Name → Dice → Views → Views
integrate names sent dice v = (fold (integrate_one sent dice) (record { views = v; evictions = 0 }) names).views
