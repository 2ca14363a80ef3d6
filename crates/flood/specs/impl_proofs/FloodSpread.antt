-- The flooding core sends a message to each of its peers but the one that is left out, once each: proofs, with nothing
-- to take on trust.
use Rattle.std.specs.Prelude.{◌≡◌, ◌+◌, ◌&&◌, ◌||◌, ℕ, Bool, true, false, not, cond, List, [], ◌∷◌, Option, map, count_by, refl}
use Rattle.std.specs.List.{AllByRecursion as Each, IsDistinct}
use Rattle.std.proofs.Common.{sym, ◌∙◌, ap, subst, add-zero, zero-add}
use Rattle.std.proofs.lemmas.Bool.{false≢true, true≢false}
use Rattle.std.proofs.lemmas.List.Sums.{sum_by-cons}
use Rattle.std.proofs.lemmas.Map.Keys.{IsDistinct-head, IsDistinct-tail}
use Rattle.std.proofs.lemmas.Map.Views.{any-filter_same}
use Rattle.node_names.specs.NodeName.{Name}
use Rattle.node_names.specs.Same.{same_name, has_name, same_name-Decides, is_left_out}
use Rattle.node_names.specs.declared.ids.MsgId.{MsgId}
use Rattle.protocol.specs.impl_proofs.NameLists.{and_true, lacks_from_each, distinct-filter}
use Rattle.protocol.specs.impl_proofs.Held.{same_id-refl}
use Rattle.protocol.specs.SpreadLaw.{GetsShare, packets_carrying, entries_queued, is_carried, is_from}
use Rattle.protocol.specs.Stimulus.{Stimulus}
use Rattle.flood.specs.FloodCore.{Flooding, Message, flood_state, note_content, note_to, others}

-- among the packets to these names, a name gets one for each time that it is there
carries_to_each : (id : MsgId) (payload : List ℕ) (name : Name) (names : List Name) →
    packets_carrying note_content id name (map (note_to id payload) names) ≡ count_by (same_name name) names
carries_to_each id payload name [] = refl
carries_to_each id payload name (other ∷ names) =
    sum_by-cons (λ send. cond (same_name name send.0 && is_carried id (note_content send.1).carried) 1 0)
    (note_to id payload other) (map (note_to id payload) names)
    ∙ ap (λ b. cond (same_name name other && b) 1 0 + packets_carrying note_content id name (map (note_to id payload) names)) (same_id-refl id)
    ∙ ap (λ b. cond b 1 0 + packets_carrying note_content id name (map (note_to id payload) names)) (and_true (same_name name other))
    ∙ ap (λ n. cond (same_name name other) 1 0 + n) (carries_to_each id payload name names)
    ∙ sym (sum_by-cons (λ x. cond (same_name name x) 1 0) other names)

-- a name that is first among distinct ones is not there once more
lacks_the_first : (name other : Name) (names : List Name) → IsDistinct same_name (other ∷ names) → same_name name other ≡ true → has_name names name ≡ false
lacks_the_first name other names distinct same =
    lacks_from_each name names (subst (λ n. Each (λ later. same_name n later ≡ false) names)
    (sym ((same_name-Decides name other).0 same)) (IsDistinct-head same_name other names distinct))

-- among distinct names a name is once or not at all
counts_once : (name : Name) (names : List Name) → IsDistinct same_name names → count_by (same_name name) names ≡ cond (has_name names name) 1 0
counts_once name [] distinct = refl
counts_once name (other ∷ names) distinct =
    sum_by-cons (λ x. cond (same_name name x) 1 0) other names
    ∙ go (same_name name other) (has_name names name) (lacks_the_first name other names distinct)
    (counts_once name names (IsDistinct-tail same_name other names distinct))
  where
    go : (same has : Bool) →
        (same ≡ true → has ≡ false) →
        count_by (same_name name) names ≡ cond has 1 0 →
        cond same 1 0 + count_by (same_name name) names ≡ cond (same || has) 1 0
    go true true apart counted = absurd (true≢false (apart refl))
    go true false apart counted = ap (λ n. 1 + n) counted
    go false has apart counted = zero-add (count_by (same_name name) names) ∙ counted

-- the names but for the one that is left out have each other name as before
has_others : (left_out : Option Name) (names : List Name) (name : Name) →
    has_name (others left_out names) name ≡ (not (is_left_out left_out name) && has_name names name)
has_others left_out names name =
    any-filter_same (same_name name) (λ other. not (is_left_out left_out other)) (not (is_left_out left_out name))
    (λ other same. ap (λ n. not (is_left_out left_out n)) (sym ((same_name-Decides name other).0 same))) names

module _ (id : MsgId) (payload : List ℕ) (left_out : Option Name) (core : Flooding) (distinct : IsDistinct same_name core.peers) where
  -- each name gets one packet if it is a peer and not left out, and else none
  counts_packets : (name : Name) →
      packets_carrying note_content id name (map (note_to id payload) (others left_out core.peers)) + entries_queued id name []
      ≡ cond (not (is_left_out left_out name) && has_name core.peers name) 1 0
  counts_packets name =
      add-zero (packets_carrying note_content id name (map (note_to id payload) (others left_out core.peers)))
      ∙ carries_to_each id payload name (others left_out core.peers)
      ∙ counts_once name (others left_out core.peers) (distinct-filter (λ other. not (is_left_out left_out other)) core.peers distinct)
      ∙ ap (λ b. cond b 1 0) (has_others left_out core.peers name)

  -- so where the sender of the packet that came is left out, each name gets its share
  pub gets_share : (stimulus : Stimulus Message) (name : Name) →
      is_from name stimulus ≡ is_left_out left_out name →
      GetsShare note_content stimulus (map (note_to id payload) (others left_out core.peers)) (flood_state core) id name
  gets_share stimulus name from =
      record {
        one = λ member not_from. counts_packets name ∙ sent_to (is_left_out left_out name) (has_name core.peers name) (sym from ∙ not_from) member;
        none_to_strangers = λ stranger. counts_packets name ∙ not_to_strangers (is_left_out left_out name) (has_name core.peers name) stranger;
        none_back = λ back. counts_packets name ∙ not_back (is_left_out left_out name) (has_name core.peers name) (sym from ∙ back);
      }
    where
      sent_to : (left has : Bool) → left ≡ false → has ≡ true → ◌≡◌ {A = ℕ} (cond (not left && has) 1 0) 1
      sent_to true has l h = absurd (true≢false l)
      sent_to false true l h = refl
      sent_to false false l h = absurd (false≢true h)

      not_to_strangers : (left has : Bool) → has ≡ false → ◌≡◌ {A = ℕ} (cond (not left && has) 1 0) 0
      not_to_strangers true has h = refl
      not_to_strangers false true h = absurd (true≢false h)
      not_to_strangers false false h = refl

      not_back : (left has : Bool) → left ≡ true → ◌≡◌ {A = ℕ} (cond (not left && has) 1 0) 0
      not_back true has l = refl
      not_back false has l = absurd (false≢true l)
