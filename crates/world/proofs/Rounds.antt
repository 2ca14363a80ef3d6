-- Announcements that are as many as the queued entries at each round are as many in all.
use Rattle.std.proofs.Common.{◌≡◌, ◌∙◌, ◌+◌, ◌≤◌, ℕ, suc, List, [], ◌∷◌, ◌++◌, length, true, false, sym, ap, refl, arith}
use Rattle.std.specs.List.{sum_by}
use Rattle.std.specs.Prelude.{◌&&◌, ◌==◌, Bool, cond}
use Rattle.std.proofs.lemmas.Bool.{eq-eqb, eqb-true}
use Rattle.std.proofs.lemmas.List.{length-append}
use Rattle.std.proofs.lemmas.List.Sums.{sum_by-cons}
use Rattle.node_names.specs.NodeName.{Name}
use Rattle.node_names.specs.Same.{same_id, same_name}
use Rattle.node_names.specs.declared.ids.MsgId.{MsgId}
use Rattle.protocol.specs.Content.{Content}
use Rattle.protocol.specs.QueueLaw.{announcements, times_announced, times_queued}
use Rattle.protocol.specs.SpreadLaw.{entries_queued}
use Rattle.world.specs.Traffic.{entries_announced}

-- ---- lists of numbers

-- how often the number is in the list
abbrev often : ℕ → List ℕ → ℕ
often r [] = 0
often r (x ∷ xs) = cond {A = ℕ} (r == x) 1 0 + often r xs

-- the list without the number where it stands first
abbrev without : ℕ → List ℕ → List ℕ
without r [] = []
without r (x ∷ xs) = cond (r == x) xs (x ∷ without r xs)

-- a number is found in the list once more than without it, and every other one as often
often_without : (r s : ℕ) (xs : List ℕ) → 1 ≤ often r xs → often s xs ≡ cond {A = ℕ} (s == r) 1 0 + often s (without r xs)
often_without r s [] some = absurd (omega arith)
often_without r s (x ∷ xs) some = go (r == x) refl some (often_without r s xs)
  where
    go : (b : Bool) →
        (r == x) ≡ b →
        1 ≤ cond {A = ℕ} b 1 0 + often r xs →
        (1 ≤ often r xs → often s xs ≡ cond {A = ℕ} (s == r) 1 0 + often s (without r xs)) →
        cond {A = ℕ} (s == x) 1 0 + often s xs ≡ cond {A = ℕ} (s == r) 1 0 + often s (cond b xs (x ∷ without r xs))
    go true same more later = let is : x ≡ r = sym (eqb-true r x same) in ap (λ y. cond {A = ℕ} (s == y) 1 0 + often s xs) is
    go false apart more later =
        let some_left : 1 ≤ often r xs = omega arith in
        let rest : often s xs ≡ cond {A = ℕ} (s == r) 1 0 + often s (without r xs) = later some_left in
        let all : cond {A = ℕ} (s == x) 1 0 + often s xs ≡ cond {A = ℕ} (s == r) 1 0 + (cond {A = ℕ} (s == x) 1 0 + often s (without r xs)) = omega arith in
        all

-- and the list is longer by one than without it
length_without : (r : ℕ) (xs : List ℕ) → 1 ≤ often r xs → length xs ≡ suc (length (without r xs))
length_without r [] some = absurd (omega arith)
length_without r (x ∷ xs) some = go (r == x) some (length_without r xs)
  where
    go : (b : Bool) →
        1 ≤ cond {A = ℕ} b 1 0 + often r xs →
        (1 ≤ often r xs → length xs ≡ suc (length (without r xs))) →
        length (x ∷ xs) ≡ suc (length (cond b xs (x ∷ without r xs)))
    go true more later = refl
    go false more later = let some_left : 1 ≤ often r xs = omega arith in ap suc (later some_left)

-- a list in which every number is as often as in another is no longer
as_many : (xs ys : List ℕ) → ((r : ℕ) → often r xs ≡ often r ys) → length xs ≤ length ys
as_many [] ys same = omega arith
as_many (x ∷ xs) ys same =
    let here : cond {A = ℕ} (x == x) 1 0 ≡ 1 = ap (λ b. cond {A = ℕ} b 1 0) (eq-eqb x x refl) in
    let this : cond {A = ℕ} (x == x) 1 0 + often x xs ≡ often x ys = same x in
    let some : 1 ≤ often x ys = omega arith in
    let rest : length xs ≤ length (without x ys) = as_many xs (without x ys) (λ r. (
    let one : cond {A = ℕ} (r == x) 1 0 + often r xs ≡ often r ys = same r in
    let other : often r ys ≡ cond {A = ℕ} (r == x) 1 0 + often r (without x ys) = often_without x r ys some in
    let equal : often r xs ≡ often r (without x ys) = omega arith in
    equal)) in
    let longer : length ys ≡ suc (length (without x ys)) = length_without x ys some in
    let all : suc (length xs) ≤ length ys = omega arith in
    all

-- a number is in both lists together as often as in the two
often_both : (r : ℕ) (xs ys : List ℕ) → often r (xs ++ ys) ≡ often r xs + often r ys
often_both r [] ys = let same : often r ys ≡ 0 + often r ys = omega arith in same
often_both r (x ∷ xs) ys =
    let later : often r (xs ++ ys) ≡ often r xs + often r ys = often_both r xs ys in
    let all : cond {A = ℕ} (r == x) 1 0 + often r (xs ++ ys) ≡ (cond {A = ℕ} (r == x) 1 0 + often r xs) + often r ys = omega arith in
    all

-- ---- the rounds of announcements and of queued entries

-- the rounds at which the entries announce the message
abbrev rounds : MsgId → List (MsgId × ℕ) → List ℕ
rounds id [] = []
rounds id (entry ∷ entries) = cond (same_id id entry.0) (entry.1 ∷ rounds id entries) (rounds id entries)

rounds_often : (id : MsgId) (r : ℕ) (entries : List (MsgId × ℕ)) → often r (rounds id entries) ≡ times_announced id r entries
rounds_often id r [] = refl
rounds_often id r (entry ∷ entries) =
    go (same_id id entry.0) (rounds_often id r entries) ∙ sym (sum_by-cons (λ (e : MsgId × ℕ). cond {A = ℕ} (same_id id e.0 && (r == e.1)) 1 0) entry entries)
  where
    go : (b : Bool) →
        often r (rounds id entries) ≡ times_announced id r entries →
        often r (cond b (entry.1 ∷ rounds id entries) (rounds id entries)) ≡ cond {A = ℕ} (b && (r == entry.1)) 1 0 + times_announced id r entries
    go true later = ap (λ n. cond {A = ℕ} (r == entry.1) 1 0 + n) later
    go false later = let same : often r (rounds id entries) ≡ 0 + times_announced id r entries = omega arith in same

rounds_length : (id : MsgId) (entries : List (MsgId × ℕ)) → length (rounds id entries) ≡ entries_announced id entries
rounds_length id [] = refl
rounds_length id (entry ∷ entries) =
    go (same_id id entry.0) (rounds_length id entries) ∙ sym (sum_by-cons (λ (e : MsgId × ℕ). cond {A = ℕ} (same_id id e.0) 1 0) entry entries)
  where
    go : (b : Bool) →
        length (rounds id entries) ≡ entries_announced id entries →
        length (cond b (entry.1 ∷ rounds id entries) (rounds id entries)) ≡ cond {A = ℕ} b 1 0 + entries_announced id entries
    go true later = let same : suc (length (rounds id entries)) ≡ 1 + entries_announced id entries = omega arith in same
    go false later = let same : length (rounds id entries) ≡ 0 + entries_announced id entries = omega arith in same

-- how many entries in the packets to the name announce the message
abbrev pub announced_to : {N : Type 0} → (N → Content) → MsgId → Name → List (Name × N) → ℕ
announced_to {N} content id to sends = sum_by (λ (send : Name × N). cond (same_name to send.0) (entries_announced id (content send.1).announced) 0) sends

-- the rounds at which they do
abbrev sent_rounds : {N : Type 0} → (N → Content) → MsgId → Name → List (Name × N) → List ℕ
sent_rounds content id to [] = []
sent_rounds content id to (send ∷ sends) = cond (same_name to send.0) (rounds id (content send.1).announced) [] ++ sent_rounds content id to sends

sent_often : {N : Type 0} (content : N → Content) (id : MsgId) (to : Name) (r : ℕ) (sends : List (Name × N)) →
    often r (sent_rounds content id to sends) ≡ announcements content to id r sends
sent_often content id to r [] = refl
sent_often {N} content id to r (send ∷ sends) =
    let both : often r (sent_rounds content id to (send ∷ sends))
    ≡ often r (cond (same_name to send.0) (rounds id (content send.1).announced) []) + often r (sent_rounds content id to sends) =
    often_both r (cond (same_name to send.0) (rounds id (content send.1).announced) []) (sent_rounds content id to sends) in
    let here : often r (cond (same_name to send.0) (rounds id (content send.1).announced) [])
    ≡ cond (same_name to send.0) (times_announced id r (content send.1).announced) 0 =
    go (same_name to send.0) in
    let later : often r (sent_rounds content id to sends) ≡ announcements content to id r sends = sent_often content id to r sends in
    both ∙ (λ i. here i + later i)
  where
    go : (b : Bool) → often r (cond b (rounds id (content send.1).announced) []) ≡ cond b (times_announced id r (content send.1).announced) 0
    go true = rounds_often id r (content send.1).announced
    go false = refl

sent_length : {N : Type 0} (content : N → Content) (id : MsgId) (to : Name) (sends : List (Name × N)) →
    length (sent_rounds content id to sends) ≡ announced_to content id to sends
sent_length content id to [] = refl
sent_length {N} content id to (send ∷ sends) =
    let both : length (sent_rounds content id to (send ∷ sends))
    ≡ length (cond (same_name to send.0) (rounds id (content send.1).announced) []) + length (sent_rounds content id to sends) =
    length-append (cond (same_name to send.0) (rounds id (content send.1).announced) []) (sent_rounds content id to sends) in
    let here : length (cond (same_name to send.0) (rounds id (content send.1).announced) [])
    ≡ cond (same_name to send.0) (entries_announced id (content send.1).announced) 0 =
    go (same_name to send.0) in
    let later : length (sent_rounds content id to sends) ≡ announced_to content id to sends = sent_length content id to sends in
    both ∙ (λ i. here i + later i) ∙ sym (sum_by-cons (λ (s : Name × N). cond (same_name to s.0) (entries_announced id (content s.1).announced) 0) send sends)
  where
    go : (b : Bool) → length (cond b (rounds id (content send.1).announced) []) ≡ cond b (entries_announced id (content send.1).announced) 0
    go true = rounds_length id (content send.1).announced
    go false = refl

-- the rounds at which the message is queued for the name
abbrev queued_rounds : MsgId → Name → List (Name × MsgId × ℕ) → List ℕ
queued_rounds id name [] = []
queued_rounds id name (entry ∷ queued) =
    cond (same_name name entry.0 && same_id id entry.1) (entry.2 ∷ queued_rounds id name queued) (queued_rounds id name queued)

queued_often : (id : MsgId) (name : Name) (r : ℕ) (queued : List (Name × MsgId × ℕ)) → often r (queued_rounds id name queued) ≡ times_queued name id r queued
queued_often id name r [] = refl
queued_often id name r (entry ∷ queued) =
    go (same_name name entry.0) (same_id id entry.1) (queued_often id name r queued)
    ∙ sym (sum_by-cons (λ (e : Name × MsgId × ℕ). cond {A = ℕ} (same_name name e.0 && (same_id id e.1 && (r == e.2))) 1 0) entry queued)
  where
    go : (a b : Bool) →
        often r (queued_rounds id name queued) ≡ times_queued name id r queued →
        often r (cond (a && b) (entry.2 ∷ queued_rounds id name queued) (queued_rounds id name queued))
        ≡ cond {A = ℕ} (a && (b && (r == entry.2))) 1 0 + times_queued name id r queued
    go true true later = ap (λ n. cond {A = ℕ} (r == entry.2) 1 0 + n) later
    go true false later = let same : often r (queued_rounds id name queued) ≡ 0 + times_queued name id r queued = omega arith in same
    go false b later = let same : often r (queued_rounds id name queued) ≡ 0 + times_queued name id r queued = omega arith in same

queued_length : (id : MsgId) (name : Name) (queued : List (Name × MsgId × ℕ)) → length (queued_rounds id name queued) ≡ entries_queued id name queued
queued_length id name [] = refl
queued_length id name (entry ∷ queued) =
    go (same_name name entry.0 && same_id id entry.1) (queued_length id name queued)
    ∙ sym (sum_by-cons (λ (e : Name × MsgId × ℕ). cond {A = ℕ} (same_name name e.0 && same_id id e.1) 1 0) entry queued)
  where
    go : (b : Bool) →
        length (queued_rounds id name queued) ≡ entries_queued id name queued →
        length (cond b (entry.2 ∷ queued_rounds id name queued) (queued_rounds id name queued)) ≡ cond {A = ℕ} b 1 0 + entries_queued id name queued
    go true later = let same : suc (length (queued_rounds id name queued)) ≡ 1 + entries_queued id name queued = omega arith in same
    go false later = let same : length (queued_rounds id name queued) ≡ 0 + entries_queued id name queued = omega arith in same

-- so where each round is announced as often as it was queued, no more is announced than was queued
pub announced_queued : {N : Type 0} (content : N → Content) (id : MsgId) (name : Name) (sends : List (Name × N)) (queued : List (Name × MsgId × ℕ)) →
    ((r : ℕ) → announcements content name id r sends ≡ times_queued name id r queued) →
    announced_to content id name sends ≤ entries_queued id name queued
announced_queued content id name sends queued same =
    let sent : length (sent_rounds content id name sends) ≡ announced_to content id name sends = sent_length content id name sends in
    let waited : length (queued_rounds id name queued) ≡ entries_queued id name queued = queued_length id name queued in
    let less : length (sent_rounds content id name sends) ≤ length (queued_rounds id name queued) =
    as_many (sent_rounds content id name sends) (queued_rounds id name queued)
    (λ r. sent_often content id name r sends ∙ same r ∙ sym (queued_often id name r queued)) in
    let all : announced_to content id name sends ≤ entries_queued id name queued = omega arith in
    all
