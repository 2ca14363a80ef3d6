-- All that waits is announced once, in packets that each announce something.
use Rattle.std.proofs.Common.{◌≡◌, ◌∙◌, ◌+◌, ◌*◌, ◌≤◌, ℕ, zero, suc, List, [], ◌∷◌, ◌++◌, length, true, false, sym, ap, refl, arith}
use Rattle.std.specs.Prelude.{◌-◌, ◌/◌, ◌||◌, Bool, cond, drop, filter, map, not, take}
use Rattle.std.specs.List.{flat_map, list_any, sum_by}
use Rattle.std.proofs.lemmas.Bool.{false≢true}
use Rattle.std.proofs.lemmas.List.Sums.{sum_by-append, sum_by-cons}
use Rattle.node_names.specs.NodeName.{Name}
use Rattle.node_names.specs.Same.{same_name, same_name-Decides}
use Rattle.node_names.specs.declared.ids.MsgId.{MsgId}
use Rattle.frames.specs.Body.{Body}
use Rattle.frames.specs.declared.body.BodyOf.TheVariants.{IHave}
use Rattle.frames.specs.declared.TheConstants.{MAX_ANNOUNCEMENTS}
use Rattle.gossip_core.specs.Announcements.{announcements, frames_of, packets_to}
use Rattle.peer_sets.specs.Queue.{receivers, waiting_for}
use Rattle.at_rest.specs.Load.{body_load}

-- the load of packets that are to be sent
abbrev pub sends_load : List (Name × Body) → ℕ
sends_load sends = sum_by (λ (send : Name × Body). body_load send.1) sends

-- the load of two lists of them
pub sends_both : (xs ys : List (Name × Body)) → sends_load (xs ++ ys) ≡ sends_load xs + sends_load ys
sends_both xs ys = sum_by-append (λ (send : Name × Body). body_load send.1) xs ys

-- any number of frames announces no more than there is
cut_load : (name : Name) (n : ℕ) (entries : List (MsgId × ℕ)) → sends_load (map (λ es. (name, IHave es)) (frames_of n entries)) ≤ 7 * length entries
cut_load name zero entries = omega arith
cut_load name (suc n) entries =
    let whole : sends_load (map (λ es. (name, IHave es)) (frames_of (suc n) entries))
    ≡ 7 * length (take MAX_ANNOUNCEMENTS entries) + sends_load (map (λ es. (name, IHave es)) (frames_of n (drop MAX_ANNOUNCEMENTS entries))) =
    sum_by-cons (λ (send : Name × Body). body_load send.1) (name, IHave (take MAX_ANNOUNCEMENTS entries))
    (map (λ es. (name, IHave es)) (frames_of n (drop MAX_ANNOUNCEMENTS entries))) in
    let rest : sends_load (map (λ es. (name, IHave es)) (frames_of n (drop MAX_ANNOUNCEMENTS entries))) ≤ 7 * length (drop MAX_ANNOUNCEMENTS entries) =
    cut_load name n (drop MAX_ANNOUNCEMENTS entries) in
    let parts : length (take MAX_ANNOUNCEMENTS entries) + length (drop MAX_ANNOUNCEMENTS entries) ≡ length entries = cut_lengths MAX_ANNOUNCEMENTS entries in
    omega arith
  where
    cut_lengths : (k : ℕ) (xs : List (MsgId × ℕ)) → length (take k xs) + length (drop k xs) ≡ length xs
    cut_lengths zero xs = omega arith
    cut_lengths (suc k) [] = refl
    cut_lengths (suc k) (x ∷ xs) = let later : length (take k xs) + length (drop k xs) ≡ length xs = cut_lengths k xs in omega arith

-- ---- what waits, by receiver

-- how much waits for the name
abbrev waits : Name → List (Name × MsgId × ℕ) → ℕ
waits name queued = length (waiting_for name queued)

-- how much waits for these names
abbrev all_wait : List Name → List (Name × MsgId × ℕ) → ℕ
all_wait names queued = sum_by (λ name. waits name queued) names

-- an entry waits for its receiver alone
waits_one : (name : Name) (entry : Name × MsgId × ℕ) (queued : List (Name × MsgId × ℕ)) →
    waits name (entry ∷ queued) ≡ cond {A = ℕ} (same_name name entry.0) 1 0 + waits name queued
waits_one name entry queued = go (same_name name entry.0)
  where
    go : (b : Bool) →
        length {A = MsgId × ℕ} (map (λ (e : Name × MsgId × ℕ). (e.1, e.2))
        (cond b (entry ∷ filter (λ (e : Name × MsgId × ℕ). same_name name e.0) queued) (filter (λ (e : Name × MsgId × ℕ). same_name name e.0) queued)))
        ≡ cond {A = ℕ} b 1 0 + waits name queued
    go true = omega arith
    go false = omega arith

-- those that differ from a receiver wait for nothing of it
others_wait : (entry : Name × MsgId × ℕ) (queued : List (Name × MsgId × ℕ)) (names : List Name) →
    all_wait (filter (λ name. not (same_name entry.0 name)) names) (entry ∷ queued) ≡ all_wait (filter (λ name. not (same_name entry.0 name)) names) queued
others_wait entry queued [] = refl
others_wait entry queued (name ∷ names) = go (same_name entry.0 name) refl (others_wait entry queued names)
  where
    go : (b : Bool) →
        same_name entry.0 name ≡ b →
        all_wait (filter (λ n. not (same_name entry.0 n)) names) (entry ∷ queued) ≡ all_wait (filter (λ n. not (same_name entry.0 n)) names) queued →
        all_wait (cond (not b) (name ∷ filter (λ n. not (same_name entry.0 n)) names) (filter (λ n. not (same_name entry.0 n)) names)) (entry ∷ queued)
        ≡ all_wait (cond (not b) (name ∷ filter (λ n. not (same_name entry.0 n)) names) (filter (λ n. not (same_name entry.0 n)) names)) queued
    go true same later = later
    go false apart later =
        let differs : same_name name entry.0 ≡ false = flip apart in
        let one : waits name (entry ∷ queued) ≡ cond {A = ℕ} (same_name name entry.0) 1 0 + waits name queued = waits_one name entry queued in
        let zero_it : cond {A = ℕ} (same_name name entry.0) 1 0 ≡ 0 = ap (λ b. cond {A = ℕ} b 1 0) differs in
        let left : all_wait (name ∷ filter (λ n. not (same_name entry.0 n)) names) (entry ∷ queued)
        ≡ waits name (entry ∷ queued) + all_wait (filter (λ n. not (same_name entry.0 n)) names) (entry ∷ queued) =
        sum_by-cons (λ n. waits n (entry ∷ queued)) name (filter (λ n. not (same_name entry.0 n)) names) in
        let right : all_wait (name ∷ filter (λ n. not (same_name entry.0 n)) names) queued
        ≡ waits name queued + all_wait (filter (λ n. not (same_name entry.0 n)) names) queued =
        sum_by-cons (λ n. waits n queued) name (filter (λ n. not (same_name entry.0 n)) names) in
        let all : all_wait (name ∷ filter (λ n. not (same_name entry.0 n)) names) (entry ∷ queued)
        ≡ all_wait (name ∷ filter (λ n. not (same_name entry.0 n)) names) queued =
        omega arith in
        all
      where
        flip : same_name entry.0 name ≡ false → same_name name entry.0 ≡ false
        flip differ = look (same_name name entry.0) refl
          where
            look : (b : Bool) → same_name name entry.0 ≡ b → b ≡ false
            look false is = refl
            look true is = absurd (false≢true (sym differ ∙ (same_name-Decides entry.0 name).1 (sym ((same_name-Decides name entry.0).0 is))))

-- names without one of them, and that one, wait for as much
pub one_out : (name : Name) (queued : List (Name × MsgId × ℕ)) (names : List Name) →
    list_any (same_name name) names ≡ true →
    waits name queued + all_wait (filter (λ n. not (same_name name n)) names) queued ≤ all_wait names queued
one_out name queued [] some = absurd (false≢true some)
one_out name queued (other ∷ names) some = go (same_name name other) refl some (one_out name queued names)
  where
    fewer : (ns : List Name) → all_wait (filter (λ n. not (same_name name n)) ns) queued ≤ all_wait ns queued
    fewer [] = omega arith
    fewer (n ∷ ns) = look (same_name name n) (fewer ns)
      where
        look : (b : Bool) →
            all_wait (filter (λ m. not (same_name name m)) ns) queued ≤ all_wait ns queued →
            all_wait (cond (not b) (n ∷ filter (λ m. not (same_name name m)) ns) (filter (λ m. not (same_name name m)) ns)) queued ≤ all_wait (n ∷ ns) queued
        look true less =
            let whole : all_wait (n ∷ ns) queued ≡ waits n queued + all_wait ns queued = sum_by-cons (λ m. waits m queued) n ns in
            omega arith
        look false less =
            let whole : all_wait (n ∷ ns) queued ≡ waits n queued + all_wait ns queued = sum_by-cons (λ m. waits m queued) n ns in
            let part : all_wait (n ∷ filter (λ m. not (same_name name m)) ns) queued
            ≡ waits n queued + all_wait (filter (λ m. not (same_name name m)) ns) queued =
            sum_by-cons (λ m. waits m queued) n (filter (λ m. not (same_name name m)) ns) in
            omega arith

    go : (b : Bool) →
        same_name name other ≡ b →
        (b || list_any (same_name name) names) ≡ true →
        (list_any (same_name name) names ≡ true → waits name queued + all_wait (filter (λ n. not (same_name name n)) names) queued ≤ all_wait names queued) →
        waits name queued + all_wait (cond (not b) (other ∷ filter (λ n. not (same_name name n)) names) (filter (λ n. not (same_name name n)) names)) queued
        ≤ all_wait (other ∷ names) queued
    go true same at later =
        let here : waits name queued ≡ waits other queued = ap (λ n. waits n queued) ((same_name-Decides name other).0 same) in
        let whole : all_wait (other ∷ names) queued ≡ waits other queued + all_wait names queued = sum_by-cons (λ m. waits m queued) other names in
        let less : all_wait (filter (λ n. not (same_name name n)) names) queued ≤ all_wait names queued = fewer names in
        omega arith
    go false apart at later =
        let whole : all_wait (other ∷ names) queued ≡ waits other queued + all_wait names queued = sum_by-cons (λ m. waits m queued) other names in
        let part : all_wait (other ∷ filter (λ n. not (same_name name n)) names) queued
        ≡ waits other queued + all_wait (filter (λ n. not (same_name name n)) names) queued =
        sum_by-cons (λ m. waits m queued) other (filter (λ n. not (same_name name n)) names) in
        let rest : waits name queued + all_wait (filter (λ n. not (same_name name n)) names) queued ≤ all_wait names queued = later at in
        omega arith

-- a name that is not among the others is not among all, unless it is the one that was left out
found_in_filter : (name other : Name) (names : List Name) →
    same_name name other ≡ false →
    list_any (same_name name) (filter (λ n. not (same_name other n)) names) ≡ false →
    list_any (same_name name) names ≡ false
found_in_filter name other [] apart none = refl
found_in_filter name other (n ∷ names) apart none = go (same_name other n) (same_name name n) refl refl none (found_in_filter name other names apart)
  where
    go : (a b : Bool) →
        same_name other n ≡ a →
        same_name name n ≡ b →
        list_any (same_name name) (cond (not a) (n ∷ filter (λ m. not (same_name other m)) names) (filter (λ m. not (same_name other m)) names)) ≡ false →
        (list_any (same_name name) (filter (λ m. not (same_name other m)) names) ≡ false → list_any (same_name name) names ≡ false) →
        (b || list_any (same_name name) names) ≡ false
    go true true is same none later =
        absurd (false≢true (sym apart ∙ (same_name-Decides name other).1 ((same_name-Decides name n).0 same ∙ sym ((same_name-Decides other n).0 is))))
    go true false is same none later = later none
    go false true is same none later =
        absurd (false≢true (sym none ∙ ap (λ c. c || list_any (same_name name) (filter (λ m. not (same_name other m)) names)) same))
    go false false is same none later = later (sym (ap (λ c. c || list_any (same_name name) (filter (λ m. not (same_name other m)) names)) same) ∙ none)

-- nothing waits for a name that is not a receiver
nobody_waits : (name : Name) (queued : List (Name × MsgId × ℕ)) → list_any (same_name name) (receivers queued) ≡ false → waits name queued ≡ 0
nobody_waits name [] none = refl
nobody_waits name (entry ∷ queued) none = go (same_name name entry.0) refl none (nobody_waits name queued)
  where
    go : (b : Bool) →
        same_name name entry.0 ≡ b →
        (b || list_any (same_name name) (filter (λ n. not (same_name entry.0 n)) (receivers queued))) ≡ false →
        (list_any (same_name name) (receivers queued) ≡ false → waits name queued ≡ 0) →
        waits name (entry ∷ queued) ≡ 0
    go true same missing later = absurd (false≢true (sym missing))
    go false apart missing later =
        let one : waits name (entry ∷ queued) ≡ cond {A = ℕ} (same_name name entry.0) 1 0 + waits name queued = waits_one name entry queued in
        let zero_it : cond {A = ℕ} (same_name name entry.0) 1 0 ≡ 0 = ap (λ b. cond {A = ℕ} b 1 0) apart in
        let rest : waits name queued ≡ 0 = later (found_in_filter name entry.0 (receivers queued) apart missing) in
        let all : waits name (entry ∷ queued) ≡ 0 = omega arith in
        all

-- fewer names wait for no more
fewer_wait : (other : Name) (queued : List (Name × MsgId × ℕ)) (names : List Name) →
    all_wait (filter (λ n. not (same_name other n)) names) queued ≤ all_wait names queued
fewer_wait other queued [] = omega arith
fewer_wait other queued (name ∷ names) = go (same_name other name) (fewer_wait other queued names)
  where
    go : (b : Bool) →
        all_wait (filter (λ n. not (same_name other n)) names) queued ≤ all_wait names queued →
        all_wait (cond (not b) (name ∷ filter (λ n. not (same_name other n)) names) (filter (λ n. not (same_name other n)) names)) queued
        ≤ all_wait (name ∷ names) queued
    go true less =
        let whole : all_wait (name ∷ names) queued ≡ waits name queued + all_wait names queued = sum_by-cons (λ m. waits m queued) name names in
        omega arith
    go false less =
        let whole : all_wait (name ∷ names) queued ≡ waits name queued + all_wait names queued = sum_by-cons (λ m. waits m queued) name names in
        let part : all_wait (name ∷ filter (λ n. not (same_name other n)) names) queued
        ≡ waits name queued + all_wait (filter (λ n. not (same_name other n)) names) queued =
        sum_by-cons (λ m. waits m queued) name (filter (λ n. not (same_name other n)) names) in
        omega arith

-- so all receivers wait for no more than is queued
receivers_wait : (queued : List (Name × MsgId × ℕ)) → all_wait (receivers queued) queued ≤ length queued
receivers_wait [] = omega arith
receivers_wait (entry ∷ queued) =
    let whole : all_wait (entry.0 ∷ filter (λ n. not (same_name entry.0 n)) (receivers queued)) (entry ∷ queued)
    ≡ waits entry.0 (entry ∷ queued) + all_wait (filter (λ n. not (same_name entry.0 n)) (receivers queued)) (entry ∷ queued) =
    sum_by-cons (λ n. waits n (entry ∷ queued)) entry.0 (filter (λ n. not (same_name entry.0 n)) (receivers queued)) in
    let first : waits entry.0 (entry ∷ queued) ≡ cond {A = ℕ} (same_name entry.0 entry.0) 1 0 + waits entry.0 queued = waits_one entry.0 entry queued in
    let one : cond {A = ℕ} (same_name entry.0 entry.0) 1 0 ≡ 1 = ap (λ b. cond {A = ℕ} b 1 0) ((same_name-Decides entry.0 entry.0).1 refl) in
    let others : all_wait (filter (λ n. not (same_name entry.0 n)) (receivers queued)) (entry ∷ queued)
    ≡ all_wait (filter (λ n. not (same_name entry.0 n)) (receivers queued)) queued =
    others_wait entry queued (receivers queued) in
    let before : all_wait (receivers queued) queued ≤ length queued = receivers_wait queued in
    let with_first : waits entry.0 queued + all_wait (filter (λ n. not (same_name entry.0 n)) (receivers queued)) queued ≤ all_wait (receivers queued) queued =
    go (list_any (same_name entry.0) (receivers queued)) refl in
    omega arith
  where
    go : (b : Bool) →
        list_any (same_name entry.0) (receivers queued) ≡ b →
        waits entry.0 queued + all_wait (filter (λ n. not (same_name entry.0 n)) (receivers queued)) queued ≤ all_wait (receivers queued) queued
    go true some = one_out entry.0 queued (receivers queued) some
    go false none =
        let nothing : waits entry.0 queued ≡ 0 = nobody_waits entry.0 queued none in
        let less : all_wait (filter (λ n. not (same_name entry.0 n)) (receivers queued)) queued ≤ all_wait (receivers queued) queued =
        fewer_wait entry.0 queued (receivers queued) in
        omega arith

-- and the packets that announce it have no greater load
batches_load : (queued : List (Name × MsgId × ℕ)) (names : List Name) →
    sends_load (flat_map packets_to (map (λ name. (name, waiting_for name queued)) names)) ≤ 7 * all_wait names queued
batches_load queued [] = omega arith
batches_load queued (name ∷ names) =
    let both : sends_load (packets_to (name, waiting_for name queued) ++ flat_map packets_to (map (λ n. (n, waiting_for n queued)) names))
    ≡ sends_load (packets_to (name, waiting_for name queued)) + sends_load (flat_map packets_to (map (λ n. (n, waiting_for n queued)) names)) =
    sends_both (packets_to (name, waiting_for name queued)) (flat_map packets_to (map (λ n. (n, waiting_for n queued)) names)) in
    let here : sends_load (packets_to (name, waiting_for name queued)) ≤ 7 * waits name queued =
    cut_load name ((waits name queued + (MAX_ANNOUNCEMENTS - 1)) / MAX_ANNOUNCEMENTS) (waiting_for name queued) in
    let later : sends_load (flat_map packets_to (map (λ n. (n, waiting_for n queued)) names)) ≤ 7 * all_wait names queued = batches_load queued names in
    let whole : all_wait (name ∷ names) queued ≡ waits name queued + all_wait names queued = sum_by-cons (λ n. waits n queued) name names in
    omega arith

-- all that waits is announced with 7 for each entry
pub announced_load : (queued : List (Name × MsgId × ℕ)) → sends_load (announcements queued) ≤ 7 * length queued
announced_load queued =
    let packets : sends_load (announcements queued) ≤ 7 * all_wait (receivers queued) queued = batches_load queued (receivers queued) in
    let all : all_wait (receivers queued) queued ≤ length queued = receivers_wait queued in
    omega arith
