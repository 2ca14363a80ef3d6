-- What a node keeps is kept where it starts, and where links are opened and closed.
use Rattle.std.specs.Prelude.{◌≡◌, ◌≤◌, ◌+◌, ◌-◌, ◌||◌, ℕ, Bool, true, false, not, List, [], ◌∷◌, ◌++◌, Option}
use Rattle.std.specs.Prelude.{Some, None, map, option_map, drop, take, length, nat_le, if◌then◌else◌, refl, IsTrue}
use Rattle.std.specs.List.{AllByRecursion as Each, IsDistinct}
use Rattle.std.proofs.Common.{◌∙◌, ap, append_assoc, arith, length-append, rules, subst, sym, tests, zero-le}
use Rattle.std.proofs.Math.Seq.{drop-length}
use Rattle.std.proofs.lemmas.List.{append-nil, length-drop, length-take-le, take-append-drop}
use Rattle.std.proofs.lemmas.List.Folds.{list_any-append}
use Rattle.node_names.specs.NodeName.{Name}
use Rattle.node_names.specs.Limits.{Limits}
use Rattle.node_names.specs.Same.{same_name, same_name-Decides, same_name-laws}
use Rattle.node_names.specs.declared.ids.Origin.{Origin}
use Rattle.protocol.specs.CoreState.{CoreState}
use Rattle.protocol.specs.Delivery.{Delivery}
use Rattle.protocol.specs.impl_proofs.NameLists.{either_way}
use Rattle.protocol.specs.OneDelivery.{OneDelivery}
use Rattle.protocol.specs.Output.{Output}
use Rattle.protocol.specs.Peers.{are_peers}
use Rattle.protocol.specs.Replay.{Leads, Replays}
use Rattle.protocol.specs.Stimulus.{Stimulus}
use Rattle.protocol.specs.Trace.{Step, Trace, delivered}
use Rattle.frames.specs.Frame.{Frame}
use Rattle.node_threads.specs.Cell.{Cell, FollowsText, IsKept, IsKeptAfter, IsPlace, Link, after, is_linked, lost, peers_of, steps_made}
use Rattle.node_threads.specs.Forgetting.{forgetting}
use Rattle.node_threads.specs.LinkText.{spelling}
use Rattle.node_threads.specs.Opened.{linked_since, mail_since, without}
use Rattle.node_threads.specs.Opening.{IsFresh, TellsItsStart, first_receiver}
use Rattle.node_threads.proofs.Lost.{whole_text}

-- ---- names of links

-- what holds of all links holds of those to other names
each_without : (P : Link → Type 0) (name : Name) (links : List Link) → Each P links → Each P (without name links)
each_without P name [] all = tt
each_without P name (link ∷ links) all =
    let rest = each_without P name links all.1 in
    either_way (Each P) (not (same_name name link.peer)) (link ∷ without name links) (without name links) (all.0, rest) rest

each_with : (P : Link → Type 0) (links : List Link) (link : Link) → Each P links → P link → Each P (links ++ link ∷ [])
each_with P [] link all it = (it, tt)
each_with P (l ∷ links) link all it = (all.0, each_with P links link all.1 it)

names_without : (Q : Name → Type 0) (name : Name) (links : List Link) → Each Q (peers_of links) → Each Q (peers_of (without name links))
names_without Q name [] all = tt
names_without Q name (link ∷ links) all =
    let rest = names_without Q name links all.1 in
    either_way (λ ls. Each Q (peers_of ls)) (not (same_name name link.peer)) (link ∷ without name links) (without name links) (all.0, rest) rest

pub distinct_without : (name : Name) (links : List Link) → IsDistinct same_name (peers_of links) → IsDistinct same_name (peers_of (without name links))
unfolding IsDistinct
distinct_without name [] apart = tt
distinct_without name (link ∷ links) apart =
    let rest = distinct_without name links apart.1 in
    either_way (λ ls. IsDistinct same_name (peers_of ls)) (not (same_name name link.peer)) (link ∷ without name links)
    (without name links) (names_without (λ n. same_name link.peer n ≡ false) name links apart.0, rest) rest

-- the links to other names are not to this one
others : (name : Name) (links : List Link) → Each (λ n. same_name n name ≡ false) (peers_of (without name links))
others name [] = tt
others name (link ∷ links) = go (same_name name link.peer) refl (others name links)
  where
    go : (b : Bool) →
        same_name name link.peer ≡ b →
        Each (λ n. same_name n name ≡ false) (peers_of (without name links)) →
        Each (λ n. same_name n name ≡ false) (peers_of (if not b then link ∷ without name links else without name links))
    go true is rest = rest
    go false is rest = (same_name-laws.symm link.peer name ∙ is, rest)

each_name_with : (Q : Name → Type 0) (links : List Link) (link : Link) → Each Q (peers_of links) → Q link.peer → Each Q (peers_of (links ++ link ∷ []))
each_name_with Q [] link all it = (it, tt)
each_name_with Q (l ∷ links) link all it = (all.0, each_name_with Q links link all.1 it)

-- one more link, to a name that the others do not go to
distinct_with : (links : List Link) (link : Link) →
    IsDistinct same_name (peers_of links) →
    Each (λ n. same_name n link.peer ≡ false) (peers_of links) →
    IsDistinct same_name (peers_of (links ++ link ∷ []))
unfolding IsDistinct
distinct_with [] link apart away = (tt, tt)
distinct_with (l ∷ links) link apart away =
    (each_name_with (λ n. same_name l.peer n ≡ false) links link apart.0 away.0, distinct_with links link apart.1 away.1)

no_names : IsDistinct same_name (peers_of [])
unfolding IsDistinct
no_names = tt

-- ---- a start

-- the trace of a core that has just started
abbrev fresh_trace : CoreState → Output Frame → Trace Frame
fresh_trace core opening = record { origin = core.me; peers = core.active; contact = first_receiver opening.sends; opening = opening; steps = [] }

pub fresh_kept :
    {C : Type 0}
    (state : C → CoreState)
    (starts : Origin → Limits → List Name → Option Name → List (Name × Frame) → C → Type 0)
    (steps : C → Stimulus Frame → List (Name × Frame) → List Delivery → C → Type 0)
    (tells : TellsItsStart state starts)
    (core : C)
    (opening : Output Frame)
    (limit : ℕ)
    → IsFresh starts core opening
    → IsKept starts steps
    (record { core = core; since = None; trace = fresh_trace (state core) opening; limit = limit; links = []; pending = []; handed_out = 0; is_shut = false })
fresh_kept state starts steps tells core opening limit fresh =
    let shows = tells fresh.me fresh.limits fresh.peers fresh.contact opening.sends core fresh.started in
    let me = sym shows.is_me in
    let peers = sym shows.active_are_peers in
    let contact = sym shows.to_contact in
    let Allowed : Origin → List Name → Option Name → Type 0 = λ o ps ct. IsTrue (are_peers fresh.limits o.name ps ct) in
    let Started : Origin → List Name → Option Name → Type 0 = λ o ps ct. starts o fresh.limits ps ct opening.sends core in
    let kept : IsKeptAfter starts steps []
    (record { core = core; since = None; trace = fresh_trace (state core) opening; limit = limit; links = []; pending = []; handed_out = 0; is_shut = false }) =
    record {
      limits = fresh.limits;
      replays =
          record {
            first = core;
            allowed =
                subst (λ o. Allowed o (state core).active (first_receiver opening.sends)) me
                (subst (λ ps. Allowed fresh.me ps (first_receiver opening.sends)) peers (subst (λ ct. Allowed fresh.me fresh.peers ct) contact fresh.allowed));
            started =
                subst (λ o. Started o (state core).active (first_receiver opening.sends)) me
                (subst (λ ps. Started fresh.me ps (first_receiver opening.sends)) peers (subst (λ ct. Started fresh.me fresh.peers ct) contact fresh.started));
            silent = fresh.silent;
            leads = refl;
          };
      handed = zero-le;
      waiting = refl;
      distinct = no_names;
      texts = tt;
    } in
    record { before = []; forgotten = refl; kept = kept }

-- ---- deliveries

pub delivered_few : {C : Type 0} (state : C → CoreState) (steps : C → Stimulus Frame → List (Name × Frame) → List Delivery → C → Type 0) →
    OneDelivery state steps →
    (first last : C) (ss : List (Step Frame)) →
    Leads steps first ss last →
    length (delivered ss) ≤ length ss
delivered_few state steps one first last [] leads = zero-le
delivered_few state steps one first last (s ∷ ss) leads =
    let few = one.at_most_one first s.stimulus s.out.sends s.out.deliveries leads.0 leads.1 in
    let rest = delivered_few state steps one leads.0 last ss leads.2 in
    omega (arith, length-append s.out.deliveries (delivered ss))

-- ---- links

or_true : (b : Bool) → (b || true) ≡ true
or_true true = refl
or_true false = refl

module _ {C : Type 0} (cell : Cell C) (name : Name) where
  -- the link whose text begins when the trace had `since` steps
  abbrev pub link_since : ℕ → Link
  link_since since = record { peer = name; opened = since; pushed = mail_since cell name since }

  -- if its text fits the ring, the link is open
  pub opened_linked : (ring since : ℕ) → length (mail_since cell name since) ≤ ring → is_linked (linked_since cell name ring since) name ≡ true
  opened_linked ring since fits =
      let within : nat_le (length (mail_since cell name since)) ring ≡ true = search (rules, tests) in
      ap (λ b. is_linked (without name cell.links ++ (if b then link_since since ∷ [] else [])) name) within
      ∙ list_any-append (λ (link : Link). same_name name link.peer) (without name cell.links) (link_since since ∷ [])
      ∙ ap (λ b. is_linked (without name cell.links) name || (b || false)) ((same_name-Decides name name).1 refl)
      ∙ or_true (is_linked (without name cell.links) name)

module _
    {C : Type 0}
    (starts : Origin → Limits → List Name → Option Name → List (Name × Frame) → C → Type 0)
    (steps : C → Stimulus Frame → List (Name × Frame) → List Delivery → C → Type 0)
    (cell : Cell C)
    (name : Name)
    (kept : IsKept starts steps cell)
  where
    abbrev all : IsKeptAfter starts steps kept.before cell
    all = kept.kept

    closed_after : IsKeptAfter starts steps kept.before (record cell { links = without name cell.links })
    closed_after =
        record {
          limits = all.limits;
          replays = all.replays;
          handed = all.handed;
          waiting = all.waiting;
          distinct = distinct_without name cell.links all.distinct;
          texts = each_without (FollowsText (after kept.before cell.trace)) name cell.links all.texts;
        }

    pub closed_kept : IsKept starts steps (record cell { links = without name cell.links })
    closed_kept = record { before = kept.before; forgotten = kept.forgotten; kept = closed_after }

    -- the new link follows its text
    follows : (since : ℕ) → IsPlace cell since → FollowsText (after kept.before cell.trace) (link_since cell name since)
    follows since within =
        record {
          opened_before = (let forgotten = kept.forgotten in omega (arith, within.1, forgotten, length-append kept.before cell.trace.steps));
          pushed_text = ap (map spelling) (whole_text kept.before cell.trace name (lost cell.since) since kept.forgotten within.0);
        }

    linked_after : (since : ℕ) →
        IsPlace cell since →
        IsKeptAfter starts steps kept.before (record cell { links = without name cell.links ++ link_since cell name since ∷ [] })
    linked_after since within =
        record {
          limits = all.limits;
          replays = all.replays;
          handed = all.handed;
          waiting = all.waiting;
          distinct = distinct_with (without name cell.links) (link_since cell name since) closed_after.distinct (others name cell.links);
          texts =
              each_with (FollowsText (after kept.before cell.trace)) (without name cell.links)
              (link_since cell name since) closed_after.texts (follows since within);
        }

    linked_kept : (since : ℕ) → IsPlace cell since → IsKept starts steps (record cell { links = without name cell.links ++ link_since cell name since ∷ [] })
    linked_kept since within = record { before = kept.before; forgotten = kept.forgotten; kept = linked_after since within }

    pub opened_kept : (ring since : ℕ) → IsPlace cell since → IsKept starts steps (record cell { links = linked_since cell name ring since })
    opened_kept ring since within =
        either_way (λ last. IsKept starts steps (record cell { links = without name cell.links ++ last }))
        (nat_le (length (mail_since cell name since)) ring) (link_since cell name since ∷ []) [] (linked_kept since within)
        (subst (λ ls. IsKept starts steps (record cell { links = ls })) (sym (append-nil (without name cell.links))) closed_kept)

-- ---- handing out

-- what was handed out and what waits is all that was delivered
taken_all : (handed : ℕ) (all pending : List Delivery) → handed ≤ length all → pending ≡ drop handed all → handed + length pending ≡ length all
taken_all handed all pending some is = let rest : length pending ≡ length all - handed = ap length is ∙ length-drop handed all in omega arith

module _
    {C : Type 0}
    (state : C → CoreState)
    (starts : Origin → Limits → List Name → Option Name → List (Name × Frame) → C → Type 0)
    (steps : C → Stimulus Frame → List (Name × Frame) → List Delivery → C → Type 0)
    (cell : Cell C)
    (kept : IsKept starts steps cell)
  where
    abbrev steps_of : List (Step Frame)
    steps_of = kept.before ++ cell.trace.steps

    abbrev all_taken : cell.handed_out + length cell.pending ≡ length (delivered steps_of)
    all_taken = taken_all cell.handed_out (delivered steps_of) cell.pending kept.kept.handed kept.kept.waiting

    -- a count of deliveries is at most one of steps
    pub counts_few : OneDelivery state steps → cell.handed_out + length cell.pending ≤ steps_made cell
    counts_few one =
        let few = delivered_few state steps one kept.kept.replays.first cell.core steps_of kept.kept.replays.leads in
        let all = all_taken in
        let forgotten = kept.forgotten in
        omega (arith, length-append kept.before cell.trace.steps)

    pub taken_kept : IsKept starts steps (record cell { pending = []; handed_out = cell.handed_out + length cell.pending })
    taken_kept =
        record {
          before = kept.before;
          forgotten = kept.forgotten;
          kept =
              record {
                limits = kept.kept.limits;
                replays = kept.kept.replays;
                handed = (let all = all_taken in omega arith);
                waiting = sym (ap (λ n. drop n (delivered steps_of)) all_taken ∙ drop-length (delivered steps_of));
                distinct = kept.kept.distinct;
                texts = kept.kept.texts;
              };
        }

    -- ---- forgetting

    -- what is left after the first steps of the trace are forgotten is still kept
    pub forgetting_kept : (since count : ℕ) → cell.since ≡ Some since → count ≤ length cell.trace.steps → IsKept starts steps (forgetting count cell)
    forgetting_kept since count is within =
        let whole : (kept.before ++ take count cell.trace.steps) ++ drop count cell.trace.steps ≡ steps_of =
        append_assoc kept.before (take count cell.trace.steps) (drop count cell.trace.steps)
        ∙ ap (λ ss. kept.before ++ ss) (take-append-drop count cell.trace.steps) in
        let same : after (kept.before ++ take count cell.trace.steps) (forgetting count cell).trace ≡ after kept.before cell.trace =
        ap (λ ss. record cell.trace { steps = ss }) whole in
        let long : length (kept.before ++ take count cell.trace.steps) ≡ since + count =
        length-append kept.before (take count cell.trace.steps)
        ∙ ap (λ n. n + length (take count cell.trace.steps)) (kept.forgotten ∙ ap lost is)
        ∙ ap (λ n. since + n) (length-take-le count cell.trace.steps within) in
        record {
          before = kept.before ++ take count cell.trace.steps;
          forgotten = long ∙ sym (ap (λ s. lost (option_map (λ n. n + count) s)) is);
          kept =
              record {
                limits = kept.kept.limits;
                replays = subst (λ trace. Replays starts steps kept.kept.limits trace cell.core) (sym same) kept.kept.replays;
                handed = subst (λ (trace : Trace Frame). cell.handed_out ≤ length (delivered trace.steps)) (sym same) kept.kept.handed;
                waiting = subst (λ (trace : Trace Frame). cell.pending ≡ drop cell.handed_out (delivered trace.steps)) (sym same) kept.kept.waiting;
                distinct = kept.kept.distinct;
                texts = subst (λ trace. Each (FollowsText trace) cell.links) (sym same) kept.kept.texts;
              };
        }
