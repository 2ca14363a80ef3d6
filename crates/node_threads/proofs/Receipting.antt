-- Receipts, marks and the steps of a trace.
use Rattle.std.specs.Prelude.{◌≡◌, ◌≤◌, ◌<◌, ◌+◌, ◌==◌, ◌↔◌, ◌⊎◌, ℕ, Bool, true, false, List, [], ◌∷◌, ◌++◌, All, cond, length, drop, replicate, take, refl}
use Rattle.std.proofs.Common.{◌∙◌, ap, arith, get_or, inl, inr, set, subst, sym, zero-le}
use Rattle.std.proofs.lemmas.Bool.{cases_eq, cases_lt, eq-eqb, ne_eqb}
use Rattle.std.proofs.lemmas.Grind.{flat_map-append}
use Rattle.std.proofs.lemmas.List.{append-nil, drop_at, get_or-replicate, get_or-set_other, get_or-set_same}
use Rattle.std.proofs.lemmas.List.{get_or_past, length-replicate, take-append-drop, take_all, take_at, take_more}
use Rattle.std.proofs.lemmas.List.Elements.{All-append, All-cons, All-contains, All-drop, All-head, All-nil, All-push, All-take, All-tail, Contains-push}
use Rattle.std.proofs.lemmas.List.Sums.{sum_by-append, sum_by-cons}
use Rattle.std.proofs.lemmas.Option.{slice_get_within}
use Rattle.protocol.specs.Trace.{Step}
use Rattle.frames.specs.Frame.{Frame}
use Rattle.node_threads.specs.Marks.{Fits, FitsAt, HasMarks, LacksMark, Marks, marks_at}
use Rattle.node_threads.specs.Receipts.{AllAlike, Call, IsFirstUnlike, IsRight, PortsFit, Rises}
use Rattle.node_threads.specs.Receipts.{all_calls, broadcasts_at, broadcasts_in, broadcasts_of, calls_at}

-- ---- counts

-- whether a call has its receipt for this place, as a count
abbrev pub own_at : ℕ → Call → ℕ
own_at place call = cond (call.receipt.place == place) 1 0

pub calls_at-cons : (place : ℕ) (call : Call) (calls : List Call) → calls_at place (call ∷ calls) ≡ own_at place call + calls_at place calls
calls_at-cons place call calls = sum_by-cons (own_at place) call calls

pub calls_at-append : (place : ℕ) (xs ys : List Call) → calls_at place (xs ++ ys) ≡ calls_at place xs + calls_at place ys
calls_at-append place xs ys = sum_by-append (own_at place) xs ys

own_here : (call : Call) → own_at call.receipt.place call ≡ 1
own_here call = ap (λ b. cond b 1 0) (eq-eqb call.receipt.place call.receipt.place refl)

at_most_one : (b : Bool) → cond b 1 0 ≤ 1
at_most_one true = omega arith
at_most_one false = omega arith

pub marks_at_most_one : (place : ℕ) (marks : List Bool) → marks_at place marks ≤ 1
marks_at_most_one place marks = at_most_one (get_or marks place false)

-- a place that is marked has one mark more, and no other place has
pub marks_at-set : (place : ℕ) (marks : List Bool) (call : Call) →
    call.receipt.place < length marks →
    marks_at call.receipt.place marks ≡ 0 →
    marks_at place (set marks call.receipt.place true) ≡ marks_at place marks + own_at place call
marks_at-set place marks call within free = go (cases_eq place call.receipt.place)
  where
    go : (place ≡ call.receipt.place) ⊎ (place ≡ call.receipt.place → ⊥) →
        marks_at place (set marks call.receipt.place true) ≡ marks_at place marks + own_at place call
    go (inl e) =
        let marked : marks_at call.receipt.place (set marks call.receipt.place true) ≡ 1 =
        ap (λ b. cond b 1 0) (get_or-set_same marks call.receipt.place true false within) in
        let own = own_here call in
        let P : ℕ → Type 0 = λ p. marks_at p (set marks call.receipt.place true) ≡ marks_at p marks + own_at p call in
        subst P (sym e) (omega arith)
    go (inr ne) =
        let same : marks_at place (set marks call.receipt.place true) ≡ marks_at place marks =
        ap (λ b. cond b 1 0) (get_or-set_other marks call.receipt.place place true false ne) in
        let none : own_at place call ≡ 0 = ap (λ b. cond b 1 0) (ne_eqb call.receipt.place place (λ e. ne (sym e))) in
        omega arith

-- ---- one port

module _ (steps : List (Step Frame)) (marks : List Bool) (each : length marks ≡ length steps) (low : ℕ) (call : Call) (calls : List Call) where
  -- the marks with that of the call
  abbrev with_mark : List Bool
  with_mark = set marks call.receipt.place true

  right_within : IsRight steps call → call.receipt.place < length marks
  right_within right = let within = slice_get_within steps call.receipt.place right.step right.is_there in omega arith

  one_more : FitsAt steps marks low call → (place : ℕ) → marks_at place with_mark + calls_at place calls ≡ marks_at place marks + calls_at place (call ∷ calls)
  one_more at place =
      let marked = marks_at-set place marks call (right_within at.right) at.free in
      let more = calls_at-cons place call calls in
      omega arith

  -- a port whose receipts fit has a first one that does
  pub fits_first : Fits steps marks low (call ∷ calls) → FitsAt steps marks low call
  fits_first whole =
      record {
        in_order = whole.in_order.0;
        right = All-head (IsRight steps) call calls whole.right;
        free = (let own = own_here call in let more = calls_at-cons call.receipt.place call calls in let once = whole.once call.receipt.place in omega arith);
      }

  -- where the first receipt fits, the port fits if the rest does beside one mark more
  pub fits_rest : FitsAt steps marks low call → Fits steps with_mark (call.receipt.place + 1) calls ↔ Fits steps marks low (call ∷ calls)
  fits_rest at = (
    λ rest. record {
      in_order = (at.in_order, rest.in_order);
      right = All-cons (IsRight steps) call calls at.right rest.right;
      once = λ place. (let more = one_more at place in let once = rest.once place in omega arith);
    },
    λ whole. record {
      in_order = whole.in_order.1;
      right = All-tail (IsRight steps) call calls whole.right;
      once = λ place. (let more = one_more at place in let once = whole.once place in omega arith);
    },
  )

pub fits_none : (steps : List (Step Frame)) (marks : List Bool) (low : ℕ) → Fits steps marks low []
fits_none steps marks low = record { in_order = tt; right = All-nil (IsRight steps); once = λ place. (let few = marks_at_most_one place marks in omega arith) }

-- Once some receipts of a port were marked: the port fits if the rest of it does beside these marks, and the rest marks
-- what is left of what the port marks.
pub record MarksOn (steps : List (Step Frame)) (first : List Bool) (whole : List Call) (marks : List Bool) (low : ℕ) (rest : List Call) : Type 0 where
  pub fits : Fits steps marks low rest ↔ Fits steps first 0 whole
  pub left : (place : ℕ) → marks_at place marks + calls_at place rest ≡ marks_at place first + calls_at place whole

module _ (steps : List (Step Frame)) (first : List Bool) (whole : List Call) (marks : List Bool) (each : length marks ≡ length steps)
    (low : ℕ) (left rest : List Call) (call : Call) (is_next : left ≡ call ∷ rest) (on : MarksOn steps first whole marks low left) where
  next : MarksOn steps first whole marks low (call ∷ rest)
  next = subst (MarksOn steps first whole marks low) is_next on

  -- one receipt more is marked
  pub marks_on : (marks' : List Bool) (low' : ℕ) →
      FitsAt steps marks low call →
      marks' ≡ set marks call.receipt.place true →
      low' ≡ call.receipt.place + 1 →
      MarksOn steps first whole marks' low' rest
  marks_on marks' low' at marked from =
      let fits = fits_rest steps marks each low call rest at in
      let with : MarksOn steps first whole (set marks call.receipt.place true) (call.receipt.place + 1) rest = record {
        fits = (λ f. next.fits.0 (fits.0 f), λ f. fits.1 (next.fits.1 f));
        left = λ place. one_more steps marks each low call rest at place ∙ next.left place;
      } in
      subst (λ ms. MarksOn steps first whole ms low' rest) (sym marked)
      (subst (λ l. MarksOn steps first whole (set marks call.receipt.place true) l rest) (sym from) with)

  -- where one receipt does not fit, the port does not
  pub marks_break : (FitsAt steps marks low call → ⊥) → Fits steps first 0 whole → ⊥
  marks_break not_at fit = not_at (fits_first steps marks each low call rest (next.fits.1 fit))

module _ (steps : List (Step Frame)) (first : List Bool) (whole : List Call) (marks : List Bool)
    (low : ℕ) (left : List Call) (none : left ≡ []) (on : MarksOn steps first whole marks low left) where
  last : MarksOn steps first whole marks low []
  last = subst (MarksOn steps first whole marks low) none on

  pub marks_end : Fits steps first 0 whole
  marks_end = last.fits.0 (fits_none steps marks low)

  pub marks_all : Marks first whole marks
  marks_all place = (let all = last.left place in omega arith)

-- ---- all ports

all_calls-push : (ports : List (List Call)) (port : List Call) → all_calls (ports ++ port ∷ []) ≡ all_calls ports ++ port
all_calls-push ports port = flat_map-append (λ (calls : List Call). calls) ports (port ∷ []) ∙ ap (λ calls. all_calls ports ++ calls) (append-nil port)

calls_at-push : (place : ℕ) (ports : List (List Call)) (port : List Call) →
    calls_at place (all_calls (ports ++ port ∷ [])) ≡ calls_at place (all_calls ports) + calls_at place port
calls_at-push place ports port = ap (calls_at place) (all_calls-push ports port) ∙ calls_at-append place (all_calls ports) port

-- what holds of each item of a joined list holds of those of its parts
all_first : {X : Type 0} (P : X → Type 0) (xs ys : List X) → All P (xs ++ ys) → All P xs
all_first P xs ys all = subst (All P) (take_at xs ys (length xs) refl) (All-take P (length xs) (xs ++ ys) all)

all_second : {X : Type 0} (P : X → Type 0) (xs ys : List X) → All P (xs ++ ys) → All P ys
all_second P xs ys all = subst (All P) (drop_at xs ys (length xs) refl) (All-drop P (length xs) (xs ++ ys) all)

-- The ports fit the trace, and the places of their receipts are marked.
pub record PortsMarked (steps : List (Step Frame)) (ports : List (List Call)) (marks : List Bool) : Type 0 where
  pub fit : PortsFit steps ports
  pub marked : (place : ℕ) → marks_at place marks ≡ calls_at place (all_calls ports)

unmarked : (n place : ℕ) → get_or (replicate n false) place false ≡ false
unmarked n place = go (cases_lt place n)
  where
    go : (place < n) ⊎ (n ≤ place) → get_or (replicate n false) place false ≡ false
    go (inl within) = get_or-replicate n place false false within
    go (inr past) = get_or_past (replicate n false) place false (let long = length-replicate n false in omega arith)

pub ports_none : (steps : List (Step Frame)) (n : ℕ) → PortsMarked steps [] (replicate n false)
ports_none steps n =
    record {
      fit = record { in_order = All-nil (Rises 0); right = All-nil (IsRight steps); once = λ place. zero-le };
      marked = λ place. ap (λ b. cond b 1 0) (unmarked n place);
    }

module _ (steps : List (Step Frame)) (ports : List (List Call)) (port : List Call) (marks : List Bool) (so_far : PortsMarked steps ports marks) where
  -- with one port more
  pub ports_more : (marks' : List Bool) → Fits steps marks 0 port → Marks marks port marks' → PortsMarked steps (ports ++ port ∷ []) marks'
  ports_more marks' fits marked =
      record {
        fit =
            record {
              in_order = All-push (Rises 0) ports port so_far.fit.in_order fits.in_order;
              right =
                  subst (All (IsRight steps)) (sym (all_calls-push ports port)) (All-append (IsRight steps) (all_calls ports) port so_far.fit.right fits.right);
              once = λ place. (let all = calls_at-push place ports port in let before = so_far.marked place in let once = fits.once place in omega arith);
            };
        marked = λ place. (let all = calls_at-push place ports port in let before = so_far.marked place in let now = marked place in omega arith);
      }

  -- where a port does not fit beside the marks, the ports do not fit with it
  pub ports_break : (Fits steps marks 0 port → ⊥) → PortsFit steps (ports ++ port ∷ []) → ⊥
  ports_break not_fits fit =
      not_fits (record {
        in_order = All-contains (Rises 0) (ports ++ port ∷ []) port fit.in_order (Contains-push ports port);
        right = all_second (IsRight steps) (all_calls ports) port (subst (All (IsRight steps)) (all_calls-push ports port) fit.right);
        once = λ place. (let all = calls_at-push place ports port in let before = so_far.marked place in let once = fit.once place in omega arith);
      })

-- a step for which there is a right receipt is a broadcast
right_broadcasts : (steps : List (Step Frame)) (call : Call) → IsRight steps call → broadcasts_at call.receipt.place steps ≡ 1
right_broadcasts steps call right = ap broadcasts_in right.is_there ∙ ap broadcasts_of right.broadcasts.its_payload

-- right receipts, of which there is at most one for a place, are no more than the broadcasts
few_right : (steps : List (Step Frame)) (place : ℕ) (calls : List Call) →
    All (IsRight steps) calls →
    calls_at place calls ≤ 1 →
    calls_at place calls ≤ broadcasts_at place steps
few_right steps place [] right once = zero-le
few_right steps place (call ∷ calls) right once =
    go (cases_eq call.receipt.place place) (few_right steps place calls (All-tail (IsRight steps) call calls right))
  where
    go : (call.receipt.place ≡ place) ⊎ (call.receipt.place ≡ place → ⊥) →
        (calls_at place calls ≤ 1 → calls_at place calls ≤ broadcasts_at place steps) →
        calls_at place (call ∷ calls) ≤ broadcasts_at place steps
    go (inl here) few =
        let one : broadcasts_at place steps ≡ 1 =
        subst (λ p. broadcasts_at p steps ≡ 1) here (right_broadcasts steps call (All-head (IsRight steps) call calls right)) in
        omega arith
    go (inr elsewhere) few =
        let more = calls_at-cons place call calls in
        let none : own_at place call ≡ 0 = ap (λ b. cond b 1 0) (ne_eqb call.receipt.place place elsewhere) in
        let rest = few (omega arith) in
        omega arith

module _ (steps : List (Step Frame)) (ports : List (List Call)) (marks : List Bool) (all : PortsMarked steps ports marks) where
  pub all_alike : HasMarks steps marks → AllAlike steps ports
  all_alike has =
      record {
        fit = all.fit;
        all =
            λ place. (let marked = all.marked place in
            let few = few_right steps place (all_calls ports) all.fit.right (all.fit.once place) in let many = has place in omega arith);
      }

-- the first ports of some that fit do
fewer_fit : (steps : List (Step Frame)) (ports : List (List Call)) (n : ℕ) → PortsFit steps ports → PortsFit steps (take n ports)
fewer_fit steps ports n fit =
    let parts : all_calls ports ≡ all_calls (take n ports) ++ all_calls (drop n ports) =
    sym (ap all_calls (take-append-drop n ports)) ∙ flat_map-append (λ (calls : List Call). calls) (take n ports) (drop n ports) in
    record {
      in_order = All-take (Rises 0) n ports fit.in_order;
      right = all_first (IsRight steps) (all_calls (take n ports)) (all_calls (drop n ports)) (subst (All (IsRight steps)) parts fit.right);
      once =
          λ place. (let all = ap (calls_at place) parts ∙ calls_at-append place (all_calls (take n ports)) (all_calls (drop n ports)) in
          let once = fit.once place in omega arith);
    }

-- ---- the answer

-- a trace that lacks no broadcast and ports that fit it have no first port that is unlike it
pub unlike_not_alike : (steps : List (Step Frame)) (ports : List (List Call)) (n : ℕ) → IsFirstUnlike steps ports n → AllAlike steps ports → ⊥
unlike_not_alike steps ports n unlike alike = go (cases_lt n (length ports))
  where
    go : (n < length ports) ⊎ (length ports ≤ n) → ⊥
    go (inl below) = unlike.unlike below (fewer_fit steps ports (n + 1) alike.fit)
    go (inr end) =
        let within = unlike.within in
        let lacks = unlike.lacking (omega arith) in
        let some = lacks.is_broadcast in
        let none = lacks.in_no_port in
        let all = alike.all lacks.place in
        absurd (omega arith)

-- the ports up to one and that one
with_next : (ports : List (List Call)) (n : ℕ) (port other : List Call) →
    n < length ports →
    port ≡ get_or ports n other →
    take (n + 1) ports ≡ take n ports ++ port ∷ []
with_next ports n port other within is = take_more ports n other within ∙ ap (λ it. take n ports ++ it ∷ []) (sym is)

module _ (steps : List (Step Frame)) (ports : List (List Call)) (n : ℕ) (marks : List Bool) (so_far : PortsMarked steps (take n ports) marks) where
  -- the port at this place fits
  pub next_marked : (port other : List Call) (marks' : List Bool) →
      n < length ports →
      port ≡ get_or ports n other →
      Fits steps marks 0 port →
      Marks marks port marks' →
      PortsMarked steps (take (n + 1) ports) marks'
  next_marked port other marks' within is fits marked =
      subst (λ ps. PortsMarked steps ps marks') (sym (with_next ports n port other within is))
      (ports_more steps (take n ports) port marks so_far marks' fits marked)

  -- the port at this place does not fit
  pub next_unlike : (port other : List Call) → n < length ports → port ≡ get_or ports n other → (Fits steps marks 0 port → ⊥) → IsFirstUnlike steps ports n
  next_unlike port other within is not_fits =
      record {
        within = omega arith;
        before = so_far.fit;
        unlike = λ below fit. ports_break steps (take n ports) port marks so_far not_fits (subst (PortsFit steps) (with_next ports n port other within is) fit);
        lacking = λ end. absurd (omega arith);
      }

  -- all ports fit, and no broadcast lacks a mark
  pub none_unlike : length ports ≤ n → HasMarks steps marks → AllAlike steps ports
  none_unlike end has = all_alike steps ports marks (subst (λ ps. PortsMarked steps ps marks) (take_all n ports end) so_far) has

  -- all ports fit, and a broadcast lacks a mark
  pub last_unlike : length ports ≤ n → LacksMark steps marks → IsFirstUnlike steps ports (length ports)
  last_unlike end lacks =
      let same : take (length ports) ports ≡ take n ports = take_all (length ports) ports (omega arith) ∙ sym (take_all n ports end) in
      let all = ap (λ ps. calls_at lacks.place (all_calls ps)) (take_all n ports end) in
      let marked = so_far.marked lacks.place in
      let none = lacks.unmarked in
      record {
        within = omega arith;
        before = subst (PortsFit steps) (sym same) so_far.fit;
        unlike = λ below. absurd (omega arith);
        lacking = λ it. record { place = lacks.place; is_broadcast = lacks.is_broadcast; in_no_port = omega arith };
      }
