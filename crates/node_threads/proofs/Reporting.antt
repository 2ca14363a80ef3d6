-- The reports of outlets, one list of outlets after the other.
use Rattle.std.specs.Prelude.{◌≡◌, ◌<◌, ◌≤◌, ◌+◌, ℕ, List, [], ◌∷◌, ◌++◌, All, Option, Result, Ok, Err, IfErr, IfOk, IsErrAnd, OnOk, drop, length, map, take}
use Rattle.std.specs.List.{flat_map}
use Rattle.std.proofs.Common.{◌∙◌, ap, append_assoc, get_or, subst, sym}
use Rattle.std.proofs.lemmas.List.{append-nil, drop_more, map-append, take-append-drop, take_all, take_more}
use Rattle.std.proofs.lemmas.List.Concat.{flat_map-append}
use Rattle.std.proofs.lemmas.List.Elements.{All-append, All-map, All-nil, All-weaker}
use Rattle.protocol.specs.Trace.{Trace}
use Rattle.frames.specs.Frame.{Frame}
use Rattle.node_threads.specs.Cell.{lost}
use Rattle.node_threads.specs.Closing.{AreAlike, IsWithin, Matches, Mismatches, Tears}
use Rattle.node_threads.specs.Outlet.{Outlet}
use Rattle.node_threads.specs.Receipts.{Call}
use Rattle.node_threads.specs.Report.{AddsReports, BeginsText, report_of}
use Rattle.node_threads.specs.declared.host.comparing.Mismatch.{Mismatch}
use Rattle.node_threads.specs.declared.host.comparing.Mismatch.TheVariants.{Port, Link, OutOfMemory}
use Rattle.node_threads.specs.declared.cell.report.LinkReport.{LinkReport}
use Rattle.node_threads.proofs.Within.{within}

-- ---- lists

-- the list at a place, with what is before it and behind it
split : {X : Type 0} (xs : List X) (i : ℕ) (x : X) → i < length xs → x ≡ get_or xs i x → xs ≡ take i xs ++ x ∷ drop (i + 1) xs
split xs i x inside is = sym (take-append-drop i xs) ∙ ap (λ rest. take i xs ++ rest) (drop_more xs i x inside ∙ ap (λ y. y ∷ drop (i + 1) xs) (sym is))

one_more : {X : Type 0} (xs : List X) (i : ℕ) (x : X) → i < length xs → x ≡ get_or xs i x → take (i + 1) xs ≡ take i xs ++ x ∷ []
one_more xs i x inside is = take_more xs i x inside ∙ ap (λ y. take i xs ++ y ∷ []) (sym is)

pub flat_push : {X Y : Type 0} (f : X → List Y) (xs : List X) (x : X) → flat_map f (xs ++ x ∷ []) ≡ flat_map f xs ++ f x
flat_push f xs x = flat_map-append f xs (x ∷ []) ∙ ap (λ last. flat_map f xs ++ last) (append-nil (f x))

-- ---- reports

pub adds_none : (since : ℕ) (trace : Trace Frame) (links : List LinkReport) → AddsReports since trace [] links links
adds_none since trace links = record { reports = sym (append-nil links); begun = All-nil (BeginsText since trace) }

pub adds_more : (since : ℕ) (trace : Trace Frame) (xs ys : List Outlet) (a b c : List LinkReport) →
    AddsReports since trace xs a b →
    AddsReports since trace ys b c →
    AddsReports since trace (xs ++ ys) a c
adds_more since trace xs ys a b c first next = record {
  reports =
      next.reports
      ∙ ap (λ links. links ++ map report_of ys) first.reports
      ∙ append_assoc a (map report_of xs) (map report_of ys)
      ∙ ap (λ more. a ++ more) (sym (map-append report_of xs ys));
  begun = All-append (BeginsText since trace) xs ys first.begun next.begun;
}

-- one outlet more
pub adds_one : (since : ℕ) (trace : Trace Frame) (xs : List Outlet) (i : ℕ) (x : Outlet) (a b c : List LinkReport) → i < length xs → x ≡ get_or xs i x
    → AddsReports since trace (take i xs) a b → AddsReports since trace (x ∷ []) b c → AddsReports since trace (take (i + 1) xs) a c
adds_one since trace xs i x a b c inside is first next =
    subst (λ outlets. AddsReports since trace outlets a c) (sym (one_more xs i x inside is)) (adds_more since trace (take i xs) (x ∷ []) a b c first next)

-- the outlets of one worker more
pub adds_each : {X : Type 0} (f : X → List Outlet) (since : ℕ) (trace : Trace Frame) (xs : List X) (i : ℕ) (x : X) (a b c : List LinkReport) →
    i < length xs →
    x ≡ get_or xs i x
    → AddsReports since trace (flat_map f (take i xs)) a b → AddsReports since trace (f x) b c → AddsReports since trace (flat_map f (take (i + 1) xs)) a c
adds_each f since trace xs i x a b c inside is first next =
    subst (λ outlets. AddsReports since trace outlets a c)
    (sym (ap (flat_map f) (one_more xs i x inside is) ∙ flat_push f (take i xs) x))
    (adds_more since trace (flat_map f (take i xs)) (f x) a b c first next)

-- none is left
pub adds_all : (since : ℕ) (trace : Trace Frame) (xs : List Outlet) (i : ℕ) (a b : List LinkReport) →
    length xs ≤ i →
    AddsReports since trace (take i xs) a b →
    AddsReports since trace xs a b
adds_all since trace xs i a b past adds = subst (λ outlets. AddsReports since trace outlets a b) (take_all i xs past) adds

-- what is put behind what was put
pub adds_both : {X E : Type 0} (since : ℕ) (trace : Trace Frame) (xs ys : List Outlet) (a b c : List LinkReport) (r : Result X E) →
    AddsReports since trace xs a b →
    OnOk r (AddsReports since trace ys b c) →
    OnOk r (AddsReports since trace (xs ++ ys) a c)
adds_both since trace xs ys a b c (Ok x) first next = adds_more since trace xs ys a b c first next
adds_both since trace xs ys a b c (Err e) first next = tt

-- ---- what is torn

pub tears_within : (since : ℕ) (trace : Trace Frame) (before inner after : List Outlet) (m : Mismatch) →
    All (BeginsText since trace) before →
    Tears since trace inner m →
    Tears since trace (before ++ (inner ++ after)) m
tears_within since trace before inner after (Port n) begun tears = tears
tears_within since trace before inner after (Link peer) begun tears = record {
  before = before ++ tears.before;
  outlet = tears.outlet;
  after = tears.after ++ after;
  parts =
      ap (λ outlets. before ++ (outlets ++ after)) tears.parts
      ∙ ap (λ rest. before ++ rest) (append_assoc tears.before (tears.outlet ∷ tears.after) after)
      ∙ sym (append_assoc before tears.before (tears.outlet ∷ (tears.after ++ after)));
  begun = All-append (BeginsText since trace) before tears.before begun tears.begun;
  torn = tears.torn;
  its_peer = tears.its_peer;
}
tears_within since trace before inner after OutOfMemory begun tears = tt

pub tears_at : (since : ℕ) (trace : Trace Frame) (xs : List Outlet) (i : ℕ) (x : Outlet) (m : Mismatch) →
    i < length xs →
    x ≡ get_or xs i x →
    All (BeginsText since trace) (take i xs) →
    Tears since trace (x ∷ []) m →
    Tears since trace xs m
tears_at since trace xs i x m inside is begun tears =
    subst (λ outlets. Tears since trace outlets m) (sym (split xs i x inside is))
    (tears_within since trace (take i xs) (x ∷ []) (drop (i + 1) xs) m begun tears)

pub tears_in_one : {X : Type 0} (f : X → List Outlet) (since : ℕ) (trace : Trace Frame) (xs : List X) (i : ℕ) (x : X) (m : Mismatch) →
    i < length xs →
    x ≡ get_or xs i x →
    All (BeginsText since trace) (flat_map f (take i xs)) →
    Tears since trace (f x) m →
    Tears since trace (flat_map f xs) m
tears_in_one f since trace xs i x m inside is begun tears =
    subst (λ outlets. Tears since trace outlets m)
    (sym (ap (flat_map f) (split xs i x inside is) ∙ flat_map-append f (take i xs) (x ∷ drop (i + 1) xs)))
    (tears_within since trace (flat_map f (take i xs)) (f x) (flat_map f (drop (i + 1) xs)) m begun tears)

pub tears_last : {X : Type 0} (since : ℕ) (trace : Trace Frame) (xs ys : List Outlet) (r : Result X Mismatch) →
    All (BeginsText since trace) xs →
    IfErr r (Tears since trace ys) →
    IfErr r (Tears since trace (xs ++ ys))
tears_last since trace xs ys (Ok x) begun tears = tt
tears_last since trace xs ys (Err m) begun tears =
    subst (λ outlets. Tears since trace (xs ++ outlets) m) (append-nil ys) (tears_within since trace xs ys [] m begun tears)

-- ---- what is not as in the trace

mismatch_of : (since : Option ℕ) (trace : Trace Frame) (ports : List (List Call)) (outlets : List Outlet) (m : Mismatch) →
    AreAlike since trace.steps ports →
    Tears (lost since) trace outlets m →
    Mismatches since trace ports outlets m
mismatch_of since trace ports outlets (Port n) alike tears = absurd tears
mismatch_of since trace ports outlets (Link peer) alike tears = (alike, tears)
mismatch_of since trace ports outlets OutOfMemory alike tears = tt

pub mismatch_in : {X : Type 0} (since : Option ℕ) (trace : Trace Frame) (ports : List (List Call)) (outlets : List Outlet) (r : Result X Mismatch) →
    AreAlike since trace.steps ports →
    IfErr r (Tears (lost since) trace outlets) →
    IfErr r (Mismatches since trace ports outlets)
mismatch_in since trace ports outlets (Ok x) alike tears = tt
mismatch_in since trace ports outlets (Err m) alike tears = mismatch_of since trace ports outlets m alike tears

pub all_within : (since : ℕ) (trace : Trace Frame) (outlets : List Outlet) (links : List LinkReport) →
    AddsReports since trace outlets [] links →
    All (IsWithin since trace) links
all_within since trace outlets links adds =
    subst (All (IsWithin since trace)) (sym adds.reports) (All-map (IsWithin since trace) report_of outlets
    (All-weaker (BeginsText since trace) (λ (o : Outlet). IsWithin since trace (report_of o)) (λ o begins. within since trace o begins) outlets adds.begun))

pub matches_of : (since : Option ℕ) (trace : Trace Frame) (ports : List (List Call)) (outlets : List Outlet) (links : List LinkReport) →
    AreAlike since trace.steps ports →
    AddsReports (lost since) trace outlets [] links →
    Matches since trace ports outlets links
matches_of since trace ports outlets links alike adds = record { alike = alike; reported = adds; within = all_within (lost since) trace outlets links adds }

-- what holds of an answer, where more holds of it
pub ok_turned : {X E : Type 0} (P Q : X → Type 0) (r : Result X E) → IfOk r P → ((x : X) → P x → Q x) → IfOk r Q
ok_turned P Q (Ok x) holds turn = turn x holds
ok_turned P Q (Err e) holds turn = tt

-- what holds of an error that is passed on
pub passed_on : {X E : Type 0} (P : E → Type 0) (r : Result X E) (e : E) → IsErrAnd r (λ f. f ≡ e) → P e → IfErr r P
passed_on P (Ok x) e is holds = absurd is
passed_on P (Err f) e is holds = subst P (sym is) holds
