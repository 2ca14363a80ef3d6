-- Letters, and the links that take them.
use Rattle.std.specs.Prelude.{◌≡◌, ◌<◌, ◌+◌, ◌||◌, ℕ, Bool, true, false, not, List, [], ◌∷◌, ◌++◌, Some, None}
use Rattle.std.specs.Prelude.{drop, filter, fold, length, map, slice_get, slice_set, take, refl, if◌then◌else◌}
use Rattle.std.specs.List.{All, AllByRecursion as Each, IsDistinct, position}
use Rattle.std.proofs.Common.{◌∙◌, ap, arith, append_assoc, get_or, inl, inr, length-append, subst, sym, zero, suc}
use Rattle.std.specs.Option.{unwrap_or}
use Rattle.std.proofs.Math.Seq.{get_or-append_seam}
use Rattle.std.proofs.lemmas.List.{append-nil, length-map, map-append, take_at, take_more}
use Rattle.std.proofs.lemmas.List.Elements.{filter-append}
use Rattle.std.proofs.lemmas.List.Folds.{list_any-append}
use Rattle.std.proofs.lemmas.List.Quantifiers.{position-Some}
use Rattle.std.proofs.lemmas.Option.{slice_get-get_or, slice_get_within}
use Rattle.node_names.specs.NodeName.{Name}
use Rattle.node_names.specs.Same.{has_name, same_name, same_name-Decides, same_name-laws}
use Rattle.frames.specs.Frame.{Frame}
use Rattle.node_threads.specs.Applying.{Puts, mail_for, mail_to, unlinked, with_name}
use Rattle.node_threads.specs.Cell.{Link, is_linked, peers_of}
use Rattle.node_threads.specs.Letters.{HaveMail, IsAddressed, Letter, Posted, Took, TookPart, lacking, left_open, mail_in, still_named}
use Rattle.node_threads.specs.LinkText.{spelling}
use Rattle.node_threads.specs.Opened.{others, without}
use Rattle.node_threads.specs.Outlet.{fresh_outlet}

-- ---- names and their places

pub addressed_at : (names : List Name) (name : Name) (place : ℕ) → position (same_name name) names ≡ Some place → slice_get names place ≡ Some name
addressed_at names name place is =
    let found = position-Some (same_name name) names place name is in
    slice_get-get_or names place name found.0 ∙ ap Some (sym ((same_name-Decides name (get_or names place name)).0 found.1))

same_item : {X : Type 0} (x y : X) → Some x ≡ Some y → x ≡ y
same_item x y is = ap (λ o. unwrap_or o x) is

each_at : {X : Type 0} (P : X → Type 0) (xs : List X) (i : ℕ) (x : X) → Each P xs → slice_get xs i ≡ Some x → P x
each_at P [] i x all is = let no : None ≡ Some x = is in absurd (cc no)
each_at P (y ∷ ys) zero x all is = subst P (same_item y x is) all.0
each_at P (y ∷ ys) (suc i) x all is = each_at P ys i x all.1 is

each_turned : {X : Type 0} (P Q : X → Type 0) → ((x : X) → P x → Q x) → (xs : List X) → Each P xs → Each Q xs
each_turned P Q turn [] all = tt
each_turned P Q turn (x ∷ xs) all = (turn x all.0, each_turned P Q turn xs all.1)

-- ---- one letter more

mail_more : (letters : List Letter) (letter : Letter) (peer : Name) → mail_in (letters ++ letter ∷ []) peer ≡ mail_in letters peer ++ mail_in (letter ∷ []) peer
mail_more letters letter peer =
    ap (map (λ (l : Letter). l.2)) (filter-append (λ (l : Letter). same_name l.0 peer) letters (letter ∷ []))
    ∙ map-append (λ (l : Letter). l.2) (filter (λ (l : Letter). same_name l.0 peer) letters) (filter (λ (l : Letter). same_name l.0 peer) (letter ∷ []))

mail_of_one : (letter : Letter) (peer : Name) (b : Bool) → same_name letter.0 peer ≡ b → mail_in (letter ∷ []) peer ≡ (if b then letter.2 ∷ [] else [])
mail_of_one letter peer b is = ap (λ t. map (λ (l : Letter). l.2) (if t then letter ∷ [] else [])) is ∙ go b
  where
    go : (b : Bool) → map (λ (l : Letter). l.2) (if b then letter ∷ [] else []) ≡ (if b then letter.2 ∷ [] else [])
    go true = refl
    go false = refl

mail_other : (letters : List Letter) (letter : Letter) (peer : Name) →
    same_name letter.0 peer ≡ false →
    mail_in (letters ++ letter ∷ []) peer ≡ mail_in letters peer
mail_other letters letter peer other =
    mail_more letters letter peer ∙ ap (λ mail. mail_in letters peer ++ mail) (mail_of_one letter peer false other) ∙ append-nil (mail_in letters peer)

mail_its : (letters : List Letter) (letter : Letter) (peer : Name) →
    same_name letter.0 peer ≡ true →
    mail_in (letters ++ letter ∷ []) peer ≡ mail_in letters peer ++ letter.2 ∷ []
mail_its letters letter peer its = mail_more letters letter peer ∙ ap (λ mail. mail_in letters peer ++ mail) (mail_of_one letter peer true its)

or_false : (b : Bool) → (b || false) ≡ b
or_false true = refl
or_false false = refl

or_true : (b : Bool) → (b || true) ≡ true
or_true true = refl
or_true false = refl

-- whether a name is blocked, once this one is too
blocked_more : (b : List Name) (name peer : Name) (t : Bool) → same_name name peer ≡ t → has_name (b ++ name ∷ []) peer ≡ (has_name b peer || t)
blocked_more b name peer t is =
    list_any-append (same_name peer) b (name ∷ [])
    ∙ ap (λ u. has_name b peer || u) (or_false (same_name peer name) ∙ same_name-laws.symm peer name ∙ is)

-- ---- links that a letter is not for

-- which names are blocked stays so for all but one
abbrev SameFor : Name → List Name → List Name → Type 0
SameFor name b b' = (peer : Name) → same_name name peer ≡ false → has_name b' peer ≡ has_name b peer

same_more : (b : List Name) (name : Name) → SameFor name b (b ++ name ∷ [])
same_more b name peer other = blocked_more b name peer false other ∙ or_false (has_name b peer)

module _ (b b' : List Name) (letters : List Letter) (letter : Letter) (same : SameFor letter.0 b b') where
  passed_one : (old new : Link) →
      same_name letter.0 old.peer ≡ false →
      Took (mail_in letters old.peer) (has_name b old.peer) old new →
      Took (mail_in (letters ++ letter ∷ []) old.peer) (has_name b' old.peer) old new
  passed_one old new other took =
      subst (λ flag. Took (mail_in (letters ++ letter ∷ []) old.peer) flag old new) (sym (same old.peer other))
      (subst (λ mail. Took mail (has_name b old.peer) old new) (sym (mail_other letters letter old.peer other)) took)

  passed : (olds news : List Link) →
      Each (λ name. same_name letter.0 name ≡ false) (peers_of olds) →
      Posted b letters olds news →
      Posted b' (letters ++ letter ∷ []) olds news
  passed [] [] away posted = tt
  passed [] (new ∷ news) away posted = posted
  passed (old ∷ olds) [] away posted = posted
  passed (old ∷ olds) (new ∷ news) away posted = (passed_one old new away.0 posted.0, passed olds news away.1 posted.1)

  -- the link at the letter's place takes it, and no other
  pub at_place : (after : Link) (olds news : List Link) (place : ℕ)
      → ((old new : Link)
      → old.peer ≡ letter.0
      → slice_get news place ≡ Some new
      → Took (mail_in letters old.peer) (has_name b old.peer) old new
      → Took (mail_in (letters ++ letter ∷ []) old.peer) (has_name b' old.peer) old after)
      → IsDistinct same_name (peers_of olds)
      → slice_get (peers_of olds) place ≡ Some letter.0
      → Posted b letters olds news
      → Posted b' (letters ++ letter ∷ []) olds (slice_set news place after)
  unfolding IsDistinct
  at_place after [] news place one apart here posted = let no : None ≡ Some letter.0 = here in absurd (cc no)
  at_place after (old ∷ olds) [] place one apart here posted = absurd posted
  at_place after (old ∷ olds) (new ∷ news) zero one apart here posted =
      let its : old.peer ≡ letter.0 = same_item old.peer letter.0 here in
      (one old new its refl posted.0, passed olds news (subst (λ name. Each (λ other. same_name name other ≡ false) (peers_of olds)) its apart.0) posted.1)
  at_place after (old ∷ olds) (new ∷ news) (suc place) one apart here posted =
      let other : same_name old.peer letter.0 ≡ false = each_at (λ name. same_name old.peer name ≡ false) (peers_of olds) place letter.0 apart.0 here in
      (passed_one old new (same_name-laws.symm letter.0 old.peer ∙ other) posted.0, at_place after olds news place one apart.1 here posted.1)

-- ---- what becomes of a letter

module _ (b : List Name) (letters : List Letter) (letter : Letter) where
  its_name : (peer : Name) → peer ≡ letter.0 → same_name letter.0 peer ≡ true
  its_name peer is = (same_name-Decides letter.0 peer).1 (sym is)

  -- it comes into the ring
  pub comes : (old new after : Link) → has_name b letter.0 ≡ false → after ≡ record new { pushed = new.pushed ++ letter.2 ∷ [] } → old.peer ≡ letter.0
      → Took (mail_in letters old.peer) (has_name b old.peer) old new → Took (mail_in (letters ++ letter ∷ []) old.peer) (has_name b old.peer) old after
  comes old new after free is its took =
      let flag : has_name b old.peer ≡ false = ap (has_name b) its ∙ free in
      let before : new ≡ record old { pushed = old.pushed ++ mail_in letters old.peer } = subst (λ t. Took (mail_in letters old.peer) t old new) flag took in
      subst (λ t. Took (mail_in (letters ++ letter ∷ []) old.peer) t old after) (sym flag)
      (is ∙ ap (λ (l : Link). record l { pushed = l.pushed ++ letter.2 ∷ [] }) before
      ∙ ap (λ pushed. record old { pushed = pushed }) (append_assoc old.pushed (mail_in letters old.peer) (letter.2 ∷ [])
      ∙ ap (λ mail. old.pushed ++ mail) (sym (mail_its letters letter old.peer (its_name old.peer its)))))

  -- its ring has no room
  pub blocks : (old new after : Link) → has_name b letter.0 ≡ false → after ≡ new → old.peer ≡ letter.0
      → Took (mail_in letters old.peer) (has_name b old.peer) old new
      → Took (mail_in (letters ++ letter ∷ []) old.peer) (has_name (b ++ letter.0 ∷ []) old.peer) old after
  blocks old new after free is its took =
      let mine = its_name old.peer its in
      let flag : has_name b old.peer ≡ false = ap (has_name b) its ∙ free in
      let before : new ≡ record old { pushed = old.pushed ++ mail_in letters old.peer } = subst (λ t. Took (mail_in letters old.peer) t old new) flag took in
      subst (λ t. Took (mail_in (letters ++ letter ∷ []) old.peer) t old after)
      (sym (blocked_more b letter.0 old.peer true mine ∙ or_true (has_name b old.peer)))
      (record {
        taken = mail_in letters old.peer;
        left = letter.2 ∷ [];
        parts = mail_its letters letter old.peer mine;
        some_left = omega arith;
        took = is ∙ before;
      })

  -- its link is blocked already
  pub is_late : has_name b letter.0 ≡ true → (olds news : List Link) → Posted b letters olds news → Posted b (letters ++ letter ∷ []) olds news
  is_late blocked [] [] posted = tt
  is_late blocked [] (new ∷ news) posted = posted
  is_late blocked (old ∷ olds) [] posted = posted
  is_late blocked (old ∷ olds) (new ∷ news) posted = (go (same_name letter.0 old.peer) refl, is_late blocked olds news posted.1)
    where
      go : (t : Bool) → same_name letter.0 old.peer ≡ t → Took (mail_in (letters ++ letter ∷ []) old.peer) (has_name b old.peer) old new
      go false other = passed_one b b letters letter (λ peer no. refl) old new other posted.0
      go true its =
          let flag : has_name b old.peer ≡ true = ap (has_name b) (sym ((same_name-Decides letter.0 old.peer).0 its)) ∙ blocked in
          let before : TookPart (mail_in letters old.peer) old new = subst (λ t. Took (mail_in letters old.peer) t old new) flag posted.0 in
          subst (λ t. Took (mail_in (letters ++ letter ∷ []) old.peer) t old new) (sym flag) (record {
            taken = before.taken;
            left = before.left ++ letter.2 ∷ [];
            parts =
                mail_its letters letter old.peer its ∙ ap (λ mail. mail ++ letter.2 ∷ []) before.parts ∙ append_assoc before.taken before.left (letter.2 ∷ []);
            some_left = let some = before.some_left in omega (arith, some, length-append before.left (letter.2 ∷ []));
            took = before.took;
          })

-- ---- one letter, whatever becomes of it

module _ (b : List Name) (letters : List Letter) (letter : Letter) (olds news : List Link) (new after : Link)
    (apart : IsDistinct same_name (peers_of news)) (here : slice_get (peers_of news) letter.1 ≡ Some letter.0)
    (free : has_name b letter.0 ≡ false) (is_new : slice_get news letter.1 ≡ Some new)
    (peers : peers_of olds ≡ peers_of news) (posted : Posted b letters olds news)
  where
    pub took_it : after ≡ record new { pushed = new.pushed ++ letter.2 ∷ [] } → Posted b (letters ++ letter ∷ []) olds (slice_set news letter.1 after)
    took_it is =
        at_place b b letters letter (λ peer other. refl) after olds news letter.1
        (λ old found its there took. comes b letters letter old found after free
        (is ∙ ap (λ (l : Link). record l { pushed = l.pushed ++ letter.2 ∷ [] }) (same_item new found (sym is_new ∙ there))) its took)
        (subst (IsDistinct same_name) (sym peers) apart) (ap (λ ns. slice_get ns letter.1) peers ∙ here) posted

    pub had_no_room : after ≡ new → Posted (b ++ letter.0 ∷ []) (letters ++ letter ∷ []) olds (slice_set news letter.1 after)
    had_no_room is =
        at_place b (b ++ letter.0 ∷ []) letters letter (same_more b letter.0) after olds news letter.1
        (λ old found its there took. blocks b letters letter old found after free (is ∙ same_item new found (sym is_new ∙ there)) its took)
        (subst (IsDistinct same_name) (sym peers) apart) (ap (λ ns. slice_get ns letter.1) peers ∙ here) posted

-- posting to links leaves their names as they were
pub posted_peers : (b : List Name) (letters : List Letter) (olds news : List Link) → Posted b letters olds news → peers_of olds ≡ peers_of news
posted_peers b letters [] [] posted = refl
posted_peers b letters [] (new ∷ news) posted = absurd posted
posted_peers b letters (old ∷ olds) [] posted = absurd posted
posted_peers b letters (old ∷ olds) (new ∷ news) posted = (λ i. head (has_name b old.peer) posted.0 i ∷ posted_peers b letters olds news posted.1 i)
  where
    head : (flag : Bool) → Took (mail_in letters old.peer) flag old new → old.peer ≡ new.peer
    head false took = ap (λ (l : Link). l.peer) (sym took)
    head true took = ap (λ (l : Link). l.peer) (sym took.took)

-- replacing a link by one to the same name leaves the names as they were
pub peers_set : (links : List Link) (place : ℕ) (new after : Link) →
    slice_get links place ≡ Some new →
    after.peer ≡ new.peer →
    peers_of (slice_set links place after) ≡ peers_of links
peers_set [] place new after here is = let no : None ≡ Some new = here in absurd (cc no)
peers_set (link ∷ links) zero new after here is = let its = is ∙ ap (λ (l : Link). l.peer) (sym (same_item link new here)) in (λ i. its i ∷ peers_of links)
peers_set (link ∷ links) (suc place) new after here is = let rest = peers_set links place new after here is in (λ i. link.peer ∷ rest i)

-- ---- packets, one after the other

pub mail_parts : (xs ys : List (Name × Frame)) (peer : Name) → mail_for (xs ++ ys) peer ≡ mail_for xs peer ++ mail_for ys peer
mail_parts xs ys peer =
    let goes : (Name × Frame) → Bool = λ send. same_name send.0 peer in
    ap (λ sends. map spelling (map (λ (send : Name × Frame). send.1) sends)) (filter-append goes xs ys)
    ∙ ap (map spelling) (map-append (λ (send : Name × Frame). send.1) (filter goes xs) (filter goes ys))
    ∙ map-append spelling (map (λ (send : Name × Frame). send.1) (filter goes xs)) (map (λ (send : Name × Frame). send.1) (filter goes ys))

pub mail_on : (sends : List (Name × Frame)) (i : ℕ) (send : Name × Frame) (peer : Name) →
    i < length sends →
    send ≡ get_or sends i send →
    mail_for (take (i + 1) sends) peer ≡ mail_for (take i sends) peer ++ mail_for (send ∷ []) peer
mail_on sends i send peer within is =
    ap (λ ss. mail_for ss peer) (take_more sends i send within) ∙ mail_parts (take i sends) (get_or sends i send ∷ []) peer
    ∙ ap (λ s. mail_for (take i sends) peer ++ mail_for (s ∷ []) peer) (sym is)

-- links, one after the other
pub blocked_on : (b : List Name) (links : List Link) (i : ℕ) (link : Link) →
    i < length links →
    link ≡ get_or links i link →
    filter (has_name b) (peers_of (take (i + 1) links)) ≡ filter (has_name b) (peers_of (take i links)) ++ filter (has_name b) (link.peer ∷ [])
blocked_on b links i link within is =
    ap (λ ls. filter (has_name b) (peers_of ls)) (take_more links i link within ∙ ap (λ l. take i links ++ l ∷ []) (sym is))
    ∙ ap (filter (has_name b)) (map-append (λ (l : Link). l.peer) (take i links) (link ∷ []))
    ∙ filter-append (has_name b) (peers_of (take i links)) (link.peer ∷ [])

pub all_of_one : {X : Type 0} (P : X → Type 0) (x : X) → P x → All P (x ∷ [])
all_of_one P x it zero d within = it
all_of_one P x it (suc k) d within = absurd (omega arith)

-- links to which nothing was posted yet
pub none_posted : (olds : List Link) → Posted [] [] olds olds
none_posted [] = tt
none_posted (old ∷ olds) = (ap (λ pushed. record old { pushed = pushed }) (sym (append-nil old.pushed)), none_posted olds)

-- ---- letters, one after the other

pub seam : {X : Type 0} (P : X → Type 0) (before rest all : List X) (x : X) → before ++ x ∷ rest ≡ all → All P all → P x
seam P before rest all x is holds =
    let within : length before < length all = let e = ap length is in omega (arith, e, length-append before (x ∷ rest)) in
    subst P (get_or-append_seam before x rest x) (subst (λ xs. P (get_or xs (length before) x)) (sym is) (holds (length before) x within))

pub place_within : (links : List Link) (letter : Letter) → IsAddressed (peers_of links) letter → letter.1 < length links
place_within links letter here =
    let within = slice_get_within (peers_of links) letter.1 letter.0 here in omega (arith, within, length-map links (λ (l : Link). l.peer))

pub all_gone : {X : Type 0} (before rest all : List X) → before ++ rest ≡ all → length rest ≡ 0 → before ≡ all
all_gone before [] all is none = sym (append-nil before) ∙ is
all_gone before (x ∷ rest) all is none = absurd (omega arith)

-- ---- where no link is blocked

pub no_items : {X : Type 0} (xs : List X) → length xs ≡ 0 → xs ≡ []
no_items [] none = refl
no_items (x ∷ xs) none = absurd (omega arith)

filter_all : {X : Type 0} (xs : List X) → filter (λ x. true) xs ≡ xs
filter_all [] = refl
filter_all (x ∷ xs) = (λ i. x ∷ filter_all xs i)

filter_none : {X : Type 0} (xs : List X) → filter (λ x. false) xs ≡ []
filter_none [] = refl
filter_none (x ∷ xs) = filter_none xs

module _ (b : List Name) (none : b ≡ []) where
  pub none_full : (links : List Link) → b ≡ filter (has_name b) (peers_of links)
  none_full links = none ∙ sym (ap (λ names. filter (has_name names) (peers_of links)) none ∙ filter_none (peers_of links))

  pub all_open : (links : List Link) → links ≡ left_open b links
  all_open links = sym (ap (λ names. left_open names links) none ∙ filter_all links)

  pub all_named : (names : List Name) → names ≡ still_named b names
  all_named names = sym (ap (λ bs. still_named bs names) none ∙ filter_all names)

-- ---- names of links

-- the names of the links that stay open
pub open_names : (b : List Name) (links : List Link) → still_named b (peers_of links) ≡ peers_of (left_open b links)
open_names b [] = refl
open_names b (link ∷ links) = go (has_name b link.peer) (open_names b links)
  where
    go : (t : Bool) →
        still_named b (peers_of links) ≡ peers_of (left_open b links) →
        (if not t then link.peer ∷ still_named b (peers_of links) else still_named b (peers_of links))
        ≡ peers_of (if not t then link ∷ left_open b links else left_open b links)
    go true rest = rest
    go false rest = (λ i. link.peer ∷ rest i)

pub other_names : (name : Name) (links : List Link) → others name (peers_of links) ≡ peers_of (without name links)
other_names name [] = refl
other_names name (link ∷ links) = go (same_name name link.peer) (other_names name links)
  where
    go : (t : Bool) →
        others name (peers_of links) ≡ peers_of (without name links) →
        (if not t then link.peer ∷ others name (peers_of links) else others name (peers_of links))
        ≡ peers_of (if not t then link ∷ without name links else without name links)
    go true rest = rest
    go false rest = (λ i. link.peer ∷ rest i)

-- the name is not among the other names
pub gone : (name : Name) (names : List Name) → has_name (others name names) name ≡ false
gone name [] = refl
gone name (other ∷ names) = go (same_name name other) refl (gone name names)
  where
    go : (t : Bool) →
        same_name name other ≡ t →
        has_name (others name names) name ≡ false →
        has_name (if not t then other ∷ others name names else others name names) name ≡ false
    go true is rest = rest
    go false is rest = ap (λ u. u || has_name (others name names) name) is ∙ rest

-- the names of the links after one to this name is opened
pub named_more : (name : Name) (names : List Name) (links : List Link) (link : Link) →
    names ≡ peers_of links →
    link.peer ≡ name →
    others name names ++ name ∷ [] ≡ peers_of (without name links ++ link ∷ [])
named_more name names links link listed its =
    ap (λ ns. others name ns ++ name ∷ []) listed
    ∙ ap (λ ns. ns ++ name ∷ []) (other_names name links)
    ∙ ap (λ n. peers_of (without name links) ++ n ∷ []) (sym its)
    ∙ sym (map-append (λ (l : Link). l.peer) (without name links) (link ∷ []))

-- ---- the links of a node

linked_named : (links : List Link) (name : Name) → is_linked links name ≡ has_name (peers_of links) name
linked_named [] name = refl
linked_named (link ∷ links) name = ap (λ u. same_name name link.peer || u) (linked_named links name)

-- the receivers without a link, by the links and by their names
pub lacks_by_names : (links : List Link) (sends : List (Name × Frame)) → unlinked links sends ≡ lacking (peers_of links) sends
lacks_by_names links sends =
    (λ i. fold (λ (names : List Name) (send : Name × Frame). if linked_named links send.0 i then names else with_name names send.0) [] sends)

-- each link has a name among these
each_named : (links all : List Link) →
    ((name : Name) → has_name (peers_of links) name ≡ true → has_name (peers_of all) name ≡ true) →
    Each (λ (link : Link). has_name (peers_of all) link.peer ≡ true) links
each_named [] all among = tt
each_named (link ∷ links) all among = (
  among link.peer (ap (λ t. t || has_name (peers_of links) link.peer) ((same_name-Decides link.peer link.peer).1 refl)),
  each_named links all (λ name is. among name (ap (λ u. same_name name link.peer || u) is ∙ or_true (same_name name link.peer))),
)

module _ (b : List Name) (letters : List Letter) (sends : List (Name × Frame)) where
  puts_each : (olds news : List Link) →
      Posted b letters olds news →
      Each (λ (link : Link). mail_in letters link.peer ≡ mail_for sends link.peer) olds →
      Puts (map (mail_to sends) olds) olds (left_open b news) (filter (has_name b) (peers_of olds))
  puts_each [] [] posted mail = (refl, refl)
  puts_each [] (new ∷ news) posted mail = absurd posted
  puts_each (old ∷ olds) [] posted mail = absurd posted
  puts_each (old ∷ olds) (new ∷ news) posted mail = go (has_name b old.peer) refl posted.0 (puts_each olds news posted.1 mail.1)
    where
      -- what is to be shown, by whether the link is blocked
      Goal : Bool → Bool → Type 0
      Goal t u =
          Puts (map (mail_to sends) (old ∷ olds)) (old ∷ olds) (if not t then new ∷ left_open b news else left_open b news)
          (if u then old.peer ∷ filter (has_name b) (peers_of olds) else filter (has_name b) (peers_of olds))

      go : (t : Bool) →
          has_name b old.peer ≡ t →
          Took (mail_in letters old.peer) (has_name b old.peer) old new →
          Puts (map (mail_to sends) olds) olds (left_open b news) (filter (has_name b) (peers_of olds)) →
          Goal (has_name b new.peer) (has_name b old.peer)
      go false is took rest =
          let its : new ≡ record old { pushed = old.pushed ++ mail_in letters old.peer } = subst (λ t. Took (mail_in letters old.peer) t old new) is took in
          let same : has_name b new.peer ≡ false = ap (λ (l : Link). has_name b l.peer) its ∙ is in
          subst (λ t. Goal t (has_name b old.peer)) (sym same) (subst (Goal false) (sym is)
          (inl (left_open b news, ap (λ l. l ∷ left_open b news) (its ∙ ap (λ m. record old { pushed = old.pushed ++ m }) mail.0), rest)))
      go true is took rest =
          let its : TookPart (mail_in letters old.peer) old new = subst (λ t. Took (mail_in letters old.peer) t old new) is took in
          let same : has_name b new.peer ≡ true = ap (λ (l : Link). has_name b l.peer) its.took ∙ is in
          let some : 0 < length (mail_in letters old.peer) =
          let e = ap length its.parts in let left = its.some_left in omega (arith, e, left, length-append its.taken its.left) in
          subst (λ t. Goal t (has_name b old.peer)) (sym same) (subst (Goal true) (sym is)
          (inr (filter (has_name b) (peers_of olds), refl, subst (λ m. 0 < length m) mail.0 some, rest)))

-- what the letters did is what the sends do
pub posted_puts : (b : List Name) (letters : List Letter) (sends : List (Name × Frame)) (olds news : List Link) →
    HaveMail (peers_of olds) sends letters →
    Posted b letters olds news →
    Puts (map (mail_to sends) olds) olds (left_open b news) (filter (has_name b) (peers_of olds))
posted_puts b letters sends olds news have posted =
    puts_each b letters sends olds news posted (each_turned _ _ (λ (link : Link) is. have link.peer is) olds (each_named olds olds (λ name is. is)))

-- a slice that was written over all of the links
pub over_links : (len : ℕ) (olds news : List Link) → len ≡ length olds → peers_of olds ≡ peers_of news → take len (news ++ drop (length news) olds) ≡ news
over_links len olds news is same =
    take_at news (drop (length news) olds) len (let e = ap length same in
    omega (arith, is, e, length-map olds (λ (l : Link). l.peer), length-map news (λ (l : Link). l.peer)))

-- outlets, one after the other
pub outlets_on : (names : List Name) (i : ℕ) (name : Name) →
    i < length names →
    name ≡ get_or names i name →
    map fresh_outlet (take (i + 1) names) ≡ map fresh_outlet (take i names) ++ fresh_outlet name ∷ []
outlets_on names i name within is =
    ap (map fresh_outlet) (take_more names i name within)
    ∙ map-append fresh_outlet (take i names) (get_or names i name ∷ [])
    ∙ ap (λ n. map fresh_outlet (take i names) ++ fresh_outlet n ∷ []) (sym is)
