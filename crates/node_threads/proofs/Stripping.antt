-- What is left of a list after a text, part by part.
use Rattle.std.specs.Prelude.{◌≡◌, ◌⊎◌, ◌+◌, ◌-◌, ◌<◌, ◌≤◌, ◌==◌, ℕ, Bool, true, false, List, [], ◌∷◌, ◌++◌}
use Rattle.std.specs.Prelude.{Option, Some, None, drop, filter, length, map, not, refl, if◌then◌else◌}
use Rattle.std.specs.List.{slice_get}
use Rattle.std.specs.Prelude.{nat_eq}
use Rattle.std.specs.Cmp.Lexicographic.{pointwise}
use Rattle.std.proofs.Common.{◌∙◌, ap, subst, sym, append_assoc, arith, get_or, inl, inr, true≢false}
use Rattle.std.proofs.lemmas.List.{append-nil, drop_all, drop_more, map-append}
use Rattle.std.proofs.lemmas.Option.{get_or_from_slice_get, slice_get_cases, slice_get_within}
use mathlib.Core.List.{IsPrefix}
use Rattle.node_names.specs.NodeName.{Name}
use Rattle.node_names.specs.Same.{same_name, same_name-Decides}
use Rattle.protocol.specs.Trace.{Step, Trace}
use Rattle.frames.specs.Frame.{Frame}
use Rattle.node_threads.specs.Applying.{mail_for}
use Rattle.node_threads.specs.LinkText.{sent_to, spelling, text_of, text_since}
use Rattle.node_threads.specs.Outlet.{Outlet}
use Rattle.node_threads.specs.Report.{BeginsText, Leaves}

abbrev Texts : Type 0
Texts = List (List ℕ)

-- ---- a text of no frame, and none left

pub after_none : (given : Texts) → Leaves given [] (Some given)
after_none given more = (λ p. p, λ p. p)

-- where nothing came out, nothing is left after any text
pub after_any : (text : Texts) → Leaves [] text (Some [])
after_any text more = (λ p. (more, refl), λ p. (text ++ more, refl))

pub after_none_left : (given text : Texts) → length given ≡ 0 → Leaves given text (Some given)
after_none_left [] text none = after_any text
after_none_left (frame ∷ given) text none = absurd (omega arith)

-- ---- a text after another

pub after_both : (given a b rest : Texts) (left : Option Texts) → Leaves given a (Some rest) → Leaves rest b left → Leaves given (a ++ b) left
after_both given a b rest (Some last) one two = λ more.
    let e = append_assoc a b more in
    (λ p. (two more).0 ((one (b ++ more)).0 (subst (IsPrefix given) e p)), λ p. subst (IsPrefix given) (sym e) ((one (b ++ more)).1 ((two more).1 p)))
after_both given a b rest None one two = λ more p. two more ((one (b ++ more)).0 (subst (IsPrefix given) (append_assoc a b more) p))

pub after_differing : (given a b : Texts) → Leaves given a None → Leaves given (a ++ b) None
after_differing given a b differ more p = differ (b ++ more) (subst (IsPrefix given) (append_assoc a b more) p)

-- ---- a whole text

whole : (given text : Texts) → IsPrefix given text → IsPrefix given (text ++ [])
whole given text p = subst (IsPrefix given) (sym (append-nil text)) p

-- if nothing is left, what came out is how the text begins
pub begins : (given text rest : Texts) → Leaves given text (Some rest) → length rest ≡ 0 → IsPrefix given text
begins given text [] left none = subst (IsPrefix given) (append-nil text) ((left []).1 ([], refl))
begins given text (frame ∷ rest) left none = absurd (omega arith)

-- and only then
pub begins_whole : (given text rest : Texts) → Leaves given text (Some rest) → IsPrefix given text → length rest ≡ 0
begins_whole given text [] left p = refl
begins_whole given text (frame ∷ rest) left p = let more = (left []).0 (whole given text p) in absurd (cc (more.1))

pub begins_not : (given text : Texts) → Leaves given text None → IsPrefix given text → ⊥
begins_not given text left p = left [] (whole given text p)

-- ---- a loop

-- what is left of these after this text is what is left of all after the whole text
abbrev pub GoesOn : Texts → Texts → Texts → Texts → Type 0
GoesOn all all_text given text = (left : Option Texts) → Leaves given text left → Leaves all all_text left

module _ (all all_text given text : Texts) (goes : GoesOn all all_text given text) where
  -- the text is this one and then that one
  pub on : (a b rest : Texts) → text ≡ a ++ b → Leaves given a (Some rest) → GoesOn all all_text rest b
  on a b rest parts one left two = goes left (subst (λ t. Leaves given t left) (sym parts) (after_both given a b rest left one two))

  pub on_none : (a b : Texts) → text ≡ a ++ b → Leaves given a None → Leaves all all_text None
  on_none a b parts differ = goes None (subst (λ t. Leaves given t None) (sym parts) (after_differing given a b differ))

  pub on_none_left : length given ≡ 0 → Leaves all all_text (Some given)
  on_none_left none = goes (Some given) (after_none_left given text none)

  pub on_end : text ≡ [] → Leaves all all_text (Some given)
  on_end end = goes (Some given) (subst (λ t. Leaves given t (Some given)) (sym end) (after_none given))

-- ---- packets and steps

-- packets as their bytes
abbrev bytes_of : List (Name × Frame) → Texts
bytes_of sends = map spelling (map (λ send. send.1) sends)

-- one packet, and then others
mail_next : (peer : Name) (send : Name × Frame) (sends : List (Name × Frame)) → mail_for (send ∷ sends) peer ≡ mail_for (send ∷ []) peer ++ mail_for sends peer
mail_next peer send sends = go (same_name send.0 peer)
  where
    go : (b : Bool) →
        bytes_of (if b then send ∷ filter (λ s. same_name s.0 peer) sends else filter (λ s. same_name s.0 peer) sends)
        ≡ bytes_of (if b then send ∷ [] else []) ++ mail_for sends peer
    go true = refl
    go false = refl

pub mail_at : (peer : Name) (sends : List (Name × Frame)) (i : ℕ) (send : Name × Frame) →
    i < length sends →
    send ≡ get_or sends i send →
    mail_for (drop i sends) peer ≡ mail_for (send ∷ []) peer ++ mail_for (drop (i + 1) sends) peer
mail_at peer sends i send within here =
    ap (λ ss. mail_for ss peer) (drop_more sends i send within ∙ ap (λ s. s ∷ drop (i + 1) sends) (sym here)) ∙ mail_next peer send (drop (i + 1) sends)

pub no_mail : (peer : Name) (sends : List (Name × Frame)) (i : ℕ) → length sends ≤ i → mail_for (drop i sends) peer ≡ []
no_mail peer sends i past = ap (λ ss. mail_for ss peer) (drop_all i sends past)

-- the frames of these steps to the peer, as their bytes
abbrev pub mail_since : Name → List (Step Frame) → Texts
mail_since peer steps = map spelling (text_of peer steps)

-- one step, and then others
pub mail_since_at : (peer : Name) (steps : List (Step Frame)) (i : ℕ) (step : Step Frame) (sends : List (Name × Frame)) →
    Some step ≡ slice_get steps i →
    sends ≡ step.out.sends →
    mail_since peer (drop i steps) ≡ mail_for sends peer ++ mail_since peer (drop (i + 1) steps)
mail_since_at peer steps i step sends here its =
    let first : get_or steps i step ≡ step = get_or_from_slice_get steps i step step (sym here) in
    ap (mail_since peer) (drop_more steps i step (slice_get_within steps i step (sym here)) ∙ ap (λ s. s ∷ drop (i + 1) steps) first)
    ∙ map-append spelling (sent_to peer step.out.sends) (text_of peer (drop (i + 1) steps))
    ∙ ap (λ ss. mail_for ss peer ++ mail_since peer (drop (i + 1) steps)) (sym its)

pub no_steps : (peer : Name) (steps : List (Step Frame)) (i : ℕ) → length steps ≤ i → mail_since peer (drop i steps) ≡ []
no_steps peer steps i past = ap (mail_since peer) (drop_all i steps past)

-- within a list there is an item
pub is_there : {X : Type 0} (xs : List X) (i : ℕ) → i < length xs → None ≡ slice_get xs i → ⊥
is_there {X = X} xs i within none = go (slice_get_cases xs i).1
  where
    go : ((x : X) × (i < length xs) × (slice_get xs i ≡ Some x) × (get_or xs i x ≡ x)) ⊎ ((length xs ≤ i) × (slice_get xs i ≡ None)) → ⊥
    go (inl at) = absurd (cc (at.2, none))
    go (inr past) = absurd (let p = past.0 in omega arith)

-- ---- the text of a link

-- the packets of the opening, where they count, as their bytes
pub opening_mail : (peer : Name) (is_first : Bool) (sends : List (Name × Frame)) →
    mail_for (if is_first then sends else []) peer ≡ map spelling (if is_first then sent_to peer sends else [])
opening_mail peer true sends = refl
opening_mail peer false sends = refl

-- the text of a link is the packets of the opening, where they count, and then those of the steps
pub text_parts : (since : ℕ) (trace : Trace Frame) (peer : Name) (opened : ℕ) →
    map spelling (text_since since trace peer opened)
    ≡ (if opened == 0 then mail_for trace.opening.sends peer else []) ++ mail_since peer (drop (opened - since) trace.steps)
text_parts since trace peer opened =
    map-append spelling (if opened == 0 then sent_to peer trace.opening.sends else []) (text_of peer (drop (opened - since) trace.steps))
    ∙ ap (λ mail. mail ++ mail_since peer (drop (opened - since) trace.steps)) (opening_counts (opened == 0) (sent_to peer trace.opening.sends))
  where
    opening_counts : (counts : Bool) (frames : List Frame) → map spelling (if counts then frames else []) ≡ (if counts then map spelling frames else [])
    opening_counts true frames = refl
    opening_counts false frames = refl

module _ (given : Texts) (since : ℕ) (trace : Trace Frame) (peer : Name) (opened : ℕ)
    (sends : List (Name × Frame)) (first : sends ≡ (if opened == 0 then trace.opening.sends else [])) where
  -- the text is the packets of the opening and then those of the steps
  link_parts : map spelling (text_since since trace peer opened) ≡ mail_for sends peer ++ mail_since peer (drop (opened - since) trace.steps)
  link_parts =
      map-append spelling (if opened == 0 then sent_to peer trace.opening.sends else []) (text_of peer (drop (opened - since) trace.steps))
      ∙ ap (λ mail. mail ++ mail_since peer (drop (opened - since) trace.steps))
      (sym (ap (λ ss. mail_for ss peer) first ∙ opening_mail peer (opened == 0) trace.opening.sends))

  pub after_link : (rest : Texts) (left : Option Texts) →
      Leaves given (mail_for sends peer) (Some rest) →
      Leaves rest (mail_since peer (drop (opened - since) trace.steps)) left →
      Leaves given (map spelling (text_since since trace peer opened)) left
  after_link rest left one two =
      subst (λ t. Leaves given t left) (sym link_parts)
      (after_both given (mail_for sends peer) (mail_since peer (drop (opened - since) trace.steps)) rest left one two)

  pub after_link_differing : Leaves given (mail_for sends peer) None → Leaves given (map spelling (text_since since trace peer opened)) None
  after_link_differing differ =
      subst (λ t. Leaves given t None) (sym link_parts)
      (after_differing given (mail_for sends peer) (mail_since peer (drop (opened - since) trace.steps)) differ)

-- ---- an outlet

module _ (since : ℕ) (trace : Trace Frame) (outlet : Outlet) where
  -- the text of the outlet's link
  abbrev pub its_text : Texts
  its_text = map spelling (text_since since trace outlet.peer outlet.opened)

  pub is_begun : (rest : Texts) →
      since ≤ outlet.opened →
      outlet.opened ≤ since + length trace.steps →
      Leaves outlet.given its_text (Some rest) →
      length rest ≡ 0 →
      BeginsText since trace outlet
  is_begun rest behind before left none = record { opened_since = behind; opened_before = before; begins = begins outlet.given its_text rest left none }

  pub is_not_begun : Leaves outlet.given its_text None → BeginsText since trace outlet → ⊥
  is_not_begun left text = begins_not outlet.given its_text left text.begins

  pub is_used_up : (rest : Texts) → Leaves outlet.given its_text (Some rest) → BeginsText since trace outlet → length rest ≡ 0
  is_used_up rest left text = begins_whole outlet.given its_text rest left text.begins

-- ---- one packet that goes to the peer

pub not_false : (b : Bool) → not b ≡ false → b ≡ true
not_false true is = refl
not_false false is = absurd (true≢false is)

module _ (given rest : Texts) (first : List ℕ) (peer : Name) (send : Name × Frame) (parts : given ≡ first ∷ rest) (goes : same_name send.0 peer ≡ true) where
  pub its_mail : mail_for (send ∷ []) peer ≡ spelling send.1 ∷ []
  its_mail = ap (λ b. bytes_of (if b then send ∷ [] else [])) goes

  -- what came out first is the packet
  pub after_it : pointwise nat_eq first (spelling send.1) ≡ true → Leaves given (mail_for (send ∷ []) peer) (Some rest)
  after_it same =
      subst (λ g. Leaves g (mail_for (send ∷ []) peer) (Some rest)) (sym parts) (subst (λ mail. Leaves (first ∷ rest) mail (Some rest)) (sym its_mail) both)
    where
      equal : first ≡ spelling send.1
      equal = (same_name-Decides first (spelling send.1)).0 same

      both : Leaves (first ∷ rest) (spelling send.1 ∷ []) (Some rest)
      both more = (λ p. (p.0, ap (drop 1) p.1), λ p. (p.0, λ i. equal i ∷ p.1 i))

  -- it is another frame
  pub after_another : pointwise nat_eq first (spelling send.1) ≡ false → Leaves given (mail_for (send ∷ []) peer) None
  after_another differs =
      subst (λ g. Leaves g (mail_for (send ∷ []) peer) None) (sym parts) (subst (λ mail. Leaves (first ∷ rest) mail None) (sym its_mail) none)
    where
      none : Leaves (first ∷ rest) (spelling send.1 ∷ []) None
      none more p =
          let equal : first ≡ spelling send.1 = ap (λ texts. get_or texts 0 first) p.1 in
          absurd (true≢false (sym ((same_name-Decides first (spelling send.1)).1 equal) ∙ differs))
