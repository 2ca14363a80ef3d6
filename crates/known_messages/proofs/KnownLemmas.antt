-- Which ids are known.
use Rattle.std.proofs.Common.{◌≡◌, ◌∙◌, ℕ, ◌||◌, ◌&&◌, Bool, true, false, cond, List, [], ◌∷◌, ◌++◌, Some, map, sym, ap, subst, refl}
use Rattle.std.specs.Prelude.{nat_eq}
use Rattle.std.specs.FinSet as set
use Rattle.std.specs.List.{AllByRecursion as Each, AllZip, IsDistinct, flat_map, list_any}
use Rattle.std.specs.Map.{lookup, keys_of}
use Rattle.std.specs.Option.{option_map_or}
use Rattle.std.proofs.lemmas.List.Folds.{list_any-append}
use Rattle.std.proofs.lemmas.Map.Keys.{IsDistinct-head, IsDistinct-tail}
use Rattle.node_names.specs.Order.{id_cmp}
use Rattle.node_names.specs.Same.{same_id, same_origin, same_origin-Decides, same_origin-laws}
use Rattle.node_names.specs.declared.ids.Origin.{Origin}
use Rattle.node_names.specs.declared.ids.MsgId.{MsgId}
use Rattle.known_messages.specs.Known.{ids, ids_of}
use Rattle.known_messages.specs.Span.{Span, has_number, numbers}
use Rattle.known_messages.proofs.IdOrder as order

-- ---- the ids of one origin

or_both : (a b c : Bool) → ((a && b) || (a && c)) ≡ (a && (b || c))
or_both true b c = refl
or_both false b c = refl

pub and_false : (a : Bool) → false ≡ (a && false)
and_false true = refl
and_false false = refl

pub any-ids : (id : MsgId) (origin : Origin) (ns : List ℕ) →
    list_any (same_id id) (map (λ n. record { origin = origin; seq = n }) ns) ≡ (same_origin id.origin origin && list_any (nat_eq id.seq) ns)
any-ids id origin [] = and_false (same_origin id.origin origin)
any-ids id origin (n ∷ ns) =
    ap (λ b. (same_origin id.origin origin && nat_eq id.seq n) || b) (any-ids id origin ns)
    ∙ or_both (same_origin id.origin origin) (nat_eq id.seq n) (list_any (nat_eq id.seq) ns)

-- an origin without a span has none
none_of : (id : MsgId) (known : List (Origin × Span)) →
    Each (λ origin. same_origin id.origin origin ≡ false) (keys_of known) →
    list_any (same_id id) (flat_map ids_of known) ≡ false
none_of id [] apart = refl
none_of id (entry ∷ known) apart =
    list_any-append (same_id id) (ids_of entry) (flat_map ids_of known)
    ∙ ap (λ b. b || list_any (same_id id) (flat_map ids_of known))
    (any-ids id entry.0 (numbers entry.1) ∙ ap (λ b. b && list_any (nat_eq id.seq) (numbers entry.1)) apart.0)
    ∙ none_of id known apart.1

-- ---- the ids of all

or_false : (a : Bool) → (a || false) ≡ a
or_false true = refl
or_false false = refl

any-known : (known : List (Origin × Span)) →
    IsDistinct same_origin (keys_of known) →
    (id : MsgId) →
    list_any (same_id id) (flat_map ids_of known) ≡ option_map_or (λ span. has_number span id.seq) (lookup (same_origin id.origin) known) false
any-known [] distinct id = refl
any-known (entry ∷ known) distinct id =
    list_any-append (same_id id) (ids_of entry) (flat_map ids_of known)
    ∙ ap (λ b. b || list_any (same_id id) (flat_map ids_of known)) (any-ids id entry.0 (numbers entry.1))
    ∙ go (same_origin id.origin entry.0) refl (any-known known (IsDistinct-tail same_origin entry.0 (keys_of known) distinct) id)
  where
    go : (b : Bool) →
        same_origin id.origin entry.0 ≡ b →
        list_any (same_id id) (flat_map ids_of known) ≡ option_map_or (λ span. has_number span id.seq) (lookup (same_origin id.origin) known) false →
        ((b && has_number entry.1 id.seq) || list_any (same_id id) (flat_map ids_of known))
        ≡ option_map_or (λ span. has_number span id.seq) (cond b (Some entry.1) (lookup (same_origin id.origin) known)) false
    go true is later =
        let same : id.origin ≡ entry.0 = (same_origin-Decides id.origin entry.0).0 is in
        let apart =
        subst (λ o. Each (λ origin. same_origin o origin ≡ false) (keys_of known)) (sym same) (IsDistinct-head same_origin entry.0 (keys_of known) distinct) in
        ap (λ b. has_number entry.1 id.seq || b) (none_of id known apart) ∙ or_false (has_number entry.1 id.seq)
    go false is later = later

-- an id is known if the span of its origin has its number
pub contains-ids : (known : List (Origin × Span)) →
    IsDistinct same_origin (keys_of known) →
    (id : MsgId) →
    set.contains (ids known) id ≡ option_map_or (λ span. has_number span id.seq) (lookup (same_origin id.origin) known) false
contains-ids known distinct id = order.contains-ids (flat_map ids_of known) id ∙ any-known known distinct id

-- ---- one span is changed

module _
    (known new : List (Origin × Span))
    (origin : Origin)
    (span : Span)
    (distinct : IsDistinct same_origin (keys_of known))
    (apart : IsDistinct same_origin (keys_of new))
    (updates : (q : Origin) → lookup (same_origin q) new ≡ cond (same_origin origin q) (Some span) (lookup (same_origin q) known)) where
  -- the ids of its origin are those of the new span
  contains-its : (id : MsgId) → id.origin ≡ origin → set.contains (ids new) id ≡ has_number span id.seq
  contains-its id same =
      contains-ids new apart id
      ∙ ap (λ o. option_map_or (λ s. has_number s id.seq) o false) (updates id.origin)
      ∙ ap (λ b. option_map_or (λ s. has_number s id.seq) (cond b (Some span) (lookup (same_origin id.origin) known)) false)
      ((same_origin-Decides origin id.origin).1 (sym same))

  -- and the others stay
  contains-others : (id : MsgId) → same_origin origin id.origin ≡ false → set.contains (ids new) id ≡ set.contains (ids known) id
  contains-others id other =
      contains-ids new apart id
      ∙ ap (λ o. option_map_or (λ s. has_number s id.seq) o false) (updates id.origin)
      ∙ ap (λ b. option_map_or (λ s. has_number s id.seq) (cond b (Some span) (lookup (same_origin id.origin) known)) false) other
      ∙ sym (contains-ids known distinct id)

  contains-had : (id : MsgId) →
      id.origin ≡ origin →
      set.contains (ids known) id ≡ option_map_or (λ s. has_number s id.seq) (lookup (same_origin origin) known) false
  contains-had id same = contains-ids known distinct id ∙ ap (λ o. option_map_or (λ s. has_number s id.seq) (lookup (same_origin o) known) false) same

  -- a span of the same numbers
  pub ids-same : ((n : ℕ) → has_number span n ≡ option_map_or (λ s. has_number s n) (lookup (same_origin origin) known) false) → ids new ≡ ids known
  ids-same same = set.same_set order.id_total order.id_antisymmetric (ids new) (ids known) each
    where
      each : (id : MsgId) → set.contains (ids new) id ≡ set.contains (ids known) id
      each id = go (same_origin origin id.origin) refl
        where
          go : (b : Bool) → same_origin origin id.origin ≡ b → set.contains (ids new) id ≡ set.contains (ids known) id
          go true is =
              let its : id.origin ≡ origin = sym ((same_origin-Decides origin id.origin).0 is) in
              contains-its id its ∙ same id.seq ∙ sym (contains-had id its)
          go false is = contains-others id is

  -- a span with one number more
  pub ids-more : (n : ℕ) →
      ((m : ℕ) → has_number span m ≡ (nat_eq m n || option_map_or (λ s. has_number s m) (lookup (same_origin origin) known) false)) →
      ids new ≡ set.insert (ids known) (record { origin = origin; seq = n })
  ids-more n more = set.same_set order.id_total order.id_antisymmetric (ids new) (set.insert (ids known) (record { origin = origin; seq = n })) each
    where
      id : MsgId
      id = record { origin = origin; seq = n }

      each : (q : MsgId) → set.contains (ids new) q ≡ set.contains (set.insert (ids known) id) q
      each q =
          go (same_origin origin q.origin) refl
          ∙ sym (set.contains-insert order.id_total (ids known) id q ∙ ap (λ b. b || set.contains (ids known) q) (sym (order.id_ties q id)))
        where
          go : (b : Bool) → same_origin origin q.origin ≡ b → set.contains (ids new) q ≡ (same_id q id || set.contains (ids known) q)
          go true is =
              let its : q.origin ≡ origin = sym ((same_origin-Decides origin q.origin).0 is) in
              contains-its q its
              ∙ more q.seq
              ∙ ap (λ b. nat_eq q.seq n || b) (sym (contains-had q its))
              ∙ ap (λ b. (b && nat_eq q.seq n) || set.contains (ids known) q) (sym ((same_origin-Decides q.origin origin).1 its))
          go false is =
              contains-others q is
              ∙ ap (λ b. (b && nat_eq q.seq n) || set.contains (ids known) q) (sym (same_origin-laws.symm q.origin origin ∙ is))

-- ---- copies

-- spans that differ in their room have the same origins and ids
pub keys-copied : (known copies : List (Origin × Span)) →
    AllZip (λ p q. (q.0 ≡ p.0) × (q.1 ≡ record p.1 { room = q.1.room })) known copies →
    keys_of copies ≡ keys_of known
keys-copied [] [] are = refl
keys-copied [] (copy ∷ copies) are = absurd are
keys-copied (entry ∷ known) [] are = absurd are
keys-copied (entry ∷ known) (copy ∷ copies) are = λ i. are.0.0 i ∷ keys-copied known copies are.1 i

all-copied : (known copies : List (Origin × Span)) →
    AllZip (λ p q. (q.0 ≡ p.0) × (q.1 ≡ record p.1 { room = q.1.room })) known copies →
    flat_map ids_of copies ≡ flat_map ids_of known
all-copied [] [] are = refl
all-copied [] (copy ∷ copies) are = absurd are
all-copied (entry ∷ known) [] are = absurd are
all-copied (entry ∷ known) (copy ∷ copies) are =
    (λ i. ids_of (are.0.0 i, are.0.1 i) ++ all-copied known copies are.1 i)

pub ids-copied : (known copies : List (Origin × Span)) →
    AllZip (λ p q. (q.0 ≡ p.0) × (q.1 ≡ record p.1 { room = q.1.room })) known copies →
    ids copies ≡ ids known
ids-copied known copies are = ap (set.from_list {R = id_cmp}) (all-copied known copies are)
