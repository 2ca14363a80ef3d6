-- What a span says of the known ids.
use Rattle.std.proofs.Common.{◌≡◌, ◌∙◌, ℕ, suc, ◌+◌, ◌<◌, ◌≤◌, ◌&&◌, Bool, true, false, cond, List, [], ◌∷◌, length, map, sym, ap, refl, arith}
use Rattle.std.specs.Prelude.{nat_eq, nat_lt}
use Rattle.std.specs.FinSet as set
use Rattle.std.specs.List.{list_any}
use Rattle.std.proofs.lemmas.Bool.{ltb-false, ltb-true}
use Rattle.node_names.specs.Order.{id_cmp}
use Rattle.node_names.specs.Same.{same_origin, same_origin-Decides}
use Rattle.node_names.specs.declared.ids.Origin.{Origin}
use Rattle.node_names.specs.declared.ids.MsgId.{MsgId}
use Rattle.known_messages.specs.Known.{IsSpan, ids_past}
use Rattle.known_messages.specs.Span.{Ascends}
use Rattle.known_messages.proofs.IdOrder as order
use Rattle.known_messages.proofs.KnownLemmas.{and_false, any-ids}
use Rattle.known_messages.proofs.SpanLemmas.{none_below}

and_true : (a : Bool) → (a && true) ≡ a
and_true true = refl
and_true false = refl

-- ---- the ids of numbers of one origin

abbrev its : Origin → List ℕ → set.FinSet id_cmp
its origin ns = set.from_list (map (λ n. record { origin = origin; seq = n }) ns)

contains-its : (origin : Origin) (ns : List ℕ) (id : MsgId) → set.contains (its origin ns) id ≡ (same_origin id.origin origin && list_any (nat_eq id.seq) ns)
contains-its origin ns id = order.contains-ids (map (λ n. record { origin = origin; seq = n }) ns) id ∙ any-ids id origin ns

-- numbers that ascend differ
len-its : (origin : Origin) (low : ℕ) (ns : List ℕ) → Ascends low ns → set.len (its origin ns) ≡ length ns
len-its origin low [] up = set.len-empty id_cmp
len-its origin low (n ∷ ns) up =
    set.len-insert order.id_total (its origin ns) (record { origin = origin; seq = n })
    ∙ ap (λ b. cond b (set.len (its origin ns)) (set.len (its origin ns) + 1)) lacks
    ∙ ap (λ k. k + 1) (len-its origin n ns up.2)
    ∙ one_more
  where
    lacks : set.contains (its origin ns) (record { origin = origin; seq = n }) ≡ false
    lacks =
        contains-its origin ns (record { origin = origin; seq = n })
        ∙ ap (λ b. same_origin origin origin && b) (none_below n n ns (omega arith) up.2)
        ∙ sym (and_false (same_origin origin origin))

    one_more : length ns + 1 ≡ suc (length ns)
    one_more = omega arith

-- ---- the highest unbroken number

module _ (known : set.FinSet id_cmp) (origin : Origin) (unbroken : ℕ) (past : List ℕ)
    (from_one : (n : ℕ) → 1 ≤ n → n ≤ unbroken → set.contains known (record { origin = origin; seq = n }) ≡ true)
    (beyond : (n : ℕ) → unbroken < n → set.contains known (record { origin = origin; seq = n }) ≡ list_any (nat_eq n) past)
    (up : Ascends (unbroken + 1) past) where
  its_past : ids_past origin unbroken known ≡ its origin past
  its_past = set.same_set order.id_total order.id_antisymmetric (ids_past origin unbroken known) (its origin past) each
    where
      each : (q : MsgId) → set.contains (ids_past origin unbroken known) q ≡ set.contains (its origin past) q
      each q =
          set.contains-retain known (λ id. same_origin id.origin origin && nat_lt unbroken id.seq) q
          (λ x tie. ap (λ (id : MsgId). same_origin id.origin origin && nat_lt unbroken id.seq) (sym (order.id_antisymmetric q x tie)))
          ∙ go (same_origin q.origin origin) (nat_lt unbroken q.seq) refl refl
          ∙ sym (contains-its origin past q)
        where
          go : (b c : Bool) →
              same_origin q.origin origin ≡ b →
              nat_lt unbroken q.seq ≡ c →
              (set.contains known q && (same_origin q.origin origin && nat_lt unbroken q.seq)) ≡ (same_origin q.origin origin && list_any (nat_eq q.seq) past)
          go false c other is =
              ap (λ b. set.contains known q && (b && nat_lt unbroken q.seq)) other
              ∙ sym (and_false (set.contains known q))
              ∙ ap (λ b. b && list_any (nat_eq q.seq) past) (sym other)
          go true false same is =
              ap (λ b. set.contains known q && (same_origin q.origin origin && b)) is
              ∙ ap (λ b. set.contains known q && b) (sym (and_false (same_origin q.origin origin)))
              ∙ sym (and_false (set.contains known q))
              ∙ and_false (same_origin q.origin origin)
              ∙ ap (λ b. same_origin q.origin origin && b) (sym (none_below q.seq (unbroken + 1) past (omega (arith, ltb-false unbroken q.seq is)) up))
          go true true same is =
              ap (λ b. set.contains known q && (same_origin q.origin origin && b)) is
              ∙ ap (λ b. set.contains known q && (b && true)) same
              ∙ and_true (set.contains known q)
              ∙ ap (λ o. set.contains known (record { origin = o; seq = q.seq })) ((same_origin-Decides q.origin origin).0 same)
              ∙ beyond q.seq (ltb-true unbroken q.seq is)
              ∙ ap (λ b. b && list_any (nat_eq q.seq) past) (sym same)

  pub is_span : IsSpan known origin unbroken (length past)
  is_span =
      record {
        known_to = from_one;
        lacks_next = beyond (unbroken + 1) (omega arith) ∙ none_below (unbroken + 1) (unbroken + 1) past (omega arith) up;
        count = sym (len-its origin (unbroken + 1) past up) ∙ ap set.len (sym its_past);
      }
