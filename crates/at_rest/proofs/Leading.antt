-- The branches of a message's tree have their parents, and lead to the origin.
use Rattle.std.proofs.Common.{◌≡◌, ◌∙◌, ◌+◌, ◌<◌, ℕ, List, [], ◌∷◌, ◌++◌, get_or, length, take, true, false, sym, ap, refl, subst, inl, inr}
use Rattle.std.specs.List.{AllByRecursion as Each}
use Rattle.std.specs.Option.{option_and_then}
use Rattle.std.specs.Prelude.{◌⊎◌, Bool, Option, Some, None, cond, filter, map, option_map, slice_get}
use Rattle.std.proofs.lemmas.List.{append_assoc, append-nil, map-append, take_more}
use Rattle.std.proofs.lemmas.List.Elements.{filter-append}
use Rattle.node_names.specs.Same.{same_id, same_id-Decides}
use Rattle.node_names.specs.declared.ids.MsgId.{MsgId}
use Rattle.node_names.specs.declared.ids.Origin.{Origin}
use Rattle.protocol.specs.Delivery.{Delivery}
use Rattle.protocol.specs.Lists.{IsOneOf}
use Rattle.world.specs.Entry.{Entry}
use Rattle.world.specs.Event.{Event}
use Rattle.world.specs.History.{Delivered, HasDelivery, deliveries}
use Rattle.world.specs.Parents.{HasParent, HaveParents}
use Rattle.world.specs.Rest.{GaveFrom, IsParent}
use Rattle.world.specs.declared.event.EventOf.TheVariants.{Start, Broadcast, Arrive, Lose, Again, Fire, Flush, Down, Shuffle, Join, Stop}
use Rattle.world.specs.declared.packet.Packet.{Packet}
use Rattle.at_rest.specs.Tree.{HasBranch, LeadToOrigin, LeadsOn, branches_from, branches_of, parent_by, tree_of}
use Rattle.at_rest.specs.declared.branch.Branch.{Branch}
use Rattle.at_rest.proofs.Lists.{each_one}

-- ---- lists

-- one of the first list or of the second is one of both
one-left : {X : Type 0} (xs ys : List X) (x : X) → IsOneOf x xs → IsOneOf x (xs ++ ys)
one-left [] ys x one = absurd one
one-left (y ∷ xs) ys x one = elim one [ inl here ↦ inl here | inr later ↦ inr (one-left xs ys x later) ]

one-right : {X : Type 0} (xs ys : List X) (x : X) → IsOneOf x ys → IsOneOf x (xs ++ ys)
one-right [] ys x one = one
one-right (y ∷ xs) ys x one = inr (one-right xs ys x one)

-- what holds of each of two lists holds of each of both
each-append : {X : Type 0} (P : X → Type 0) (xs ys : List X) → Each P xs → Each P ys → Each P (xs ++ ys)
each-append P [] ys h k = k
each-append P (x ∷ xs) ys h k = (h.0, each-append P xs ys h.1 k)

-- what follows for each element holds of each
each-weaken : {X : Type 0} (P Q : X → Type 0) (xs : List X) → ((x : X) → P x → Q x) → Each P xs → Each Q xs
each-weaken P Q [] f h = tt
each-weaken P Q (x ∷ xs) f h = (f x h.0, each-weaken P Q xs f h.1)

-- what holds of what each that passes is mapped to holds of each that is mapped
each-chosen : {X Y : Type 0} (P : Y → Type 0) (f : X → Y) (test : X → Bool) (xs : List X) →
    ((x : X) → IsOneOf x xs → test x ≡ true → P (f x)) →
    Each P (map f (filter test xs))
each-chosen P f test [] h = tt
each-chosen {X} P f test (x ∷ xs) h = go (test x) refl (each-chosen P f test xs (λ y one. h y (inr one)))
  where
    go : (b : Bool) → test x ≡ b → Each P (map f (filter test xs)) → Each P (map f (cond b (x ∷ filter test xs) (filter test xs)))
    go true is rest = (h x (inl refl) is, rest)
    go false is rest = rest

-- what passes is mapped
one-chosen : {X Y : Type 0} (f : X → Y) (test : X → Bool) (xs : List X) (x : X) → IsOneOf x xs → test x ≡ true → IsOneOf (f x) (map f (filter test xs))
one-chosen f test [] x one is = absurd one
one-chosen {X} f test (y ∷ ys) x one is = go (test y) refl (λ later. one-chosen f test ys x later is)
  where
    go : (b : Bool) →
        test y ≡ b →
        (IsOneOf x ys → IsOneOf (f x) (map f (filter test ys))) →
        IsOneOf (f x) (map f (cond b (y ∷ filter test ys) (filter test ys)))
    go true e rest = elim one [ inl here ↦ inl (ap f here) | inr later ↦ inr (rest later) ]
    go false e rest = elim one [ inl here ↦ (let no_such : true ≡ false = sym is ∙ ap test here ∙ e in cc) | inr later ↦ rest later ]

-- the branches of two lists of deliveries
branches-append : (id : MsgId) (parent : Option Origin) (xs ys : List Delivery) →
    branches_from id parent (xs ++ ys) ≡ branches_from id parent xs ++ branches_from id parent ys
branches-append id parent xs ys =
    ap (map (λ (d : Delivery). record { node = d.node; parent = parent })) (filter-append (λ (d : Delivery). same_id id d.id) xs ys)
    ∙ map-append (λ (d : Delivery). record { node = d.node; parent = parent })
    (filter (λ (d : Delivery). same_id id d.id) xs) (filter (λ (d : Delivery). same_id id d.id) ys)

-- one delivery more
pub branches-more :
    (id : MsgId)
    (parent : Option Origin)
    (given : List Delivery)
    (i : ℕ)
    (d : Delivery)
    (old now next : List Branch) →
    i < length given →
    d ≡ get_or given i d →
    now ≡ old ++ branches_from id parent (take i given) →
    next ≡ now ++ branches_from id parent (d ∷ []) →
    next ≡ old ++ branches_from id parent (take (i + 1) given)
branches-more id parent given i d old now next within at before after =
    after
    ∙ ap (λ (bs : List Branch). bs ++ branches_from id parent (d ∷ [])) before
    ∙ append_assoc old (branches_from id parent (take i given)) (branches_from id parent (d ∷ []))
    ∙ ap (λ (bs : List Branch). old ++ bs) (sym (branches-append id parent (take i given) (d ∷ [])))
    ∙ ap (λ (ds : List Delivery). old ++ branches_from id parent ds) (ap (λ (x : Delivery). take i given ++ x ∷ []) at ∙ sym (take_more given i d within))

-- ---- parents

-- what an event gave from is its parent
parent_is : {N : Type 0} (sent : List (Packet N)) (event : Event) (entry : Entry) (parent : Option Origin) →
    GaveFrom sent event entry parent →
    parent_by sent entry.packet event ≡ parent
parent_is {N} sent (Arrive place dice) entry (Some sender) gave =
    ap (λ n. option_map (λ (packet : Packet N). packet.sender) (option_and_then (slice_get sent) n)) gave.2
    ∙ ap (λ o. option_map (λ (packet : Packet N). packet.sender) o) gave.3
    ∙ ap Some gave.4
parent_is sent (Arrive place dice) entry None gave = absurd gave
parent_is sent (Broadcast name payload) entry (Some sender) gave = absurd gave
parent_is sent (Broadcast name payload) entry None gave = refl
parent_is sent (Start name incarnation peers contact) entry parent gave = absurd gave
parent_is sent (Lose place) entry parent gave = absurd gave
parent_is sent (Again number) entry parent gave = absurd gave
parent_is sent (Fire name id) entry parent gave = absurd gave
parent_is sent (Flush name) entry parent gave = absurd gave
parent_is sent (Down name peer dice) entry parent gave = absurd gave
parent_is sent (Shuffle name dice) entry parent gave = absurd gave
parent_is sent (Join name contact) entry parent gave = absurd gave
parent_is sent (Stop name) entry parent gave = absurd gave

-- an event gave each of its deliveries from their parent
gave_parent : {N : Type 0} (sent : List (Packet N)) (past : List Entry) (entry : Entry) (d : Delivery) →
    HasParent sent past entry d →
    GaveFrom sent entry.event entry (parent_by sent entry.packet entry.event)
gave_parent sent past entry d parent =
    elim parent [
      | inl own ↦ subst (λ p. GaveFrom sent entry.event entry p) (sym (parent_is sent entry.event entry None own.0)) own.0
      | inr from ↦ subst (λ p. GaveFrom sent entry.event entry p) (sym (parent_is sent entry.event entry (Some from.0) from.1)) from.1
    ]

-- a delivery is there under an id that is the same
delivery_there : (given : List Delivery) (d : Delivery) (id : MsgId) → IsOneOf d given → same_id id d.id ≡ true → HasDelivery given d.node id
delivery_there [] d id one same = absurd one
delivery_there (first ∷ given) d id one same =
    elim one [
      | inl here ↦ inl (ap (λ (x : Delivery). x.node) (sym here), ap (λ (x : Delivery). x.id) (sym here) ∙ sym ((same_id-Decides id d.id).0 same))
      | inr later ↦ inr (delivery_there given d id later same)
    ]

-- so each branch is of a parent
pub parents_are : {N : Type 0} (sent : List (Packet N)) (id : MsgId) (history : List Entry) →
    HaveParents sent history →
    Each (λ b. IsParent sent history b.node id b.parent) (tree_of sent id history)
parents_are sent id [] h = tt
parents_are sent id (entry ∷ past) h =
    each-append (λ (b : Branch). IsParent sent (entry ∷ past) b.node id b.parent) (tree_of sent id past) (branches_of sent id entry)
    (each-weaken (λ (b : Branch). IsParent sent past b.node id b.parent) (λ (b : Branch). IsParent sent (entry ∷ past) b.node id b.parent)
    (tree_of sent id past) (λ b before. inr before) (parents_are sent id past h.1))
    (each-chosen (λ (b : Branch). IsParent sent (entry ∷ past) b.node id b.parent)
    (λ (d : Delivery). record { node = d.node; parent = parent_by sent entry.packet entry.event }) (λ (d : Delivery). same_id id d.id) entry.given
    (λ d one same. inl (
      delivery_there entry.given d id one same,
      gave_parent sent past entry d (each_one (λ (x : Delivery). HasParent sent past entry x) entry.given d h.0 one),
    )))

-- ---- leading to the origin

-- a branch among some is one among more
more_branches : (node : Origin) (xs ys : List Branch) → HasBranch node xs → HasBranch node (xs ++ ys)
more_branches node xs ys has = (has.0, one-left xs ys has.0 has.1, has.2)

-- what was given to a node is one of the given
given_one : (given : List Delivery) (node : Origin) (id : MsgId) → HasDelivery given node id → (d : Delivery) × IsOneOf d given × (d.node ≡ node) × (d.id ≡ id)
given_one [] node id h = absurd h
given_one (first ∷ given) node id h = elim h [
  | inl here ↦ (first, inl refl, here.0, here.1)
  | inr later ↦ (let found = given_one given node id later in (found.0, inr found.1, found.2, found.3))
]

-- what two lists have, one of them has
either_has : (xs ys : List Delivery) (node : Origin) (id : MsgId) → HasDelivery (xs ++ ys) node id → HasDelivery xs node id ⊎ HasDelivery ys node id
either_has [] ys node id h = inr h
either_has (x ∷ xs) ys node id h =
    elim h [ inl here ↦ inl (inl here) | inr later ↦ elim (either_has xs ys node id later) [ inl a ↦ inl (inr a) | inr b ↦ inr b ] ]

-- an incarnation that delivered the message has a branch
delivered_branch : {N : Type 0} (sent : List (Packet N)) (id : MsgId) (history : List Entry) (node : Origin) →
    Delivered history node id →
    HasBranch node (tree_of sent id history)
delivered_branch sent id [] node h = absurd h
delivered_branch sent id (entry ∷ past) node h =
    elim (either_has (deliveries past) entry.given node id h) [
      | inl before ↦ more_branches node (tree_of sent id past) (branches_of sent id entry) (delivered_branch sent id past node before)
      | inr now ↦ (
          let found = given_one entry.given node id now in (
            record { node = found.0.node; parent = parent_by sent entry.packet entry.event },
            one-right (tree_of sent id past) (branches_of sent id entry) (record { node = found.0.node; parent = parent_by sent entry.packet entry.event })
                (one-chosen (λ (d : Delivery). record { node = d.node; parent = parent_by sent entry.packet entry.event })
                (λ (d : Delivery). same_id id d.id) entry.given found.0 found.1 ((same_id-Decides id found.0.id).1 (sym found.3))),
            found.2,
          ))
    ]

-- the branches of two lists lead to the origin one after the other
lead-append : (id : MsgId) (before xs ys : List Branch) → LeadToOrigin id before xs → LeadToOrigin id (before ++ xs) ys → LeadToOrigin id before (xs ++ ys)
lead-append id before [] ys h k = subst (λ bs. LeadToOrigin id bs ys) (append-nil before) k
lead-append id before (x ∷ xs) ys h k =
    (h.0, lead-append id (before ++ x ∷ []) xs ys h.1 (subst (λ bs. LeadToOrigin id bs ys) (sym (append_assoc before (x ∷ []) xs)) k))

-- and so do branches each of which leads on whatever else there is before it
lead_each : (id : MsgId) (before more ys : List Branch) →
    Each (λ (b : Branch). (others : List Branch) → LeadsOn id (before ++ others) b.node b.parent) ys →
    LeadToOrigin id (before ++ more) ys
lead_each id before more [] h = tt
lead_each id before more (y ∷ ys) h =
    (h.0 more, subst (λ bs. LeadToOrigin id bs ys) (sym (append_assoc before more (y ∷ []))) (lead_each id before (more ++ y ∷ []) ys h.1))

-- a branch of an entry leads on
leads_entry : {N : Type 0} (sent : List (Packet N)) (id : MsgId) (past : List Entry) (entry : Entry) (d : Delivery) →
    same_id id d.id ≡ true →
    HasParent sent past entry d →
    (others : List Branch) →
    LeadsOn id (tree_of sent id past ++ others) d.node (parent_by sent entry.packet entry.event)
leads_entry sent id past entry d same parent others =
    let this : id ≡ d.id = (same_id-Decides id d.id).0 same in
    elim parent [
      | inl own ↦
          subst (λ p. LeadsOn id (tree_of sent id past ++ others) d.node p)
          (sym (parent_is sent entry.event entry None own.0)) (own.1 ∙ ap (λ (i : MsgId). i.origin) (sym this))
      | inr from ↦
          subst (λ p. LeadsOn id (tree_of sent id past ++ others) d.node p) (sym (parent_is sent entry.event entry (Some from.0) from.1))
          (more_branches from.0 (tree_of sent id past) others (delivered_branch sent id past from.0 (subst (λ i. Delivered past from.0 i) (sym this) from.2)))
    ]

-- so the whole tree does
pub tree_leads : {N : Type 0} (sent : List (Packet N)) (id : MsgId) (history : List Entry) →
    HaveParents sent history →
    LeadToOrigin id [] (tree_of sent id history)
tree_leads sent id [] h = tt
tree_leads sent id (entry ∷ past) h =
    lead-append id [] (tree_of sent id past) (branches_of sent id entry) (tree_leads sent id past h.1)
    (subst (λ bs. LeadToOrigin id bs (branches_of sent id entry)) (append-nil (tree_of sent id past))
    (lead_each id (tree_of sent id past) [] (branches_of sent id entry)
    (each-chosen (λ (b : Branch). (others : List Branch) → LeadsOn id (tree_of sent id past ++ others) b.node b.parent)
    (λ (d : Delivery). record { node = d.node; parent = parent_by sent entry.packet entry.event }) (λ (d : Delivery). same_id id d.id) entry.given
    (λ d one same. leads_entry sent id past entry d same (each_one (λ (x : Delivery). HasParent sent past entry x) entry.given d h.0 one)))))
