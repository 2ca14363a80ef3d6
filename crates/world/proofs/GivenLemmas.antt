-- Lists of deliveries: what they have, and that they have it once.
use Rattle.std.proofs.Common.{◌≡◌, ◌∙◌, List, [], ◌∷◌, ◌++◌, false, sym, ap, refl, inl, inr}
use Rattle.std.specs.List.{AllByRecursion as Each}
use Rattle.std.specs.Prelude.{◌⊎◌, Bool}
use Rattle.node_names.specs.declared.ids.MsgId.{MsgId}
use Rattle.node_names.specs.declared.ids.Origin.{Origin}
use Rattle.protocol.specs.Delivery.{Delivery}
use Rattle.protocol.specs.DeliveryLaw.{ids}
use Rattle.protocol.specs.Lists.{IsOneOf}
use Rattle.world.specs.History.{HasDelivery}
use Rattle.world.specs.Honest.{AreOnce}

-- what two lists together have, one of them has
pub given_either : (xs ys : List Delivery) (node : Origin) (id : MsgId) → HasDelivery (xs ++ ys) node id → HasDelivery xs node id ⊎ HasDelivery ys node id
given_either [] ys node id h = inr h
given_either (x ∷ xs) ys node id h =
    elim h [ inl here ↦ inl (inl here) | inr later ↦ elim (given_either xs ys node id later) [ inl a ↦ inl (inr a) | inr b ↦ inr b ] ]

-- two lists that share nothing, each of which has all once, have all once together
pub once-append : (xs ys : List Delivery) →
    AreOnce xs →
    AreOnce ys →
    ((node : Origin) (id : MsgId) → HasDelivery xs node id → HasDelivery ys node id → ⊥) →
    AreOnce (xs ++ ys)
once-append [] ys a b apart = b
once-append (x ∷ xs) ys a b apart = (
  (λ h. elim (given_either xs ys x.node x.id h) [ inl before ↦ a.0 before | inr later ↦ apart x.node x.id (inl (refl, refl)) later ]),
  once-append xs ys a.1 b (λ node id h. apart node id (inr h)),
)

-- at most one delivery is there once
pub once_few : (given : List Delivery) → (ids given ≡ []) ⊎ ((id : MsgId) × (ids given ≡ id ∷ [])) → AreOnce given
once_few [] few = tt
once_few (d ∷ []) few = ((λ h. h), tt)
once_few (d ∷ (e ∷ given)) few =
    elim few [
      | inl none ↦ let no : d.id ∷ (e.id ∷ ids given) ≡ [] = none in cc
      | inr one ↦ let no : d.id ∷ (e.id ∷ ids given) ≡ one.0 ∷ [] = one.1 in cc
    ]

-- who delivered, where all deliveries are of one
pub given_here : (me : Origin) (given : List Delivery) (node : Origin) (id : MsgId) → Each (λ d. d.node ≡ me) given → HasDelivery given node id → node ≡ me
given_here me [] node id here h = absurd h
given_here me (d ∷ given) node id here h = elim h [ inl this ↦ sym this.0 ∙ here.0 | inr later ↦ given_here me given node id here.1 later ]

-- what was delivered was lacked, where all deliveries were
pub given_fresh :
    (has : MsgId → Bool) (given : List Delivery) (node : Origin) (id : MsgId) → Each (λ d. has d.id ≡ false) given → HasDelivery given node id → has id ≡ false
given_fresh has [] node id fresh h = absurd h
given_fresh has (d ∷ given) node id fresh h = elim h [ inl this ↦ ap has (sym this.1) ∙ fresh.0 | inr later ↦ given_fresh has given node id fresh.1 later ]

-- the id of a delivery is one of the ids
pub given_id : (given : List Delivery) (node : Origin) (id : MsgId) → HasDelivery given node id → IsOneOf id (ids given)
given_id [] node id h = absurd h
given_id (d ∷ given) node id h = elim h [ inl this ↦ inl (sym this.1) | inr later ↦ inr (given_id given node id later) ]
