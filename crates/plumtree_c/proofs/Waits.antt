-- What waits for the caller of a node of bytes, when some of it is taken.
use Rattle.std.proofs.Common.{◌≡◌, ◌∙◌, ◌++◌, ◌+◌, ◌-◌, ◌≤◌, ℕ, zero, suc, List, [], ◌∷◌, ap, arith, drop, length, refl, subst, sym}
use Rattle.std.proofs.lemmas.List.{append-nil, length-drop, nil_from_length}
use Rattle.std.specs.Prelude.{IfNone, IfOk, None, Option, Some, Result, Ok, Err}
use Rattle.node_names.specs.NodeName.{Name}
use Rattle.node_names.specs.declared.ids.MsgId.{MsgId}
use Rattle.protocol.specs.Delivery.{Delivery}
use Rattle.node_core.specs.declared.news.News.{News}
use Rattle.wire_node.specs.Node.{NodeState}
use Rattle.plumtree_c.specs.State.{Gives}
use Rattle.plumtree_c.specs.Wire.{Brings, Delivers, HasNoDelivery, HasNoLost, HasNoNews, Informs, IsSameBeside}
use Rattle.plumtree_c.specs.Wire.{Loses, Stays, Tells, WireState, deliveries_in, lost_in, news_in}
use Rattle.plumtree_c.specs.declared.plain.PlainNews.{PlainNews}

-- Nothing of an empty list waits.
pub none_left : {A : Type 0} (n : ℕ) (xs : List A) → xs ≡ [] → drop n xs ≡ []
none_left zero xs none = none
none_left (suc n) [] none = refl
none_left (suc n) (x ∷ xs) none = cc

-- Where at most half of a list is gone and nothing is left, it was empty.
pub half_left : {A : Type 0} (n : ℕ) (xs : List A) → n + n ≤ length xs → drop n xs ≡ [] → xs ≡ []
half_left n xs half none =
    let left : length xs - n ≡ 0 = sym (length-drop n xs) ∙ ap length none in
    nil_from_length xs (omega (arith, half, left))

pub stays : (wire : WireState) → Stays wire wire
stays wire = record { deliveries = refl; lost = refl; news = refl; beside = refl }

-- The deliveries of the node were taken, when the caller had got all that were taken before.
pub stays_refilled : (old : WireState) (node : NodeState) (taken : List Delivery)
    → old.deliveries ≡ [] → taken ≡ old.node.engine.machine.pending
    → node ≡ record old.node { engine = record old.node.engine { machine = record old.node.engine.machine { pending = [] } } }
    → Stays old (record { node = node; deliveries = taken; lost = old.lost; news = old.news })
stays_refilled old node taken none its is = record {
  deliveries =
      ap (λ (n : NodeState). taken ++ n.engine.machine.pending) is
      ∙ append-nil taken
      ∙ its
      ∙ sym (ap (λ (ds : List Delivery). ds ++ old.node.engine.machine.pending) none);
  lost = ap (λ (n : NodeState). old.lost ++ n.engine.lost) is;
  news = ap (λ (n : NodeState). old.news ++ n.engine.machine.news) is;
  beside = subst (λ (n : NodeState). IsSameBeside old.node n) (sym is) refl;
}

-- The lost names of the node were taken, when the caller had got all that were taken before.
pub stays_retold : (old : WireState) (node : NodeState) (taken : List Name)
    → old.lost ≡ [] → taken ≡ old.node.engine.lost
    → node ≡ record old.node { engine = record old.node.engine { lost = [] } }
    → Stays old (record { node = node; deliveries = old.deliveries; lost = taken; news = old.news })
stays_retold old node taken none its is = record {
  deliveries = ap (λ (n : NodeState). old.deliveries ++ n.engine.machine.pending) is;
  lost = ap (λ (n : NodeState). taken ++ n.engine.lost) is ∙ append-nil taken ∙ its ∙ sym (ap (λ (names : List Name). names ++ old.node.engine.lost) none);
  news = ap (λ (n : NodeState). old.news ++ n.engine.machine.news) is;
  beside = subst (λ (n : NodeState). IsSameBeside old.node n) (sym is) refl;
}

-- The news of the node were taken, when the caller had got all that were taken before.
pub stays_informed : (old : WireState) (node : NodeState) (taken : List News)
    → old.news ≡ [] → taken ≡ old.node.engine.machine.news
    → node ≡ record old.node { engine = record old.node.engine { machine = record old.node.engine.machine { news = [] } } }
    → Stays old (record { node = node; deliveries = old.deliveries; lost = old.lost; news = taken })
stays_informed old node taken none its is = record {
  deliveries = ap (λ (n : NodeState). old.deliveries ++ n.engine.machine.pending) is;
  lost = ap (λ (n : NodeState). old.lost ++ n.engine.lost) is;
  news =
      ap (λ (n : NodeState). taken ++ n.engine.machine.news) is
      ∙ append-nil taken
      ∙ its
      ∙ sym (ap (λ (news : List News). news ++ old.node.engine.machine.news) none);
  beside = subst (λ (n : NodeState). IsSameBeside old.node n) (sym is) refl;
}

-- More waits behind those of which the first was taken.
pub gives_on : (old : List Delivery) (id : MsgId) (payload : List ℕ) (new more : List Delivery) →
    Gives old id payload new →
    Gives (old ++ more) id payload (new ++ more)
gives_on old id payload new more gives = record {
  delivery = gives.delivery;
  first = ap (λ (ds : List Delivery). ds ++ more) gives.first;
  its_id = gives.its_id;
  its_payload = gives.its_payload;
}

pub tells_on : (old : List Name) (name : Name) (new more : List Name) → Tells old name new → Tells (old ++ more) name (new ++ more)
tells_on old name new more tells = record {
  its_name = tells.its_name;
  first = ap (λ (names : List Name). names ++ more) tells.first;
  same = tells.same;
}

pub brings_on : (old : List News) (plain : PlainNews) (new more : List News) → Brings old plain new → Brings (old ++ more) plain (new ++ more)
brings_on old plain new more brings = record {
  its = brings.its;
  first = ap (λ (news : List News). news ++ more) brings.first;
  says = brings.says;
}

beside_on : (a b c : NodeState) → IsSameBeside a b → IsSameBeside b c → IsSameBeside a c
beside_on a b c one two =
    two
    ∙ ap (λ (n : NodeState). record n {
      engine = record n.engine {
        machine = record n.engine.machine { pending = c.engine.machine.pending; news = c.engine.machine.news };
        lost = c.engine.lost;
      };
    })
    one

-- What is taken after nothing has changed that the caller can see is the first that waited before.
pub delivers_on : (a b c : WireState) (id : MsgId) (payload : List ℕ) → Stays a b → Delivers id payload b c → Delivers id payload a c
delivers_on a b c id payload stays delivers = record {
  gives = subst (λ (ds : List Delivery). Gives ds id payload (deliveries_in c)) stays.deliveries delivers.gives;
  lost = delivers.lost ∙ stays.lost;
  news = delivers.news ∙ stays.news;
  beside = beside_on a.node b.node c.node stays.beside delivers.beside;
}

pub loses_on : (a b c : WireState) (name : Name) → Stays a b → Loses name b c → Loses name a c
loses_on a b c name stays loses = record {
  tells = subst (λ (names : List Name). Tells names name (lost_in c)) stays.lost loses.tells;
  deliveries = loses.deliveries ∙ stays.deliveries;
  news = loses.news ∙ stays.news;
  beside = beside_on a.node b.node c.node stays.beside loses.beside;
}

pub informs_on : (a b c : WireState) (plain : PlainNews) → Stays a b → Informs plain b c → Informs plain a c
informs_on a b c plain stays informs = record {
  brings = subst (λ (news : List News). Brings news plain (news_in c)) stays.news informs.brings;
  deliveries = informs.deliveries ∙ stays.deliveries;
  lost = informs.lost ∙ stays.lost;
  beside = beside_on a.node b.node c.node stays.beside informs.beside;
}

-- None waited, where none were taken of the node and it has none.
pub none_waits : (a b c : WireState) → Stays a b → (b.news ≡ [] → b.node.engine.machine.news ≡ []) → c ≡ b → b.news ≡ [] → HasNoNews a c
none_waits a b c stays all same none = record {
  none = sym stays.news ∙ ap (λ (news : List News). news ++ b.node.engine.machine.news) none ∙ all none;
  stays = subst (Stays a) (sym same) stays;
}

pub stays_on : (a b c : WireState) → Stays a b → c ≡ b → Stays a c
stays_on a b c stays same = subst (Stays a) (sym same) stays

-- No delivery and no lost name waited, where none were taken of the node and it has none.
pub no_delivery_waits : (a b c : WireState) →
    Stays a b →
    (b.deliveries ≡ [] → b.node.engine.machine.pending ≡ []) →
    c ≡ b →
    b.deliveries ≡ [] →
    HasNoDelivery a c
no_delivery_waits a b c stays all same none = record {
  none = sym stays.deliveries ∙ ap (λ (ds : List Delivery). ds ++ b.node.engine.machine.pending) none ∙ all none;
  stays = subst (Stays a) (sym same) stays;
}

pub no_lost_waits : (a b c : WireState) → Stays a b → (b.lost ≡ [] → b.node.engine.lost ≡ []) → c ≡ b → b.lost ≡ [] → HasNoLost a c
no_lost_waits a b c stays all same none = record {
  none = sym stays.lost ∙ ap (λ (names : List Name). names ++ b.node.engine.lost) none ∙ all none;
  stays = subst (Stays a) (sym same) stays;
}

-- What follows where there is none.
pub none_on : {A P Q : Type 0} (found : Option A) → (P → Q) → IfNone found P → IfNone found Q
none_on None goes none = goes none
none_on (Some x) goes none = tt

pub none_both : {A P Q R : Type 0} (found : Option A) → (P → Q → R) → IfNone found P → IfNone found Q → IfNone found R
none_both None goes one two = goes one two
none_both (Some x) goes one two = tt

pub ok_both : {A E : Type 0} (result : Result A E) (P Q R : A → Type 0) → ((x : A) → P x → Q x → R x) → IfOk result P → IfOk result Q → IfOk result R
ok_both (Ok x) P Q R goes one two = goes x one two
ok_both (Err e) P Q R goes one two = tt
