-- The items of a list in a document: as tables, and as texts.
use Rattle.std.proofs.Common.{◌≡◌, ℕ, ◌+◌, ◌<◌, zero, suc, List, [], ◌∷◌, ◌++◌, length, get_or, All, IsSome, refl, take, ◌∙◌, ap, sym, arith}
use Rattle.std.proofs.lemmas.List.{take_more}
use Rattle.toml.proofs.Views.{items_view-push}
use Rattle.std.proofs.lemmas.List.Elements.{All-head, All-tail, All-cons, All-nil}
use Rattle.toml.specs.Data.{Data, string, integer, float, boolean, datetime, array, table, Items, item, Members, no_members, as_table, push_item}
use Rattle.toml.specs.View.{view, items_view}
use Rattle.toml.specs.declared.value.Value.{Value}
use Rattle.scenario.specs.Reading.{texts, tables}

-- what is a table has members
pub members_of_table : (d : Data) → IsSome (as_table d) → (ms : Members) × (d ≡ table ms)
members_of_table (string s) h = absurd (cc h)
members_of_table (integer z) h = absurd (cc h)
members_of_table (float x) h = absurd (cc h)
members_of_table (boolean b) h = absurd (cc h)
members_of_table (datetime t) h = absurd (cc h)
members_of_table (array ds) h = absurd (cc h)
members_of_table (table ms) h = (ms, refl)

both : {d e : Data} {ds es : Items} → d ≡ e → ds ≡ es → item d ds ≡ item e es
both p q = cc

-- values that are all tables are the items of a list of tables, as many of them
pub tables_of_values : (vs : List Value) →
    All (λ v. IsSome (as_table (view v))) vs →
    (ms : List Members) × (items_view vs ≡ tables ms) × (length ms ≡ length vs)
tables_of_values [] h = ([], refl, refl)
tables_of_values (v ∷ vs) h =
    let first = members_of_table (view v) (All-head (λ w. IsSome (as_table (view w))) v vs h) in
    let rest = tables_of_values vs (All-tail (λ w. IsSome (as_table (view w))) v vs h) in
    let here : view v ≡ table first.0 = first.1 in
    let after : items_view vs ≡ tables rest.0 = rest.1 in
    (first.0 ∷ rest.0, both here after, ap suc rest.2)

-- and only those are
pub values_of_tables : (vs : List Value) (ms : List Members) → items_view vs ≡ tables ms → All (λ v. IsSome (as_table (view v))) vs × (length ms ≡ length vs)
values_of_tables [] [] e = (All-nil _, refl)
values_of_tables [] (m ∷ ms) e = absurd (cc e)
values_of_tables (v ∷ vs) [] e = absurd (cc e)
values_of_tables (v ∷ vs) (m ∷ ms) e =
    let first : view v ≡ table m = cc e in
    let more : items_view vs ≡ tables ms = cc e in
    let rest = values_of_tables vs ms more in
    (All-cons (λ w. IsSome (as_table (view w))) v vs (rw first refl) rest.0, ap suc rest.1)

-- one more text at the end
pub texts-push : (ts : List (List ℕ)) (t : List ℕ) → texts (ts ++ t ∷ []) ≡ push_item (texts ts) (string t)
texts-push [] t = refl
texts-push (u ∷ ts) t = ap (item (string u)) (texts-push ts t)

-- each value among texts is one of them
pub text_at : (vs : List Value) (ts : List (List ℕ)) (i : ℕ) (d : Value) →
    items_view vs ≡ texts ts →
    i < length vs →
    (i < length ts) × (view (get_or vs i d) ≡ string (get_or ts i []))
text_at [] ts i d e h = absurd (omega arith)
text_at (v ∷ vs) [] i d e h = absurd (cc e)
text_at (v ∷ vs) (t ∷ ts) zero d e h = (omega arith, cc e)
text_at (v ∷ vs) (t ∷ ts) (suc i) d e h =
    let more : items_view vs ≡ texts ts = cc e in
    let rest = text_at vs ts i d more (omega arith) in
    (let below : i < length ts = rest.0 in omega arith, rest.1)

-- one more value, and one more text
items_view-more : (vs : List Value) (i : ℕ) (v : Value) →
    i < length vs →
    v ≡ get_or vs i v →
    items_view (take (i + 1) vs) ≡ push_item (items_view (take i vs)) (view v)
items_view-more vs i v h e = ap items_view (take_more vs i v h) ∙ ap (λ (w : Value). items_view (take i vs ++ w ∷ [])) (sym e) ∙ items_view-push (take i vs) v

pub texts-more : (vs : List Value) (ts : List (List ℕ)) (i : ℕ) (v : Value) (t : List ℕ) →
    i < length vs →
    v ≡ get_or vs i v →
    items_view (take i vs) ≡ texts ts →
    view v ≡ string t →
    items_view (take (i + 1) vs) ≡ texts (ts ++ t ∷ [])
texts-more vs ts i v t h e before here =
    items_view-more vs i v h e ∙ ap (λ (ds : Items). push_item ds (view v)) before ∙ ap (push_item (texts ts)) here ∙ sym (texts-push ts t)

-- each value among tables is one of them
pub table_at : (vs : List Value) (ms : List Members) (i : ℕ) (d : Value) →
    items_view vs ≡ tables ms →
    i < length vs →
    (i < length ms) × (view (get_or vs i d) ≡ table (get_or ms i no_members))
table_at [] ms i d e h = absurd (omega arith)
table_at (v ∷ vs) [] i d e h = absurd (cc e)
table_at (v ∷ vs) (m ∷ ms) zero d e h = (omega arith, cc e)
table_at (v ∷ vs) (m ∷ ms) (suc i) d e h =
    let more : items_view vs ≡ tables ms = cc e in
    let rest = table_at vs ms i d more (omega arith) in
    (let below : i < length ms = rest.0 in omega arith, rest.1)

-- as many values as tables
pub length-tables : (vs : List Value) (ms : List Members) → items_view vs ≡ tables ms → length ms ≡ length vs
length-tables vs ms e = (values_of_tables vs ms e).1
