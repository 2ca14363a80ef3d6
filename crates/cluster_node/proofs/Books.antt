-- The last of a book's entries.
use Rattle.std.proofs.Common.{◌≡◌, ◌∙◌, ◌+◌, ◌-◌, ◌<◌, ◌≤◌, List, ◌++◌, [], ◌∷◌, ap, arith, drop, length, length-append, refl, remove}
use Rattle.node_names.specs.NodeName.{Name}
use Rattle.cluster_node.specs.Addresses.{after, kept, without}
use Rattle.cluster_node.specs.declared.address_book.TheConstants.{MAX_ADDRESSES}

-- where there is one entry more than are kept, the first gives way
pub one_gives_way : {T : Type 0} → (book : List (Name × T)) → length book ≡ MAX_ADDRESSES + 1 → remove book 0 ≡ kept book
one_gives_way [] is = refl
one_gives_way (entry ∷ book) is =
    let one : 1 ≡ length (entry ∷ book) - MAX_ADDRESSES = omega (arith, is) in
    ap (λ n. drop n (entry ∷ book)) one

-- where there are no more than are kept, all stay
pub all_stay : {T : Type 0} → (book : List (Name × T)) → length book ≤ MAX_ADDRESSES → book ≡ kept book
all_stay book fits =
    let none : 0 ≡ length book - MAX_ADDRESSES = omega (arith, fits) in
    ap (λ n. drop n book) none

-- what was told of a name goes last; where there is one entry too many then, the first gives way
pub put_gives_way : {T : Type 0}
    → (name : Name) (told : T) (before removed put : List (Name × T))
    → removed ≡ without name before → length removed ≤ MAX_ADDRESSES → put ≡ removed ++ (name, told) ∷ [] → MAX_ADDRESSES < length put
    → remove put 0 ≡ after name told before
put_gives_way name told before removed put is_removed fits is_put many =
    let one_more : length put ≡ MAX_ADDRESSES + 1 = omega (arith, ap length is_put, length-append removed ((name, told) ∷ []), fits, many) in
    one_gives_way put one_more ∙ ap kept (is_put ∙ ap (λ entries. entries ++ (name, told) ∷ []) is_removed)

-- and where there are not, all stay
pub put_stays : {T : Type 0}
    → (name : Name) (told : T) (before removed put : List (Name × T))
    → removed ≡ without name before → put ≡ removed ++ (name, told) ∷ [] → length put ≤ MAX_ADDRESSES
    → put ≡ after name told before
put_stays name told before removed put is_removed is_put fits =
    all_stay put fits ∙ ap kept (is_put ∙ ap (λ entries. entries ++ (name, told) ∷ []) is_removed)
