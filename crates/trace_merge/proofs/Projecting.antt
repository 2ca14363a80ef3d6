-- A run's trace in a log, one entry longer.
use Rattle.std.proofs.Common.{◌≡◌, ◌∙◌, ◌+◌, ◌<◌, ◌++◌, ℕ, List, [], ◌∷◌, ap, drop, get_or, length, sym, take}
use Rattle.std.specs.Prelude.{reverse}
use Rattle.std.proofs.lemmas.List.{drop_more, reverse-append, take_more}
use Rattle.node_names.specs.declared.ids.Origin.{Origin}
use Rattle.world.specs.Entry.{Entry}
use Rattle.world.specs.History.{incarnation_of}
use Rattle.world.specs.declared.packet.Packet.{Packet}
use Rattle.trace_merge.specs.Projection.{first_number, projection, traced_on}

-- one entry more, the newest first
pub reverse_more : {X : Type 0} (xs : List X) (i : ℕ) (x : X) → i < length xs → x ≡ get_or xs i x → reverse (take (i + 1) xs) ≡ x ∷ reverse (take i xs)
reverse_more {X} xs i x within at =
    ap reverse (take_more xs i x within ∙ ap (λ (y : X). take i xs ++ y ∷ []) (sym at)) ∙ reverse-append (take i xs) (x ∷ [])

-- the packets of the entry at a place begin at its first one's number
pub first_at : (all : ℕ) (log : List Entry) (i : ℕ) (entry : Entry) →
    i < length log →
    entry ≡ get_or log i entry →
    first_number all (drop i log) ≡ entry.first_sent
first_at all log i entry within at =
    ap (first_number all) (drop_more log i entry within) ∙ ap (λ (e : Entry). e.first_sent) (sym at)

-- the trace with one more entry
pub projection-more :
    {N : Type 0} (o : Origin) (sent : List (Packet N)) (log : List Entry) (i : ℕ) (entry : Entry) (end : ℕ) → i < length log → entry ≡ get_or log i entry →
    projection o sent end (reverse (take (i + 1) log))
    ≡ traced_on o (incarnation_of o.name (reverse (take i log))) sent entry end
    (projection o sent (first_number (length sent) (drop i log)) (reverse (take i log)))
projection-more {N} o sent log i entry end within at =
    ap (projection o sent end) (reverse_more log i entry within at)
    ∙ ap (λ n. traced_on o (incarnation_of o.name (reverse (take i log))) sent entry end (projection o sent n (reverse (take i log))))
    (sym (first_at (length sent) log i entry within at))
