-- Lists of texts, each of which is there.
use Rattle.std.proofs.Common.{◌≡◌, ◌∙◌, ℕ, List, [], ◌∷◌, Some, ap, map, refl, sym}
use Rattle.std.specs.List.{filter_map}
use Rattle.node_options.specs.Told.{Word, text_of}

-- the texts of words are the words
pub map-text_of-Word : (texts : List (List ℕ)) → map text_of (map Word texts) ≡ map Some texts
map-text_of-Word [] = refl
map-text_of-Word (text ∷ texts) = rw (map-text_of-Word texts)

filter_map-Some : {X : Type 0} (xs : List X) → filter_map (λ x. x) (map Some xs) ≡ xs
filter_map-Some [] = refl
filter_map-Some (x ∷ xs) = rw (filter_map-Some xs)

-- lists are equal if they are so with each element in a `Some`
pub equal_from_Somes : {X : Type 0} (xs ys : List X) → map Some xs ≡ map Some ys → xs ≡ ys
equal_from_Somes xs ys same = sym (filter_map-Some xs) ∙ (ap (filter_map (λ x. x)) same ∙ filter_map-Some ys)
