-- Words drawn one after the other.
use Rattle.std.proofs.Common.{◌≡◌, ◌∙◌, ◌<◌, ◌+◌, ℕ, zero, suc, List, [], ◌∷◌, ◌++◌, ap, refl, sym, take, length, arith}
use Rattle.std.proofs.Math.ListN.{set, length-set}
use Rattle.std.proofs.lemmas.Grind.{take-set_at}
use Rattle.rand_core.specs.Stream.{Stream, next_u64}
use Rattle.node_names.specs.Draws.{after_words, words}

-- The first words hold the answers so far, in order, and the generator continues after them.
pub record AreDrawn (first : Stream) (n : ℕ) (drawn : List ℕ) (now : Stream) : Type 0 where
  pub long : length drawn ≡ 16
  pub in_order : take n drawn ≡ words n first
  pub left : now ≡ after_words n first

-- one word more stands last
words_more : (n : ℕ) (stream : Stream) → words (suc n) stream ≡ words n stream ++ (next_u64 (after_words n stream)).0 ∷ []
words_more zero stream = refl
words_more (suc n) stream = ap (λ ws. (next_u64 stream).0 ∷ ws) (words_more n (next_u64 stream).1)

after_more : (n : ℕ) (stream : Stream) → after_words (suc n) stream ≡ (next_u64 (after_words n stream)).1
after_more zero stream = refl
after_more (suc n) stream = after_more n (next_u64 stream).1

-- with the next answer at the next place one more is drawn
pub draws_more : (first : Stream) (n : ℕ) (drawn : List ℕ) (now next : Stream) (word : ℕ) →
    n < 16 →
    AreDrawn first n drawn now →
    (word, next) ≡ next_u64 now →
    AreDrawn first (n + 1) (set drawn n word) next
draws_more first n drawn now next word within before answer =
    let here : next_u64 now ≡ next_u64 (after_words n first) = ap next_u64 before.left in
    let is : word ≡ (next_u64 (after_words n first)).0 = ap (λ (a : ℕ × Stream). a.0) (answer ∙ here) in
    let rest : next ≡ (next_u64 (after_words n first)).1 = ap (λ (a : ℕ × Stream). a.1) (answer ∙ here) in
    let room : n < length drawn = omega (arith, before.long) in
    let one : n + 1 ≡ suc n = omega arith in
    record {
      long = length-set drawn n word ∙ before.long;
      in_order =
          take-set_at drawn n (n + 1) word refl room
          ∙ ap (λ ws. ws ++ word ∷ []) before.in_order
          ∙ ap (λ w. words n first ++ w ∷ []) is
          ∙ sym (words_more n first)
          ∙ ap (λ m. words m first) (sym one);
      left = rest ∙ sym (after_more n first) ∙ ap (λ m. after_words m first) (sym one);
    }
