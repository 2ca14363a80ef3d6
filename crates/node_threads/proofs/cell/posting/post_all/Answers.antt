use Rattle.std.proofs.Common.{◌≡◌, ◌∙◌, ◌++◌, ◌∷◌, [], ap, append_assoc, arith, length, refl, rules, subst, sym}
use Rattle.node_threads.specs.Cell.{peers_of}
use Rattle.node_threads.specs.Letters.{IsAddressed, Posted}
use Rattle.node_threads.proofs.Lettering.{all_gone, none_posted, place_within, seam}
use Rattle.node_threads.proofs.cell.posting.post_all.Goals as goal

pub loop-letter-init : goal.loop-letter-init
loop-letter-init g c =
    let whole : c.into_iter-letter-iterator.result.rest.items ≡ c.args.letters.items = search rules in
    let room = c.requires.room in (
      tt,
      tt,
      whole,
      omega (arith, ap length whole),
      refl,
      subst (λ b. Posted b [] c.args.links.now c.args.links.now) (sym c.requires.none) (none_posted c.args.links.now),
    )

pub post_one-requires-clause-addressed : goal.post_one-requires-clause-addressed
post_one-requires-clause-addressed g c =
    let parts : c.loop-letter.yielded ++ c.in-Some.letter ∷ c.next.new.self.rest.items ≡ c.args.letters.items =
    ap (λ rest. c.loop-letter.yielded ++ rest) (sym c.in-Some.ensures.steps.0) ∙ c.loop-letter.invariant.2 in
    subst (λ names. IsAddressed names c.in-Some.letter) (sym c.loop-letter.invariant.4) (seam
    (IsAddressed (peers_of c.args.links.now)) c.loop-letter.yielded c.next.new.self.rest.items c.args.letters.items c.in-Some.letter parts c.requires.addressed)

pub post_one-requires-clause-within : goal.post_one-requires-clause-within
post_one-requires-clause-within g c = place_within c.loop-letter.links c.in-Some.letter (post_one-requires-clause-addressed g c)

pub loop-letter-preserved : goal.loop-letter-preserved
loop-letter-preserved g c =
    let rest = c.in-Some.ensures.steps.0 in
    let room = c.loop-letter.invariant.3 in
    let one = c.post_one.ensures.room in
    let fewer = ap length rest in (
      tt,
      tt,
      append_assoc c.loop-letter.yielded (c.in-Some.letter ∷ []) c.next.new.self.rest.items
          ∙ ap (λ left. c.loop-letter.yielded ++ left) (sym rest)
          ∙ c.loop-letter.invariant.2,
      omega arith,
      c.post_one.ensures.peers ∙ c.loop-letter.invariant.4,
      c.post_one.ensures.posted c.loop-letter.yielded c.args.links.now c.loop-letter.invariant.5,
    )

pub returns-clause-posted : goal.returns-clause-posted
returns-clause-posted g c =
    let whole : c.loop-letter.yielded ≡ c.args.letters.items =
    all_gone c.loop-letter.yielded _ c.args.letters.items c.loop-letter.invariant.2 (sym c.loop-letter.letter-iterator.rest.ok.0 ∙ c.in-None.ensures.steps.0) in
    subst (λ letters. Posted c.loop-letter.blocked.items letters c.args.links.now c.loop-letter.links) whole c.loop-letter.invariant.5
