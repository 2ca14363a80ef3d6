use Rattle.std.proofs.Common.{◌≡◌, ◌∙◌, ◌++◌, ◌+◌, ◌-◌, List, ℕ, ap, append_assoc, drop, rules, sym}
use Rattle.std.proofs.lemmas.List.{append-nil}
use Rattle.node_threads.specs.Applying.{mail_for}
use Rattle.node_threads.proofs.Stripping.{is_there, mail_since, mail_since_at, no_steps, text_parts}
use Rattle.node_threads.proofs.cell.opening.mail_since.Goals as goal

pub loop-place-init : goal.loop-place-init
loop-place-init g c =
    ap (λ mail. mail ++ mail_since c.args.name.now (drop (c.args.since - c.args.lost) c.args.trace.now.steps)) c.in_ok-mail.ensures
    ∙ sym (text_parts c.args.lost c.args.trace.now c.args.name.now c.args.since)

pub unreachable-requires : goal.unreachable-requires
unreachable-requires g c = is_there c.args.trace.now.steps c.loop-place.place (search rules) c.in_default.ensures

pub loop-place-preserved : goal.loop-place-preserved
loop-place-preserved g c =
    let name = c.args.name.now in
    let before : List (List ℕ) = c.loop-place.mail in
    let sends : c.as_slice.result.now ≡ c.in-Some.step.now.out.sends = search rules in
    let more : c.into_vec.result.items ≡ mail_for c.as_slice.result.now name = c.into_vec.ensures ∙ c.in_ok-more.ensures in
    let rest : List (List ℕ) = mail_since name (drop (c.loop-place.place + 1) c.args.trace.now.steps) in
    ap (λ mail. mail ++ rest) (c.in_ok-append.ensures.ok ∙ ap (λ mail. before ++ mail) more)
    ∙ append_assoc before (mail_for c.as_slice.result.now name) rest
    ∙ ap (λ mail. before ++ mail)
    (sym (mail_since_at name c.args.trace.now.steps c.loop-place.place c.in-Some.step.now c.as_slice.result.now c.in-Some.ensures sends))
    ∙ c.loop-place.invariant

pub returns : goal.returns
returns g c =
    let all : List (List ℕ) = c.loop-place.mail in
    sym (append-nil all)
    ∙ ap (λ mail. all ++ mail) (sym (no_steps c.args.name.now c.args.trace.now.steps c.loop-place.place (search rules)))
    ∙ c.loop-place.invariant
