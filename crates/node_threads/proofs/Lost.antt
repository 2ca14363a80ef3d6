-- The text of a link that was opened after the steps that a trace lacks.
use Rattle.std.specs.Prelude.{◌≡◌, ◌≤◌, ◌-◌, ◌==◌, ℕ, List, [], ◌∷◌, ◌++◌, drop, length, if◌then◌else◌}
use Rattle.std.proofs.Common.{◌∙◌, ap, arith, sym, zero, suc}
use Rattle.node_names.specs.NodeName.{Name}
use Rattle.protocol.specs.Trace.{Step, Trace}
use Rattle.frames.specs.Frame.{Frame}
use Rattle.node_threads.specs.Cell.{after}
use Rattle.node_threads.specs.LinkText.{link_text, sent_to, text_of, text_since}

-- what is left of two lists behind the first
pub drop_past : {X : Type 0} (a b : List X) (n : ℕ) → length a ≤ n → drop n (a ++ b) ≡ drop (n - length a) b
drop_past [] b n past = let e : n ≡ n - 0 = omega arith in ap (λ m. drop m b) e
drop_past (x ∷ a) b zero past = absurd (omega (arith, past))
drop_past (x ∷ a) b (suc n) past = let e : n - length a ≡ suc n - suc (length a) = omega arith in drop_past a b n (omega (arith, past)) ∙ ap (λ m. drop m b) e

-- it is the text of the link by the whole trace
pub whole_text : (before : List (Step Frame)) (trace : Trace Frame) (peer : Name) (since opened : ℕ) →
    length before ≡ since →
    since ≤ opened →
    text_since since trace peer opened ≡ link_text (after before trace) peer opened
whole_text before trace peer since opened lacks behind =
    let past : length before ≤ opened = omega (arith, lacks, behind) in
    ap (λ ss. (if opened == 0 then sent_to peer trace.opening.sends else []) ++ text_of peer ss)
    (ap (λ n. drop (opened - n) trace.steps) (sym lacks) ∙ sym (drop_past before trace.steps opened past))
