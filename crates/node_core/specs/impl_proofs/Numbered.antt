-- What holds of bodies holds of the frames that they become. Proofs only; nothing here has to be trusted.
use Rattle.std.specs.Prelude.{◌≡◌, ◌+◌, ◌&&◌, ℕ, suc, Bool, cond, List, [], ◌∷◌, length, count_by, refl, if◌then◌else◌}
use Rattle.std.specs.List.{AllByRecursion as Each}
use Rattle.std.proofs.Common.{sym, ◌∙◌, ap}
use Rattle.std.proofs.lemmas.List.Sums.{sum_by-cons}
use Rattle.node_names.specs.NodeName.{Name}
use Rattle.node_names.specs.Same.{same_name}
use Rattle.node_names.specs.declared.ids.MsgId.{MsgId}
use Rattle.node_names.specs.declared.ids.Origin.{Origin}
use Rattle.protocol.specs.HoldLaw.{packets_with}
use Rattle.protocol.specs.QueueLaw.{announcements, times_announced}
use Rattle.protocol.specs.SpreadLaw.{packets_carrying, is_carried}
use Rattle.frames.specs.Body.{Body}
use Rattle.frames.specs.Content.{body_content, frame_content}
use Rattle.frames.specs.Frame.{Frame}
use Rattle.node_core.specs.Steps.{numbered}

module _ (me : Origin) where
  -- what holds of each body and its receiver
  pub each-numbered : (P : Name → Body → Type 0) (framed : ℕ) (sends : List (Name × Body)) →
      Each (λ send. P send.0 send.1) sends →
      Each (λ send. P send.0 send.1.body) (numbered me framed sends)
  each-numbered P framed [] h = tt
  each-numbered P framed (send ∷ sends) h = (h.0, each-numbered P (framed + 1) sends h.1)

  -- how many there are
  pub length-numbered : (framed : ℕ) (sends : List (Name × Body)) → length (numbered me framed sends) ≡ length sends
  length-numbered framed [] = refl
  length-numbered framed (send ∷ sends) = ap suc (length-numbered (framed + 1) sends)

  -- how many pass a test
  pub count-numbered : (test : Name → Body → Bool) (framed : ℕ) (sends : List (Name × Body)) →
      count_by (λ (send : Name × Frame). test send.0 send.1.body) (numbered me framed sends) ≡ count_by (λ (send : Name × Body). test send.0 send.1) sends
  count-numbered test framed [] = refl
  count-numbered test framed (send ∷ sends) =
      sum_by-cons (λ (s : Name × Frame). cond (test s.0 s.1.body) 1 0)
      (send.0, record { sender = me; number = framed + 1; body = send.1 }) (numbered me (framed + 1) sends)
      ∙ ap (λ n. cond (test send.0 send.1) 1 0 + n) (count-numbered test (framed + 1) sends)
      ∙ sym (sum_by-cons (λ (s : Name × Body). cond (test s.0 s.1) 1 0) send sends)

  -- how many carry a message, to a name and to all
  pub carrying-numbered : (id : MsgId) (name : Name) (framed : ℕ) (sends : List (Name × Body)) →
      packets_carrying frame_content id name (numbered me framed sends) ≡ packets_carrying body_content id name sends
  carrying-numbered id name framed sends = count-numbered (λ to body. same_name name to && is_carried id (body_content body).carried) framed sends

  pub with-numbered : (id : MsgId) (framed : ℕ) (sends : List (Name × Body)) →
      packets_with frame_content id (numbered me framed sends) ≡ packets_with body_content id sends
  with-numbered id framed sends = count-numbered (λ to body. is_carried id (body_content body).carried) framed sends

  -- how often a message is announced to a name
  pub announced-numbered : (name : Name) (id : MsgId) (round framed : ℕ) (sends : List (Name × Body)) →
      announcements frame_content name id round (numbered me framed sends) ≡ announcements body_content name id round sends
  announced-numbered name id round framed [] = refl
  announced-numbered name id round framed (send ∷ sends) =
      ap (λ n. (if same_name name send.0 then times_announced id round (body_content send.1).announced else 0) + n)
      (announced-numbered name id round (framed + 1) sends)
