-- Why steps, frames and calls are refused.
use Rattle.std.proofs.Common.{◌≡◌, ◌≢◌, ◌<◌, ◌≤◌, ◌⊎◌, ◌∙◌, inl, inr, ℕ, List, [], ◌++◌, Result, Ok}
use Rattle.std.proofs.Common.{Err, ap, append_assoc, arith, drop, length, refl, subst, sym, take}
use Rattle.std.specs.Prelude.{IfErr, IsErrOf, IsOk, OnOk}
use Rattle.std.proofs.lemmas.List.{append-nil, length-append, take-append-drop}
use Rattle.node_names.specs.declared.dice.Dice.{Dice}
use Rattle.node_names.specs.declared.ids.MsgId.{MsgId}
use Rattle.protocol.specs.IdentityLaw.{IsTooLong}
use Rattle.protocol.specs.Stimulus.{Stimulus}
use Rattle.protocol.specs.declared.protocol.CoreError.{CoreError}
use Rattle.protocol.specs.declared.protocol.CoreError.TheVariants.{OutOfMemory as NoMemory, PayloadTooLong, SeqSpent}
use Rattle.protocol.specs.declared.stimulus.StimulusOf.TheVariants.{Arrive, Fire}
use Rattle.frames.specs.Answer.{IsFaultOf}
use Rattle.frames.specs.Cutting.{Cuts}
use Rattle.frames.specs.Frame.{Frame}
use Rattle.frames.specs.Reading.{read}
use Rattle.frames.specs.declared.TheConstants.{MAX_FRAME}
use Rattle.frames.specs.declared.fault.FrameFault.{FrameFault}
use Rattle.frames.specs.declared.fault.FrameFault.TheVariants.{OutOfMemory as NoRoom, Short, TooLong}
use Rattle.frames.specs.declared.fault.FrameFault.TheVariants.{BadVersion, BadKind, BadName, BadField, BadCount, Trailing}
use Rattle.node_core.specs.Plum.{Plum}
use Rattle.node_core.specs.Steps.{PlumIsSpent}
use Rattle.wire_node.specs.Receiving.{Draws, IsLeft, IsPartial}
use Rattle.wire_node.specs.Refusing.{IsAskRefusal, IsNoFrame, IsRefusal, IsStop, fault_of, refusal_of}
use Rattle.wire_node.specs.declared.error.WireError.{WireError}
use Rattle.wire_node.specs.declared.error.WireError.TheVariants.{Frame as NoFrame, OutOfMemory}
use Rattle.wire_node.proofs.Taking.{short_read}

-- a step that the core refused
pub refused_by : {X : Type 0} (core : Plum) (s : Stimulus Frame) (r : Result X CoreError) →
    (IsErrOf r PayloadTooLong → IsTooLong s) →
    (IsErrOf r SeqSpent → PlumIsSpent core s) →
    IfErr r (λ e. IsRefusal core s (refusal_of e))
refused_by core s (Ok x) long spent = tt
refused_by core s (Err NoMemory) long spent = tt
refused_by core s (Err PayloadTooLong) long spent = long refl
refused_by core s (Err SeqSpent) long spent = spent refl

-- memory was refused to who asked
pub ask_memory : {X : Type 0} (core : Plum) (r : Result X CoreError) → IfErr r (λ e. e ≡ NoMemory) → IfErr r (λ e. IsAskRefusal core (refusal_of e))
ask_memory core (Ok x) is = tt
ask_memory core (Err e) is = inl (ap refusal_of is)

-- the step of a timer was refused to who asked
pub ask_timer : {X : Type 0} (core : Plum) (id : MsgId) (r : Result X CoreError) →
    IfErr r (λ e. IsRefusal core (Fire id) (refusal_of e)) →
    IfErr r (λ e. IsAskRefusal core (refusal_of e))
ask_timer core id (Ok x) why = tt
ask_timer core id (Err e) why = inr (id, why)

-- a frame whose step was refused
pub stop_frame : (core : Plum) (left bytes after : List ℕ) (f : Frame) (dice : Dice) (e : CoreError) →
    Cuts f (left ++ bytes) after →
    IsRefusal core (Arrive f.sender f dice) (refusal_of e) →
    (left ≡ [] → IsOk (read bytes)) →
    IsStop core left bytes (refusal_of e)
stop_frame core left bytes after f dice NoMemory c why good = λ none. inl (inr (refl, good none))
stop_frame core left bytes after f dice PayloadTooLong c why good = record { frame = f; dice = dice; after = after; cuts = c; refused = why }
stop_frame core left bytes after f dice SeqSpent c why good = record { frame = f; dice = dice; after = after; cuts = c; refused = why }

no_frame : (bytes front more : List ℕ) (fault : FrameFault) →
    bytes ≡ front ++ more →
    IsFaultOf fault (read front) →
    fault ≢ Short →
    fault ≢ NoRoom →
    IsNoFrame bytes fault
no_frame bytes front more fault parts (inl e) apart room = record { front = front; more = more; parts = parts; faulty = inl (e, apart) }
no_frame bytes front more fault parts (inr e) apart room = absurd (room e.0)

-- bytes that are no frame
pub stop_fault : (core : Plum) (left bytes front more : List ℕ) (fault : FrameFault) →
    left ++ bytes ≡ front ++ more →
    IsFaultOf fault (read front) →
    fault ≢ Short →
    (left ≡ [] → front ≡ bytes)
    → IsStop core left bytes (fault_of fault)
stop_fault core left bytes front more NoRoom parts its apart same = λ none. inl (subst (λ (t : List ℕ). IsFaultOf NoRoom (read t)) (same none) its)
stop_fault core left bytes front more Short parts its apart same = absurd (apart refl)
stop_fault core left bytes front more TooLong parts its apart same = no_frame (left ++ bytes) front more TooLong parts its apart (λ e. absurd cc)
stop_fault core left bytes front more BadVersion parts its apart same = no_frame (left ++ bytes) front more BadVersion parts its apart (λ e. absurd cc)
stop_fault core left bytes front more BadKind parts its apart same = no_frame (left ++ bytes) front more BadKind parts its apart (λ e. absurd cc)
stop_fault core left bytes front more BadName parts its apart same = no_frame (left ++ bytes) front more BadName parts its apart (λ e. absurd cc)
stop_fault core left bytes front more BadField parts its apart same = no_frame (left ++ bytes) front more BadField parts its apart (λ e. absurd cc)
stop_fault core left bytes front more BadCount parts its apart same = no_frame (left ++ bytes) front more BadCount parts its apart (λ e. absurd cc)
stop_fault core left bytes front more Trailing parts its apart same = no_frame (left ++ bytes) front more Trailing parts its apart (λ e. absurd cc)

-- bytes that are no whole frame, and as many as the longest frame has
pub stop_long : (core : Plum) (left bytes front more : List ℕ) →
    left ++ bytes ≡ front ++ more →
    MAX_FRAME ≤ length front →
    IsPartial front →
    IsStop core left bytes (NoFrame TooLong)
stop_long core left bytes front more parts long partial = record { front = front; more = more; parts = parts; faulty = inr (refl, long, partial) }

-- what is kept of a frame, for which memory was refused
pub stop_keeping : (core : Plum) (left bytes : List ℕ) (e : WireError) →
    IsPartial bytes →
    left ≡ [] →
    (e ≡ OutOfMemory) ⊎ ((e ≡ NoFrame TooLong) × (MAX_FRAME ≤ length bytes)) →
    IsStop core left bytes e
stop_keeping core left bytes e partial none (inl is) = subst (IsStop core left bytes) (sym is) (λ _. inr partial)
stop_keeping core left bytes e partial none (inr is) =
    subst (IsStop core left bytes) (sym is.0)
    (stop_long core left bytes bytes [] (ap (λ (l : List ℕ). l ++ bytes) none ∙ sym (append-nil bytes)) is.1 partial)

-- the same, said of what was left before
pub stop_at : (core : Plum) (left bytes rest : List ℕ) (e : WireError) → left ≡ [] → rest ≡ bytes → IsStop core [] rest e → IsStop core left bytes e
stop_at core left bytes rest e none same stop =
    subst (λ (l : List ℕ). IsStop core l bytes e) (sym none) (subst (λ (b : List ℕ). IsStop core [] b e) same stop)

-- ---- a frame that was cut: its first bytes were left

module _ (core : Plum) (left bytes : List ℕ) (long : 0 < length left) where
  not_none : left ≢ []
  not_none none = absurd (omega (arith, ap length none, long))

  stop_memory : (e : WireError) → e ≡ OutOfMemory → IsStop core left bytes e
  stop_memory e is = subst (IsStop core left bytes) (sym is) (λ none. absurd (not_none none))

  whole_parts : (whole : List ℕ) (count : ℕ) → whole ≡ left ++ take count bytes → left ++ bytes ≡ whole ++ drop count bytes
  whole_parts whole count is =
      sym
      (ap (λ (t : List ℕ). t ++ drop count bytes) is
      ∙ append_assoc left (take count bytes) (drop count bytes)
      ∙ ap (λ (t : List ℕ). left ++ t) (take-append-drop count bytes))

  -- it has a fault
  pub stop_cut : (whole : List ℕ) (count : ℕ) (fault : FrameFault) (e : WireError) →
      whole ≡ left ++ take count bytes →
      IsFaultOf fault (read whole) →
      (e ≡ fault_of fault) × (fault ≢ Short) →
      IsStop core left bytes e
  stop_cut whole count fault e is its why =
      subst (IsStop core left bytes) (sym why.0)
      (stop_fault core left bytes whole (drop count bytes) fault (whole_parts whole count is) its why.1 (λ none. absurd (not_none none)))

  full_by : (count : ℕ) → (length left < MAX_FRAME → 0 < count) → count ≡ 0 → MAX_FRAME ≤ length left
  full_by count some none = grind (arith, some)

  -- it is as long as frames may be, and not whole
  pub stop_full : (whole : List ℕ) (count : ℕ) (e : WireError) →
      whole ≡ left ++ take count bytes →
      (length left < MAX_FRAME → 0 < length bytes → 0 < count) →
      IsPartial whole →
      (count ≡ 0) × (0 < length bytes) × (e ≡ NoFrame TooLong) →
      IsStop core left bytes e
  stop_full whole count e is some partial why =
      let full : MAX_FRAME ≤ length left = full_by count (λ less. some less why.1) why.0 in
      subst (IsStop core left bytes) (sym why.2)
      (stop_long core left bytes whole (drop count bytes) (whole_parts whole count is)
      (omega (arith, full, ap length is, length-append left (take count bytes))) partial)

  -- its step was refused
  pub stop_step : (f : Frame) (after : List ℕ) (e : CoreError) (w : WireError) →
      Cuts f (left ++ bytes) after →
      (dice : Dice) × IsRefusal core (Arrive f.sender f dice) (refusal_of e) →
      w ≡ refusal_of e →
      IsStop core left bytes w
  stop_step f after e w cuts why is =
      subst (IsStop core left bytes) (sym is) (stop_frame core left bytes after f why.0 e cuts why.1 (λ none. absurd (not_none none)))

-- memory was refused for what came of it
pub cut_memory : {X : Type 0} (core : Plum) (left bytes : List ℕ) (r : Result X WireError) →
    IfErr r (λ e. e ≡ OutOfMemory) →
    IfErr r (λ e. 0 < length left → IsStop core left bytes e)
cut_memory core left bytes (Ok x) is = tt
cut_memory core left bytes (Err e) is = λ long. stop_memory core left bytes long e is

-- ---- what comes of bytes that no frame begins

pub partial_by : {X : Type 0} (r : Result X WireError) (fault : FrameFault) (bytes : List ℕ) →
    OnOk r (fault ≡ Short) →
    IsFaultOf fault (read bytes) →
    OnOk r (IsPartial bytes)
partial_by (Ok x) fault bytes short its = short_read bytes (subst (λ (f : FrameFault). IsFaultOf f (read bytes)) short its)
partial_by (Err e) fault bytes short its = tt

pub stop_by : {X : Type 0} (core : Plum) (r : Result X WireError) (fault : FrameFault) (bytes : List ℕ) →
    IfErr r (λ e. (e ≡ fault_of fault) × (fault ≢ Short)) →
    IsFaultOf fault (read bytes) →
    IfErr r (IsStop core [] bytes)
stop_by core (Ok x) fault bytes why its = tt
stop_by core (Err e) fault bytes why its =
    subst (IsStop core [] bytes) (sym why.0) (stop_fault core [] bytes bytes [] fault (sym (append-nil bytes)) its why.1 (λ none. refl))

pub left_same : {X E : Type 0} (r : Result X E) (draws : Draws) → IsLeft r draws draws
left_same (Ok x) draws = refl
left_same (Err e) draws = inl refl

-- ---- what is known of a result that is there

pub err_at : {X E : Type 0} (P : E → Type 0) (r : Result X E) (e : E) → r ≡ Err e → IfErr r P → P e
err_at P r e is h = subst (λ q. IfErr q P) is h

pub ok_at : {X E : Type 0} (P : Type 0) (r : Result X E) (x : X) → r ≡ Ok x → OnOk r P → P
ok_at P r x is h = subst (λ q. OnOk q P) is h

pub left_at : {X E : Type 0} (r : Result X E) (x : X) (dealt now : Draws) → r ≡ Ok x → IsLeft r dealt now → now ≡ dealt
left_at r x dealt now is h = subst (λ q. IsLeft q dealt now) is h
