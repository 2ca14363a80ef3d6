-- A timer fires: what such a step must satisfy. Proofs only; nothing here has to be trusted.
use Rattle.std.specs.Prelude.{◌≡◌, ◌≢◌, ◌⊎◌, ◌+◌, ◌||◌, ℕ, Bool, true, false, not, cond, List, []}
use Rattle.std.specs.Prelude.{◌∷◌, ◌++◌, Option, Some, None, is_some, filter, refl, if◌then◌else◌}
use Rattle.std.specs.List.{AllByRecursion as Each, IsDistinct}
use Rattle.std.specs.Option.{unwrap_or}
use Rattle.std.proofs.Common.{inl, inr, sym, ◌∙◌, ap, subst}
use Rattle.std.proofs.lemmas.Bool.{false≢true, true≢false}
use Rattle.std.proofs.lemmas.Map.Keys.{IsDistinct-head, IsDistinct-tail}
use Rattle.node_names.specs.NodeName.{Name}
use Rattle.node_names.specs.Same.{same_id, same_id-Decides, has_id, has_name}
use Rattle.node_names.specs.declared.ids.MsgId.{MsgId}
use Rattle.node_names.specs.declared.ids.Origin.{Origin}
use Rattle.protocol.specs.AskLaw.{HasNoEntry}
use Rattle.protocol.specs.CoreState.{CoreState}
use Rattle.protocol.specs.HoldLaw.{IsAskedBy}
use Rattle.protocol.specs.Laws.{StepLaws}
use Rattle.protocol.specs.Lists.{IsOneOf}
use Rattle.protocol.specs.declared.stimulus.StimulusOf.TheVariants as on
use Rattle.frames.specs.Content.{frame_content}
use Rattle.frames.specs.Frame.{Frame}
use Rattle.frames.specs.declared.body.BodyOf.TheVariants.{Graft}
use Rattle.missing.specs.Missing.{taken_first}
use Rattle.missing.specs.Timers.{without_timer}
use Rattle.missing.specs.Wants.{first_want, without_first}
use Rattle.peer_sets.specs.Members.{names}
use Rattle.gossip_core.specs.State.{GossipState}
use Rattle.gossip_core.specs.Table.{Outcome, outcome, asked, quiet}
use Rattle.gossip_core.specs.declared.call.CallOf.TheVariants as call
use Rattle.node_core.specs.impl_proofs.Members.{of_each, each_one, one_of_left, one_of_right, one_of_append, has_one_of_ids, one_of_ids, differs}
use Rattle.node_core.specs.Plum.{IsWhole, state_with}
use Rattle.node_core.specs.impl_proofs.Resting.{delivers_nothing, leaves_all, carry_none, keeps_all}
use Rattle.node_core.specs.Steps.{numbered, delivered_at}

apart : (id other : MsgId) → same_id id other ≡ false → other ≢ id
apart id other is same = true≢false (sym ((same_id-Decides id other).1 (sym same)) ∙ is)

-- where the first entry of the id stands
abbrev First : MsgId → List (MsgId × Name × ℕ) → List (MsgId × Name × ℕ) → Name → ℕ → Type 0
First id wants left peer round =
    (front : List (MsgId × Name × ℕ))
    × (back : List (MsgId × Name × ℕ))
    × (wants ≡ front ++ (id, peer, round) ∷ back)
    × HasNoEntry id front
    × (left ≡ front ++ back)

first_stands : (id : MsgId) (wants : List (MsgId × Name × ℕ)) (peer : Name) (round : ℕ) →
    first_want id wants ≡ Some (peer, round) →
    First id wants (without_first id wants) peer round
first_stands id [] peer round e = absurd (false≢true (ap is_some e))
first_stands id (entry ∷ wants) peer round e = go (first_stands id wants peer round) (same_id id entry.0) refl e
  where
    go : (first_want id wants ≡ Some (peer, round) → First id wants (without_first id wants) peer round) →
        (b : Bool) →
        same_id id entry.0 ≡ b →
        (if b then Some (entry.1, entry.2) else first_want id wants) ≡ Some (peer, round) →
        First id (entry ∷ wants) (if b then wants else entry ∷ without_first id wants) peer round
    go rest true is found =
        let both : (entry.1, entry.2) ≡ (peer, round) = ap (λ o. unwrap_or o (entry.1, entry.2)) found in
        let same : id ≡ entry.0 = (same_id-Decides id entry.0).0 is in
        let whole : entry ≡ (id, peer, round) = λ i. (sym same i, (both i).0, (both i).1) in
        ([], wants, ap (λ x. x ∷ wants) whole, tt, refl)
    go rest false is found =
        let later : First id wants (without_first id wants) peer round = rest found in
        (entry ∷ later.0, later.1, ap (λ xs. entry ∷ xs) later.2, (apart id entry.0 is, later.3), ap (λ xs. entry ∷ xs) later.4)

-- if there is no entry, none is removed
none_stands : (id : MsgId) (wants : List (MsgId × Name × ℕ)) → first_want id wants ≡ None → HasNoEntry id wants × (without_first id wants ≡ wants)
none_stands id [] e = (tt, refl)
none_stands id (entry ∷ wants) e = go (none_stands id wants) (same_id id entry.0) refl e
  where
    go : (first_want id wants ≡ None → HasNoEntry id wants × (without_first id wants ≡ wants)) →
        (b : Bool) →
        same_id id entry.0 ≡ b →
        (if b then Some (entry.1, entry.2) else first_want id wants) ≡ None →
        HasNoEntry id (entry ∷ wants) × ((if b then wants else entry ∷ without_first id wants) ≡ entry ∷ wants)
    go rest true is found = absurd (false≢true (sym (ap is_some found)))
    go rest false is found =
        let later : HasNoEntry id wants × (without_first id wants ≡ wants) = rest found in
        ((apart id entry.0 is, later.0), ap (λ xs. entry ∷ xs) later.1)

-- a filter that all pass changes nothing
filter_all : {X : Type 0} (test : X → Bool) (xs : List X) → Each (λ x. test x ≡ true) xs → filter test xs ≡ xs
filter_all test [] h = refl
filter_all test (x ∷ xs) h = ap (λ b. cond b (x ∷ filter test xs) (filter test xs)) h.0 ∙ ap (λ ys. x ∷ ys) (filter_all test xs h.1)

each_not : (id : MsgId) (timers : List MsgId) → Each (λ other. same_id id other ≡ false) timers → Each (λ other. not (same_id id other) ≡ true) timers
each_not id [] h = tt
each_not id (other ∷ timers) h = (ap not h.0, each_not id timers h.1)

-- where the timer of the id stands
abbrev Timer : MsgId → List MsgId → List MsgId → Type 0
Timer id timers left = (front : List MsgId) × (back : List MsgId) × (timers ≡ front ++ id ∷ back) × (left ≡ front ++ back)

timer_stands : (id : MsgId) (timers : List MsgId) → IsDistinct same_id timers → has_id timers id ≡ true → Timer id timers (without_timer id timers)
timer_stands id [] distinct e = absurd (false≢true e)
timer_stands id (other ∷ timers) distinct e = go (timer_stands id timers (IsDistinct-tail same_id other timers distinct)) (same_id id other) refl e
  where
    go : (has_id timers id ≡ true → Timer id timers (without_timer id timers)) →
        (b : Bool) →
        same_id id other ≡ b →
        (b || has_id timers id) ≡ true →
        Timer id (other ∷ timers) (cond (not b) (other ∷ without_timer id timers) (without_timer id timers))
    go rest true is found =
        let same : id ≡ other = (same_id-Decides id other).0 is in
        let others : Each (λ later. same_id id later ≡ false) timers =
        subst (λ i. Each (λ later. same_id i later ≡ false) timers) (sym same) (IsDistinct-head same_id other timers distinct) in
        ([], timers, ap (λ i. i ∷ timers) (sym same), filter_all (λ armed. not (same_id id armed)) timers (each_not id timers others))
    go rest false is found =
        let later : Timer id timers (without_timer id timers) = rest found in
        (other ∷ later.0, later.1, ap (λ xs. other ∷ xs) later.2, ap (λ xs. other ∷ xs) later.3)

-- what is one of a list is one of it without another, or is that
one_without : {X : Type 0} (x y : X) (front back : List X) → IsOneOf x (front ++ y ∷ back) → IsOneOf x (front ++ back) ⊎ (x ≡ y)
one_without x y front back h =
    elim (one_of_append x front (y ∷ back) h) [
      | inl early ↦ inl (one_of_left x front back early)
      | inr (inl same) ↦ inr same
      | inr (inr late) ↦ inl (one_of_right x front back late)
    ]

-- and the other way round
one_with : {X : Type 0} (x y : X) (front back : List X) → IsOneOf x (front ++ back) → IsOneOf x (front ++ y ∷ back)
one_with x y front back h =
    elim (one_of_append x front back h) [ inl early ↦ one_of_left x front (y ∷ back) early | inr late ↦ one_of_right x front (y ∷ back) (inr late) ]

module _ (g : GossipState) (whole : IsWhole g) (active passive : List Name) (members : names g.peers.members ≡ active)
    (me : Origin) (others : has_name active g.me.name ≡ false) (framed : ℕ) (id : MsgId) where
  abbrev before : CoreState
  before = state_with active passive g

  abbrev Law : Outcome → Type 0
  Law done =
      StepLaws frame_content (state_with active passive g) (on.Fire id) (numbered me framed done.sends)
      (delivered_at me done.delivered) (state_with active passive done.state)

  -- the timer is not armed
  unarmed : has_id g.missing.timers id ≡ false → Law (quiet g)
  unarmed is =
      leaves_all before (on.Fire id) [] refl refl tt tt (tt, keeps_all before) (λ name j round a. absurd a)
      (inl (record { unarmed = λ h. true≢false (sym (has_one_of_ids id g.missing.timers h) ∙ is); unchanged = refl; silent = refl }))
      (record { answers = λ j name a. absurd a; only = tt })

  -- it is armed, and there is no entry
  drops : has_id g.missing.timers id ≡ true →
      first_want id g.missing.wants ≡ None →
      (wants : List (MsgId × Name × ℕ)) →
      wants ≡ g.missing.wants →
      (timers : List MsgId) →
      timers ≡ without_timer id g.missing.timers →
      Law (quiet (record g { missing = record { wants = wants; timers = timers } }))
  drops is none wants is_wants timers is_timers =
      let lacks : HasNoEntry id g.missing.wants × (without_first id g.missing.wants ≡ g.missing.wants) = none_stands id g.missing.wants none in
      let stands : Timer id g.missing.timers (without_timer id g.missing.timers) = timer_stands id g.missing.timers whole.missing.distinct is in
      let left : timers ≡ stands.0 ++ stands.1 = is_timers ∙ stands.3 in
      delivers_nothing before (on.Fire id) [] active passive g.peers.queued wants timers refl refl tt tt
      (record { appears = each_one _ g.peers.queued (λ entry h. inl h); leaves = (tt, keeps_all before) })
      (record {
        taken = λ name j round a. absurd a;
        appears = each_one _ wants (λ entry h. inl (subst (IsOneOf entry) is_wants h));
        arms = each_one _ timers (λ j h. inl (subst (IsOneOf j) (sym stands.2) (one_with j id stands.0 stands.1 (subst (IsOneOf j) left h))));
      })
      (record {
        fires =
            inr (inl (record {
              front = stands.0;
              back = stands.1;
              stood = stands.2;
              without = lacks.0;
              dropped = λ i. record before { wants = is_wants i; timers = left i };
              silent = refl;
            }));
        entry_stays = each_one _ g.missing.wants (λ entry h. inl (subst (IsOneOf entry) (sym is_wants) h));
        timer_stays =
            each_one _ g.missing.timers (λ j h. elim (one_without j id stands.0 stands.1 (subst (IsOneOf j) stands.2 h)) [
              | inl other ↦ inl (subst (IsOneOf j) (sym left) other)
              | inr same ↦ inr (inr (same, subst (λ k. HasNoEntry k g.missing.wants) (sym same) lacks.0))
            ]);
      })
      (record { answers = λ j name a. absurd a; only = tt })

  -- it is armed, and the first entry's peer is asked
  asks : has_id g.missing.timers id ≡ true →
      (peer : Name) (round : ℕ) →
      first_want id g.missing.wants ≡ Some (peer, round) →
      StepLaws frame_content (state_with active passive g) (on.Fire id) (numbered me framed ((peer, Graft id round) ∷ [])) []
      (state_with active passive (record g { missing = record { wants = without_first id g.missing.wants; timers = g.missing.timers } }))
  asks is peer round found =
      let stands : First id g.missing.wants (without_first id g.missing.wants) peer round = first_stands id g.missing.wants peer round found in
      let frame : Frame = record { sender = me; number = framed + 1; body = Graft id round } in
      let there : IsOneOf (id, peer, round) g.missing.wants =
      subst (IsOneOf (id, peer, round)) (sym stands.2) (one_of_right (id, peer, round) stands.0 ((id, peer, round) ∷ stands.1) (inl refl)) in
      let is_active : has_name active peer ≡ true =
      subst (λ ns. has_name ns peer ≡ true) members
      (of_each (λ entry. has_name (names g.peers.members) entry.1 ≡ true) g.missing.wants (id, peer, round) whole.wants_of_members there) in
      delivers_nothing before (on.Fire id) ((peer, frame) ∷ []) active passive g.peers.queued (without_first id g.missing.wants) g.missing.timers refl refl
      (carry_none (λ to j p. (before.payload j ≡ Some p) × (before.has j ≡ true)) ((peer, frame) ∷ []) (refl, tt))
      (differs active peer g.me.name is_active others, tt)
      (record { appears = each_one _ g.peers.queued (λ entry h. inl h); leaves = ((refl, tt), keeps_all before) })
      (record {
        taken = λ name j r a. absurd a;
        appears =
            each_one _ (without_first id g.missing.wants)
            (λ entry h. inl (subst (IsOneOf entry) (sym stands.2) (one_with entry (id, peer, round) stands.0 stands.1 (subst (IsOneOf entry) stands.4 h))));
        arms = each_one _ g.missing.timers (λ j h. inl h);
      })
      (record {
        fires =
            inr (inr (
              one_of_ids id g.missing.timers is,
              record {
                peer = peer;
                round = round;
                note = frame;
                front = stands.0;
                back = stands.1;
                stood = stands.2;
                first = stands.3;
                one_packet = refl;
                asks = refl;
                taken_out = stands.4;
                keeps_timer = refl;
              },
            ));
        entry_stays =
            each_one _ g.missing.wants (λ entry h. elim (one_without entry (id, peer, round) stands.0 stands.1 (subst (IsOneOf entry) stands.2 h)) [
              | inl other ↦ inl (subst (IsOneOf entry) (sym stands.4) other)
              | inr same ↦ inr (inr (inl (
                ap (λ (x : MsgId × Name × ℕ). x.0) same,
                (frame, ap (λ (x : MsgId × Name × ℕ). Some x.0) (sym same), ap (λ (x : MsgId × Name × ℕ). (x.1, frame) ∷ []) (sym same)),
              )))
            ]);
        timer_stays = each_one _ g.missing.timers (λ j h. inl h);
      })
      (record {
        answers = λ j name a. absurd a;
        only = carry_none (λ to j p. IsOneOf j [] ⊎ (IsAskedBy frame_content (on.Fire id) j to × (is_some (before.payload j) ≡ true))) ((peer, frame) ∷ []) (
          refl,
          tt,
        );
      })

  armed : has_id g.missing.timers id ≡ true → (first : Option (Name × ℕ)) → first_want id g.missing.wants ≡ first → Law (asked id first (record g {
    missing = record { wants = without_first id g.missing.wants; timers = if is_some first then g.missing.timers else without_timer id g.missing.timers };
  }))
  armed is None found = drops is found (without_first id g.missing.wants) (none_stands id g.missing.wants found).1 (without_timer id g.missing.timers) refl
  armed is (Some first) found = asks is first.0 first.1 found

  pub fires_lawfully : Law (outcome g (call.Fire id))
  fires_lawfully = go (has_id g.missing.timers id) refl
    where
      go : (b : Bool) →
          has_id g.missing.timers id ≡ b →
          Law (if b then asked id (first_want id g.missing.wants) (record g { missing = taken_first id g.missing }) else quiet g)
      go true is = armed is (first_want id g.missing.wants) refl
      go false is = unarmed is
