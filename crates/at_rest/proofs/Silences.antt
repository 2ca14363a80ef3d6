-- The tests of silence tell what the definition of rest says.
use Rattle.std.proofs.Common.{◌≡◌, ◌∙◌, ℕ, List, true, sym, ap, refl, subst}
use Rattle.std.specs.List.{AllByRecursion as Each}
use Rattle.std.specs.Option.{IfSome, option_map_or}
use Rattle.std.specs.Prelude.{◌≢◌, ◌↔◌, ◌&&◌, Bool, Option, Some, None, not, slice_get}
use Rattle.std.proofs.lemmas.Bool.{false≢true}
use Rattle.node_names.specs.NodeName.{Name}
use Rattle.node_names.specs.Same.{has_id, same_id, same_id-Decides}
use Rattle.node_names.specs.declared.ids.MsgId.{MsgId}
use Rattle.protocol.specs.Content.{Content}
use Rattle.protocol.specs.CoreState.{CoreState}
use Rattle.protocol.specs.Lists.{IsOneOf}
use Rattle.protocol.specs.SpreadLaw.{is_carried}
use Rattle.world.specs.Group.{Group, core_of}
use Rattle.world.specs.Links.{Runs}
use Rattle.world.specs.Rest.{IsAtRest, IsQuiet, IsSilentOn}
use Rattle.world.specs.declared.node_state.NodeState.{NodeState}
use Rattle.world.specs.declared.packet.Packet.{Packet}
use Rattle.at_rest.specs.Silence.{are_quiet, is_announced, is_asked, is_queued, is_quiet, is_quiet_at, is_silent, is_silent_at, is_silent_flight}
use Rattle.at_rest.proofs.Lists.{all_pass, any_passes, both_hold, each_of_one, each_one, each_passes}
use Rattle.at_rest.proofs.Lists.{fails, first_holds, not_false, not_holds, one_passes, second_holds}
use Rattle.at_rest.proofs.Nodes.{core_runs, found_one, runs_core}

-- an id is the same as itself
id_is : (id : MsgId) → same_id id id ≡ true
id_is id = (same_id-Decides id id).1 refl

-- a silent content neither carries nor announces nor asks
silent_is : (id : MsgId) (content : Content) → is_silent id content ≡ true → IsSilentOn content id
unfolding is_silent
silent_is id content h =
    let none : (not (is_announced id content.announced) && not (is_asked id content.asked)) ≡ true =
    second_holds (not (is_carried id content.carried)) (not (is_announced id content.announced) && not (is_asked id content.asked)) h in
    record {
      carries_not =
          λ p e. not_holds (is_carried id content.carried)
          (first_holds (not (is_carried id content.carried)) (not (is_announced id content.announced) && not (is_asked id content.asked)) h)
          (ap (is_carried id) e ∙ id_is id);
      announces_not =
          λ round one. not_holds (is_announced id content.announced)
          (first_holds (not (is_announced id content.announced)) (not (is_asked id content.asked)) none)
          (any_passes (λ (entry : MsgId × ℕ). same_id id entry.0) content.announced (id, round) one (id_is id));
      asks_not =
          λ e. not_holds (is_asked id content.asked)
          (second_holds (not (is_announced id content.announced)) (not (is_asked id content.asked)) none) (ap (is_asked id) e ∙ id_is id);
    }

-- and one that does none of these is silent
is_silent_on : (id : MsgId) (content : Content) → IsSilentOn content id → is_silent id content ≡ true
unfolding is_silent
is_silent_on id content silent =
    both_hold (not (is_carried id content.carried)) (not (is_announced id content.announced) && not (is_asked id content.asked))
    (not_false (is_carried id content.carried) (fails (is_carried id content.carried) (carried content.carried refl)))
    (both_hold (not (is_announced id content.announced)) (not (is_asked id content.asked))
    (not_false (is_announced id content.announced) (fails (is_announced id content.announced) announced))
    (not_false (is_asked id content.asked) (fails (is_asked id content.asked) (asked content.asked refl))))
  where
    carried : (o : Option (MsgId × List ℕ)) → content.carried ≡ o → is_carried id o ≡ true → ⊥
    carried None e h = false≢true h
    carried (Some message) e h = silent.carries_not message.1 (e ∙ ap (λ i. Some (i, message.1)) (sym ((same_id-Decides id message.0).0 h)))

    announced : is_announced id content.announced ≡ true → ⊥
    announced h =
        let found = one_passes (λ (entry : MsgId × ℕ). same_id id entry.0) content.announced h in
        silent.announces_not found.0.1 (subst (λ i. IsOneOf (i, found.0.1) content.announced) (sym ((same_id-Decides id found.0.0).0 found.2)) found.1)

    asked : (o : Option MsgId) → content.asked ≡ o → is_asked id o ≡ true → ⊥
    asked None e h = false≢true h
    asked (Some other) e h = silent.asks_not (e ∙ ap Some (sym ((same_id-Decides id other).0 h)))

-- a quiet core has nothing queued or timed
quiet_is : (id : MsgId) (core : CoreState) → is_quiet id core ≡ true → IsQuiet core id
unfolding is_quiet
quiet_is id core h =
    record {
      queues_not =
          each_of_one (λ (entry : Name × MsgId × ℕ). entry.1 ≢ id) core.queued (λ entry one e. not_holds (is_queued id core.queued)
          (first_holds (not (is_queued id core.queued)) (not (has_id core.timers id)) h)
          (any_passes (λ (x : Name × MsgId × ℕ). same_id id x.1) core.queued entry one ((same_id-Decides id entry.1).1 (sym e))));
      times_not =
          each_of_one (λ (timed : MsgId). timed ≢ id) core.timers (λ timed one e. not_holds (has_id core.timers id)
          (second_holds (not (is_queued id core.queued)) (not (has_id core.timers id)) h)
          (any_passes (same_id id) core.timers timed one ((same_id-Decides id timed).1 (sym e))));
    }

-- and one that has nothing is quiet
is_quiet_core : (id : MsgId) (core : CoreState) → IsQuiet core id → is_quiet id core ≡ true
unfolding is_quiet
is_quiet_core id core quiet =
    both_hold (not (is_queued id core.queued)) (not (has_id core.timers id))
    (not_false (is_queued id core.queued) (fails (is_queued id core.queued) queued))
    (not_false (has_id core.timers id) (fails (has_id core.timers id) timed))
  where
    queued : is_queued id core.queued ≡ true → ⊥
    queued h =
        let found = one_passes (λ (x : Name × MsgId × ℕ). same_id id x.1) core.queued h in
        each_one (λ (entry : Name × MsgId × ℕ). entry.1 ≢ id) core.queued found.0 quiet.queues_not found.1 (sym ((same_id-Decides id found.0.1).0 found.2))

    timed : has_id core.timers id ≡ true → ⊥
    timed h =
        let found = one_passes (same_id id) core.timers h in
        each_one (λ (t : MsgId). t ≢ id) core.timers found.0 quiet.times_not found.1 (sym ((same_id-Decides id found.0).0 found.2))

module _ {C N : Type 0} (state : C → CoreState) (content : N → Content) (group : Group C N) (id : MsgId) where
  -- a silent flight is as rest wants it
  pub flight_is : is_silent_flight content id group.sent group.flight ≡ true →
      Each (λ number. IfSome (slice_get group.sent number) (λ (packet : Packet N). IsSilentOn (content packet.note) id)) group.flight
  flight_is h =
      each_of_one (λ number. IfSome (slice_get group.sent number) (λ (packet : Packet N). IsSilentOn (content packet.note) id)) group.flight
      (λ number one. go (slice_get group.sent number) (each_one (λ n. is_silent_at content id group.sent n ≡ true) group.flight number
      (each_passes (λ n. is_silent_at content id group.sent n) group.flight h) one))
    where
      go : (o : Option (Packet N)) →
          option_map_or (λ (packet : Packet N). is_silent id (content packet.note)) o true ≡ true →
          IfSome o (λ (packet : Packet N). IsSilentOn (content packet.note) id)
      go None h = tt
      go (Some packet) h = silent_is id (content packet.note) h

  -- and a flight as rest wants it is silent
  pub is_flight : Each (λ number. IfSome (slice_get group.sent number) (λ (packet : Packet N). IsSilentOn (content packet.note) id)) group.flight →
      is_silent_flight content id group.sent group.flight ≡ true
  is_flight h =
      all_pass (λ n. is_silent_at content id group.sent n) group.flight
      (each_of_one (λ n. is_silent_at content id group.sent n ≡ true) group.flight (λ number one. go (slice_get group.sent number)
      (each_one (λ n. IfSome (slice_get group.sent n) (λ (packet : Packet N). IsSilentOn (content packet.note) id)) group.flight number h one)))
    where
      go : (o : Option (Packet N)) →
          IfSome o (λ (packet : Packet N). IsSilentOn (content packet.note) id) →
          option_map_or (λ (packet : Packet N). is_silent id (content packet.note)) o true ≡ true
      go None h = refl
      go (Some packet) h = is_silent_on id (content packet.note) h

  -- where all cores are quiet, each that runs is
  pub nodes_are : are_quiet state id group.nodes ≡ true → (name : Name) (core : C) → Runs group name core → IsQuiet (state core) id
  nodes_are h name core runs =
      let found = found_one name group.nodes runs.0 runs.1 in
      let test : is_quiet_at state id group.nodes runs.0.name ≡ true =
      each_one (λ (node : NodeState C). is_quiet_at state id group.nodes node.name ≡ true) group.nodes runs.0
      (each_passes (λ (node : NodeState C). is_quiet_at state id group.nodes node.name) group.nodes h) found.0 in
      let here : is_quiet_at state id group.nodes name ≡ true = subst (λ n. is_quiet_at state id group.nodes n ≡ true) (sym found.1) test in
      quiet_is id (state core) (subst (λ o. option_map_or (λ (c : C). is_quiet id (state c)) o true ≡ true) (runs_core group name core runs) here)

  -- and where each that runs is, all are
  pub are_nodes : ((name : Name) (core : C) → Runs group name core → IsQuiet (state core) id) → are_quiet state id group.nodes ≡ true
  are_nodes h =
      all_pass (λ (node : NodeState C). is_quiet_at state id group.nodes node.name) group.nodes (each_of_one
      (λ (node : NodeState C). is_quiet_at state id group.nodes node.name ≡ true) group.nodes (λ node one. go node.name (core_of node.name group.nodes) refl))
    where
      go : (name : Name) (o : Option C) → core_of name group.nodes ≡ o → option_map_or (λ (core : C). is_quiet id (state core)) o true ≡ true
      go name None e = refl
      go name (Some core) e = is_quiet_core id (state core) (h name core (core_runs group name core e))

  -- so the two tests together tell whether the group is at rest
  pub rest_is : (test : Bool) →
      test ≡ (is_silent_flight content id group.sent group.flight && are_quiet state id group.nodes) →
      (test ≡ true) ↔ IsAtRest state content group id
  rest_is test is_so = (
    (λ h.
        let both : (is_silent_flight content id group.sent group.flight && are_quiet state id group.nodes) ≡ true = sym is_so ∙ h in
        record {
          nothing_flies = flight_is (first_holds (is_silent_flight content id group.sent group.flight) (are_quiet state id group.nodes) both);
          nodes_are_quiet = nodes_are (second_holds (is_silent_flight content id group.sent group.flight) (are_quiet state id group.nodes) both);
        }),
    (λ rest. is_so ∙ both_hold (is_silent_flight content id group.sent group.flight)
        (are_quiet state id group.nodes) (is_flight rest.nothing_flies) (are_nodes rest.nodes_are_quiet)),
  )
