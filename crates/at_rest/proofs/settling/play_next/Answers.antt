-- The next event leaves less, a calm group, and the places of what is left.
use Rattle.std.proofs.Common.{◌∙◌, sym, ap}
use Rattle.std.specs.List.{position}
use Rattle.node_names.specs.Same.{same_name}
use Rattle.node_core.specs.Plum.{plum_state}
use Rattle.at_rest.specs.declared.left.Kind.TheVariants.{Announcements, Timers}
use Rattle.at_rest.proofs.Lefts.{places_after}
use Rattle.at_rest.proofs.Taking.{is_named, still_distinct, still_undisturbed, stepped, taken}
use Rattle.at_rest.proofs.settling.play_next.Goals as goal

pub unreachable-requires-in_default-get_index_of : goal.unreachable-requires-in_default-get_index_of
unreachable-requires-in_default-get_index_of g c =
    let done = c.in-Ok.ensures.applied in
    let put =
    stepped c.core_is_lawful.ensures c.packets_fit_frames.ensures c.args.world.now c.play.new.self c.in-Some.next.event
    done.0 c.history.ensures c.requires.calm c.in-Some.ensures.next done.1 c.in-Some.next.name c.in-Some.ensures.name in
    is_named c.args.world.now.group c.play.new.self.group c.in-Some.next.name put c.names.result.now.keys c.names.ensures
    (sym c.get_index_of.ensures.index ∙ c.in_default-get_index_of.is)

pub returns-clause-lighter : goal.returns-clause-lighter
returns-clause-lighter g c ok =
    let done = c.in-Ok.ensures.applied in
    (taken c.core_is_lawful.ensures c.packets_fit_frames.ensures c.args.world.now c.play.new.self c.in-Some.next.event
    done.0 c.history.ensures c.requires.calm c.in-Some.ensures.next done.1 c.headline.ensures.honest).0

pub returns-clause-calm : goal.returns-clause-calm
returns-clause-calm g c ok =
    let done = c.in-Ok.ensures.applied in
    (taken c.core_is_lawful.ensures c.packets_fit_frames.ensures c.args.world.now c.play.new.self c.in-Some.next.event
    done.0 c.history.ensures c.requires.calm c.in-Some.ensures.next done.1 c.headline.ensures.honest).1

pub returns-clause-queues : goal.returns-clause-queues
returns-clause-queues g c ok =
    let done = c.in-Ok.ensures.applied in
    let put =
    stepped c.core_is_lawful.ensures c.packets_fit_frames.ensures c.args.world.now c.play.new.self c.in-Some.next.event
    done.0 c.history.ensures c.requires.calm c.in-Some.ensures.next done.1 c.in-Some.next.name c.in-Some.ensures.name in
    places_after plum_state Announcements c.args.world.now.group.nodes c.play.new.self.group.nodes c.in-Some.next.name put.0 put.1
    put.2 put.3 c.requires.distinct c.args.left.now.queues c.note.new.self.queues c.requires.queues c.in-Some-get_index_of.at
    (ap (position (same_name c.in-Some.next.name)) (sym c.names.ensures) ∙ sym c.get_index_of.ensures.index ∙ c.in-Some-get_index_of.is)
    c.in_ok-note.ensures.queues

pub returns-clause-timers : goal.returns-clause-timers
returns-clause-timers g c ok =
    let done = c.in-Ok.ensures.applied in
    let put =
    stepped c.core_is_lawful.ensures c.packets_fit_frames.ensures c.args.world.now c.play.new.self c.in-Some.next.event
    done.0 c.history.ensures c.requires.calm c.in-Some.ensures.next done.1 c.in-Some.next.name c.in-Some.ensures.name in
    places_after plum_state Timers c.args.world.now.group.nodes c.play.new.self.group.nodes c.in-Some.next.name put.0 put.1
    put.2 put.3 c.requires.distinct c.args.left.now.timers c.note.new.self.timers c.requires.timers c.in-Some-get_index_of.at
    (ap (position (same_name c.in-Some.next.name)) (sym c.names.ensures) ∙ sym c.get_index_of.ensures.index ∙ c.in-Some-get_index_of.is)
    c.in_ok-note.ensures.timers

pub returns-clause-distinct : goal.returns-clause-distinct
returns-clause-distinct g c ok =
    let done = c.in-Ok.ensures.applied in
    let put =
    stepped c.core_is_lawful.ensures c.packets_fit_frames.ensures c.args.world.now c.play.new.self c.in-Some.next.event
    done.0 c.history.ensures c.requires.calm c.in-Some.ensures.next done.1 c.in-Some.next.name c.in-Some.ensures.name in
    still_distinct c.args.world.now.group c.play.new.self.group c.in-Some.next.name put c.requires.distinct

pub returns-clause-undisturbed : goal.returns-clause-undisturbed
returns-clause-undisturbed g c ok =
    let done = c.in-Ok.ensures.applied in
    still_undisturbed c.core_is_lawful.ensures c.packets_fit_frames.ensures c.args.world.now c.play.new.self
    c.in-Some.next.event done.0 c.history.ensures c.requires.calm c.in-Some.ensures.next done.1 c.headline.ensures.honest
