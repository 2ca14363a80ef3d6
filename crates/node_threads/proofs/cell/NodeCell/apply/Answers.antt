-- Every refusal leaves the node as it was, and a step that is made is recorded and posted.
use Rattle.std.proofs.Common.{◌≡◌, ◌∙◌, ◌+◌, ◌++◌, ◌∷◌, [], ◌<◌, ◌^◌, List, length-append, rules, ap, arith, filter, length, map, refl, subst, sym}
use Rattle.node_names.specs.Same.{has_name}
use Rattle.node_threads.specs.Applying.{Applies, Puts, id_given, mail_to, unlinked}
use Rattle.protocol.specs.Trace.{Step, Trace}
use Rattle.frames.specs.Frame.{Frame}
use Rattle.node_threads.specs.Cell.{Cell, Link, lost, peers_of, steps_made}
use Rattle.std.specs.List.{All}
use Rattle.node_threads.specs.Letters.{HaveMail, IsAddressed, Posted, lacking, left_open, still_named}
use Rattle.node_threads.specs.Refusal.{HasRoom, Refuses}
use Rattle.node_threads.specs.declared.error.HostError.TheVariants.{OutOfMemory}
use Rattle.node_threads.proofs.Keeping.{applied_keeps}
use Rattle.node_threads.proofs.Lettering.{lacks_by_names, open_names, over_links, posted_peers, posted_puts}
use Rattle.node_threads.proofs.Made.{at_error, made_applies, no_success, passed_on}
use Rattle.node_threads.proofs.cell.NodeCell.apply.Given.{Over}
use Rattle.node_threads.proofs.cell.NodeCell.apply.Goals as goal

-- the node before the step
abbrev before : (g : Over) (c : goal.After-from_vec-2 g) → Cell g.row.C.Denot
before g c = record {
  core = c.self.inside.core;
  since = c.self.inside.since;
  trace = c.self.inside.trace;
  limit = c.self.inside.limit;
  links = c.self.inside.links.items;
  pending = c.self.inside.pending;
  handed_out = c.self.inside.handed_out;
  is_shut = c.self.inside.is_shut;
}

-- and after it
abbrev behind : (g : Over) (c : goal.After-from_vec-2 g) → Cell g.row.C.Denot
behind g c = record {
  core = c.record.new.core;
  since = c.self.inside.since;
  trace = c.record.new.trace;
  limit = c.self.inside.limit;
  links = c.close_full-full.new.links.items;
  pending = c.record.new.pending;
  handed_out = c.self.inside.handed_out;
  is_shut = c.self.inside.is_shut;
}

pub returns-in_err-letters-clause-refused : goal.returns-in_err-letters-clause-refused
returns-in_err-letters-clause-refused g c =
    let room : HasRoom c.args.self.now = (
      sym (ap (λ (cell : Cell g.row.C.Denot). cell.is_shut) c.self.view_is) ∙ c.if-self.false,
      (c.is_full.ensures.room c.if-is_full.false).0,
      (c.is_full.ensures.room c.if-is_full.false).1,
    ) in
    passed_on c.from_residual-in_err-letters.result
    (Refuses g.C.NodeCore.is_spent c.args.self.now c.args.stimulus) OutOfMemory c.from_residual-in_err-letters.ensures.1 (room, c.in_ok-turn.ensures.accepted)

pub returns-in_err-record-clause-refused : goal.returns-in_err-record-clause-refused
returns-in_err-record-clause-refused g c =
    let room : HasRoom c.args.self.now = (
      sym (ap (λ (cell : Cell g.row.C.Denot). cell.is_shut) c.self.view_is) ∙ c.if-self.false,
      (c.is_full.ensures.room c.if-is_full.false).0,
      (c.is_full.ensures.room c.if-is_full.false).1,
    ) in
    passed_on c.from_residual-in_err-record.result
    (Refuses g.C.NodeCore.is_spent c.args.self.now c.args.stimulus) OutOfMemory c.from_residual-in_err-record.ensures.1 (room, c.in_ok-turn.ensures.accepted)

pub returns-in_err-record-clause-err : goal.returns-in_err-record-clause-err
returns-in_err-record-clause-err g c =
    let kept = c.in_err-record.ensures.err in
    at_error c.from_residual-in_err-record.result _
    ((λ i. record {
      core = kept.0 i;
      since = c.self.inside.since;
      trace = kept.1 i;
      limit = c.self.inside.limit;
      links = c.self.inside.links.items;
      pending = kept.2 i;
      handed_out = c.self.inside.handed_out;
      is_shut = c.self.inside.is_shut;
    }) ∙ c.self.view_is)

-- the links were posted to, and those that are blocked are closed
posts : (g : Over) (c : goal.After-from_vec-2 g) →
    Puts (map (mail_to c.in_ok-turn.out.sends) c.self.inside.links.items) c.self.inside.links.items c.close_full-full.new.links.items c.from_vec.result
posts g c =
    let sends = c.in_ok-turn.out.sends in
    let olds : List Link = c.self.inside.links.items in
    let news : List Link = c.post_all.new.links in
    let blocked = c.post_all.new.blocked.items in
    let whose : c.in_ok-letters.letters.items ≡ c.in_ok-letters.field-0.letters.items = search rules in
    let have : HaveMail c.self.inside.names.keys sends c.in_ok-letters.letters.items = rw whose c.in_ok-letters.ensures.mail in
    let posted : Posted blocked c.in_ok-letters.letters.items olds news = search rules in
    let same : peers_of olds ≡ peers_of news = posted_peers blocked c.in_ok-letters.letters.items olds news posted in
    let wrote = over_links c.self.inside.links.len olds news c.self.inside.links.ok.0 same in
    let live : c.close_full-full.new.links.items ≡ left_open blocked news = c.close_full-full.ensures.links ∙ ap (left_open blocked) wrote in
    let full : c.from_vec.result ≡ filter (has_name blocked) (peers_of news) =
    c.from_vec.ensures ∙ c.close_full-full.ensures.full ∙ ap (λ ls. filter (has_name blocked) (peers_of ls)) wrote in
    subst (λ ls. Puts (map (mail_to sends) olds) olds ls c.from_vec.result) (sym live)
    (subst (λ ns. Puts (map (mail_to sends) olds) olds (left_open blocked news) ns) (sym (full ∙ ap (filter (has_name blocked)) (sym same)))
    (posted_puts blocked c.in_ok-letters.letters.items sends olds news
    (subst (λ names. HaveMail names sends c.in_ok-letters.letters.items) c.self.invariant.1 have) posted))

-- what the step did
done : (g : Over) (c : goal.After-from_vec-2 g) →
    Applies g.C.NodeCore.state g.C.NodeCore.steps (before g c) c.args.stimulus
    (behind g c) c.broadcast_id-id.result c.steps_made-place.result c.from_vec.result c.from_vec-2.result
done g c =
    let out = c.in_ok-turn.out in
    let its_id : c.broadcast_id-id.result ≡ id_given c.args.stimulus out.deliveries = search rules in
    let delivers : c.record.new.pending ≡ c.self.inside.pending ++ out.deliveries = search rules in
    let lacks : c.from_vec-2.result ≡ lacking c.self.inside.names.keys out.sends = search rules in
    let none : c.from_vec-2.result ≡ unlinked c.self.inside.links.items out.sends =
    lacks ∙ ap (λ names. lacking names out.sends) c.self.invariant.1 ∙ sym (lacks_by_names c.self.inside.links.items out.sends) in
    made_applies g.C.NodeCore.state g.C.NodeCore.steps g.met.C.NodeCore.delivers_one
    (before g c)
    c.args.stimulus out c.record.new.core _ c.record.new.trace c.record.new.pending
    (map (mail_to out.sends) c.self.inside.links.items)
    c.close_full-full.new.links.items c.from_vec.result c.from_vec-2.result c.broadcast_id-id.result c.steps_made-place.result
    c.in_ok-turn.ensures.stepped c.in_ok-record.ensures.core its_id
    (c.steps_made-place.ensures ∙ sym (ap steps_made c.self.view_is)) c.in_ok-record.ensures.trace delivers refl (posts g c) none c.if-self.false

pub invariant_of-self-2 : goal.invariant_of-self-2
invariant_of-self-2 g c =
    let blocked = c.post_all.new.blocked.items in
    let olds : List Link = c.self.inside.links.items in
    let news : List Link = c.post_all.new.links in
    let posted : Posted blocked c.in_ok-letters.letters.items olds news = search rules in
    let same : peers_of olds ≡ peers_of news = posted_peers blocked c.in_ok-letters.letters.items olds news posted in
    let wrote = over_links c.self.inside.links.len olds news c.self.inside.links.ok.0 same in
    let bound = (c.is_full.ensures.room c.if-is_full.false).1 in
    let step : Step Frame = record { stimulus = c.args.stimulus; out = c.in_ok-turn.out } in
    let recorded : c.record.new.trace ≡ record c.self.inside.trace { steps = c.self.inside.trace.steps ++ step ∷ [] } = c.in_ok-record.ensures.trace in
    let long : length c.record.new.trace.steps ≡ length (c.self.inside.trace.steps ++ step ∷ []) = ap (λ (trace : Trace Frame). length trace.steps) recorded in
    let made : steps_made (before g c) ≡ steps_made c.args.self.now = ap steps_made c.self.view_is in
    let few : lost c.self.inside.since + length c.record.new.trace.steps < 2 ^ 64 =
    omega (arith, bound, made, long, length-append c.self.inside.trace.steps (step ∷ [])) in (
      applied_keeps (before g c) c.args.stimulus
          (behind g c) c.broadcast_id-id.result c.steps_made-place.result c.from_vec.result c.from_vec-2.result c.self.invariant.0 (done g c),
      c.close_full-full.ensures.names
          ∙ ap (still_named blocked) (c.self.invariant.1 ∙ same)
          ∙ open_names blocked news
          ∙ ap peers_of (sym (c.close_full-full.ensures.links ∙ ap (left_open blocked) wrote)),
      c.close_full-full.ensures.room,
      few,
    )

pub returns-clause-applied : goal.returns-clause-applied
returns-clause-applied g c =
    subst (λ cell. Applies g.C.NodeCore.state g.C.NodeCore.steps cell c.args.stimulus
    (behind g c) c.broadcast_id-id.result c.steps_made-place.result c.from_vec.result c.from_vec-2.result)
    c.self.view_is (done g c)

pub returns-clause-accepted : goal.returns-clause-accepted
returns-clause-accepted g c = (
  (
    sym (ap (λ (cell : Cell g.row.C.Denot). cell.is_shut) c.self.view_is) ∙ c.if-self.false,
    (c.is_full.ensures.room c.if-is_full.false).0,
    (c.is_full.ensures.room c.if-is_full.false).1,
  ),
  c.in_ok-turn.ensures.accepted,
)

pub returns-in_err-reserve-clause-refused : goal.returns-in_err-reserve-clause-refused
returns-in_err-reserve-clause-refused g c =
    let room : HasRoom c.args.self.now = (
      sym (ap (λ (cell : Cell g.row.C.Denot). cell.is_shut) c.self.view_is) ∙ c.if-self.false,
      (c.is_full.ensures.room c.if-is_full.false).0,
      (c.is_full.ensures.room c.if-is_full.false).1,
    ) in
    passed_on c.from_residual-in_err-reserve.result
    (Refuses g.C.NodeCore.is_spent c.args.self.now c.args.stimulus) OutOfMemory c.from_residual-in_err-reserve.ensures.1 (room, c.in_ok-turn.ensures.accepted)

pub returns-in_err-letters-clause-applied : goal.returns-in_err-letters-clause-applied
returns-in_err-letters-clause-applied g c = no_success c.from_residual-in_err-letters.result _ _ c.from_residual-in_err-letters.ensures.1

pub returns-in_err-letters-clause-err : goal.returns-in_err-letters-clause-err
returns-in_err-letters-clause-err g c = at_error c.from_residual-in_err-letters.result _ c.self.view_is

pub post_all-requires-clause-addressed : goal.post_all-requires-clause-addressed
post_all-requires-clause-addressed g c =
    rw c.as_mut_slice.ensures.value
    (subst (λ names. All (IsAddressed names) c.in_ok-letters.field-0.letters.items) c.self.invariant.1 c.in_ok-letters.ensures.addressed)

pub post_all-requires-clause-distinct : goal.post_all-requires-clause-distinct
post_all-requires-clause-distinct g c = rw c.as_mut_slice.ensures.value c.self.invariant.0.kept.distinct

pub returns-in_err-reserve-clause-err : goal.returns-in_err-reserve-clause-err
returns-in_err-reserve-clause-err g c = at_error c.from_residual-in_err-reserve.result _ c.self.view_is
