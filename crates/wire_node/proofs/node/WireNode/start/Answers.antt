use Rattle.std.proofs.Common.{ap, refl, rules, subst, sym}
use Rattle.std.proofs.lemmas.Result.{IfOk-at_ok}
use Rattle.node_core.specs.Plum.{Plum, plum_state}
use Rattle.node_core.specs.Steps.{PlumStarts}
use Rattle.node_core.specs.News.{Telling, all_news}
use Rattle.wire_node.proofs.node.WireNode.start.Goals as goal

pub returns-clause-ok : goal.returns-clause-ok
returns-clause-ok g c =
    let out = c.start_core.new.out in
    let both = c.in_ok-core-2.ensures.ok in
    record {
      allowed = search rules;
      opening = out;
      started =
          subst (λ (core : Plum). PlumStarts c.args.me c.args.limits.core c.args.peers.now c.args.contact out.sends core)
          (sym both.0) c.in_ok-core.ensures.started;
      nothing = c.in_ok-core.ensures.nothing;
      waits = IfOk-at_ok _ both.1 c.first_mail-mail.ensures.waits;
      delivered = c.new.ensures;
      notes = IfOk-at_ok _ both.1 c.first_mail-mail.ensures.notes;
      news = ap (λ (t : Telling). all_news t (plum_state c.in_ok-core-2.core).active) c.new-2.ensures;
      tells = ap (λ (t : Telling). t.tells) c.new-2.ensures;
      lost = c.new-3.ensures;
      limit = refl;
      is_behind = refl;
      connections = c.new-4.ensures.items;
      numbered = refl;
      ticks = refl;
      asking = c.new-5.ensures;
    }
