use Rattle.std.proofs.Common.{◌≡◌, ◌∙◌, ◌≤◌, ◌++◌, ◌∷◌, [], List, ℕ, ap, length, nat_le, rules, subst, sym, if◌then◌else◌}
use Rattle.node_threads.specs.Cell.{Cell, IsPlace, Link}
use Rattle.node_threads.specs.Opened.{linked_since, mail_since, without}
use Rattle.node_threads.proofs.Links.{opened_kept}
use Rattle.node_threads.proofs.cell.NodeCell.open_with.Goals as goal

pub invariant_of-self-2 : goal.invariant_of-self-2
invariant_of-self-2 g c =
    let before : Cell g.row.C.Denot = record {
      core = c.self.inside.core;
      since = c.self.inside.since;
      trace = c.self.inside.trace;
      limit = c.self.inside.limit;
      links = c.self.inside.links.items;
      pending = c.self.inside.pending;
      handed_out = c.self.inside.handed_out;
      is_shut = c.self.inside.is_shut;
    } in
    let within : IsPlace before c.args.since = subst (λ (cell : Cell g.row.C.Denot). IsPlace cell c.args.since) (sym c.self.view_is) c.requires.within in
    let text : c.args.mail ≡ mail_since before c.args.name c.args.since =
    subst (λ (cell : Cell g.row.C.Denot). c.args.mail ≡ mail_since cell c.args.name c.args.since) (sym c.self.view_is) c.requires.text in
    let link : List (List ℕ) → Link = λ mail. record { peer = c.args.name; opened = c.args.since; pushed = mail } in
    let opened : c.link.new.links.items ≡ without c.args.name before.links ++ (if nat_le (length c.args.mail) c.args.ring then link c.args.mail ∷ [] else []) =
    search rules in
    let links : c.link.new.links.items ≡ linked_since before c.args.name c.args.ring c.args.since =
    opened ∙ ap (λ mail. without c.args.name before.links ++ (if nat_le (length mail) c.args.ring then link mail ∷ [] else [])) text in (
      rw links (opened_kept g.C.NodeCore.starts g.C.NodeCore.steps before c.args.name c.self.invariant.0 c.args.ring c.args.since within),
      c.link.ensures.names,
      c.self.invariant.2,
      c.self.invariant.3,
    )
