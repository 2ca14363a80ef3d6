use Rattle.std.proofs.Common.{◌≡◌, ◌∙◌, ◌++◌, ◌∷◌, [], false, ap, length, nat_le, refl, rules, sym, tests, if◌then◌else◌}
use Rattle.std.proofs.lemmas.List.{append-nil}
use Rattle.node_threads.specs.Cell.{Link, peers_of}
use Rattle.node_threads.specs.Opened.{others, without}
use Rattle.node_threads.proofs.Lettering.{gone, named_more, other_names}
use Rattle.node_threads.proofs.cell.opening.link.Goals as goal

pub put_last-requires-clause-absent : goal.put_last-requires-clause-absent
put_last-requires-clause-absent g c = rw c.close.ensures.names (gone c.args.peer c.args.names.now.keys)

pub returns-then-len-room-clause-names : goal.returns-then-len-room-clause-names
returns-then-len-room-clause-names g c =
    let new : Link = record { peer = c.args.peer; opened = c.args.opened; pushed = c.args.mail } in
    let pushed : c.push.new.self.items ≡ c.close.new.links.items ++ new ∷ [] = search rules in
    c.put_last.ensures
    ∙ ap (λ names. names ++ c.args.peer ∷ []) c.close.ensures.names
    ∙ named_more c.args.peer c.args.names.now.keys c.args.links.now.items new c.requires.listed refl
    ∙ ap (λ links. peers_of (links ++ new ∷ [])) (sym c.close.ensures.links)
    ∙ ap peers_of (sym pushed)

pub returns-else-len-room-clause-links : goal.returns-else-len-room-clause-links
returns-else-len-room-clause-links g c =
    let long : nat_le (length c.args.mail) c.args.room ≡ false = search (rules, tests) in
    let new : Link = record { peer = c.args.peer; opened = c.args.opened; pushed = c.args.mail } in
    c.close.ensures.links
    ∙ sym (append-nil (without c.args.peer c.args.links.now.items))
    ∙ ap (λ b. without c.args.peer c.args.links.now.items ++ (if b then new ∷ [] else [])) (sym long)

pub returns-else-len-room-clause-names : goal.returns-else-len-room-clause-names
returns-else-len-room-clause-names g c =
    c.close.ensures.names ∙ ap (others c.args.peer) c.requires.listed ∙ other_names c.args.peer c.args.links.now.items ∙ ap peers_of (sym c.close.ensures.links)
