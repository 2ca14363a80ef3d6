use Rattle.std.proofs.Common.{◌≡◌, [], length, rules, tests}
use Rattle.node_threads.proofs.Lettering.{all_named, all_open, no_items, none_full}
use Rattle.node_threads.proofs.cell.posting.close_full.Goals as goal

pub returns-then-is_empty-clause-full : goal.returns-then-is_empty-clause-full
returns-then-is_empty-clause-full g c =
    let none : c.args.blocked.items ≡ [] = (let few : length c.args.blocked.items ≡ 0 = search (rules, tests) in no_items c.args.blocked.items few) in
    none_full c.args.blocked.items none c.args.links.now.items

pub returns-then-is_empty-clause-links : goal.returns-then-is_empty-clause-links
returns-then-is_empty-clause-links g c =
    let none : c.args.blocked.items ≡ [] = (let few : length c.args.blocked.items ≡ 0 = search (rules, tests) in no_items c.args.blocked.items few) in
    all_open c.args.blocked.items none c.args.links.now.items

pub returns-then-is_empty-clause-names : goal.returns-then-is_empty-clause-names
returns-then-is_empty-clause-names g c =
    let none : c.args.blocked.items ≡ [] = (let few : length c.args.blocked.items ≡ 0 = search (rules, tests) in no_items c.args.blocked.items few) in
    all_named c.args.blocked.items none c.args.names.now.keys
