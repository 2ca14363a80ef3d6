use Rattle.std.proofs.Common.{◌≡◌, ◌∙◌, ◌+◌, ◌++◌, ◌∷◌, [], List, None, ap, length, map, sym, take}
use Rattle.node_threads.specs.Cell.{lost}
use Rattle.node_threads.specs.Outlet.{Outlet, fresh_outlet}
use Rattle.node_threads.proofs.Lettering.{outlets_on}
use Rattle.node_threads.proofs.host.open_links.Goals as goal

pub loop-name-preserved : goal.loop-name-preserved
loop-name-preserved g c =
    let so_far : List Outlet = map fresh_outlet (take c.loop-name.name-index c.args.names.now) in
    let none : c.loop-name.cell.since ≡ None = c.loop-name.invariant.0 in
    let before : c.loop-name.cell.trace.steps ≡ [] = c.loop-name.invariant.1 in
    let its : c.in_ok-outlet.outlet ≡ fresh_outlet c.name-item.result =
    c.in_ok-outlet.ensures.outlet
    ∙ ap (λ since. record { peer = c.name-item.result; opened = lost since + length c.loop-name.cell.trace.steps; given = []; seen = [] }) none
    ∙ ap (λ steps. record { peer = c.name-item.result; opened = lost None + length steps; given = []; seen = [] }) before in (
      ap (λ cell. cell.since) c.in_ok-outlet.ensures.linked ∙ none,
      ap (λ cell. cell.trace.steps) c.in_ok-outlet.ensures.linked ∙ before,
      c.in_ok-keep.ensures
          ∙ ap (λ outlets. outlets ++ c.in_ok-outlet.outlet ∷ []) c.loop-name.invariant.2
          ∙ ap (λ outlet. so_far ++ outlet ∷ []) its
          ∙ sym (outlets_on c.args.names.now c.loop-name.name-index c.name-item.result c.loop-name-test.true c.name-item.is),
    )
