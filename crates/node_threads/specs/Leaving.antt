-- What workers leave when they end.
use Rattle.std.specs.Prelude.{◌≡◌, ◌<◌, List, [], ◌++◌, Option, Some, None, All, length}
use Rattle.std.specs.List.{AllZip, flat_map}
use Rattle.std.specs.Option.{option_to_list}
use Rattle.node_names.specs.NodeName.{Name}
use Rattle.node_threads.specs.Outlet.{Outlet}
use Rattle.node_threads.specs.declared.host.worker.Outlets.{Outlets}

-- the outlets that a worker had, in order: those whose links it gave up, and then its last
abbrev pub outlets_in : {A : Type 0} → Outlets A → List Outlet
outlets_in outlets = outlets.spent.items ++ option_to_list outlets.last

-- the outlets that workers had, in order
abbrev pub outlets_of : {A : Type 0} → List (Outlets A) → List Outlet
outlets_of workers = flat_map outlets_in workers

-- The outlet is of a link to this name.
abbrev pub GoesTo : Name → Outlet → Type 0
GoesTo peer outlet = outlet.peer ≡ peer

-- The outlets are of links to this name, and there is at least one.
abbrev pub LeavesTo : Name → List Outlet → Type 0
LeavesTo peer outlets = (0 < length outlets) × All (GoesTo peer) outlets

-- A worker that writes no link leaves no outlets, and one that does leaves those of links to its peer.
abbrev pub HasLeft : Option Name → List Outlet → Type 0
HasLeft None outlets = outlets ≡ []
HasLeft (Some peer) outlets = LeavesTo peer outlets

-- These are the outlets that there were before, and then what each of these workers left, in order.
pub record AreLeft (before : List Outlet) (workers : List (Option Name)) (outlets : List Outlet) : Type 0 where
  pub each : List (List Outlet)
  pub parts : outlets ≡ before ++ flat_map (λ left. left) each
  pub left : AllZip HasLeft workers each
