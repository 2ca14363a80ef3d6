-- No core sends to itself. That its views are sound is a law of its state.
use Rattle.std.specs.Prelude.{◌≢◌, List}
use Rattle.std.specs.List.{AllByRecursion as Each}
use Rattle.node_names.specs.NodeName.{Name}
use Rattle.protocol.specs.CoreState.{CoreState}

-- No packet goes to the name of its sender.
abbrev pub ViewLaw : {N : Type 0} → CoreState → List (Name × N) → Type 0
ViewLaw before sends = Each (λ send. send.0 ≢ before.me.name) sends
