-- What a close finds is what it returns.
use Rattle.std.specs.Prelude.{◌≡◌, ℕ, List, Option, Result, Ok, Err, IfErr, length}
use Rattle.node_names.specs.NodeName.{Name}
use Rattle.node_names.specs.Limits.{Limits}
use Rattle.node_names.specs.declared.ids.Origin.{Origin}
use Rattle.protocol.specs.Delivery.{Delivery}
use Rattle.protocol.specs.Stimulus.{Stimulus}
use Rattle.frames.specs.Frame.{Frame}
use Rattle.node_threads.specs.Closing.{Fails, Finds}
use Rattle.node_threads.specs.Leaving.{AreLeft}
use Rattle.node_threads.specs.Outlet.{Outlet}
use Rattle.node_threads.specs.Receipts.{Call}
use Rattle.node_threads.specs.declared.host.closed.CloseError.{CloseError}
use Rattle.node_threads.specs.declared.host.closed.CloseError.TheVariants as of

module _
    {C K A : Type 0}
    (starts : Origin → Limits → List Name → Option Name → List (Name × Frame) → C → Type 0)
    (steps : C → Stimulus Frame → List (Name × Frame) → List Delivery → C → Type 0)
    (made : ℕ) (ports : List (List Call)) (workers : List (Option Name)) (before outlets : List Outlet)
    (counted : length ports ≡ made) (left : AreLeft before workers outlets)
  where
    failing : (e : CloseError K A) → Finds starts steps ports outlets e → Fails starts steps made ports workers e
    failing (of.PortMissing host given others) found = absurd found
    failing (of.Unlike port since trace) found = (counted, found.0, found.1)
    failing (of.Torn peer since trace) found = (counted, found.0, record { before = before; outlets = outlets; left = left; alike = found.1; torn = found.2 })
    failing (of.OutOfMemory since trace) found = (counted, found)

    pub fails : {X : Type 0} (r : Result X (CloseError K A)) → IfErr r (Finds starts steps ports outlets) → IfErr r (Fails starts steps made ports workers)
    fails (Ok x) found = tt
    fails (Err e) found = failing e found
