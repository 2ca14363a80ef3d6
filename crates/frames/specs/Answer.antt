-- The results of functions that read.
use Rattle.std.specs.Prelude.{◌≡◌, ℕ, ◌⊎◌, List, Result, Ok, Err, IsOk}
use Rattle.frames.specs.declared.fault.FrameFault.{FrameFault}
use Rattle.frames.specs.declared.fault.FrameFault.TheVariants.{OutOfMemory}
use Rattle.frames.specs.Reading.{Reader}

-- The result is what the reader gives for the old bytes, and the new bytes are those that it leaves.
abbrev pub Reads : {X : Type 0} → Result X FrameFault → Reader X → List ℕ → List ℕ → Type 0
Reads (Ok x) r old new = r old ≡ Ok (x, new)
Reads (Err fault) r old new = r old ≡ Err fault

-- The fault is that of reading, or it is OutOfMemory and reading has no fault.
abbrev pub IsFaultOf : {Y : Type 0} → FrameFault → Result Y FrameFault → Type 0
IsFaultOf fault read = (read ≡ Err fault) ⊎ ((fault ≡ OutOfMemory) × IsOk read)

-- The result, seen through view, is that of reading, or it is OutOfMemory and reading has no fault.
abbrev pub Makes : {X Y : Type 0} → (X → Y) → Result X FrameFault → Result Y FrameFault → Type 0
Makes view (Ok x) read = read ≡ Ok (view x)
Makes view (Err fault) read = IsFaultOf fault read
