-- The words of formats and levels, and of how a record is kept.
use Rattle.std.specs.Prelude.{List, ℕ, codes}
use Rattle.node_options.specs.declared.format.Format.{Format}
use Rattle.node_options.specs.declared.format.Format.TheVariants as format
use Rattle.node_options.specs.declared.level.Level.{Level}
use Rattle.node_options.specs.declared.level.Level.TheVariants as level
use Rattle.node_options.specs.declared.recording.RecordSync.{RecordSync}
use Rattle.node_options.specs.declared.recording.RecordSync.TheVariants as sync
use Rattle.node_options.specs.declared.recording.RecordFailure.{RecordFailure}
use Rattle.node_options.specs.declared.recording.RecordFailure.TheVariants as failure

-- the word of a format
abbrev pub format_word : Format → List ℕ
format_word format.Text = codes "text"
format_word format.Hex = codes "hex"
format_word format.Json = codes "json"

-- the word of a level
abbrev pub level_word : Level → List ℕ
level_word level.Error = codes "error"
level_word level.Info = codes "info"
level_word level.Debug = codes "debug"

-- the word of when a record is written to the disk
abbrev pub sync_word : RecordSync → List ℕ
sync_word sync.Always = codes "always"
sync_word sync.Second = codes "second"
sync_word sync.Never = codes "never"

-- the word of what becomes of a node whose record cannot be written
abbrev pub failure_word : RecordFailure → List ℕ
failure_word failure.Stop = codes "stop"
failure_word failure.GoOn = codes "go-on"
