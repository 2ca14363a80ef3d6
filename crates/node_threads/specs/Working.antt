-- What a worker is sure to leave.
use Rattle.std.specs.Prelude.{◌≡◌, Option}
use Rattle.node_names.specs.NodeName.{Name}
use Rattle.node_threads.specs.Leaving.{HasLeft, outlets_in}
use Rattle.node_threads.specs.declared.host.worker.Work.{Work}
use Rattle.node_threads.specs.declared.host.worker.Work.TheVariants.{Thread, Ended}

-- Its thread promised to leave what a worker with this peer leaves, or it has ended and left that.
abbrev pub IsSure : {A : Type 0} → Option Name → Work A → Type 0
IsSure peer (Thread thread has_ended) = thread.promise.0 ≡ peer
IsSure peer (Ended outlets) = HasLeft peer (outlets_in outlets)
