-- A connection that came in, as the node reads it that it is meant for.
use Rattle.std.specs.Prelude.{◌≡◌, ◌≢◌, ℕ, ◌<◌, ◌≤◌, List, [], ◌∷◌, length, take, Option, Some, None, Ok, Err, IfOk, IsSome}
use Rattle.node_names.specs.NodeName.{Name}
use Rattle.handshake.specs.declared.arrival.Addressee.{Addressee}
use Rattle.handshake.specs.declared.arrival.Front.{Front}
use Rattle.handshake.specs.declared.arrival.Front.TheVariants as Came
use Rattle.handshake.specs.declared.arrival.Refusal.{Refusal}
use Rattle.handshake.specs.declared.arrival.Refusal.TheVariants as Why
use Rattle.handshake.specs.declared.hello.Hello.{Hello}
use Rattle.handshake.specs.declared.record.Record.{Record}
use Rattle.handshake.specs.declared.record.Record.TheVariants as Told
use Rattle.handshake.specs.Arrived.{Arrived}
use Rattle.handshake.specs.Inbound.{frames, gave, given_by, run}
use Rattle.handshake.specs.State.{State}

-- The hello is of a node of the same cluster, names the node that reads it, and is of another one.
pub record IsMeant (reader : Addressee) (hello : Hello) : Type 0 where
  pub of_cluster : hello.label ≡ reader.label
  pub to_reader : hello.to ≡ reader.name
  pub of_other : hello.name ≢ reader.name

-- The hello is refused for this: it is of another cluster; or else it names another node; or else its node has the reader's name.
abbrev pub IsRefused : Addressee → Hello → Refusal → Type 0
IsRefused reader hello (Why.Malformed error) = ⊥
IsRefused reader hello (Why.OtherCluster name label) = (name ≡ hello.name) × (label ≡ hello.label) × (label ≢ reader.label)
IsRefused reader hello (Why.Misdirected name to) = (name ≡ hello.name) × (to ≡ hello.to) × (hello.label ≡ reader.label) × (to ≢ reader.name)
IsRefused reader hello (Why.SameName at) = (at ≡ hello.at) × (hello.label ≡ reader.label) × (hello.to ≡ reader.name) × (hello.name ≡ reader.name)

-- A hello is taken if it is meant for the reader, and then it is known who dialled; and any other record.
abbrev pub Admits : Addressee → Option Name → Option Record → Option Name → Type 0
Admits reader before None dialler = dialler ≡ before
Admits reader before (Some (Told.Hello hello)) dialler = IsMeant reader hello × (dialler ≡ Some hello.name)
Admits reader before (Some (Told.Introduction introduction)) dialler = dialler ≡ before

-- a hello is refused that is not meant for the reader
abbrev pub Rejects : Addressee → Option Record → Refusal → Type 0
Rejects reader r why = (hello : Hello) × (r ≡ Some (Told.Hello hello)) × IsRefused reader hello why

-- So many of the first bytes are of frames, and it is known who dialled; or they are of another record, as `Inbound` reads it.
abbrev pub Takes : Arrived → List ℕ → Front → Arrived → Type 0
Takes old bytes (Came.Frames count) new = (0 < count) × (count ≡ frames old.inbound bytes) × IsSome old.dialler × (new ≡ old)
Takes old bytes (Came.Record count r) new =
    (0 < count) × (count ≤ length bytes) × (run old.inbound (take count bytes) ≡ Ok (new.inbound, given_by r))
    × (new.reader ≡ old.reader) × Admits old.reader old.dialler r new.dialler

-- some of the first bytes complete this hello, and nothing else
pub record Completes (old : Arrived) (bytes : List ℕ) (hello : Hello) : Type 0 where
  pub count : ℕ
  pub next : State
  pub within : count ≤ length bytes
  pub read : run old.inbound (take count bytes) ≡ Ok (next, gave (Told.Hello hello) ∷ [])

-- The bytes meet this fault before they give anything, or complete a hello that is refused.
abbrev pub Refuses : Arrived → List ℕ → Refusal → Type 0
Refuses old bytes (Why.Malformed error) = (run old.inbound bytes ≡ Err error) × ((n : ℕ) → IfOk (run old.inbound (take n bytes)) (λ x. x.1 ≡ []))
Refuses old bytes why = (hello : Hello) × Completes old bytes hello × IsRefused old.reader hello why
