-- How the keys of a scenario are written.
use Rattle.std.specs.Prelude.{ℕ, List, codes}
use Rattle.scenario.specs.declared.error.Key.{Key}
use Rattle.scenario.specs.declared.error.Key.TheVariants.{Seed, Limits, Event, Active, Passive, Arwl, Prwl, Ka, Kp, Threshold, Keep, LimitsTogether, Do}
use Rattle.scenario.specs.declared.error.Key.TheVariants.{Node, Incarnation, Peers, Contact, Text, Place, Number, Origin, Seq, Peer, Ticks, Name, Port, Say}

-- the word for each key; limits that are inconsistent with each other have the code of that error
abbrev pub word_of : Key → List ℕ
word_of Seed = codes "seed"
word_of Limits = codes "limits"
word_of Event = codes "event"
word_of Active = codes "active"
word_of Passive = codes "passive"
word_of Arwl = codes "arwl"
word_of Prwl = codes "prwl"
word_of Ka = codes "ka"
word_of Kp = codes "kp"
word_of Threshold = codes "threshold"
word_of Keep = codes "keep"
word_of LimitsTogether = codes "N4"
word_of Do = codes "do"
word_of Node = codes "node"
word_of Incarnation = codes "incarnation"
word_of Peers = codes "peers"
word_of Contact = codes "contact"
word_of Text = codes "text"
word_of Place = codes "place"
word_of Number = codes "number"
word_of Origin = codes "origin"
word_of Seq = codes "seq"
word_of Peer = codes "peer"
word_of Ticks = codes "ticks"
word_of Name = codes "name"
word_of Port = codes "port"
word_of Say = codes "say"
