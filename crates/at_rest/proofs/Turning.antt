-- What a calm event makes of the core that takes it.
use Rattle.std.proofs.Common.{◌≡◌, ◌≤◌, ℕ, length, true, false, sym, refl, arith}
use Rattle.std.specs.Prelude.{◌&&◌, Bool, Option, Some, None, cond, nat_le, nat_lt, option_map}
use Rattle.std.proofs.lemmas.Bool.{false≢true, ltb-true}
use Rattle.node_names.specs.NodeName.{Name}
use Rattle.node_names.specs.Same.{has_id, same_name}
use Rattle.node_names.specs.declared.dice.Dice.{Dice}
use Rattle.node_names.specs.declared.ids.MsgId.{MsgId}
use Rattle.node_names.specs.declared.ids.Origin.{Origin}
use Rattle.protocol.specs.declared.stimulus.StimulusOf.TheVariants as stimulus
use Rattle.frames.specs.Body.{Body}
use Rattle.frames.specs.Content.{body_content}
use Rattle.frames.specs.Frame.{Frame, has_good_counts}
use Rattle.frames.specs.declared.TheConstants.{MAX_ANNOUNCEMENTS}
use Rattle.frames.specs.declared.body.BodyOf.TheVariants.{Join, ForwardJoin, Neighbor, NeighborReply, Disconnect}
use Rattle.frames.specs.declared.body.BodyOf.TheVariants.{Shuffle, ShuffleReply, Gossip, IHave, Graft, Prune, GraftPeer}
use Rattle.membership.specs.Membership.{Membership}
use Rattle.gossip_core.specs.State.{GossipState}
use Rattle.node_core.specs.Plum.{IsWhole}
use Rattle.node_core.specs.Steps.{Turned, heard, idle, turned}
use Rattle.at_rest.specs.Load.{body_load}
use Rattle.at_rest.proofs.Lighter.{IsLighter, announcements_lighter, firing_lighter, flush_lighter}
use Rattle.at_rest.proofs.Lighter.{gossip_lighter, graft_lighter, prune_lighter, request_lighter}
use Rattle.at_rest.proofs.Receivers.{GoRight, announcements_right, firing_right, flush_right, gossip_right, request_right}

-- the sender that asks for a message by this packet
abbrev pub asker_of : Name → Body → Option Name
asker_of sender body = option_map (λ (id : MsgId). sender) (body_content body).asked

-- The membership stays, less is left than there was and came, and what is sent goes to members or to the peer that
-- asked.
pub record TurnsLighter (came : ℕ) (asker : Option Name) (m : Membership) (g : GossipState) (t : Turned) : Type 0 where
  pub views_stay : t.membership ≡ m
  pub lighter : IsLighter came g (record { state = t.gossip; sends = t.sends; delivered = t.delivered })
  pub right : GoRight g asker t.sends

-- the tests of a number in words
some_announced : (n : ℕ) → (nat_lt 0 n && nat_le n MAX_ANNOUNCEMENTS) ≡ true → 1 ≤ n
some_announced n good = go (nat_lt 0 n) refl good
  where
    go : (b : Bool) → nat_lt 0 n ≡ b → (b && nat_le n MAX_ANNOUNCEMENTS) ≡ true → 1 ≤ n
    go true less both = omega (arith, ltb-true 0 n less)
    go false less both = absurd (false≢true both)

module _ (me : Origin) (m : Membership) (g : GossipState) (whole : IsWhole g) where
  -- a packet that says nothing of the membership
  heard_lighter : (sender : Name) (body : Body) (dice : Dice) →
      (body_content body).is_membership ≡ false →
      has_good_counts body ≡ true →
      TurnsLighter (body_load body) (asker_of sender body) m g (heard m g sender body dice)
  heard_lighter sender (Gossip id round payload) dice about good =
      record { views_stay = refl; lighter = gossip_lighter g sender id round payload; right = gossip_right g whole sender id round payload None }
  heard_lighter sender (IHave entries) dice about good = record {
    views_stay = refl;
    lighter = announcements_lighter g sender entries (some_announced (length entries) good);
    right = announcements_right g whole sender entries None;
  }
  heard_lighter sender (Graft id round) dice about good =
      record { views_stay = refl; lighter = request_lighter g sender id round; right = request_right g whole sender id round }
  heard_lighter sender Prune dice about good = record { views_stay = refl; lighter = prune_lighter g sender; right = tt }
  heard_lighter sender GraftPeer dice about good = record { views_stay = refl; lighter = graft_lighter g sender; right = tt }
  heard_lighter sender Join dice about good = absurd (false≢true (sym about))
  heard_lighter sender (ForwardJoin new ttl) dice about good = absurd (false≢true (sym about))
  heard_lighter sender (Neighbor high) dice about good = absurd (false≢true (sym about))
  heard_lighter sender (NeighborReply accepted) dice about good = absurd (false≢true (sym about))
  heard_lighter sender Disconnect dice about good = absurd (false≢true (sym about))
  heard_lighter sender (Shuffle origin ttl names) dice about good = absurd (false≢true (sym about))
  heard_lighter sender (ShuffleReply names) dice about good = absurd (false≢true (sym about))

  -- such a packet has a load
  some_load : (body : Body) → (body_content body).is_membership ≡ false → has_good_counts body ≡ true → 1 ≤ body_load body
  some_load (Gossip id round payload) about good = omega arith
  some_load (IHave entries) about good = omega (arith, some_announced (length entries) good)
  some_load (Graft id round) about good = omega arith
  some_load Prune about good = omega arith
  some_load GraftPeer about good = omega arith
  some_load Join about good = absurd (false≢true (sym about))
  some_load (ForwardJoin new ttl) about good = absurd (false≢true (sym about))
  some_load (Neighbor high) about good = absurd (false≢true (sym about))
  some_load (NeighborReply accepted) about good = absurd (false≢true (sym about))
  some_load Disconnect about good = absurd (false≢true (sym about))
  some_load (Shuffle origin ttl names) about good = absurd (false≢true (sym about))
  some_load (ShuffleReply names) about good = absurd (false≢true (sym about))

  -- an arrival
  pub arrival_lighter : (sender : Origin) (frame : Frame) (dice : Dice) →
      (body_content frame.body).is_membership ≡ false →
      has_good_counts frame.body ≡ true →
      TurnsLighter (body_load frame.body) (asker_of sender.name frame.body) m g (turned me m g (stimulus.Arrive sender frame dice))
  arrival_lighter sender frame dice about good = go (same_name sender.name me.name)
    where
      nothing : TurnsLighter (body_load frame.body) (asker_of sender.name frame.body) m g (idle m g)
      nothing =
          let some : 1 ≤ body_load frame.body = some_load frame.body about good in
          record {
            views_stay = refl;
            lighter = record { quiet = λ none. omega arith; spreads = λ message is. (let no : None ≡ Some message = is in cc); members = refl };
            right = tt;
          }

      go : (b : Bool) → TurnsLighter (body_load frame.body) (asker_of sender.name frame.body) m g (cond b (idle m g) (heard m g sender.name frame.body dice))
      go true = nothing
      go false = heard_lighter sender.name frame.body dice about good

  -- a flush of what waits
  pub flush_turns : 1 ≤ length g.peers.queued → TurnsLighter 0 None m g (turned me m g stimulus.Flush)
  flush_turns some = record { views_stay = refl; lighter = flush_lighter g some; right = flush_right g whole None }

  -- a firing of an armed timer
  pub firing_turns : (id : MsgId) → has_id g.missing.timers id ≡ true → TurnsLighter 0 None m g (turned me m g (stimulus.Fire id))
  firing_turns id armed = record { views_stay = refl; lighter = firing_lighter g id armed; right = firing_right g whole id None }
