use Rattle.frames.proofs.Streams.{fed}
use Rattle.frames.proofs.cutter.Cutter.feed.Goals as goal

pub invariant_of-self : goal.invariant_of-self
invariant_of-self g c = fed _ c.self.inside.fault c.self.inside.given c.self.inside.buffer.items _ _ c.extend_from_slice.ensures.items c.self.invariant
