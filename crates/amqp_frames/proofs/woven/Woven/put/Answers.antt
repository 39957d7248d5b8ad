use Rattle.amqp_frames.proofs.SharedPartLemmas.{put}
use Rattle.amqp_frames.proofs.woven.Woven.put.Goals as goal

pub returns-clause-waits : goal.returns-clause-waits
returns-clause-waits c =
    rw (← c.self.view_is) (put c.self.inside.shared.items c.self.inside.buffer.items c.args.bytes.now c.extend_reserved.new.self.items c.self.inside.placed c.self.invariant c.extend_reserved.ensures.items)
