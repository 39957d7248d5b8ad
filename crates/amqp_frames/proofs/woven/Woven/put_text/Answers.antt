use Rattle.amqp_frames.specs.Frame.{text_of}
use Rattle.amqp_frames.proofs.SharedPartLemmas.{put}
use Rattle.amqp_frames.proofs.woven.Woven.put_text.Goals as goal

pub returns-clause-waits : goal.returns-clause-waits
returns-clause-waits c =
    rw (← c.self.view_is) (put c.self.inside.shared.items c.self.inside.buffer.items (text_of c.args.body.now) c.put_text.new.out.items c.self.inside.placed c.self.invariant c.put_text.ensures.items)
