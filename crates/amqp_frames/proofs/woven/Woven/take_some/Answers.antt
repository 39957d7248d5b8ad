use Rattle.amqp_frames.proofs.SharedPartLemmas.{before_taken}
use Rattle.amqp_frames.proofs.woven.Woven.take_some.Goals as goal

pub returns-clause-taken : goal.returns-clause-taken
returns-clause-taken c =
    rw (← c.self.view_is) (before_taken c.args.most c.take_before-count.result c.take_bytes-2.result c.self.inside.placed c.self.inside.shared.items c.take_before-count.new.shared.items
    c.self.inside.buffer.items c.take_bytes-2.new.buffer.items c.take_before-count.ensures c.self.invariant c.take_bytes-2.ensures.count c.take_bytes-2.ensures.rest)
