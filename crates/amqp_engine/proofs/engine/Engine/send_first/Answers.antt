use Rattle.std.proofs.Common.{refl}
use Rattle.amqp_engine.proofs.BufferRunLemmas.{sends_first, sends_back}
use Rattle.amqp_engine.proofs.engine.Engine.send_first.Goals as goal

pub returns-in-Ok-clause-ok : goal.returns-in-Ok-clause-ok
returns-in-Ok-clause-ok g c =
    let e = rw (← c.self.view_is) at c.in-Ok.ensures.sent in
    rw (← c.self.view_is) (sends_first c.args.refusals.now c.args.place _ _ c.args.out.now.bytes c.encode_first_to.new.out.bytes c.args.refusals.now.items _ c.in-Ok.field-0 e.0 e.1 e.2 c.discard.ensures refl c.more_in_vector.ensures.items)

pub returns-in-Err-TooLarge-clause-ok : goal.returns-in-Err-TooLarge-clause-ok
returns-in-Err-TooLarge-clause-ok g c =
    sends_back c.args.place c.args.self.now c.refuse_first.new.self c.args.out.now.bytes c.encode_first_to.new.out.bytes c.args.refusals.now.items c.more_in_vector.new.vector.items c.refuse_first.new.refusals.items
    c.refuse_first.ensures.back c.in-Err-TooLarge.ensures.sent.2.1 c.more_in_vector.ensures.items
