use Rattle.std.proofs.Common.{ap, ◌∙◌}
use Rattle.amqp_driver.specs.Driver.{DriverView}
use Rattle.amqp_driver.proofs.AnsweringLemmas.{lost, not_begun, offered}
use Rattle.amqp_driver.proofs.driver.Driver.offer.Goals as goal

pub returns-then-put_begin : goal.returns-then-put_begin
returns-then-put_begin g c = offered g.R.LinkRelay.gives c.args.self.now c.flush.new.self c.begin_own.new.self c.put_begin.new.self c.args.remote c.args.number
    c.args.settings c.in-Ok-flush.ensures.sent c.in-Ok-flush.ensures.all c.in-Ok-begin_own.channel c.max_piece_len-limit.result c.in-Ok.answer
    c.in-Ok-begin_own.ensures c.if-put_begin.ensures (c.max_piece_len-limit.ensures.value ∙ ap (λ (m : DriverView _). m.engine.limit) c.self.view_is)
    c.in-Ok.ensures.begin

pub returns-else-put_begin : goal.returns-else-put_begin
returns-else-put_begin g c = lost g.R.LinkRelay.gives c.args.self.now c.flush.new.self c.begin_own.new.self c.put_begin.new.self c.args.remote c.args.number
    c.args.settings c.in-Ok-flush.ensures.sent c.in-Ok-flush.ensures.all c.in-Ok-begin_own.channel c.max_piece_len-limit.result c.in-Ok.answer
    c.in-Ok-begin_own.ensures c.if-put_begin.ensures

pub returns-in-Err : goal.returns-in-Err
returns-in-Err g c = not_begun g.R.LinkRelay.gives c.args.self.now c.flush.new.self c.begin_own.new.self c.args.remote c.args.number c.args.settings c.in-Err.why
    c.in-Ok-flush.ensures.sent c.in-Ok-flush.ensures.all c.in-Err.ensures
