use Rattle.std.proofs.Common.{ap, subst, sym, ◌∙◌}
use Rattle.amqp_driver.specs.declared.plain.PlainRelay.{PlainRelay}
use Rattle.amqp_driver.specs.Stream.{StreamView, having_sent, waiting}
use Rattle.amqp1.specs.Client.{OutputStatus}
use Rattle.amqp1.specs.ClientView.{ClientView}
use Rattle.amqp1.specs.Taking.{TakesOff}
use Rattle.amqp1.proofs.RequestLemmas.{output_ends}
use Rattle.amqp1.proofs.client.Client.output.Goals as goal

pub returns : goal.returns
returns c = rw (← c.self.view_is) (record {
  between = c.flush.new.self.driver;
  put_out = c.flush.ensures.sent;
  ends = subst (λ s. OutputStatus s c.flush.new.self.driver.engine.waiting) (sym c.flushed_status-status.ensures)
      (output_ends c.flush.result c.flush.new.self.driver.engine.waiting c.flush.ensures.all c.flush.ensures.refused c.flush.ensures.left);
  taken = subst (λ (v : StreamView PlainRelay). TakesOff (waiting v) c.args.output.now c.take-written.result (waiting c.take-written.new.stream) c.take-written.new.output)
      c.flush.ensures.rest c.take-written.ensures.taken;
  rest_is = ap (λ (v : StreamView PlainRelay). let w : ClientView = record { stream = v; last = c.self.inside.last } in w)
      (c.take-written.ensures.rest ∙ ap (λ (v : StreamView PlainRelay). having_sent c.take-written.result v) c.flush.ensures.rest);
})
