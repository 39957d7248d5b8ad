use Rattle.std.proofs.Common.{◌∙◌, arith}
use Rattle.amqp_engine.proofs.BufferRunLemmas.{sent_more}
use Rattle.amqp_engine.proofs.engine.Engine.send_out.Goals as goal

-- a frame more
pub loop-place-preserved : goal.loop-place-preserved
loop-place-preserved g c = (
  sent_more c.args.place c.args.self.now c.loop-place.self c.send_first.new.self c.args.out.now.bytes c.loop-place.out.bytes c.send_first.new.out.bytes c.args.refusals.now.items c.loop-place.refusals.items
      c.send_first.new.refusals.items c.loop-place.invariant.0 c.in-Ok.ensures.ok,
  omega (arith, c.loop-place.invariant.1, c.send_first.ensures.room),
  c.send_first.ensures.copied ∙ c.loop-place.invariant.2,
  omega (arith, c.loop-place.invariant.3, c.send_first.ensures.places),
)
