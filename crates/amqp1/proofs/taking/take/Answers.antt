use Rattle.amqp_driver.specs.Stream.{waiting}
use Rattle.amqp1.proofs.TakingLemmas.{sent_more, taken_more}
use Rattle.amqp1.proofs.taking.take.Goals as goal

pub loop-at-preserved : goal.loop-at-preserved
loop-at-preserved g c = (
  taken_more (waiting c.args.stream.now) c.args.output.now c.loop-at.at c.take_chunk-at.result (waiting c.loop-at.stream) c.loop-at.output
      (waiting c.take_chunk-at.new.stream) c.take_chunk-at.new.output c.loop-at.invariant.0 c.take_chunk-at.ensures.taken,
  sent_more c.args.stream.now c.loop-at.stream c.take_chunk-at.new.stream _ _ c.loop-at.invariant.1 c.take_chunk-at.ensures.rest,
)
