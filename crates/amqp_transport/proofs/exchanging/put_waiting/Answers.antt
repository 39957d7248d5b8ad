use Rattle.amqp_transport.proofs.ExchangeLemmas.{none_sent, more_sent, fewer}
use Rattle.amqp_transport.proofs.exchanging.put_waiting.Goals as goal

pub loop-stream-init : goal.loop-stream-init
loop-stream-init g c = none_sent (g.O.Write.contents c.args.output.now) c.args.stream.now

pub loop-stream-preserved : goal.loop-stream-preserved
loop-stream-preserved g c =
    more_sent (g.O.Write.contents c.args.output.now) (g.O.Write.contents c.loop-stream.output) (g.O.Write.contents c.put_front.new.output) c.args.stream.now c.loop-stream.stream
    c.put_front.new.stream c.out.ensures.beat c.loop-stream.invariant c.in_ok-put_front.ensures.front

pub loop-stream-smaller : goal.loop-stream-smaller
loop-stream-smaller g c =
    fewer (g.O.Write.contents c.loop-stream.output) (g.O.Write.contents c.put_front.new.output) c.loop-stream.stream c.put_front.new.stream c.out.ensures.beat
    c.in_ok-put_front.ensures.front
