use Rattle.amqp_transport.proofs.WriteLemmas.{written_more}
use Rattle.amqp_transport.proofs.stream.write_out.Goals as goal

-- a chunk more
pub loop-out-preserved : goal.loop-out-preserved
loop-out-preserved g c =
    let e = c.in_ok-write_chunk.ensures.chunk in
    written_more (g.O.Write.contents c.args.output.now) (g.O.Write.contents c.loop-out.output) (g.O.Write.contents c.write_chunk.new.output) c.args.out.now.bytes c.loop-out.out.bytes c.write_chunk.new.out.bytes e.0
    c.loop-out.invariant e.2 e.3
