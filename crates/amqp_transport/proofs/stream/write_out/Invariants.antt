use Rattle.std.proofs.Common.{length}
use Rattle.amqp_transport.proofs.WriteLemmas.{Written}
use Rattle.amqp_transport.proofs.stream.write_out.Given as goal

abbrev pub invariant-loop-out : goal.invariant-loop-out
invariant-loop-out g l = Written (g.O.Write.contents l.fn.output) (g.O.Write.contents l.output) l.fn.out.bytes l.out.bytes

abbrev pub decreases-loop-out : goal.decreases-loop-out
decreases-loop-out g l = length l.out.bytes
