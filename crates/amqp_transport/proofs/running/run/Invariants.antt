use Rattle.amqp_transport.specs.Running.{work}
use Rattle.amqp_transport.proofs.RunLemmas.{SoFar}
use Rattle.amqp_transport.proofs.running.run.Given as goal

abbrev pub invariant-loop : goal.invariant-loop
invariant-loop g l = record {
  so_far : SoFar g.R.LinkRelay.gives (work l.fn.engine l.fn.inputs.items l.fn.out.bytes l.fn.refusals.items (g.O.Write.contents l.fn.output))
      (work l.engine l.inputs.items l.out.bytes l.refusals.items (g.O.Write.contents l.output));
}
