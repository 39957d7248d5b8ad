use Rattle.std.proofs.Common.{take}
use Rattle.std.proofs.lemmas.List.{take_more}
use Rattle.amqp_sasl.proofs.PlainLemmas.{no_nul_more}
use Rattle.amqp_sasl.proofs.plain.nul_at.Goals as goal

pub loop-place-preserved : goal.loop-place-preserved
loop-place-preserved c =
    rw (take_more c.args.bytes.now c.loop-place.place 0 c.loop-place-test.true) (no_nul_more (take c.loop-place.place c.args.bytes.now) _ c.loop-place.invariant c.if-byte-eq0.false)
