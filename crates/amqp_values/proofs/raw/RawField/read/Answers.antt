use Rattle.std.proofs.Common.{◌-◌, drop, arith}
use Rattle.amqp_values.proofs.WalkLemmas.{raw_inside}
use Rattle.amqp_values.proofs.raw.RawField.read.Goals as goal

pub invariant_of-result : goal.invariant_of-result
invariant_of-result c =
    rw (c.in_ok-bytes.ensures.ok)
    (raw_inside (c.args.place.now - 1) c.in_ok-end.field-0 c.args.text.now c.args.bytes.now (drop c.in_ok-end.field-0 (drop (c.args.place.now - 1) c.args.text.now)) c.requires.front (omega (arith, c.requires.inside))
    (rw (← c.split_at.ensures.back) c.in_ok-end.ensures.bound)
    (rw (← c.split_at.ensures.back) c.in_ok-end.ensures.value))
