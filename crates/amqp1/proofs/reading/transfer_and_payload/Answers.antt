use Rattle.std.proofs.Common.{subst, sym, arith}
use Rattle.std.proofs.lemmas.Bool.Decides.{nat_tests}
use Rattle.std.proofs.lemmas.Grind.{common_steps}
use Rattle.amqp1.specs.Reading.{Reads, HasTransfer}
use Rattle.amqp1.proofs.ReadingLemmas.{payload_read, other_length, no_payload_read}
use Rattle.amqp1.proofs.reading.transfer_and_payload.Goals as goal

pub returns-then-not-has_length : goal.returns-then-not-has_length
returns-then-not-has_length c = other_length c.args.count c.args.input.now c.in-Ok.performative c.in-Ok.payload c.in-Ok.ensures
    (λ e. let t = c.if-not-has_length.true in let s = c.has_length.ensures in grind (arith, nat_tests, common_steps))

pub returns-else-not-has_length : goal.returns-else-not-has_length
returns-else-not-has_length c = subst (Reads (HasTransfer c.args.count c.args.input.now)) (sym c.with_payload.ensures)
    (payload_read c.args.count c.args.input.now c.in-Ok.performative c.in-Ok.payload c.in-Ok.ensures
    (let t = c.if-not-has_length.false in let s = c.has_length.ensures in grind (arith, nat_tests, common_steps)))

pub returns-in-Err : goal.returns-in-Err
returns-in-Err c = no_payload_read c.args.count c.args.input.now c.in-Err.error c.in-Err.ensures
