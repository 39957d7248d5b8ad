use Rattle.std.proofs.Common.{subst, sym}
use Rattle.amqp1.specs.Reading.{ReadsOne}
use Rattle.amqp1.proofs.ReadingLemmas.{Whole, whole_read, none_read}
use Rattle.amqp1.proofs.reading.performative.Goals as goal

pub returns-in-Ok : goal.returns-in-Ok
returns-in-Ok c = subst (ReadsOne (Whole c.args.input.now)) (sym c.whole.ensures)
    (whole_read c.args.input.now c.in-Ok.performative c.in-Ok.rest c.in-Ok.ensures)

pub returns-in-Err : goal.returns-in-Err
returns-in-Err c = none_read c.args.input.now c.in-Err.error c.in-Err.ensures
