use Rattle.std.proofs.Common.{subst, sym}
use Rattle.amqp_types.specs.declared.performatives.Performative.TheVariants as its
use Rattle.amqp1.specs.Reading.{ReadsOne}
use Rattle.amqp1.proofs.ReadingLemmas.{Whole, transfer_read, kind_none}
use Rattle.amqp1.proofs.reading.transfer.Goals as goal

pub returns-in-Ok : goal.returns-in-Ok
returns-in-Ok c = subst (ReadsOne (λ x. Whole c.args.input.now (its.Transfer x))) (sym c.as_transfer.ensures)
    (transfer_read c.args.input.now c.in-Ok.performative c.in-Ok.ensures)

pub returns-in-Err : goal.returns-in-Err
returns-in-Err c = kind_none (λ x. its.Transfer x) c.args.input.now c.in-Err.error c.in-Err.ensures
