use Rattle.std.proofs.Common.{subst, sym}
use Rattle.amqp_types.specs.declared.performatives.Performative.TheVariants as its
use Rattle.amqp1.specs.Reading.{ReadsOne}
use Rattle.amqp1.proofs.ReadingLemmas.{Whole, begin_read, kind_none}
use Rattle.amqp1.proofs.reading.begin.Goals as goal

pub returns-in-Ok : goal.returns-in-Ok
returns-in-Ok c = subst (ReadsOne (λ x. Whole c.args.input.now (its.Begin x))) (sym c.as_begin.ensures)
    (begin_read c.args.input.now c.in-Ok.performative c.in-Ok.ensures)

pub returns-in-Err : goal.returns-in-Err
returns-in-Err c = kind_none (λ x. its.Begin x) c.args.input.now c.in-Err.error c.in-Err.ensures
