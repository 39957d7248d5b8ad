use Rattle.std.proofs.Common.{sym}
use Rattle.amqp_types.specs.Performatives.{IsPerformative}
use Rattle.amqp_types.specs.declared.performatives.Performative.TheVariants as its
use Rattle.amqp1.specs.Asking.{AsksFlow}
use Rattle.amqp1.proofs.AskingLemmas.{no_flow, none_asked}
use Rattle.amqp1.proofs.asking.flow.Goals as goal

pub returns-in-Err-try_from : goal.returns-in-Err-try_from
returns-in-Err-try_from g c = no_flow c.args.session c.args.input.now c.in-Ok.flow c.in-Ok.ensures (sym c.in-Err-try_from.ensures)

pub returns-in-Err : goal.returns-in-Err
returns-in-Err g c = none_asked (λ x. IsPerformative (its.Flow x) c.args.input.now) (AsksFlow c.args.session c.args.input.now) c.in-Err.error
    (λ i a. (a.0, a.2)) c.in-Err.ensures
