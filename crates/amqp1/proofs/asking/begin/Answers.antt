use Rattle.amqp_types.specs.Performatives.{IsPerformative}
use Rattle.amqp_types.specs.declared.performatives.Performative.TheVariants as its
use Rattle.amqp1.specs.Asking.{AsksBegin}
use Rattle.amqp1.proofs.AskingLemmas.{begun, none_asked}
use Rattle.amqp1.proofs.asking.begin.Goals as goal

pub returns-in-Ok : goal.returns-in-Ok
returns-in-Ok g c = begun c.args.session c.args.input.now c.in-Ok.begin c.begun.result c.in-Ok.ensures c.begun.ensures

pub returns-in-Err : goal.returns-in-Err
returns-in-Err g c = none_asked (λ x. IsPerformative (its.Begin x) c.args.input.now) (AsksBegin c.args.session c.args.input.now) c.in-Err.error
    (λ i a. (a.0, a.1)) c.in-Err.ensures
