use Rattle.amqp_types.specs.Performatives.{IsPerformative}
use Rattle.amqp_types.specs.declared.performatives.Performative.TheVariants as its
use Rattle.amqp1.specs.Asking.{AsksDisposition}
use Rattle.amqp1.proofs.AskingLemmas.{none_asked}
use Rattle.amqp1.proofs.asking.disposition.Goals as goal

pub returns-in-Err : goal.returns-in-Err
returns-in-Err g c = none_asked (λ x. IsPerformative (its.Disposition x) c.args.input.now) (AsksDisposition c.args.session c.args.input.now) c.in-Err.error
    (λ i a. (a.0, a.1)) c.in-Err.ensures
