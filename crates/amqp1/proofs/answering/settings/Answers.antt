use Rattle.amqp_types.specs.Performatives.{IsPerformative}
use Rattle.amqp_types.specs.declared.performatives.Performative.TheVariants as its
use Rattle.amqp1.specs.Answering.{NamesSettings}
use Rattle.amqp1.proofs.AnsweringLemmas.{named}
use Rattle.amqp1.proofs.AskingLemmas.{none_asked}
use Rattle.amqp1.proofs.answering.settings.Goals as goal

pub returns-in-Ok : goal.returns-in-Ok
returns-in-Ok c = named c.args.text.now c.in-Ok.begin c.of_none.result c.in-Ok.ensures c.of_none.ensures

pub returns-in-Err : goal.returns-in-Err
returns-in-Err c = none_asked (λ x. IsPerformative (its.Begin x) c.args.text.now) (NamesSettings c.args.text.now) c.in-Err.error
    (λ settings a. (a.0, a.1)) c.in-Err.ensures
