use Rattle.std.proofs.Common.{sym}
use Rattle.amqp_types.specs.Performatives.{IsPerformative}
use Rattle.amqp_types.specs.declared.performatives.Performative.TheVariants as its
use Rattle.amqp1.specs.Asking.{AsksDetach}
use Rattle.amqp1.proofs.AskingLemmas.{detach_after, none_asked}
use Rattle.amqp1.proofs.asking.detach.Goals as goal

pub returns-in-Err : goal.returns-in-Err
returns-in-Err g c = none_asked (λ x. IsPerformative (its.Detach x) c.in-Some.rest.now) (AsksDetach c.args.session c.args.input.now) c.in-Err.error
    (detach_after c.args.session c.args.input.now c.in-Some.flag c.in-Some.rest.now (sym c.in-Some.ensures)) c.in-Err.ensures
