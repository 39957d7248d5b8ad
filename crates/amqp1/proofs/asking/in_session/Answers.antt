use Rattle.std.proofs.Common.{sym}
use Rattle.amqp1.proofs.AskingLemmas.{in_session}
use Rattle.amqp1.proofs.asking.in_session.Goals as goal

pub returns-in-Some : goal.returns-in-Some
returns-in-Some g c = in_session c.args.operation c.args.input.now c.in-Some.session c.in-Some.rest.now c.of_session.result (sym c.in-Some.ensures) c.of_session.ensures
