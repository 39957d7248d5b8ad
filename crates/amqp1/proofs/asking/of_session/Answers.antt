use Rattle.std.proofs.Common.{subst, sym}
use Rattle.amqp1.specs.Asking.{AsksOfSession}
use Rattle.amqp1.specs.Reading.{Reads}
use Rattle.amqp1.proofs.asking.of_session.Goals as goal

pub returns-in-Begin : goal.returns-in-Begin
returns-in-Begin g c = subst (λ o. Reads (AsksOfSession o c.args.session c.args.rest.now) c.begin.result) (sym c.in-Begin.is) c.begin.ensures

pub returns-in-End : goal.returns-in-End
returns-in-End g c = subst (λ o. Reads (AsksOfSession o c.args.session c.args.rest.now) c.end.result) (sym c.in-End.is) c.end.ensures

pub returns-in-Attach : goal.returns-in-Attach
returns-in-Attach g c = subst (λ o. Reads (AsksOfSession o c.args.session c.args.rest.now) c.attach.result) (sym c.in-Attach.is) c.attach.ensures

pub returns-in-Flow : goal.returns-in-Flow
returns-in-Flow g c = subst (λ o. Reads (AsksOfSession o c.args.session c.args.rest.now) c.flow.result) (sym c.in-Flow.is) c.flow.ensures

pub returns-in-Disposition : goal.returns-in-Disposition
returns-in-Disposition g c = subst (λ o. Reads (AsksOfSession o c.args.session c.args.rest.now) c.disposition.result) (sym c.in-Disposition.is) c.disposition.ensures
