use Rattle.std.proofs.Common.{subst, sym}
use Rattle.amqp1.specs.Asking.{Asks}
use Rattle.amqp1.specs.Reading.{Reads}
use Rattle.amqp1.proofs.AskingLemmas.{plain_or_session}
use Rattle.amqp1.proofs.asking.asked.Goals as goal

pub returns-in-Close : goal.returns-in-Close
returns-in-Close g c = subst (λ o. Reads (Asks o c.args.input.now) c.close.result) (sym c.in-Close.is) c.close.ensures

pub returns-in-Release : goal.returns-in-Release
returns-in-Release g c = subst (λ o. Reads (Asks o c.args.input.now) c.release.result) (sym c.in-Release.is) c.release.ensures

pub returns-in-Forget : goal.returns-in-Forget
returns-in-Forget g c = subst (λ o. Reads (Asks o c.args.input.now) c.forget.result) (sym c.in-Forget.is) c.forget.ensures

pub returns-in_default : goal.returns-in_default
returns-in_default g c = plain_or_session c.args.operation c.args.input.now c.in_session.result c.in_default.not-Open c.in_default.not-Close
    c.in_default.not-Release c.in_default.not-Forget c.in_default.not-Settle c.in_session.ensures
