use Rattle.std.proofs.Common.{◌∙◌, subst}
use Rattle.amqp_unsettled.specs.Inner.Order.{NonePasses}
use Rattle.amqp_unsettled.specs.Inner.Rows.{IsAt, numbered, there, used}
use Rattle.amqp_unsettled.proofs.TakeLemmas.{at_taken, none_taken}
use Rattle.amqp_unsettled.proofs.cells.Cells.take.Goals as goal

pub returns-in_err-at-clause-takes : goal.returns-in_err-at-clause-takes
returns-in_err-at-clause-takes g c =
    let p = numbered g.T.Numbered.number_of c.args.number in
    let none = subst (λ cs. NonePasses p (there cs)) c.in_use.ensures c.in_err-at.ensures in
    let r = none_taken p (there (used c.args.self.now)) none in
    (c.from_residual.ensures ∙ r.0, r.1)

pub returns-clause-takes : goal.returns-clause-takes
returns-clause-takes g c =
    let p = numbered g.T.Numbered.number_of c.args.number in
    let is = subst (λ cs. IsAt p cs c.in_ok-at.at) c.in_use.ensures c.in_ok-at.ensures in
    at_taken p (used c.args.self.now) c.in_ok-at.at is c.cut.result c.cut.ensures.item _ c.cut.ensures.left
