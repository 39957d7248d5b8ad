use Rattle.amqp_session.specs.Disposing.{is_forward, span}
use Rattle.amqp_session.proofs.BackwardRangeLemmas.{is_backward, settles_none}
use Rattle.amqp_session.proofs.session.Session.settle.Goals as goal

pub returns-in_default-clause-step : goal.returns-in_default-clause-step
returns-in_default-clause-step g c =
    let back = is_backward (is_forward c.args.first c.args.last) (record { first = c.args.first; span = span c.args.first c.args.last }) c.forward.result c.forward.ensures (search) in
    settles_none c.args.self.now.view c.args.role c.args.first c.args.last back
