use Rattle.std.proofs.Common.{◌++◌}
use Rattle.amqp_driver.specs.Answering.{begin_entries}
use Rattle.amqp_driver.proofs.AnswerLawLemmas.{begins_go_on}
use Rattle.amqp_driver.proofs.laws.law_of_begins.Goals as goal

pub returns : goal.returns
returns g c = λ d e frame number settings a x s o H l.
    let y = begins_go_on g.R.LinkRelay.gives d e frame number settings a x s o H l in
    (y, c.law_of_histories.ensures s o (H ++ begin_entries g.R.LinkRelay.gives d frame number settings a e x) e.engine y)
