use Rattle.std.proofs.Common.{◌++◌}
use Rattle.amqp_driver.specs.Ending.{end_entries}
use Rattle.amqp_driver.proofs.AnswerLawLemmas.{ends_go_on}
use Rattle.amqp_driver.proofs.laws.law_of_answered_ends.Goals as goal

pub returns : goal.returns
returns g c = λ d e n error a x s o H l.
    let y = ends_go_on g.R.LinkRelay.gives d e n error a x s o H l in
    (y, c.law_of_histories.ensures s o (H ++ end_entries g.R.LinkRelay.gives d n error a e x) e.engine y)
