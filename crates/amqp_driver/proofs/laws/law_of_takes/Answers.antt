use Rattle.std.proofs.Common.{◌++◌}
use Rattle.amqp_driver.specs.Laws.{entries_of}
use Rattle.amqp_driver.proofs.LawLemmas.{each_goes_on, rest_stays}
use Rattle.amqp_driver.proofs.laws.law_of_takes.Goals as goal

pub returns : goal.returns
returns g c = λ limit d k e answered r x s o H l.
    let y = rest_stays g.R.LinkRelay.gives k e x s o (H ++ entries_of answered) (each_goes_on g.R.LinkRelay.gives limit d k answered r s o H l) in
    (y, c.law_of_histories.ensures s o (H ++ entries_of answered) e.engine y)
