use Rattle.std.proofs.Common.{◌++◌}
use Rattle.amqp_driver.proofs.StreamLegalLemmas.{each_stays_legal}
use Rattle.amqp_driver.proofs.laws.law_of_streams.Goals as goal

pub returns : goal.returns
returns g c = λ v w cs chain s o H l.
    let y = each_stays_legal g.R.LinkRelay.gives v cs w chain s o H l in
    (y.0, y.1, c.law_of_histories.ensures s o (H ++ y.0) w.driver.engine y.1)
