use Rattle.std.proofs.Common.{refl}
use Rattle.amqp_driver.proofs.StreamTakingLemmas.{closes_alone}
use Rattle.amqp_driver.proofs.stream.Stream.close_silent.Goals as goal

pub returns : goal.returns
returns g c = closes_alone g.R.LinkRelay.gives _ c.args.self.now _ _ c.close_for.new.driver c.self.view_is c.close_for.ensures refl
