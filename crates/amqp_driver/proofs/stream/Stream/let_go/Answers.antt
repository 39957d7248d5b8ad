use Rattle.std.proofs.Common.{subst}
use Rattle.amqp_driver.specs.Ending.{IsEnded, session_in}
use Rattle.amqp_driver.specs.Stream.{StreamView}
use Rattle.amqp_driver.proofs.WantedLemmas.{stream_lets_go}
use Rattle.amqp_driver.proofs.stream.Stream.let_go.Goals as goal

pub returns-in-Done : goal.returns-in-Done
returns-in-Done g c = stream_lets_go g.R.LinkRelay.gives c.args.self.now c.request.new.self c.forget.new.self c.args.session c.forget.result
    (subst (λ (x : StreamView _). IsEnded (session_in x.driver c.args.session)) c.self.view_is (c.is_ended.ensures.0 c.if-not-is_ended.false))
    c.in-Done.ensures c.forget.ensures
