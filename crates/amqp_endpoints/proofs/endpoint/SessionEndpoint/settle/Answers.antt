use Rattle.std.proofs.Common.{Some, None, refl, subst}
use Rattle.amqp_driver.specs.declared.asked.Asked.TheVariants as asked
use Rattle.amqp_driver.specs.Settling.{state_of}
use Rattle.amqp_driver.specs.StreamTicking.{DisposesStream}
use Rattle.amqp_endpoints.specs.Endpoint.{EndpointView}
use Rattle.amqp_endpoints.proofs.SettlingLemmas.{ends_there}
use Rattle.amqp_endpoints.proofs.endpoint.SessionEndpoint.settle.Goals as goal

pub returns-in_err-asked : goal.returns-in_err-asked
returns-in_err-asked g c = record {
  disposed = None;
  between = c.dispose.new.self;
  disposes = subst
      (λ (x : EndpointView). DisposesStream g.R.LinkRelay.gives c.args.stream.now x.session.0 c.args.role c.args.first c.args.last c.args.settled
      (state_of c.args.outcome) None c.dispose.new.self)
      c.self.view_is c.in_err-asked.ensures;
  then = (c.from_residual.ensures, refl);
}

pub returns-in-Done : goal.returns-in-Done
returns-in-Done g c = record {
  disposed = Some asked.Done;
  between = c.dispose.new.self;
  disposes = subst
      (λ (x : EndpointView). DisposesStream g.R.LinkRelay.gives c.args.stream.now x.session.0 c.args.role c.args.first c.args.last c.args.settled
      (state_of c.args.outcome) (Some asked.Done) c.dispose.new.self)
      c.self.view_is
      (subst
      (λ a. DisposesStream g.R.LinkRelay.gives c.args.stream.now c.self.inside.session.0 c.args.role c.args.first c.args.last c.args.settled
      (state_of c.args.outcome) (Some a) c.dispose.new.self)
      c.in-Done.is c.in_ok-asked.ensures);
  then = (c.let_go_if.result, refl, c.let_go_if.ensures);
}

pub returns-in_default : goal.returns-in_default
returns-in_default g c = record {
  disposed = Some c.in_ok-asked.asked;
  between = c.dispose.new.self;
  disposes = subst
      (λ (x : EndpointView). DisposesStream g.R.LinkRelay.gives c.args.stream.now x.session.0 c.args.role c.args.first c.args.last c.args.settled
      (state_of c.args.outcome) (Some c.in_ok-asked.asked) c.dispose.new.self)
      c.self.view_is c.in_ok-asked.ensures;
  then = ends_there g.R.LinkRelay.gives c.args.self.now c.dispose.new.self c.args.role c.args.first c.args.last c.args.settled c.in_ok-asked.asked
      c.in_default.not-Done;
}
