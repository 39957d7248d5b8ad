use Rattle.std.proofs.Common.{refl, subst}
use Rattle.amqp_types.specs.Disposition.{DispositionModel}
use Rattle.amqp_engine.specs.declared.engine.input.Input.TheVariants as input
use Rattle.amqp_driver.specs.declared.asked.Asked.TheVariants as asked
use Rattle.amqp_driver.specs.StreamTicking.{AsksStream}
use Rattle.amqp_driver.specs.Record.{number_or}
use Rattle.amqp_endpoints.specs.Endpoint.{EndpointView}
use Rattle.amqp_endpoints.specs.Settling.{LetsGo}
use Rattle.amqp_endpoints.proofs.SettlingLemmas.{ends_there}
use Rattle.amqp_endpoints.proofs.endpoint.SessionEndpoint.settle_by.Goals as goal

pub returns-in-Done : goal.returns-in-Done
returns-in-Done g c = record {
  disposed = asked.Done;
  between = c.request.new.self;
  disposes = subst
      (λ (x : EndpointView). AsksStream g.R.LinkRelay.gives c.args.stream.now (input.Disposition x.session c.args.disposition) asked.Done c.request.new.self)
      c.self.view_is
      (subst (λ a. AsksStream g.R.LinkRelay.gives c.args.stream.now (input.Disposition c.self.inside.session c.args.disposition) a c.request.new.self)
      c.in-Done.is c.request.ensures);
  then = (
    c.let_go_if.result,
    refl,
    subst
        (λ n. LetsGo c.args.disposition.settled g.R.LinkRelay.gives c.args.self.now c.request.new.self c.args.disposition.role c.args.disposition.first n
        c.let_go_if.result c.let_go_if.new.stream) c.last_of-last.ensures
        (subst
        (λ (d : DispositionModel). LetsGo d.settled g.R.LinkRelay.gives c.args.self.now c.request.new.self d.role d.first c.last_of-last.result
        c.let_go_if.result c.let_go_if.new.stream) c.disposition.view_is c.let_go_if.ensures),
  );
}

pub returns-in_default : goal.returns-in_default
returns-in_default g c = record {
  disposed = c.request.result;
  between = c.request.new.self;
  disposes = subst
      (λ (x : EndpointView). AsksStream g.R.LinkRelay.gives c.args.stream.now (input.Disposition x.session c.args.disposition) c.request.result c.request.new.self)
      c.self.view_is c.request.ensures;
  then = ends_there g.R.LinkRelay.gives c.args.self.now c.request.new.self c.args.disposition.role c.args.disposition.first
      (number_or c.args.disposition.first c.args.disposition.last) c.args.disposition.settled c.request.result c.in_default.not-Done;
}
