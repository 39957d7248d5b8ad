use Rattle.std.proofs.Common.{ap, sym, subst, ◌∙◌}
use Rattle.amqp_engine.specs.EngineView.{EngineView}
use Rattle.amqp_driver.specs.Answering.{BeginsOwn}
use Rattle.amqp_driver.specs.Driver.{DriverView}
use Rattle.amqp_driver.proofs.AnsweringLemmas.{begins_own, kept_by, out_by}
use Rattle.amqp_driver.proofs.driver.Driver.begin_own.Goals as goal

pub returns : goal.returns
returns g c =
    let b : BeginsOwn g.R.LinkRelay.gives c.self.inside.engine c.args.number c.args.settings c.channel_of-channel.result c.step.new.self =
    begins_own g.R.LinkRelay.gives c.self.inside.engine c.step.new.self c.args.number c.args.settings c.channel_of-channel.result c.in_default.ensures
    c.channel_of-channel.ensures in (
      c.step.new.self,
      subst (λ (v : EngineView _). BeginsOwn g.R.LinkRelay.gives v c.args.number c.args.settings c.channel_of-channel.result c.step.new.self)
          (ap (λ (m : DriverView _). m.engine) c.self.view_is) b,
      (
        out_by (λ v. v.items) c.step.new.self c.next_output.new.self _ c.next_output.result b.handed_out c.next_output.ensures.next
            (sym c.is_out.ensures ∙ c.if-not-is_out.false),
        c.next_output.ensures.legal,
      ),
      ap (λ (m : DriverView _). m.to_send) c.self.view_is,
      ap (λ (m : DriverView _). m.unfit) c.self.view_is,
    )

pub returns-then-not-is_out : goal.returns-then-not-is_out
returns-then-not-is_out g c =
    let b : BeginsOwn g.R.LinkRelay.gives c.self.inside.engine c.args.number c.args.settings c.channel_of-channel.result c.step.new.self =
    begins_own g.R.LinkRelay.gives c.self.inside.engine c.step.new.self c.args.number c.args.settings c.channel_of-channel.result c.in_default.ensures
    c.channel_of-channel.ensures in
    let k = kept_by (λ v. v.items) c.step.new.self c.next_output.new.self c.next_output.result c.next_output.ensures.next
    (sym c.is_out.ensures ∙ c.if-not-is_out.true) in (
      c.channel_of-channel.result,
      subst (λ (w : EngineView _). BeginsOwn g.R.LinkRelay.gives c.args.self.now.engine c.args.number c.args.settings c.channel_of-channel.result w) (sym k.0)
          (subst (λ (v : EngineView _). BeginsOwn g.R.LinkRelay.gives v c.args.number c.args.settings c.channel_of-channel.result c.step.new.self)
          (ap (λ (m : DriverView _). m.engine) c.self.view_is) b),
      ap (λ (m : DriverView _). m.to_send) c.self.view_is,
      ap (λ (m : DriverView _). m.unfit) c.self.view_is,
      k.1,
    )
