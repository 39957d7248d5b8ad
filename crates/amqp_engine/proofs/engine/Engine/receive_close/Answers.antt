use Rattle.std.proofs.Common.{IsSome, ap, subst, ◌∙◌}
use Rattle.amqp_engine.proofs.KindFieldsLemmas.{close_fields}
use Rattle.amqp_engine.proofs.ReceivedFieldsLemmas.{unread_kept, was_kept, not_copied}
use Rattle.amqp_engine.proofs.engine.Engine.receive_close.Goals as goal

pub returns-in_err-close : goal.returns-in_err-close
returns-in_err-close g c =
    unread_kept g.R.LinkRelay.gives close_fields c.args.self.now c.args.channel.0 c.args.fields c.read_list.new.bytes c.in_err-close.field-0.0
    c.from_residual.result c.in_err-close.ensures c.from_residual.ensures.1

pub returns-in_default : goal.returns-in_default
returns-in_default g c =
    not_copied g.R.LinkRelay.gives close_fields c.args.self.now c.args.channel.0 c.args.fields c.read_list.new.bytes c.in_ok-close.close
    c.in_ok-close.ensures (subst IsSome (ap (λ x. x.error) c.close.view_is) c.in_default.ensures.named) c.in_default.ensures.refused

pub returns : goal.returns
returns g c =
    was_kept g.R.LinkRelay.gives close_fields c.args.self.now c.on_close.new.self c.args.channel.0 c.args.fields c.read_list.new.bytes c.in_ok-close.close _ c.in_ok-close.ensures c.on_close.ensures

pub on_close-requires : goal.on_close-requires
on_close-requires g c = record { idle = c.requires; copied = c.in-Ok.ensures.same ∙ ap (λ x. x.error) c.close.view_is }
