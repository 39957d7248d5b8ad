use Rattle.std.proofs.Common.{IsSome, ap, subst, ◌∙◌}
use Rattle.amqp_engine.proofs.KindFieldsLemmas.{end_fields}
use Rattle.amqp_engine.proofs.ReceivedFieldsLemmas.{unread_kept, was_kept, not_copied}
use Rattle.amqp_engine.proofs.engine.Engine.receive_end.Goals as goal

pub returns-in_err-end : goal.returns-in_err-end
returns-in_err-end g c =
    unread_kept g.R.LinkRelay.gives end_fields c.args.self.now c.args.channel.0 c.args.fields c.read_list.new.bytes c.in_err-end.field-0.0
    c.from_residual.result c.in_err-end.ensures c.from_residual.ensures.1

pub returns-in_default : goal.returns-in_default
returns-in_default g c =
    not_copied g.R.LinkRelay.gives end_fields c.args.self.now c.args.channel.0 c.args.fields c.read_list.new.bytes c.in_ok-end.end
    c.in_ok-end.ensures (subst IsSome (ap (λ x. x.error) c.end.view_is) c.in_default.ensures.named) c.in_default.ensures.refused

pub returns : goal.returns
returns g c =
    was_kept g.R.LinkRelay.gives end_fields c.args.self.now c.on_end.new.self c.args.channel.0 c.args.fields c.read_list.new.bytes c.in_ok-end.end _ c.in_ok-end.ensures c.on_end.ensures

pub on_end-requires : goal.on_end-requires
on_end-requires g c = record { idle = c.requires; copied = c.in-Ok.ensures.same ∙ ap (λ x. x.error) c.end.view_is }
