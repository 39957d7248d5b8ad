use Rattle.std.proofs.Common.{sym, ap, ◌∙◌, refl}
use Rattle.std.specs.Option.{option_copied_mut}
use Rattle.std.specs.HashMap.{HashMap}
use Rattle.amqp_engine.specs.Inner.Calls.{ReceivedDetachCalls}
use Rattle.amqp_engine.proofs.RoutedFrameLemmas.{unrouted, unknown, handed}
use Rattle.amqp_engine.proofs.RouteLemmas.{route_found, route_missing}
use Rattle.amqp_engine.proofs.SessionListLemmas.{viewed_some, viewed_none, seated_set}
use Rattle.amqp_frames.specs.declared.frame.FrameBody.TheVariants as body
use Rattle.amqp_engine.proofs.engine.Engine.on_detach.Goals as goal

pub returns-in_default : goal.returns-in_default
returns-in_default g c =
    unrouted g.R.LinkRelay.gives (ReceivedDetachCalls c.args.detach) c.args.self.now c.args.channel.0 (body.Detach c.args.detach) (λ refusal w reached calls h. h)
    _ c.self.view_is (route_missing _ _ c.session_tx_by_incoming_channel.ensures c.in_default.is)

pub returns-in_default-get_mut : goal.returns-in_default-get_mut
returns-in_default-get_mut g c =
    unknown g.R.LinkRelay.gives (ReceivedDetachCalls c.args.detach) c.args.self.now c.args.channel.0 (body.Detach c.args.detach) (λ refusal w reached calls h. h)
    _ _ _ _ c.in-Some.number.0 _ c.self.view_is (route_found _ _ c.in-Some.number c.session_tx_by_incoming_channel.ensures c.in-Some.is)
    (viewed_none c.in-Some.number.0 c.self.inside.sessions.entries (sym c.get_mut.ensures.value ∙ ap option_copied_mut c.in_default-get_mut.is))
    (ap (λ (m : HashMap _ _ _). m.entries) c.get_mut.follows.holds-at-none)

pub returns : goal.returns
returns g c =
    handed g.R.LinkRelay.gives (ReceivedDetachCalls c.args.detach) c.args.self.now c.args.channel.0 (body.Detach c.args.detach) (λ refusal w reached calls h. h)
    _ _ _ _ c.in-Some.number.0 _ c.detach_received.new.waiting _ c.in-Some-get_mut.session.now c.detach_received.new.session _
    c.self.view_is (route_found _ _ c.in-Some.number c.session_tx_by_incoming_channel.ensures c.in-Some.is)
    (viewed_some c.in-Some.number.0 c.self.inside.sessions.entries c.in-Some-get_mut.session.now (sym c.in-Some-get_mut.ensures.value))
    c.detach_received.ensures
    refl
    (c.get_mut.follows.holds c.detach_received.new.session)

pub invariant_of-self-2 : goal.invariant_of-self-2
invariant_of-self-2 g c = (seated_set c.self.inside.sessions.entries _ c.in-Some.number.0 c.detach_received.new.session c.self.inside.kept.places (c.get_mut.follows.holds c.detach_received.new.session) c.self.invariant.0, c.self.invariant.1)
