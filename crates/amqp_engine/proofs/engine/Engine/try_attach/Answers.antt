use Rattle.std.proofs.Common.{nat_eq, refl, sym, ap, ◌∙◌}
use Rattle.std.proofs.lemmas.Map.Steps.{set_value_same}
use Rattle.std.specs.Map.{set_value}
use Rattle.amqp_engine.proofs.FrameRunLemmas.{where_none}
use Rattle.amqp_engine.proofs.SameEngineLemmas.{same_engine}
use Rattle.std.specs.Option.{option_copied_mut}
use Rattle.std.specs.HashMap.{HashMap}
use Rattle.amqp_engine.specs.EngineView.{EngineView}
use Rattle.amqp_engine.specs.Inner.Calls.{ReceivedAttachCalls}
use Rattle.amqp_engine.proofs.RoutedFrameLemmas.{unrouted, unknown, handed}
use Rattle.amqp_engine.proofs.RouteLemmas.{route_found, route_missing}
use Rattle.amqp_engine.proofs.SessionListLemmas.{viewed_some, viewed_none, seated_set}
use Rattle.amqp_frames.specs.declared.frame.FrameBody.TheVariants as body
use Rattle.amqp_engine.proofs.engine.Engine.try_attach.Goals as goal

pub returns-in_default-clause-received : goal.returns-in_default-clause-received
returns-in_default-clause-received g c =
    unrouted g.R.LinkRelay.gives (ReceivedAttachCalls c.args.attach) c.args.self.now c.args.channel.0 (body.Attach c.args.attach) (λ refusal w reached calls h. h)
    _ c.self.view_is (route_missing _ _ c.session_tx_by_incoming_channel.ensures c.in_default.is)

pub returns-in_default-get_mut-clause-received : goal.returns-in_default-get_mut-clause-received
returns-in_default-get_mut-clause-received g c =
    unknown g.R.LinkRelay.gives (ReceivedAttachCalls c.args.attach) c.args.self.now c.args.channel.0 (body.Attach c.args.attach) (λ refusal w reached calls h. h)
    _ _ _ _ c.in-Some.number.0 _ c.self.view_is (route_found _ _ c.in-Some.number c.session_tx_by_incoming_channel.ensures c.in-Some.is)
    (viewed_none c.in-Some.number.0 c.self.inside.sessions.entries (sym c.get_mut.ensures.value ∙ ap option_copied_mut c.in_default-get_mut.is))
    (ap (λ (m : HashMap _ _ _). m.entries) c.get_mut.follows.holds-at-none)

pub returns-clause-received : goal.returns-clause-received
returns-clause-received g c =
    handed g.R.LinkRelay.gives (ReceivedAttachCalls c.args.attach) c.args.self.now c.args.channel.0 (body.Attach c.args.attach) (λ refusal w reached calls h. h)
    _ _ _ _ c.in-Some.number.0 _ _ _ c.in-Some-get_mut.session.now c.attach_received.new.session _
    c.self.view_is (route_found _ _ c.in-Some.number c.session_tx_by_incoming_channel.ensures c.in-Some.is)
    (viewed_some c.in-Some.number.0 c.self.inside.sessions.entries c.in-Some-get_mut.session.now (sym c.in-Some-get_mut.ensures.value))
    c.attach_received.ensures.answered
    (ap (λ (x : EngineView _). x.waiting) c.self.view_is ∙ c.requires)
    (c.get_mut.follows.holds c.attach_received.new.session)

pub invariant_of-self-2 : goal.invariant_of-self-2
invariant_of-self-2 g c = (seated_set c.self.inside.sessions.entries _ c.in-Some.number.0 c.attach_received.new.session c.self.inside.kept.places (c.get_mut.follows.holds c.attach_received.new.session) c.self.invariant.0, c.self.invariant.1)

pub returns-clause-none : goal.returns-clause-none
returns-clause-none g c =
    let es = c.self.inside.sessions.entries in
    let n = c.in-Some.number.0 in
    where_none c.attach_received.result (λ x. (
      tt,
      x.1,
      same_engine _ _ _ _ _ _ _ refl (c.get_mut.follows.holds c.attach_received.new.session ∙ ap (λ y. set_value (nat_eq n) es y) x.0
          ∙ set_value_same (nat_eq n) es c.in-Some-get_mut.session.now (sym c.in-Some-get_mut.ensures.value)) refl ∙ c.self.view_is,
    )) c.attach_received.ensures.none
