use Rattle.std.proofs.Common.{sym, ap, ◌∙◌, refl, nat_eq}
use Rattle.std.proofs.lemmas.Map.Steps.{set_value_same}
use Rattle.std.specs.Map.{set_value}
use Rattle.amqp_engine.proofs.SameEngineLemmas.{same_engine}
use Rattle.std.specs.Option.{option_copied_mut}
use Rattle.std.specs.HashMap.{HashMap}
use Rattle.amqp_engine.specs.Calls.{ReceivedDispositionCalls}
use Rattle.amqp_engine.proofs.RoutedFrameLemmas.{unrouted, unknown, handed}
use Rattle.amqp_engine.proofs.RouteLemmas.{route_found, route_missing}
use Rattle.amqp_engine.proofs.SessionListLemmas.{viewed_some, viewed_none, seated_set}
use Rattle.amqp_frames.specs.declared.frame.FrameBody.TheVariants as body
use Rattle.amqp_engine.proofs.engine.Engine.on_disposition.Goals as goal

pub returns-in_default-clause-received : goal.returns-in_default-clause-received
returns-in_default-clause-received g c =
    rw c.unrouted.ensures (unrouted g.R.LinkRelay.gives (ReceivedDispositionCalls c.args.disposition) c.args.self.now c.args.channel.0 (body.Disposition c.args.disposition) (λ refusal w reached calls h. h)
    _ c.self.view_is (route_missing _ _ c.session_tx_by_incoming_channel.ensures c.in_default.is))

pub returns-in_default-get_mut-clause-received : goal.returns-in_default-get_mut-clause-received
returns-in_default-get_mut-clause-received g c =
    rw c.no_session.ensures (unknown g.R.LinkRelay.gives (ReceivedDispositionCalls c.args.disposition) c.args.self.now c.args.channel.0 (body.Disposition c.args.disposition) (λ refusal w reached calls h. h)
    _ _ _ _ c.in-Some.number.0 _ c.self.view_is (route_found _ _ c.in-Some.number c.session_tx_by_incoming_channel.ensures c.in-Some.is)
    (viewed_none c.in-Some.number.0 c.self.inside.sessions.entries (sym c.get_mut.ensures.value ∙ ap option_copied_mut c.in_default-get_mut.is))
    (ap (λ (m : HashMap _ _ _). m.entries) c.get_mut.follows.holds-at-none))

pub returns-clause-received : goal.returns-clause-received
returns-clause-received g c =
    handed g.R.LinkRelay.gives (ReceivedDispositionCalls c.args.disposition) c.args.self.now c.args.channel.0 (body.Disposition c.args.disposition) (λ refusal w reached calls h. h)
    _ _ _ _ c.in-Some.number.0 _ c.disposition_received.new.waiting _ c.in-Some-get_mut.session.now c.disposition_received.new.session _
    c.self.view_is (route_found _ _ c.in-Some.number c.session_tx_by_incoming_channel.ensures c.in-Some.is)
    (viewed_some c.in-Some.number.0 c.self.inside.sessions.entries c.in-Some-get_mut.session.now (sym c.in-Some-get_mut.ensures.value))
    c.disposition_received.ensures.answered
    refl
    (c.get_mut.follows.holds c.disposition_received.new.session)

pub invariant_of-self-2 : goal.invariant_of-self-2
invariant_of-self-2 g c = (seated_set c.self.inside.sessions.entries _ c.in-Some.number.0 c.disposition_received.new.session c.self.inside.kept.places (c.get_mut.follows.holds c.disposition_received.new.session) c.self.invariant.0, c.self.invariant.1)

pub returns-clause-not_done : goal.returns-clause-not_done
returns-clause-not_done g c = λ e.
    let es = c.self.inside.sessions.entries in
    let n = c.in-Some.number.0 in
    let x = c.disposition_received.ensures.not_done e in (
      x.2,
      x.3,
      same_engine _ _ _ _ _ _ _ refl (c.get_mut.follows.holds c.disposition_received.new.session ∙ ap (λ y. set_value (nat_eq n) es y) x.0
          ∙ set_value_same (nat_eq n) es c.in-Some-get_mut.session.now (sym c.in-Some-get_mut.ensures.value)) x.1 ∙ c.self.view_is,
    )
