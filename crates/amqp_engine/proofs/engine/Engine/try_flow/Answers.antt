use Rattle.std.proofs.Common.{sym, ap, ◌∙◌, refl, nat_eq}
use Rattle.std.proofs.lemmas.Map.Steps.{set_value_same}
use Rattle.std.specs.Map.{set_value}
use Rattle.amqp_connection.specs.Connection.{refusal_of}
use Rattle.amqp_engine.proofs.FrameRunLemmas.{tries}
use Rattle.amqp_engine.proofs.SameEngineLemmas.{same_engine}
use Rattle.std.specs.Option.{option_copied_mut}
use Rattle.std.specs.HashMap.{HashMap}
use Rattle.amqp_engine.specs.Inner.Calls.{ReceivedFlowCalls}
use Rattle.amqp_engine.proofs.RoutedFrameLemmas.{unrouted, unknown, handed}
use Rattle.amqp_engine.proofs.RouteLemmas.{route_found, route_missing}
use Rattle.amqp_engine.proofs.SessionListLemmas.{viewed_some, viewed_none, seated_set}
use Rattle.amqp_frames.specs.declared.frame.FrameBody.TheVariants as body
use Rattle.amqp_engine.proofs.engine.Engine.try_flow.Goals as goal

pub returns-in_default-clause-tried : goal.returns-in_default-clause-tried
returns-in_default-clause-tried g c =
    rw c.unrouted.ensures (unrouted g.R.LinkRelay.gives (ReceivedFlowCalls c.args.flow) c.args.self.now c.args.channel.0 (body.Flow c.args.flow) (λ refusal w reached calls h. h)
    _ c.self.view_is (route_missing _ _ c.session_tx_by_incoming_channel.ensures c.in_default.is))

pub returns-in_default-get_mut-clause-tried : goal.returns-in_default-get_mut-clause-tried
returns-in_default-get_mut-clause-tried g c =
    rw c.no_session.ensures (unknown g.R.LinkRelay.gives (ReceivedFlowCalls c.args.flow) c.args.self.now c.args.channel.0 (body.Flow c.args.flow) (λ refusal w reached calls h. h)
    _ _ _ _ c.in-Some.number.0 _ c.self.view_is (route_found _ _ c.in-Some.number c.session_tx_by_incoming_channel.ensures c.in-Some.is)
    (viewed_none c.in-Some.number.0 c.self.inside.sessions.entries (sym c.get_mut.ensures.value ∙ ap option_copied_mut c.in_default-get_mut.is))
    (ap (λ (m : HashMap _ _ _). m.entries) c.get_mut.follows.holds-at-none))

pub returns-clause-tried : goal.returns-clause-tried
returns-clause-tried g c =
    let es = c.self.inside.sessions.entries in
    let n = c.in-Some.number.0 in
    tries g.R.LinkRelay.gives c.args.self.now _ c.args.channel.0 (body.Flow c.args.flow) c.flow_received_if_room.result (refusal_of c.flow_received_if_room.new.outcome)
    (λ e. handed g.R.LinkRelay.gives (ReceivedFlowCalls c.args.flow) c.args.self.now c.args.channel.0 (body.Flow c.args.flow) (λ refusal w reached calls h. h)
    _ _ _ _ n _ c.flow_received_if_room.new.waiting _ c.in-Some-get_mut.session.now c.flow_received_if_room.new.session _
    c.self.view_is (route_found _ _ c.in-Some.number c.session_tx_by_incoming_channel.ensures c.in-Some.is)
    (viewed_some n es c.in-Some-get_mut.session.now (sym c.in-Some-get_mut.ensures.value))
    (c.flow_received_if_room.ensures.done e)
    refl
    (c.get_mut.follows.holds c.flow_received_if_room.new.session))
    (λ e. let x = c.flow_received_if_room.ensures.not_done e in (
      x.2,
      same_engine _ _ _ _ _ _ _ refl (c.get_mut.follows.holds c.flow_received_if_room.new.session ∙ ap (λ y. set_value (nat_eq n) es y) x.0
          ∙ set_value_same (nat_eq n) es c.in-Some-get_mut.session.now (sym c.in-Some-get_mut.ensures.value)) x.1 ∙ c.self.view_is,
    ))

pub invariant_of-self-2 : goal.invariant_of-self-2
invariant_of-self-2 g c = (seated_set c.self.inside.sessions.entries _ c.in-Some.number.0 c.flow_received_if_room.new.session c.self.inside.kept.places (c.get_mut.follows.holds c.flow_received_if_room.new.session) c.self.invariant.0, c.self.invariant.1)
