use Rattle.std.proofs.Common.{◌∙◌, sym, ap, Ok, Err, Some, None, refl, [], ◌∷◌, nat_eq}
use Rattle.std.proofs.lemmas.List.{append-nil}
use Rattle.std.proofs.lemmas.Map.Steps.{set_value_same}
use Rattle.std.specs.Option.{option_copied_mut}
use Rattle.std.specs.HashMap.{HashMap}
use Rattle.std.specs.Map.{set_value}
use Rattle.amqp_connection.specs.Connection.{refusal_of}
use Rattle.amqp_session.specs.History as session
use Rattle.amqp_session.specs.Items.{item_frames}
use Rattle.amqp_engine.specs.EngineView.{EngineView}
use Rattle.amqp_engine.specs.Waits.{sent}
use Rattle.amqp_engine.specs.declared.engine.step_error.StepError.TheVariants as refused
use Rattle.amqp_engine.specs.Inner.Calls.{ReceivedTransferCalls}
use Rattle.amqp_engine.proofs.RoutedFrameLemmas.{unrouted, unknown, handed}
use Rattle.amqp_engine.proofs.RouteLemmas.{route_found, route_missing}
use Rattle.amqp_engine.proofs.SameEngineLemmas.{same_engine}
use Rattle.amqp_engine.proofs.SessionListLemmas.{viewed_some, viewed_none, seated_set}
use Rattle.amqp_frames.specs.declared.frame.FrameBody.TheVariants as body
use Rattle.amqp_engine.proofs.engine.Engine.try_transfer.Goals as goal

pub returns-in_default-clause-tried : goal.returns-in_default-clause-tried
returns-in_default-clause-tried g c =
    rw c.unrouted.ensures (unrouted g.R.LinkRelay.gives (ReceivedTransferCalls c.args.transfer c.args.payload) c.args.self.now c.args.channel.0 (body.Transfer c.args.transfer c.args.payload) (λ refusal w reached calls h. h)
    _ c.self.view_is (route_missing _ _ c.session_tx_by_incoming_channel.ensures c.in_default.is))

pub returns-in_default-get_mut-clause-tried : goal.returns-in_default-get_mut-clause-tried
returns-in_default-get_mut-clause-tried g c =
    rw c.no_session.ensures (unknown g.R.LinkRelay.gives (ReceivedTransferCalls c.args.transfer c.args.payload) c.args.self.now c.args.channel.0 (body.Transfer c.args.transfer c.args.payload) (λ refusal w reached calls h. h)
    _ _ _ _ c.in-Some.number.0 _ c.self.view_is (route_found _ _ c.in-Some.number c.session_tx_by_incoming_channel.ensures c.in-Some.is)
    (viewed_none c.in-Some.number.0 c.self.inside.sessions.entries (sym c.get_mut.ensures.value ∙ ap option_copied_mut c.in_default-get_mut.is))
    (ap (λ (m : HashMap _ _ _). m.entries) c.get_mut.follows.holds-at-none))

pub returns-in-None-clause-tried : goal.returns-in-None-clause-tried
returns-in-None-clause-tried g c =
    let es = c.self.inside.sessions.entries in
    let n = c.in-Some.number.0 in
    let stays = ap (λ s. set_value (nat_eq n) es s) c.in-None.ensures.none.0
    ∙ set_value_same (nat_eq n) es c.in-Some-get_mut.session.now (sym c.in-Some-get_mut.ensures.value) in (
      c.in-None.ensures.none.1.1,
      same_engine _ _ _ _ _ _ _ refl (c.get_mut.follows.holds c.take_transfer_if_room.new.self ∙ stays) refl ∙ c.self.view_is,
    )

pub returns-in-Some-Ok-clause-tried : goal.returns-in-Some-Ok-clause-tried
returns-in-Some-Ok-clause-tried g c =
    let received = rw c.in-Some-Ok.field-0-is at c.in-Some-Ok.ensures.step in
    let item = c.maybe_outgoing_session_flow.result in
    handed g.R.LinkRelay.gives (ReceivedTransferCalls c.args.transfer c.args.payload) c.args.self.now c.args.channel.0 (body.Transfer c.args.transfer c.args.payload) (λ refusal w reached calls h. h)
    _ _ _ _ c.in-Some.number.0 _ c.put_item.new.self c.put_item.new.self c.in-Some-get_mut.session.now c.maybe_outgoing_session_flow.new.self (refusal_of c.args.outcome.now)
    c.self.view_is (route_found _ _ c.in-Some.number c.session_tx_by_incoming_channel.ensures c.in-Some.is)
    (viewed_some c.in-Some.number.0 c.self.inside.sessions.entries c.in-Some-get_mut.session.now (sym c.in-Some-get_mut.ensures.value))
    (record {
      calls = session.TakesTransfer c.args.transfer c.args.payload received.0 (Ok None) ∷ session.SendsSessionFlow item ∷ [];
      asked = (received.0, Ok None, item, refl, c.requires.clear);
      steps = (c.take_transfer_if_room.new.self.view, received.1, (c.maybe_outgoing_session_flow.new.self.view, c.maybe_outgoing_session_flow.ensures.step, refl));
      handed_out = c.put_item.ensures ∙ sym (ap sent (append-nil (item_frames item)));
    })
    refl
    (c.get_mut.follows.holds c.maybe_outgoing_session_flow.new.self)

pub returns-in-Some-Err-clause-tried : goal.returns-in-Some-Err-clause-tried
returns-in-Some-Err-clause-tried g c =
    let received = rw c.in-Some-Err.field-0-is at c.in-Some-Err.ensures.step in
    rw c.by_session.ensures (handed g.R.LinkRelay.gives (ReceivedTransferCalls c.args.transfer c.args.payload) c.args.self.now c.args.channel.0 (body.Transfer c.args.transfer c.args.payload) (λ refusal w reached calls h. h)
    _ _ _ _ c.in-Some.number.0 _ c.self.inside.waiting c.self.inside.waiting c.in-Some-get_mut.session.now c.take_transfer_if_room.new.self (Some (refused.Session c.in-Some-Err.error))
    c.self.view_is (route_found _ _ c.in-Some.number c.session_tx_by_incoming_channel.ensures c.in-Some.is)
    (viewed_some c.in-Some.number.0 c.self.inside.sessions.entries c.in-Some-get_mut.session.now (sym c.in-Some-get_mut.ensures.value))
    (record {
      calls = session.TakesTransfer c.args.transfer c.args.payload received.0 (Err c.in-Some-Err.error) ∷ [];
      asked = (received.0, Err c.in-Some-Err.error, None, refl, refl);
      steps = (c.take_transfer_if_room.new.self.view, received.1, refl);
      handed_out = ap (λ (v : EngineView _). v.waiting) c.self.view_is ∙ c.requires.idle;
    })
    refl
    (c.get_mut.follows.holds c.take_transfer_if_room.new.self))

pub invariant_of-self-in-None : goal.invariant_of-self-in-None
invariant_of-self-in-None g c = (seated_set c.self.inside.sessions.entries _ c.in-Some.number.0 c.take_transfer_if_room.new.self c.self.inside.kept.places (c.get_mut.follows.holds c.take_transfer_if_room.new.self) c.self.invariant.0, c.self.invariant.1)

pub invariant_of-self-in-Some-Ok : goal.invariant_of-self-in-Some-Ok
invariant_of-self-in-Some-Ok g c = (seated_set c.self.inside.sessions.entries _ c.in-Some.number.0 c.maybe_outgoing_session_flow.new.self c.self.inside.kept.places (c.get_mut.follows.holds c.maybe_outgoing_session_flow.new.self) c.self.invariant.0, c.self.invariant.1)

pub invariant_of-self-in-Some-Err : goal.invariant_of-self-in-Some-Err
invariant_of-self-in-Some-Err g c = (seated_set c.self.inside.sessions.entries _ c.in-Some.number.0 c.take_transfer_if_room.new.self c.self.inside.kept.places (c.get_mut.follows.holds c.take_transfer_if_room.new.self) c.self.invariant.0, c.self.invariant.1)
