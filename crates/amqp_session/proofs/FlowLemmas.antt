-- What a flow lets out, by the state.
use Rattle.std.proofs.Common.{◌≡◌, ◌<◌, List, [], ◌++◌, Option, Bool, true, false, cond, append-nil, refl, ℕ, Err, arith, ap, sym, ◌∙◌}
use Rattle.std.proofs.Common.{length, length-take, take}
use Rattle.std.specs.Option.{option_map}
use Rattle.amqp_session.specs.declared.deliveries.Delivery.{Delivery}
use Rattle.amqp_session.specs.declared.flow.LinkFlow.{LinkFlow}
use Rattle.amqp_session.specs.declared.frame.SessionFrame.{SessionFrame}
use Rattle.amqp_session.specs.declared.frame.SessionOutgoingItem.{SessionOutgoingItem}
use Rattle.amqp_session.specs.Items.{HandsOut, is_some_list, first_frame}
use Rattle.amqp_session.specs.States.{is_mapped}
use Rattle.amqp_session.specs.Sending.{SendingView, ready_count, let_out, opened_by, drained}
use Rattle.amqp_session.specs.declared.deliveries.ReadCount.{ReadCount}
use Rattle.amqp_session.specs.Session.{SessionModel, SessionView, flow_frame}
use Rattle.amqp_types.specs.declared.definitions.DeliveryTag.{DeliveryTag}
use Rattle.amqp_session.specs.Deliveries.{with_record}
use Rattle.amqp_session.specs.declared.error.SessionInnerError.{SessionInnerError}
use Rattle.amqp_session.specs.declared.error.SessionInnerError.TheVariants as Refused
use Rattle.amqp_session.specs.Links.{attached_at}
use Rattle.amqp_session.specs.Relay.{IsUnasked}
use Rattle.amqp_session.proofs.SendingLemmas.{length-numbered}
use Rattle.amqp_session.specs.Step.{FlowGoes, TransferUnasked, named_delivery, named_by}

-- the session after what it lets out, where it may
abbrev gone_where : {R : Type 0} → Bool → SessionView R → SessionView R
gone_where b v = record v {
  sending = cond b (drained v.sending) v.sending;
  deliveries = record v.deliveries { receiver = cond b (opened_by v.sending v.deliveries.receiver) v.deliveries.receiver };
}

stays : {R : Type 0} → (b : Bool) (out first : List SessionFrame) (item : Option SessionOutgoingItem) (w v : SessionView R) → b ≡ false → HandsOut false first item → w ≡ v →
    HandsOut (is_some_list (cond b out [])) (first ++ cond b out []) item × (w ≡ gone_where b v)
stays b out first item w v e h q = rw (e, append-nil first) (h, q)

goes : {R : Type 0} → (b : Bool) (out first : List SessionFrame) (item : Option SessionOutgoingItem) (w v : SessionView R) → b ≡ true → HandsOut (is_some_list out) (first ++ out) item → w ≡ gone_where true v →
    HandsOut (is_some_list (cond b out [])) (first ++ cond b out []) item × (w ≡ gone_where b v)
goes b out first item w v e h q = rw e (h, q)

-- outside Mapped the first frame goes out alone
pub unmapped_goes : {R : Type 0} → (v w : SessionView R) (echo : Option LinkFlow) (item : Option SessionOutgoingItem) → is_mapped v.state ≡ false →
    HandsOut false (first_frame (option_map (flow_frame v) echo)) item → w ≡ v → FlowGoes v echo item w
unmapped_goes v w echo item e h q = stays (is_mapped v.state) _ _ item w v e h q

-- in Mapped what the window lets out goes after it
pub mapped_goes : {R : Type 0} → (v w : SessionView R) (echo : Option LinkFlow) (item : Option SessionOutgoingItem) → is_mapped v.state ≡ true →
    HandsOut (is_some_list (let_out v.outgoing_channel v.sending)) (first_frame (option_map (flow_frame v) echo) ++ let_out v.outgoing_channel v.sending) item →
    w ≡ gone_where true v → FlowGoes v echo item w
mapped_goes v w echo item e h q = goes (is_mapped v.state) _ _ item w v e h q

-- the session after it, by its parts
pub parts_gone : {R : Type 0} → (v : SessionView R) (s : SendingView) (rows room : List Delivery) → s ≡ drained v.sending → rows ≡ opened_by v.sending room → room ≡ v.deliveries.receiver →
    record v { sending = s; deliveries = record v.deliveries { receiver = rows } } ≡ gone_where true v
parts_gone v s rows room es er e = rw (es, er, e) refl

-- the session after room was taken
pub room_taken : {R : Type 0} → (v : SessionView R) (rows : List Delivery) → rows ≡ v.deliveries.receiver → record v { deliveries = record v.deliveries { receiver = rows } } ≡ v
room_taken v rows e = rw e refl

pub all_but_room : {R : Type 0} → (m : SessionModel R) (rows : List Delivery) (reads : ReadCount) → rows ≡ m.view.deliveries.receiver → reads ≡ m.reads.receiver →
    record m { view = record m.view { deliveries = record m.view.deliveries { receiver = rows } }; reads = record m.reads { receiver = reads } } ≡ m
all_but_room m rows reads er es = rw (er, es) refl

pub sender_room_taken : {R : Type 0} → (v : SessionView R) (rows : List Delivery) → rows ≡ v.deliveries.sender → record v { deliveries = record v.deliveries { sender = rows } } ≡ v
sender_room_taken v rows e = rw e refl

-- the session after a delivery that the relay named
pub named_is : {R : Type 0} → (v : SessionView R) (handle : ℕ) (named : Option (ℕ × DeliveryTag)) (rows room : List Delivery) → rows ≡ with_record (named_delivery handle named) room → room ≡ v.deliveries.sender →
    record v { deliveries = record v.deliveries { sender = rows } } ≡ named_by v handle named
named_is v handle named rows room er e = rw (er, e) refl

-- in Mapped something goes out where the window lets something out
pub lets_some : (mapped : Bool) (channel : ℕ) (s : SendingView) → mapped ≡ true → 0 < ready_count s → ¬ (cond mapped (let_out channel s) [] ≡ [])
lets_some mapped channel s is some none =
    let all : let_out channel s ≡ [] = sym (ap (λ b. cond b (let_out channel s) []) is) ∙ none in
    let numbers = length-numbered channel s.next_delivery (take s.remote_incoming_window s.held) in
    let taken = length-take s.remote_incoming_window s.held in
    omega (arith, numbers, taken, ap length all, some)

-- no relay was asked of a transfer
pub unasked_is : {R : Type 0} → (v : SessionView R) (handle : ℕ) (e : SessionInnerError) (w : SessionView R) → IsUnasked (attached_at handle v.links) e → w ≡ v → TransferUnasked v handle (Err e) w
unasked_is v handle Refused.UnattachedHandle w u same = (u, same)
unasked_is v handle Refused.RemoteAttachingLinkNameNotFound w u same = absurd u
unasked_is v handle Refused.HandleInUse w u same = absurd u
unasked_is v handle Refused.IllegalState w u same = absurd u
unasked_is v handle (Refused.ConnectionStopped x) w u same = absurd u
unasked_is v handle Refused.TransferFrameToSender w u same = absurd u
unasked_is v handle Refused.RemoteEnded w u same = absurd u
unasked_is v handle (Refused.RemoteEndedWithError x) w u same = absurd u
unasked_is v handle Refused.UnknownTxnId w u same = absurd u
unasked_is v handle Refused.OutOfMemory w u same = (u.0, same, u.1)
