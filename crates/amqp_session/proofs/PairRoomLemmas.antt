-- How many frames a call of a session may hand out: at most one, and what was held back.
use Rattle.std.proofs.Common.{◌≤◌, ◌+◌, ℕ, [], ◌∷◌, ◌++◌, length, length-append, length-take, take, Bool, true, false, cond, Option, Some}
use Rattle.std.proofs.Common.{None, Result, Ok, Err, ap, arith}
use Rattle.std.specs.Option.{option_map}
use Rattle.amqp_types.specs.Flow.{FlowModel}
use Rattle.amqp_session.specs.declared.flow.LinkFlow.{LinkFlow}
use Rattle.amqp_session.specs.declared.frame.SessionFrame.{SessionFrame}
use Rattle.amqp_session.specs.declared.frame.SessionOutgoingItem.{SessionOutgoingItem}
use Rattle.amqp_session.specs.declared.frame.SessionOutgoingItem.TheVariants.{SingleFrame, MultipleFrames}
use Rattle.amqp_session.specs.declared.error.LinkRelayError.{LinkRelayError}
use Rattle.amqp_session.specs.States.{is_mapped}
use Rattle.amqp_session.specs.Transfers.{RequestedTransfer}
use Rattle.amqp_session.specs.Sending.{SendingView, let_out}
use Rattle.amqp_session.specs.Relay.{FlowGives, FlowQuestion}
use Rattle.amqp_session.specs.Items.{item_frames, first_frame, is_some_list}
use Rattle.amqp_session.specs.Session.{SessionView, flow_frame, lets}
use Rattle.amqp_session.specs.Step.{FlowGoes, FlowAnswered, FlowTaken, FlowStep, SendTransferStep, SessionFlowStep, waits, flow_moved}
use Rattle.amqp_session.specs.Step.{asked_at}
use Rattle.amqp_session.proofs.SendingLemmas.{hands_frames, length-numbered}

lets_few : (b : Bool) (c : ℕ) (s : SendingView) → length (cond b (let_out c s) []) ≤ length s.held
lets_few true c s =
    let e = length-numbered c s.next_delivery (take s.remote_incoming_window s.held) in
    let t = length-take s.remote_incoming_window s.held in
    omega (arith, e, t)
lets_few false c s = omega arith

first_few : (o : Option SessionFrame) → length (first_frame o) ≤ 1
first_few None = omega arith
first_few (Some f) = omega arith

goes_few : {R : Type 0} (v w : SessionView R) (echo : Option LinkFlow) (item : Option SessionOutgoingItem) → FlowGoes v echo item w →
    length (item_frames item) ≤ length v.sending.held + 1
goes_few v w echo item t =
    let all = ap length (hands_frames (is_some_list (lets v)) (first_frame (option_map (flow_frame v) echo) ++ lets v) item t.0) in
    let split = length-append (first_frame (option_map (flow_frame v) echo)) (lets v) in
    let few = lets_few (is_mapped v.state) v.outgoing_channel v.sending in
    let one = first_few (option_map (flow_frame v) echo) in
    omega (arith, all, split, few, one)

answered_few : {R : Type 0} (v w : SessionView R) (a : Result (Option LinkFlow) LinkRelayError) (item : Option SessionOutgoingItem) →
    FlowAnswered v a (Ok item) w → length (item_frames item) ≤ length v.sending.held + 1
answered_few v w (Ok echo) item t = goes_few v w echo item t
answered_few v w (Err e) item t = absurd t

taken_few : {R : Type 0} (gives : FlowGives R) (v w : SessionView R) (f : FlowModel) (h : Option ℕ) (asked : Option (FlowQuestion R))
    (item : Option SessionOutgoingItem) → FlowTaken gives v f h asked (Ok item) w → length (item_frames item) ≤ length v.sending.held + 1
taken_few gives v w f None None item t = goes_few v w None item t.1
taken_few gives v w f None (Some q) item t = absurd t
taken_few gives v w f (Some h) None item t = absurd (let e = t.0 in cc)
taken_few gives v w f (Some h) (Some q) item t = answered_few (asked_at v h q) w q.answer item t.2

pub flow_few : {R : Type 0} (gives : FlowGives R) (v w : SessionView R) (f : FlowModel) (asked : Option (FlowQuestion R))
    (item : Option SessionOutgoingItem) → FlowStep gives v f asked (Ok item) w → length (item_frames item) ≤ length v.sending.held + 1
flow_few gives v w f asked item t = taken_few gives (flow_moved v f) w f f.handle asked item t.1

pub transfer_few : {R : Type 0} (v w : SessionView R) (h : RequestedTransfer) (item : Option SessionOutgoingItem) →
    SendTransferStep v h (Ok item) w → length (item_frames item) ≤ length v.sending.held + 1
transfer_few v w h item t =
    let all = ap length (hands_frames _ (lets (waits v h)) item t.2) in
    let few = lets_few (is_mapped v.state) v.outgoing_channel (waits v h).sending in
    let more = length-append v.sending.held (h ∷ []) in
    omega (arith, all, few, more)

pub session_flow_few : {R : Type 0} (v w : SessionView R) (item : Option SessionOutgoingItem) → SessionFlowStep v item w →
    length (item_frames item) ≤ 1
session_flow_few v w None t = omega arith
session_flow_few v w (Some (SingleFrame f)) t = omega arith
session_flow_few v w (Some (MultipleFrames fs)) t = absurd t
