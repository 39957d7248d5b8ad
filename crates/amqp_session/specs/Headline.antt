-- Part: the promise; every call exactly.
-- What holds of every history of one session, said of the history alone (AMQP 1.0 part 2, section 2.5.6).
use Rattle.std.specs.Prelude.{◌≡◌, ◌⊎◌, ◌<◌, ◌≤◌, ◌+◌, ◌%◌, ◌^◌, ℕ, true, false, if◌then◌else◌, List, [], ◌∷◌, ◌++◌, length, take, drop, fold, flat_map}
use Rattle.std.specs.Prelude.{slice_get, Option, Some, None, is_some, Result, Ok, Err, unwrap_or}
use Rattle.amqp_types.specs.declared.states.SessionState.{SessionState}
use Rattle.amqp_session.specs.declared.frame.SessionFrame.{SessionFrame}
use Rattle.amqp_session.specs.declared.frame.SessionFrameBody.{SessionFrameBody}
use Rattle.amqp_session.specs.declared.frame.SessionFrameBody.TheVariants as Body
use Rattle.amqp_session.specs.declared.frame.SessionOutgoingItem.{SessionOutgoingItem}
use Rattle.amqp_session.specs.declared.error.SessionInnerError.{SessionInnerError}
use Rattle.amqp_session.specs.declared.deliveries.Delivery.{Delivery}
use Rattle.amqp_session.specs.declared.session.receiving.Receiving.{Receiving}
use Rattle.amqp_session.specs.OutgoingFrames.{call_frames}
use Rattle.amqp_session.specs.declared.error.SessionInnerError.TheVariants as Refused
use Rattle.amqp_session.specs.Serial.{In, remaining}
use Rattle.amqp_session.specs.States.{is_mapped, sends_begin, takes_begin, sends_end, takes_end}
use Rattle.amqp_session.specs.Sending.{SendingView}
use Rattle.amqp_session.specs.Session.{SessionView}
use Rattle.amqp_session.specs.Step.{IsUntagged}
use Rattle.amqp_session.specs.Transfers.{RequestedTransfer, numbered, firsts, records}
use Rattle.amqp_session.specs.Deliveries.{listed, newest, IsTable, record_at, of_role}
use Rattle.amqp_types.specs.declared.definitions.Role.{Role}
use Rattle.amqp_types.specs.declared.definitions.Role.TheVariants.{Sender, Receiver}
use Rattle.std.specs.FinMap as map
use Rattle.amqp_session.specs.Linked.{taken_at, live_at, input_at}
use Rattle.amqp_session.specs.Received.{next_incoming, peer_window, unreported, peer_channel, named_with, takes_away, stop_reason}
use Rattle.amqp_session.specs.History.{SessionCall, SendsBegin, SendsEnd, TakesBegin, TakesEnd, TakesFlow, SendsTransfer, Made}

-- ---- what a call took and handed out

abbrev pub transfer_in : SessionFrameBody → SessionFrame → List SessionFrame
transfer_in (Body.Transfer t payload) f = f ∷ []
transfer_in b f = []

-- the transfers among frames
abbrev pub transfers_in : List SessionFrame → List SessionFrame
transfers_in fs = flat_map (λ f. transfer_in f.body f) fs

abbrev pub accepted_by : {R : Type 0} → SessionCall R → List RequestedTransfer
accepted_by (SendsTransfer h (Ok item)) = h ∷ []
accepted_by e = []

-- ---- of a history

-- the transfers that were handed out, by whatever call, in order
abbrev pub handed : {R : Type 0} → List (SessionCall R) → List SessionFrame
handed H = flat_map (λ e. transfers_in (call_frames e)) H

-- the transfers that were accepted, in order
abbrev pub accepted : {R : Type 0} → List (SessionCall R) → List RequestedTransfer
accepted H = flat_map accepted_by H

-- those that were not handed out yet
abbrev pub waiting : {R : Type 0} → List (SessionCall R) → List RequestedTransfer
waiting H = drop (length (handed H)) (accepted H)

-- the number of the next transfer
abbrev pub number : {R : Type 0} → Made → List (SessionCall R) → ℕ
number m H = (m.settings.next_outgoing_id + length (handed H)) % 2 ^ 32

-- The window that a call gives where n is the number of the next transfer: a Begin from there on; a Flow, whatever its answer,
-- from the number that it says, or from the first one where it says none.
abbrev pub window_by : {R : Type 0} → Made → ℕ → ℕ × ℕ → SessionCall R → ℕ × ℕ
window_by m n old (TakesBegin channel b (Ok u)) = (n % 2 ^ 32, b.incoming_window)
window_by m n old (TakesFlow f asked result) = (unwrap_or f.next_incoming_id m.settings.next_outgoing_id, f.incoming_window)
window_by m n old e = old

abbrev pub window_from : {R : Type 0} → Made → ℕ → ℕ × ℕ → List (SessionCall R) → ℕ × ℕ
window_from m n old [] = old
window_from m n old (e ∷ es) = window_from m (n + length (transfers_in (call_frames e))) (window_by m n old e) es

-- the base and the width of the latest window
abbrev pub window : {R : Type 0} → Made → List (SessionCall R) → ℕ × ℕ
window m H = window_from m m.settings.next_outgoing_id (0, 0) H

-- The state that a call leaves: by the table of the call, where it is not refused. A received End moves the state whatever it
-- is answered.
abbrev pub state_by : {R : Type 0} → SessionState → SessionCall R → SessionState
state_by s (SendsBegin (Ok frame)) = unwrap_or (sends_begin s) s
state_by s (SendsEnd error (Ok frame)) = unwrap_or (sends_end (is_some error) s) s
state_by s (TakesBegin channel b (Ok u)) = unwrap_or (takes_begin s) s
state_by s (TakesEnd channel e result) = unwrap_or (takes_end s) s
state_by s e = s

abbrev pub state_from : {R : Type 0} → SessionState → List (SessionCall R) → SessionState
state_from s H = fold state_by s H

-- the state after a history
abbrev pub state : {R : Type 0} → Made → List (SessionCall R) → SessionState
state m H = state_from m.state H

-- ---- the headline

-- Each transfer that is asked for is accepted, or is refused for want of memory, or with IllegalState: that exactly where it is
-- the first of its delivery and has no tag, or the state is not Mapped.
abbrev pub Answers : SessionState → RequestedTransfer → Result (Option SessionOutgoingItem) SessionInnerError → Type 0
Answers s h (Ok item) = (is_mapped s ≡ true) × ¬ (IsUntagged h)
Answers s h (Err Refused.IllegalState) = (is_mapped s ≡ false) ⊎ IsUntagged h
Answers s h (Err Refused.OutOfMemory) = (is_mapped s ≡ true) × ¬ (IsUntagged h)
Answers s h (Err e) = ⊥

abbrev pub AllAnswered : {R : Type 0} → Made → List (SessionCall R) → Type 0
AllAnswered m H = (before after : List (SessionCall _)) (h : RequestedTransfer) (result : Result (Option SessionOutgoingItem) SessionInnerError) →
    H ≡ before ++ SendsTransfer h result ∷ after → Answers (state m before) h result

-- Handed out, then held back: all accepted ones, in order, each delivery numbered once, on its first frame.
pub record Accounts {R : Type 0} (m : Made) (H : List (SessionCall R)) : Type 0 where
  pub handed_out : handed H ≡ numbered m.channel 0 (take (length (handed H)) (accepted H))
  pub no_more : length (handed H) ≤ length (accepted H)

-- the delivery-id that a frame carries
abbrev pub carried : SessionFrameBody → Option ℕ
carried (Body.Transfer t payload) = t.delivery_id
carried b = None

-- A frame carries a delivery-id exactly where it is the first of its delivery, whatever the request came with: one that goes on
-- with a delivery never does.
abbrev pub FirstAlone : {R : Type 0} → List (SessionCall R) → Type 0
FirstAlone H =
    (k : ℕ) (h : RequestedTransfer) (f : SessionFrame) → slice_get (accepted H) k ≡ Some h → slice_get (handed H) k ≡ Some f →
    is_some (carried f.body) ≡ h.is_first

-- Each transfer is inside the window that holds as it is handed out.
abbrev pub Inside : {R : Type 0} → Made → List (SessionCall R) → Type 0
Inside m H = (before after : List (SessionCall _)) (e : SessionCall _) → H ≡ before ++ e ∷ after →
    (k : ℕ) → k < length (transfers_in (call_frames e)) → In ((number m before + k) % 2 ^ 32) (window m (before ++ e ∷ []))

-- a transfer that was accepted, or a Flow that was accepted in Mapped: it lets out what the window allows
abbrev pub LetsOut : {R : Type 0} → SessionState → SessionCall R → Type 0
LetsOut s (SendsTransfer h (Ok item)) = Unit {0}
LetsOut s (TakesFlow f asked (Ok item)) = is_mapped s ≡ true
LetsOut s e = ⊥

-- After it one waits only while the window is used up.
abbrev pub WaitsOnly : {R : Type 0} → Made → List (SessionCall R) → Type 0
WaitsOnly m H = (before after : List (SessionCall _)) (e : SessionCall _) → H ≡ before ++ e ∷ after → LetsOut (state m before) e →
    (waiting (before ++ e ∷ []) ≡ []) ⊎ ¬ (In (number m (before ++ e ∷ [])) (window m (before ++ e ∷ [])))

pub record Headline {R : Type 0} (m : Made) (H : List (SessionCall R)) : Type 0 where
  pub accounts : Accounts m H
  pub first_alone : FirstAlone H
  pub all_answered : AllAnswered m H
  pub inside : Inside m H
  pub waits_only : WaitsOnly m H

-- ---- open deliveries, of each role of the peer that will speak of them (section 2.6.12)

-- the transfers that go out with a call, where these calls came before it: those that waited first, and then its own
abbrev pub sent_with : {R : Type 0} → List (SessionCall R) → SessionCall R → List RequestedTransfer
sent_with before e = take (length (transfers_in (call_frames e))) (waiting before ++ accepted_by e)

-- how many deliveries have begun to go out
abbrev pub begun_in : {R : Type 0} → List (SessionCall R) → ℕ
begun_in H = firsts (take (length (handed H)) (accepted H))

-- The records that a call adds, where these calls came before it. Of what this side sent: one with the frame that carries the
-- delivery's number, unless it is settled already. Of what it received: the one that a relay names.
abbrev pub adds : {R : Type 0} → Role → List (SessionCall R) → SessionCall R → List Delivery
adds Receiver before e = records (begun_in before) (sent_with before e)
adds Sender before e = listed (named_with e)

-- the open delivery of a role and number after a call, and after these calls
abbrev pub open_by : {R : Type 0} → Role → ℕ → List (SessionCall R) → Option Delivery → SessionCall R → Option Delivery
open_by role n before old e = newest n (if takes_away role e n then None else old) (adds role before e)

abbrev pub open_from : {R : Type 0} → Role → ℕ → List (SessionCall R) → Option Delivery → List (SessionCall R) → Option Delivery
open_from role n before old [] = old
open_from role n before old (e ∷ es) = open_from role n (before ++ e ∷ []) (open_by role n before old e) es

-- the newest record of a role and number that no call took away since
abbrev pub open_at : {R : Type 0} → Role → ℕ → List (SessionCall R) → Option Delivery
open_at role n H = open_from role n [] None H

-- ---- the law of views

-- a view of the sending half is what these accepted transfers, these frames and this window give
pub record SendingMatches (channel initial : ℕ) (A : List RequestedTransfer) (F : List SessionFrame) (w : ℕ × ℕ) (v : SendingView) : Type 0 where
  pub next_is : v.next_outgoing_id ≡ (initial + length F) % 2 ^ 32
  pub delivery_is : v.next_delivery ≡ firsts (take (length F) A) % 2 ^ 32
  pub held_is : v.held ≡ drop (length F) A
  pub window_is : v.remote_incoming_window ≡ remaining v.next_outgoing_id w
  pub base_fits : w.0 < 2 ^ 32
  pub width_fits : w.1 < 2 ^ 32
  pub handed_out : F ≡ numbered channel 0 (take (length F) A)
  pub no_more : length F ≤ length A

-- a view of the receiving half is what this history gives
pub record Receives {R : Type 0} (H : List (SessionCall R)) (r : Receiving) : Type 0 where
  pub next_is : r.next_incoming_id ≡ next_incoming H
  pub window_is : r.remote_outgoing_window ≡ peer_window H
  pub count_is : r.unreported ≡ unreported H

-- These are the open deliveries of a role: their numbers rise and are of four bytes, and the record of each number is its newest
-- one.
pub record Opens {R : Type 0} (role : Role) (H : List (SessionCall R)) (rows : List Delivery) : Type 0 where
  pub table : IsTable rows
  pub each : (n : ℕ) → record_at n rows ≡ open_at role n H

-- The view is what the session was made with and what the history gives: the numbers of transfers and deliveries in both
-- directions, what waits, what is left of both windows, the transfers not yet told to the peer, the state, the peer's channel,
-- the stop reason, and the open deliveries of both roles. And the links are as the history says: how each output handle is taken,
-- which link is live by each name, and which relay stands under each input handle.
pub record Stands {R : Type 0} (m : Made) (H : List (SessionCall R)) (v : SessionView R) : Type 0 where
  pub sending_is : SendingMatches m.channel m.settings.next_outgoing_id (accepted H) (handed H) (window m H) v.sending
  pub state_is : v.state ≡ state m H
  pub receiving_is : Receives H v.receiving
  pub open_are : (role : Role) → Opens role H (of_role role v.deliveries)
  pub incoming_channel_is : v.incoming_channel ≡ peer_channel H
  pub session_stop_is : v.session_stop ≡ stop_reason H
  pub settings_is : v.settings ≡ m.settings
  pub outgoing_channel_is : v.outgoing_channel ≡ m.channel
  pub connection_stop_is : v.connection_stop ≡ m.stop
  pub handles_are : (k : ℕ) → map.get v.links.handles k ≡ taken_at k H
  pub names_are : (name : List ℕ) → map.get v.links.names name ≡ live_at name H
  pub inputs_are : (h : ℕ) → map.get v.links.inputs h ≡ input_at h H
