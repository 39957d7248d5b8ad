-- Part: every call exactly.
-- What a history says of the peer: its channel, the numbers of its transfers, and the deliveries that its transfers opened
-- (AMQP 1.0 part 2, section 2.5.6). And why the session stopped.
use Rattle.std.specs.Prelude.{ℕ, ◌+◌, ◌-◌, ◌%◌, ◌^◌, min, Bool, true, false, ◌&&◌, if◌then◌else◌, List, [], ◌∷◌, Option, Some, None, Result}
use Rattle.std.specs.Prelude.{Ok, Err, fold}
use Rattle.amqp_types.specs.declared.definitions.DeliveryTag.{DeliveryTag}
use Rattle.amqp_session.specs.declared.deliveries.Delivery.{Delivery}
use Rattle.amqp_session.specs.declared.stop.SessionStopReason.{SessionStopReason}
use Rattle.amqp_session.specs.declared.error.LinkRelayError.{LinkRelayError}
use Rattle.amqp_types.specs.declared.definitions.Role.{Role}
use Rattle.amqp_session.specs.Deliveries.{is_role, peer_role}
use Rattle.amqp_session.specs.Disposing.{is_meant, num_messages}
use Rattle.amqp_session.specs.Step.{named_delivery}
use Rattle.amqp_session.specs.History.{SessionCall, TakesBegin, TakesFlow, TakesTransfer, TakesDisposition, SendsDisposition, SendsSessionFlow}
use Rattle.amqp_session.specs.History.{RecordsStop, Settles}

-- ---- the calls since the last one of a kind

-- whether one of the kind is among these
abbrev pub has_kind : {R : Type 0} → (SessionCall R → Bool) → List (SessionCall R) → Bool
has_kind kind [] = false
has_kind kind (e ∷ es) = if kind e then true else has_kind kind es

-- those after the last one of the kind; all, where there is none
abbrev pub since : {R : Type 0} → (SessionCall R → Bool) → List (SessionCall R) → List (SessionCall R)
since kind [] = []
since kind (e ∷ es) = if has_kind kind es then since kind es else (if kind e then es else e ∷ es)

-- The peer says its numbers: by a Begin that is accepted, and by any Flow.
abbrev pub says_numbers : {R : Type 0} → SessionCall R → Bool
says_numbers (TakesBegin channel b (Ok u)) = true
says_numbers (TakesFlow f asked result) = true
says_numbers e = false

-- a session flow goes out
abbrev pub is_session_flow : {R : Type 0} → SessionCall R → Bool
is_session_flow (SendsSessionFlow (Some item)) = true
is_session_flow e = false

-- ---- the peer's transfers

-- the transfers that came
abbrev pub received_by : {R : Type 0} → SessionCall R → ℕ
received_by (TakesTransfer t payload asked result) = 1
received_by e = 0

abbrev pub received_count : {R : Type 0} → List (SessionCall R) → ℕ
received_count [] = 0
received_count (e ∷ es) = received_by e + received_count es

-- the number of the peer's next transfer and its outgoing window, as the peer sends them
abbrev pub announced_by : {R : Type 0} → ℕ × ℕ → SessionCall R → ℕ × ℕ
announced_by old (TakesBegin channel b (Ok u)) = (b.next_outgoing_id, b.outgoing_window)
announced_by old (TakesFlow f asked result) = (f.next_outgoing_id, f.outgoing_window)
announced_by old e = old

-- the latest of them that it sent; both are 0 before the first
abbrev pub announced : {R : Type 0} → List (SessionCall R) → ℕ × ℕ
announced H = fold announced_by (0, 0) H

-- the next incoming id: the number that the peer said last, and one more for each transfer that came since
abbrev pub next_incoming : {R : Type 0} → List (SessionCall R) → ℕ
next_incoming H = ((announced H).0 + received_count (since says_numbers H)) % 2 ^ 32

-- What these calls leave of a window: one less for each transfer, and never less than none; and for each disposition with a
-- terminal state that is sent, as many more as it settles, as far as four bytes can say.
abbrev pub window_left_by : {R : Type 0} → ℕ → SessionCall R → ℕ
window_left_by w (TakesTransfer t payload asked result) = w - 1
window_left_by w (SendsDisposition d true frame) = min (w + num_messages d.first d.last) 4294967295
window_left_by w e = w

abbrev pub window_left : {R : Type 0} → ℕ → List (SessionCall R) → ℕ
window_left w H = fold window_left_by w H

-- the remote outgoing window: what is left of the one that the peer said last
abbrev pub peer_window : {R : Type 0} → List (SessionCall R) → ℕ
peer_window H = window_left (announced H).1 (since says_numbers H)

-- the transfers that came since the last session flow, but never more than four bytes can hold
abbrev pub unreported : {R : Type 0} → List (SessionCall R) → ℕ
unreported H = min (received_count (since is_session_flow H)) 4294967295

-- ---- the peer's channel

abbrev pub channel_by : {R : Type 0} → Option ℕ → SessionCall R → Option ℕ
channel_by old (TakesBegin channel b (Ok u)) = Some channel
channel_by old e = old

-- that of the latest Begin that was accepted
abbrev pub peer_channel : {R : Type 0} → List (SessionCall R) → Option ℕ
peer_channel H = fold channel_by None H

-- ---- the deliveries that the peer's transfers opened

-- what a relay named
abbrev pub named_of : Result (Option (ℕ × DeliveryTag)) LinkRelayError → Option (ℕ × DeliveryTag)
named_of (Ok named) = named
named_of (Err e) = None

-- the one that a relay names for a received transfer, under the transfer's handle
abbrev pub named_with : {R : Type 0} → SessionCall R → Option Delivery
named_with (TakesTransfer t payload (Some q) result) = named_delivery t.handle (named_of q.answer)
named_with e = None

-- whether a call takes away the delivery of a role and number: a received disposition that settles it, or this side's own settling
abbrev pub takes_away : {R : Type 0} → Role → SessionCall R → ℕ → Bool
takes_away role (TakesDisposition d asked (Ok None)) n = is_role role d.role && is_meant d.first d.last n
takes_away role (Settles own first last count) n = is_role role (peer_role own) && is_meant first last n
takes_away role e n = false

-- ---- the stop reason

-- the first reason that was recorded
abbrev pub stop_reason : {R : Type 0} → List (SessionCall R) → Option SessionStopReason
stop_reason [] = None
stop_reason (RecordsStop reason ∷ es) = Some reason
stop_reason (e ∷ es) = stop_reason es
