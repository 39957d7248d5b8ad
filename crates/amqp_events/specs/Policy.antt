-- Part: other calls.
-- Policy: what a relay answers (AMQP 1.0 part 2, sections 2.6.12, 2.7.3 to 2.7.5).
use Rattle.std.specs.Prelude.{◌≡◌, ℕ, List, Bool, true, false, ◌&&◌, Option, Some, None, if◌then◌else◌, not}
use Rattle.amqp_types.specs.Detach.{DetachModel}
use Rattle.amqp_types.specs.Transfer.{TransferModel}
use Rattle.amqp_types.specs.declared.definitions.DeliveryTag.{DeliveryTag}
use Rattle.amqp_types.specs.declared.definitions.ReceiverSettleMode.{ReceiverSettleMode}
use Rattle.amqp_types.specs.declared.definitions.ReceiverSettleMode.TheVariants.{First, Second}
use Rattle.amqp_types.specs.declared.definitions.Role.{Role}
use Rattle.amqp_types.specs.declared.definitions.Role.TheVariants.{Receiver}
use Rattle.amqp_session.specs.declared.numbers.OutputHandle.{OutputHandle}
use Rattle.amqp_session.specs.declared.flow.LinkFlow.{LinkFlow}
use Rattle.amqp_session.specs.Disposing.{HasTerminal}
use Rattle.amqp_events.specs.declared.policy.Policy.{Policy}
use Rattle.amqp_events.specs.declared.policy.Recorded.{Recorded}
use Rattle.amqp_events.specs.declared.policy.Recorded.TheVariants as recorded
use Rattle.amqp_events.specs.declared.policy.Echoed.{Echoed}
use Rattle.amqp_events.specs.declared.policy.Echoed.TheVariants as echoed

-- ---- which received deliveries are recorded

-- the mode of a delivery: that of its transfer, else that of its link
abbrev pub mode_of : ReceiverSettleMode → Option ReceiverSettleMode → ReceiverSettleMode
mode_of link (Some mode) = mode
mode_of link None = link

abbrev pub records_mode : Recorded → ReceiverSettleMode → Bool
records_mode recorded.Never mode = false
records_mode recorded.OfEitherMode mode = true
records_mode recorded.OfModeSecond First = false
records_mode recorded.OfModeSecond Second = true

abbrev pub is_unsettled : Option Bool → Bool
is_unsettled (Some settled) = not settled
is_unsettled None = true

abbrev pub is_recorded : Policy → TransferModel → Bool
is_recorded p t = is_unsettled t.settled && (not t.aborted && records_mode p.recorded (mode_of p.rcv_settle_mode t.rcv_settle_mode))

-- a delivery by its number and its tag, where the transfer has both
abbrev pub named : Option ℕ → Option (List ℕ) → Option (ℕ × DeliveryTag)
named (Some number) (Some tag) = Some (number, record { 0 = tag })
named (Some number) None = None
named None tag = None

abbrev pub opened_by : Policy → TransferModel → Option (ℕ × DeliveryTag)
opened_by p t = if is_recorded p t then named t.delivery_id t.delivery_tag else None

-- ---- which dispositions are echoed: unsettled ones of a receiving peer

abbrev pub IsEchoedState : Echoed → Option (List ℕ) → Type 0
IsEchoedState echoed.Never state = ⊥
IsEchoedState echoed.Terminal state = HasTerminal state
IsEchoedState echoed.Unsettled state = Unit {0}

abbrev pub IsEchoed : Echoed → Role → Bool → Option (List ℕ) → Type 0
IsEchoed e role settled state = (role ≡ Receiver) × (settled ≡ false) × IsEchoedState e state

-- ---- what is answered

abbrev pub flow_answer : Policy → OutputHandle → LinkFlow → Option LinkFlow
flow_answer p output f =
    if p.answers_flows && f.echo
    then Some (record f { handle = record { 0 = output.0 }; echo = false; properties = None })
    else None

abbrev pub detach_answer : Policy → OutputHandle → DetachModel → Bool → Option DetachModel
detach_answer p output d remote_initiated =
    if p.answers_detaches && remote_initiated
    then Some (record { handle = output.0; closed = d.closed; error = None })
    else None
