-- Part: other calls.
-- What the relay of a transcript answers.
use Rattle.std.specs.Prelude.{ℕ, List, Bool, true, false, Option, Some, None, if◌then◌else◌}
use Rattle.amqp_types.specs.declared.definitions.DeliveryTag.{DeliveryTag}
use Rattle.amqp_types.specs.Detach.{DetachModel}
use Rattle.amqp_types.specs.Transfer.{TransferModel}
use Rattle.amqp_session.specs.declared.flow.LinkFlow.{LinkFlow}
use Rattle.amqp_session.specs.declared.numbers.OutputHandle.{OutputHandle}

-- the same flow on the output handle, where an echo is asked for
abbrev pub echo_of : OutputHandle → LinkFlow → Option LinkFlow
echo_of handle flow = if flow.echo then Some (record flow { handle = record { 0 = handle.0 }; echo = false }) else None

abbrev pub named : Option ℕ → Option (List ℕ) → Option (ℕ × DeliveryTag)
named (Some number) (Some tag) = Some (number, record { 0 = tag })
named None tag = None
named number None = None

-- an unsettled transfer with a number and a tag opens a delivery
abbrev pub opened_unless : Option Bool → Option (ℕ × DeliveryTag) → Option (ℕ × DeliveryTag)
opened_unless (Some true) delivery = None
opened_unless (Some false) delivery = delivery
opened_unless None delivery = delivery

abbrev pub opened_by : TransferModel → Option (ℕ × DeliveryTag)
opened_by t = opened_unless t.settled (named t.delivery_id t.delivery_tag)

-- a detach that the peer began is answered on the output handle
abbrev pub answer_of : OutputHandle → DetachModel → Bool → Option DetachModel
answer_of handle detach true = Some (record { handle = handle.0; closed = detach.closed; error = None })
answer_of handle detach false = None
