-- Part: other calls.
-- A relay without a sink: what it answers is its policy's, and it keeps the number of the delivery that is under way.
use Rattle.std.specs.Prelude.{◌≡◌, ℕ, ◌&&◌, not, Option, Some, None, Result, Ok, Err, IsSome, if◌then◌else◌}
use Rattle.amqp_memory.specs.Refusal.{SomeRefused}
use Rattle.amqp_types.specs.Transfer.{TransferModel}
use Rattle.amqp_types.specs.declared.definitions.Role.{Role}
use Rattle.amqp_types.specs.declared.definitions.Role.TheVariants.{Sender, Receiver}
use Rattle.amqp_types.specs.declared.definitions.DeliveryTag.{DeliveryTag}
use Rattle.amqp_session.specs.declared.error.LinkRelayError.{LinkRelayError}
use Rattle.amqp_session.specs.declared.error.LinkRelayError.TheVariants as refused
use Rattle.amqp_events.specs.Policy.{opened_by}
use Rattle.amqp_driver.specs.declared.plain.PlainRelay.{PlainRelay}

abbrev pub first_known : Option ℕ → Option ℕ → Option ℕ
first_known (Some n) old = Some n
first_known None old = old

-- while more of its transfers follow
abbrev pub under_way_after : Option ℕ → TransferModel → Option ℕ
under_way_after old t = if t.more && not t.aborted then first_known t.delivery_id old else None

-- A sending end refuses each transfer; a receiving one names its delivery as the policy has it, or lacks memory to share the tag.
abbrev pub TransferAt : Role → PlainRelay → TransferModel → Result (Option (ℕ × DeliveryTag)) LinkRelayError → PlainRelay → Type 0
TransferAt Sender old t result new = (result ≡ Err refused.TransferFrameToSender) × (new ≡ old)
TransferAt Receiver old t (Ok named) new = (named ≡ opened_by old.policy t) × (new ≡ record old { under_way = under_way_after old.under_way t })
TransferAt Receiver old t (Err refused.OutOfMemory) new = IsSome (opened_by old.policy t) × (new ≡ old) × SomeRefused
TransferAt Receiver old t (Err e) new = ⊥
