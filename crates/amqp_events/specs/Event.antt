-- Part: other calls.
-- Events: their kinds, and what each call of a relay makes one of.
use Rattle.std.specs.Prelude.{ℕ, List, Bool, Option, Some}
use Rattle.amqp_types.specs.Attach.{AttachModel}
use Rattle.amqp_types.specs.Detach.{DetachModel}
use Rattle.amqp_types.specs.Transfer.{TransferModel}
use Rattle.amqp_types.specs.declared.definitions.Role.{Role}
use Rattle.amqp_types.specs.declared.definitions.DeliveryTag.{DeliveryTag}
use Rattle.amqp_session.specs.declared.numbers.OutputHandle.{OutputHandle}
use Rattle.amqp_session.specs.declared.flow.LinkFlow.{LinkFlow}
use Rattle.amqp_events.specs.declared.event.LinkNames.{LinkNames}
use Rattle.amqp_events.specs.declared.event.Event.{Event}
use Rattle.amqp_events.specs.declared.event.EventBody.{EventBody}
use Rattle.amqp_events.specs.declared.event.EventBody.TheVariants as body
use Rattle.amqp_events.specs.declared.event.EventKind.{EventKind}
use Rattle.amqp_events.specs.declared.event.EventKind.TheVariants as kind

abbrev pub kind_of : EventBody → EventKind
kind_of (body.Attached attach) = kind.Link
kind_of (body.Flow flow) = kind.Flow
kind_of (body.Transfer t payload) = kind.Transfer
kind_of (body.Disposition role settled state tag) = kind.Disposition
kind_of (body.Detached detach remote_initiated) = kind.Link

-- ---- how a link is named

-- by the handle in a frame of the peer's
abbrev pub under : ℕ → LinkNames → LinkNames
under input link = record link { input = Some (record { 0 = input }) }

-- and by the output handle that a relay is told beside it
abbrev pub under_both : ℕ → OutputHandle → LinkNames → LinkNames
under_both input output link = record (under input link) { output = Some output }

-- ---- the event of each call, by the names that were known before it

abbrev pub attached : LinkNames → AttachModel → Event
attached link a = record { link = under a.handle link; body = body.Attached a }

abbrev pub flowed : LinkNames → OutputHandle → LinkFlow → Event
flowed link output f = record { link = under_both f.handle.0 output link; body = body.Flow f }

abbrev pub transferred : LinkNames → TransferModel → List ℕ → Event
transferred link t payload = record { link = under t.handle link; body = body.Transfer t payload }

abbrev pub disposed : LinkNames → Role → Bool → Option (List ℕ) → DeliveryTag → Event
disposed link role settled state tag = record { link = link; body = body.Disposition role settled state tag }

abbrev pub detached : LinkNames → OutputHandle → DetachModel → Bool → Event
detached link output d remote_initiated = record { link = under_both d.handle output link; body = body.Detached d remote_initiated }
