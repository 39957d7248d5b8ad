-- How the fields of each kind are read, and the body that they say.
use Rattle.std.proofs.Common.{ℕ, List, [], Option, Some}
use Rattle.amqp_values.specs.Slots.{PartsLeft}
use Rattle.amqp_values.proofs.SlotLemmas.{IsBody}
use Rattle.amqp_types.specs.declared.performatives.kind.Kind.{Kind}
use Rattle.amqp_types.specs.declared.performatives.kind.Kind.TheVariants as kind
use Rattle.amqp_types.specs.Open.{OpenModel, IsOpenBody, open_body_at}
use Rattle.amqp_types.specs.Begin.{BeginModel, IsBeginBody, begin_body_at}
use Rattle.amqp_types.specs.Attach.{AttachModel, IsAttachBody, attach_body_at}
use Rattle.amqp_types.specs.Flow.{FlowModel, IsFlowBody, flow_body_at}
use Rattle.amqp_types.specs.Transfer.{TransferModel, IsTransferBody, transfer_body_at}
use Rattle.amqp_types.specs.Disposition.{DispositionModel, IsDispositionBody, disposition_body_at}
use Rattle.amqp_types.specs.Detach.{DetachModel, IsDetachBody, detach_body_at}
use Rattle.amqp_types.specs.End.{EndModel, IsEndBody, end_body_at}
use Rattle.amqp_types.specs.Close.{CloseModel, IsCloseBody, close_body_at}
use Rattle.amqp_types.proofs.BodyLemmas.{open_body, begin_body, attach_body, flow_body, transfer_body, disposition_body, detach_body, end_body, close_body}
use Rattle.amqp_frames.specs.declared.frame.FrameBody.{FrameBody}
use Rattle.amqp_frames.specs.declared.frame.FrameBody.TheVariants as body
use Rattle.amqp_frames.specs.Head.{IsFields, IsBodyOf}

-- the grammar of a kind's fields, their reader with its law, and the body that they say, with the bytes after it
pub record Reads (k : Kind) (V : Type 0) : Type 1 where
  pub IsText : V → List (List ℕ) → Type 0
  pub reader : PartsLeft → Option (V × PartsLeft)
  pub law : IsBody IsText reader
  pub says : V → List ℕ → FrameBody × List ℕ
  pub is_fields : (b : FrameBody) (fields rest : List ℕ) → IsBodyOf (Some k) b fields rest → IsFields IsText says b fields rest
  pub is_body : (b : FrameBody) (fields rest : List ℕ) → IsFields IsText says b fields rest → IsBodyOf (Some k) b fields rest

abbrev pub open_fields : Reads kind.Open OpenModel
open_fields = record { IsText = IsOpenBody; reader = open_body_at; law = open_body; says = λ p after. (body.Open p, after); is_fields = λ b f r x. x; is_body = λ b f r x. x }

abbrev pub begin_fields : Reads kind.Begin BeginModel
begin_fields = record { IsText = IsBeginBody; reader = begin_body_at; law = begin_body; says = λ p after. (body.Begin p, after); is_fields = λ b f r x. x; is_body = λ b f r x. x }

abbrev pub attach_fields : Reads kind.Attach AttachModel
attach_fields = record { IsText = IsAttachBody; reader = attach_body_at; law = attach_body; says = λ p after. (body.Attach p, after); is_fields = λ b f r x. x; is_body = λ b f r x. x }

abbrev pub flow_fields : Reads kind.Flow FlowModel
flow_fields = record { IsText = IsFlowBody; reader = flow_body_at; law = flow_body; says = λ p after. (body.Flow p, after); is_fields = λ b f r x. x; is_body = λ b f r x. x }

abbrev pub transfer_fields : Reads kind.Transfer TransferModel
transfer_fields = record { IsText = IsTransferBody; reader = transfer_body_at; law = transfer_body; says = λ p after. (body.Transfer p after, []); is_fields = λ b f r x. x; is_body = λ b f r x. x }

abbrev pub disposition_fields : Reads kind.Disposition DispositionModel
disposition_fields = record { IsText = IsDispositionBody; reader = disposition_body_at; law = disposition_body; says = λ p after. (body.Disposition p, after); is_fields = λ b f r x. x; is_body = λ b f r x. x }

abbrev pub detach_fields : Reads kind.Detach DetachModel
detach_fields = record { IsText = IsDetachBody; reader = detach_body_at; law = detach_body; says = λ p after. (body.Detach p, after); is_fields = λ b f r x. x; is_body = λ b f r x. x }

abbrev pub end_fields : Reads kind.End EndModel
end_fields = record { IsText = IsEndBody; reader = end_body_at; law = end_body; says = λ p after. (body.End p, after); is_fields = λ b f r x. x; is_body = λ b f r x. x }

abbrev pub close_fields : Reads kind.Close CloseModel
close_fields = record { IsText = IsCloseBody; reader = close_body_at; law = close_body; says = λ p after. (body.Close p, after); is_fields = λ b f r x. x; is_body = λ b f r x. x }
