use Rattle.std.proofs.Common.{List, ℕ, refl, sym, subst}
use Rattle.std.specs.Prelude.{Ok, Some}
use Rattle.amqp_types.specs.declared.performatives.Performative.TheVariants as performative
use Rattle.amqp_types.specs.declared.performatives.kind.Kind.TheVariants as kind
use Rattle.amqp_types.specs.Transfer.{IsTransferBody, transfer_body_at}
use Rattle.amqp_frames.specs.declared.frame.FrameBody.TheVariants.{Transfer}
use Rattle.amqp_frames.specs.declared.error.Error.{Error}
use Rattle.amqp_frames.specs.Frame.{body_of}
use Rattle.amqp_frames.specs.Head.{NoBodyOf, ReadsBodyOf}
use Rattle.amqp_frames.proofs.FrameHeadLemmas.{body_read, body_not_read}
use Rattle.amqp_frames.proofs.decoder.read_transfer.Goals as goal

pub returns-in-Err : goal.returns-in-Err
returns-in-Err c =
    subst (λ (e : Error). NoBodyOf (Some kind.Transfer) c.args.fields e) (sym c.from.ensures)
    (body_not_read IsTransferBody transfer_body_at c.lists_are_read.ensures.of_transfer (λ p after. body_of (performative.Transfer p) after) kind.Transfer (λ b f r x. x) c.args.fields c.read_list.new.bytes c.in-Err.error c.in-Err.ensures)

pub returns : goal.returns
returns c = (
  refl,
  subst (λ (x : List ℕ). ReadsBodyOf (Some kind.Transfer) c.args.fields (Ok (Transfer c.in-Ok.performative c.read_list.new.bytes, x))) (sym c.new.ensures)
      (body_read IsTransferBody transfer_body_at c.lists_are_read.ensures.of_transfer (λ p after. body_of (performative.Transfer p) after) kind.Transfer (λ b f r x. x) (λ b f r x. x) c.args.fields c.read_list.new.bytes c.in-Ok.performative c.in-Ok.ensures),
)
