use Rattle.std.proofs.Common.{List, ℕ, refl, sym, subst}
use Rattle.std.specs.Prelude.{Result}
use Rattle.amqp_types.specs.declared.performatives.Performative.TheVariants as performative
use Rattle.amqp_types.specs.declared.performatives.kind.Kind.TheVariants as kind
use Rattle.amqp_types.specs.Detach.{IsDetachBody, detach_body_at}
use Rattle.std.specs.Prelude.{Some}
use Rattle.amqp_frames.specs.declared.frame.Frame.{Frame}
use Rattle.amqp_frames.specs.declared.error.Error.{Error}
use Rattle.amqp_frames.specs.Frame.{body_of}
use Rattle.amqp_frames.specs.FrameError.{error_of}
use Rattle.amqp_frames.specs.Head.{ReadsFrameOf}
use Rattle.amqp_frames.proofs.DecodedFrameLemmas.{failed}
use Rattle.amqp_frames.proofs.FrameHeadLemmas.{body_read, body_not_read}
use Rattle.amqp_frames.proofs.decoder.read_detach.Goals as goal

pub returns-in_err-read_list : goal.returns-in_err-read_list
returns-in_err-read_list c =
    let e = failed c.from_residual.result (error_of c.in_err-read_list.field-0.0) c.from_residual.ensures.1 in
    subst (λ (r : Result (Frame × List ℕ) Error). ReadsFrameOf c.args.channel (Some kind.Detach) c.args.fields r) (sym e)
    (body_not_read IsDetachBody detach_body_at c.lists_are_read.ensures.of_detach (λ p after. body_of (performative.Detach p) after) kind.Detach (λ b f r x. x) c.args.fields c.read_list.new.bytes c.in_err-read_list.field-0.0 c.in_err-read_list.ensures)

pub returns : goal.returns
returns c = (refl, body_read IsDetachBody detach_body_at c.lists_are_read.ensures.of_detach (λ p after. body_of (performative.Detach p) after) kind.Detach (λ b f r x. x) (λ b f r x. x) c.args.fields c.read_list.new.bytes c.in_ok-read_list.field-0 c.in_ok-read_list.ensures)
