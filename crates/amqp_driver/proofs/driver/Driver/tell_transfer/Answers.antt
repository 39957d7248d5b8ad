use Rattle.std.proofs.Common.{ap, sym, subst, refl, ◌∙◌, false, ℕ}
use Rattle.amqp_types.specs.declared.performatives.Performative.TheVariants as performative
use Rattle.amqp_types.specs.declared.performatives.kind.Kind.TheVariants as kind
use Rattle.amqp_types.specs.Transfer.{IsTransferBody, TransferModel, transfer_body_at}
use Rattle.amqp_frames.specs.declared.frame.Frame.{Frame}
use Rattle.amqp_frames.specs.declared.frame.FrameBody.TheVariants as body
use Rattle.amqp_driver.specs.declared.told.Told.{Told}
use Rattle.amqp_driver.specs.Driver.{Tells}
use Rattle.amqp_driver.specs.Record.{bare_record, transfer_record}
use Rattle.amqp_driver.proofs.FieldLemmas.{link_of_transfer, read_fields, unread_fields}
use Rattle.amqp_driver.proofs.RunLemmas.{told_same, tells_frame}
use Rattle.amqp_driver.proofs.driver.Driver.tell_transfer.Goals as goal

pub returns-in-Err : goal.returns-in-Err
returns-in-Err g c = λ bytes opened. c.tell_unread.ensures bytes
    (rw c.from.ensures (unread_fields IsTransferBody transfer_body_at c.lists_are_read.ensures.of_transfer (λ p. performative.Transfer p) kind.Transfer (λ b f r x. x)
    bytes c.args.fields c.read_list.new.bytes c.args.channel c.in-Err.error opened c.in-Err.ensures))

pub returns : goal.returns
returns g c = λ bytes opened.
    let f : Frame = record { channel = c.args.channel; body = body.Transfer c.in-Ok.transfer c.read_list.new.bytes } in
    subst (λ (t : Told). Tells g.R.LinkRelay.gives c.args.self.now bytes c.args.at c.args.size t c.run_transfer-answer.new.self)
    (sym (c.told_of.ensures ∙ told_same c.args.self.now f c.args.at c.args.size c.run_transfer-answer.result _ c.link_at-link.result false false
    c.of_transfer-said.result c.route_on-route.ensures (link_of_transfer c.in-Ok.transfer c.read_list.new.bytes _ _ _ c.link_at-link.ensures
    (ap (λ (p : TransferModel). p.handle) c.transfer.view_is)) refl refl
    (c.of_transfer-said.ensures ∙ ap (λ (n : ℕ). transfer_record (record (bare_record c.args.at c.args.size) { channel = c.args.channel }) c.in-Ok.transfer n)
    c.len.ensures.value)))
    (tells_frame g.R.LinkRelay.gives c.args.self.now c.run_transfer-answer.new.self f c.args.at c.args.size c.run_transfer-answer.result c.run_transfer-answer.ensures bytes
    (read_fields IsTransferBody transfer_body_at c.lists_are_read.ensures.of_transfer (λ p. performative.Transfer p) kind.Transfer (λ b f r x. x) (λ b f r x. x)
    bytes c.args.fields c.read_list.new.bytes c.args.channel c.in-Ok.transfer opened c.in-Ok.ensures))
