use Rattle.std.proofs.Common.{sym, subst, refl, ◌∙◌, None, false}
use Rattle.amqp_types.specs.declared.performatives.Performative.TheVariants as performative
use Rattle.amqp_types.specs.declared.performatives.kind.Kind.TheVariants as kind
use Rattle.amqp_types.specs.Disposition.{IsDispositionBody, disposition_body_at}
use Rattle.amqp_frames.specs.declared.frame.Frame.{Frame}
use Rattle.amqp_frames.specs.declared.frame.FrameBody.TheVariants as body
use Rattle.amqp_driver.specs.declared.told.Told.{Told}
use Rattle.amqp_driver.specs.Driver.{Tells}
use Rattle.amqp_driver.proofs.FieldLemmas.{link_of_disposition, read_fields, unread_fields}
use Rattle.amqp_driver.proofs.RunLemmas.{told_same, tells_frame}
use Rattle.amqp_driver.proofs.driver.Driver.tell_disposition.Goals as goal

pub returns-in-Err : goal.returns-in-Err
returns-in-Err g c = λ bytes opened. c.tell_unread.ensures bytes
    (rw c.from.ensures (unread_fields IsDispositionBody disposition_body_at c.lists_are_read.ensures.of_disposition (λ p. performative.Disposition p) kind.Disposition (λ b f r x. x)
    bytes c.args.fields c.read_list.new.bytes c.args.channel c.in-Err.error opened c.in-Err.ensures))

pub returns : goal.returns
returns g c = λ bytes opened.
    let f : Frame = record { channel = c.args.channel; body = body.Disposition c.in-Ok.disposition } in
    subst (λ (t : Told). Tells g.R.LinkRelay.gives c.args.self.now bytes c.args.at c.args.size t c.run_disposition-answer.new.self)
    (sym (c.told_of.ensures ∙ told_same c.args.self.now f c.args.at c.args.size c.run_disposition-answer.result _ None false false
    c.of_disposition-said.result c.route_on-route.ensures (link_of_disposition c.in-Ok.disposition _) refl refl c.of_disposition-said.ensures))
    (tells_frame g.R.LinkRelay.gives c.args.self.now c.run_disposition-answer.new.self f c.args.at c.args.size c.run_disposition-answer.result c.run_disposition-answer.ensures bytes
    (read_fields IsDispositionBody disposition_body_at c.lists_are_read.ensures.of_disposition (λ p. performative.Disposition p) kind.Disposition (λ b f r x. x) (λ b f r x. x)
    bytes c.args.fields c.read_list.new.bytes c.args.channel c.in-Ok.disposition opened c.in-Ok.ensures))
