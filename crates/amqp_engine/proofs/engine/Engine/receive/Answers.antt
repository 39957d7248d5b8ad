use Rattle.std.proofs.Common.{None, Some, [], refl, sym, ap, subst, inl, inr}
use Rattle.amqp_types.specs.declared.performatives.kind.Kind.TheVariants as kind
use Rattle.amqp_frames.proofs.FrameHeadLemmas.{not_opened}
use Rattle.amqp_frames.specs.declared.frame.FrameBody.TheVariants.{Empty}
use Rattle.amqp_connection.specs.Connection.{refusal_of}
use Rattle.amqp_engine.specs.Engine.{NoneReceived}
use Rattle.amqp_engine.proofs.ReceivedFieldsLemmas.{received, at_kind, of_kind, fields_kept}
use Rattle.amqp_engine.proofs.engine.Engine.receive.Goals as goal

pub returns-in-Err : goal.returns-in-Err
returns-in-Err g c = (
  None,
  None,
  [],
  c.args.self.now,
  inl (subst (λ x. NoneReceived c.args.bytes x) (sym (ap refusal_of c.no_frame.ensures)) (not_opened c.args.bytes _ c.in-Err.ensures), refl, ((refl, refl), refl)),
  refl,
)

pub returns-in-None : goal.returns-in-None
returns-in-None g c =
    let head = c.in-Ok.head in
    rw c.requires.clear (received g.R.LinkRelay.gives c.args.self.now c.args.self.now c.args.bytes c.head.new.bytes head None c.in-Ok.ensures
    (at_kind g.R.LinkRelay.gives c.args.self.now c.args.self.now head.channel head.kind None c.head.new.bytes None c.in-None.is
    (Some (record { channel = head.channel; body = Empty }), None, [], c.args.self.now, inr (Empty, [], (refl, refl), refl, (((refl, refl), refl), refl)), refl)))

pub returns-in-Some-Transfer : goal.returns-in-Some-Transfer
returns-in-Some-Transfer g c =
    of_kind g.R.LinkRelay.gives c.args.self.now c.receive_transfer.new.self c.args.bytes c.head.new.bytes c.in-Ok.head _ kind.Transfer _
    c.in-Ok.ensures c.in-Some-Transfer.is (rw c.in-Some-Transfer.is at c.in-Some-Transfer.field-0-is) (fields_kept g.R.LinkRelay.gives kind.Transfer tt c.args.self.now c.receive_transfer.new.self c.in-Ok.head.channel c.head.new.bytes _ c.receive_transfer.ensures)

pub returns-in-Some-Disposition : goal.returns-in-Some-Disposition
returns-in-Some-Disposition g c =
    of_kind g.R.LinkRelay.gives c.args.self.now c.receive_disposition.new.self c.args.bytes c.head.new.bytes c.in-Ok.head _ kind.Disposition _
    c.in-Ok.ensures c.in-Some-Disposition.is (rw c.in-Some-Disposition.is at c.in-Some-Disposition.field-0-is) (fields_kept g.R.LinkRelay.gives kind.Disposition tt c.args.self.now c.receive_disposition.new.self c.in-Ok.head.channel c.head.new.bytes _ c.receive_disposition.ensures)

pub returns-in-Some-Flow : goal.returns-in-Some-Flow
returns-in-Some-Flow g c =
    of_kind g.R.LinkRelay.gives c.args.self.now c.receive_flow.new.self c.args.bytes c.head.new.bytes c.in-Ok.head _ kind.Flow _
    c.in-Ok.ensures c.in-Some-Flow.is (rw c.in-Some-Flow.is at c.in-Some-Flow.field-0-is) (fields_kept g.R.LinkRelay.gives kind.Flow tt c.args.self.now c.receive_flow.new.self c.in-Ok.head.channel c.head.new.bytes _ c.receive_flow.ensures)

pub returns-in-Some : goal.returns-in-Some
returns-in-Some g c =
    of_kind g.R.LinkRelay.gives c.args.self.now c.receive_any.new.self c.args.bytes c.head.new.bytes c.in-Ok.head _ c.in-Some.kind _
    c.in-Ok.ensures c.in-Some.is refl c.receive_any.ensures
