use Rattle.std.proofs.Common.{◌≡◌, Some, Ok, Err, refl, ap}
use Rattle.amqp_types.specs.Transfer.{TransferModel}
use Rattle.amqp_session.proofs.FlowLemmas.{sender_room_taken, named_is}
use Rattle.amqp_session.proofs.session.Session.take_transfer_if_room.Goals as goal

pub returns-in-Ok-Err-clause-step : goal.returns-in-Ok-Err-clause-step
returns-in-Ok-Err-clause-step g c =
    let a = rw c.in-Ok-Err.field-0-is at c.in-Ok-Err.ensures.asked in
    rw (← c.self.view_is, a.put, c.count-in-Ok-Err.ensures, c.refused_by_relay.ensures) (
      Some (record { before = a.before; handle = a.handle; asked = (c.args.transfer, c.args.payload); answer = Err c.in-Ok-Err.error; after = a.after }),
      (refl, record { attached = a.attached; stands = a.stands }, (refl, sender_room_taken _ _ c.ask_transfer-asked.ensures.rows)),
    )

pub returns-in-Ok-Ok-clause-step : goal.returns-in-Ok-Ok-clause-step
returns-in-Ok-Ok-clause-step g c =
    let a = rw c.in-Ok-Ok.field-0-is at c.in-Ok-Ok.ensures.asked in
    let handle : c.transfer.inside.handle.0 ≡ c.args.transfer.handle = ap (λ (t : TransferModel). t.handle) c.transfer.view_is in
    let fits = rw handle at c.record_named.ensures.fits in
    let rows = rw handle at c.record_named.ensures.rows in
    rw (← c.self.view_is, a.put, c.count-in-Ok-Ok.ensures) (
      Some (record { before = a.before; handle = a.handle; asked = (c.args.transfer, c.args.payload); answer = Ok c.in-Ok-Ok.named; after = a.after }),
      (refl, record { attached = a.attached; stands = a.stands }, (fits, refl, named_is _ _ _ _ _ rows c.ask_transfer-asked.ensures.rows)),
    )
