use Rattle.std.proofs.Common.{arith, refl, sym, append-nil, inl, inr, Err}
use Rattle.amqp_session.specs.declared.error.SessionInnerError.TheVariants as Refused
use Rattle.amqp_session.proofs.PairRoomLemmas.{transfer_few}
use Rattle.amqp_session.proofs.pair.calls.transfer_at.Goals as goal

pub returns-then-not-can_send : goal.returns-then-not-can_send
returns-then-not-can_send g c = inr record {
  item = Err Refused.IllegalState;
  makes = ((inl (sym c.if-not-can_send.ensures), refl), sym (append-nil _));
  says = refl;
}

pub returns-then-is_untagged : goal.returns-then-is_untagged
returns-then-is_untagged g c = inr record {
  item = Err Refused.IllegalState;
  makes = ((inr (c.if-is_untagged.ensures.untagged refl), refl), sym (append-nil _));
  says = refl;
}

pub put-requires : goal.put-requires
put-requires g c =
    let few = transfer_few _ _ _ _ c.in-Ok-on_outgoing_transfer.ensures.step in
    let room = c.in-Ok.ensures.room in
    omega (arith, few, room)
