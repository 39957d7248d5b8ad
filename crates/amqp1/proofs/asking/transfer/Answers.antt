use Rattle.std.proofs.Common.{refl, sym}
use Rattle.amqp1.specs.Asking.{AsksTransfer}
use Rattle.amqp1.specs.Reading.{HasTransfer}
use Rattle.amqp1.proofs.AskingLemmas.{transfer_after, none_of}
use Rattle.amqp1.proofs.asking.transfer.Goals as goal

pub returns-in-Ok : goal.returns-in-Ok
returns-in-Ok g c = record {
  flag = c.in-Some.flag;
  first = c.in-Some-flag.first;
  count = c.in-Some-number.count;
  rest = c.in-Some.rest.now;
  parts = c.in-Some-number.parts.now;
  transfer = (c.in-Ok.transfer, c.in-Ok.payload);
  has_flag = sym c.in-Some.ensures;
  first_is = sym c.in-Some-flag.ensures;
  has_count = sym c.in-Some-number.ensures;
  has_transfer = c.in-Ok.ensures;
  input_is = refl;
}

pub returns-in-Err : goal.returns-in-Err
returns-in-Err g c = none_of (HasTransfer c.in-Some-number.count c.in-Some-number.parts.now) (AsksTransfer c.args.session c.args.input.now) c.in-Err.error
    (transfer_after c.args.session c.args.input.now c.in-Some.flag c.in-Some-number.count c.in-Some.rest.now c.in-Some-number.parts.now
    (sym c.in-Some.ensures) (sym c.in-Some-number.ensures)) c.in-Err.ensures
