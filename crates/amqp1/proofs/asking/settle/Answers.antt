use Rattle.std.proofs.Common.{refl, sym}
use Rattle.amqp1.proofs.asking.settle.Goals as goal

pub returns : goal.returns
returns g c = record {
  session = c.in-Some.session;
  role_byte = c.in-Some-byte.role;
  role = c.in-Some-role.role;
  first = c.in-Some-number.first;
  last = c.in-Some-number-2.last;
  after = c.in-Some.after.now;
  numbers = c.in-Some-byte.numbers.now;
  rest = c.in-Some-number.rest.now;
  has_session = sym c.in-Some.ensures;
  has_role = sym c.in-Some-byte.ensures;
  role_is = sym c.in-Some-role.ensures;
  has_first = sym c.in-Some-number.ensures;
  has_last = c.in-Some-number-2.ensures;
  input_is = refl;
}
