use Rattle.std.proofs.Common.{inl, inr}
use Rattle.amqp_driver.proofs.turning.begin_session.Goals as goal

-- the engine's own Begin did not come out
pub returns-in-Err-own_begin : goal.returns-in-Err-own_begin
returns-in-Err-own_begin g c = (c.step.new.self, c.in_default.ensures, inl c.in-Err-own_begin.ensures)

-- each part is a call's
pub returns-in-Ok-turn_both : goal.returns-in-Ok-turn_both
returns-in-Ok-turn_both g c = record {
  remote = c.in-Ok.read.0;
  theirs = c.in-Ok.read.1;
  own = c.in-Ok-own_begin.own;
  between = c.step.new.self;
  read = c.in-Ok.ensures;
  stepped = c.in_default.ensures;
  put = c.in-Ok-own_begin.ensures;
  turned = c.in-Ok-turn_both.ensures;
}

-- one of the two could not be turned
pub returns-in-Err-turn_both : goal.returns-in-Err-turn_both
returns-in-Err-turn_both g c = (
  c.step.new.self,
  c.in_default.ensures,
  inr (c.in-Ok.read.0, c.in-Ok.read.1, c.in-Ok-own_begin.own, c.in-Ok.ensures, c.in-Ok-own_begin.ensures, c.in-Err-turn_both.ensures),
)
