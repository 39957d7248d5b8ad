use Rattle.std.proofs.Common.{arith}
use Rattle.std.proofs.lemmas.Result.{on_ok_weaker}
use Rattle.amqp_blocks.proofs.room.make_slots.Goals as goal

pub returns-clause-ok : goal.returns-clause-ok
returns-clause-ok g c = on_ok_weaker c.more_in_vector-2.result (λ w. (
  omega (arith, c.in_ok-more_in_vector.ensures.ok, c.more_in_vector.new.vector.ok.0),
  omega (arith, c.in_ok-reserve.ensures.room),
  omega (arith, w),
)) c.more_in_vector-2.ensures.ok
