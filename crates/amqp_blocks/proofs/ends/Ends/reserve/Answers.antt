use Rattle.std.proofs.Common.{arith}
use Rattle.std.proofs.lemmas.Result.{on_ok_weaker}
use Rattle.amqp_blocks.proofs.ShiftLemmas.{long}
use Rattle.amqp_blocks.proofs.ends.Ends.reserve.Goals as goal

pub returns-clause-room : goal.returns-clause-room
returns-clause-room c =
    let same = long c.self.inside.from c.self.inside.shift c.more_in_vector.new.vector.items in
    on_ok_weaker c.more_in_vector.result (λ w. omega (arith, w, same, c.more_in_vector.new.vector.ok.0)) c.more_in_vector.ensures.ok
