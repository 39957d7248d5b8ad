use Rattle.std.proofs.Common.{◌≡◌, length, rules}
use Rattle.amqp_frames.proofs.SentFrameLemmas.{counted}
use Rattle.amqp_frames.proofs.laying.pieces_room.Goals as goal

pub returns-clause-value : goal.returns-clause-value
returns-clause-value c =
    let none : length c.loop-rest.rest.now ≡ 0 = search rules in
    counted c.args.most c.loop-rest.total c.loop-rest.rest.now c.args.pieces.now none c.loop-rest.invariant.1 c.loop-rest.invariant.0
