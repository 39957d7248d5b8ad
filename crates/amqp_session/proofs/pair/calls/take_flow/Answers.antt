use Rattle.std.proofs.Common.{arith}
use Rattle.amqp_session.proofs.PairRoomLemmas.{flow_few}
use Rattle.amqp_session.proofs.pair.calls.take_flow.Goals as goal

pub put-requires : goal.put-requires
put-requires g c =
    let few = flow_few _ _ _ _ _ _ c.in-Ok.ensures.step.1 in
    omega (arith, few, c.requires)
