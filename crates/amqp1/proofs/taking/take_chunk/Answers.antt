use Rattle.std.proofs.Common.{refl}
use Rattle.amqp1.proofs.TakingLemmas.{front_taken}
use Rattle.amqp1.proofs.taking.take_chunk.Goals as goal

pub returns-clause-taken : goal.returns-clause-taken
returns-clause-taken g c = front_taken c.args.stream.now c.sent.new.self c.args.at c.min-count.result c.out-chunk.result.now c.out-chunk.ensures.front.0 _
    c.args.output.now _ c.out-chunk.ensures.beat c.out-chunk.ensures.front.1 c.out-chunk.ensures.some c.requires.some c.requires.room c.min-count.ensures
    refl c.fill.ensures c.sent.ensures
