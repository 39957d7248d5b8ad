use Rattle.std.proofs.Common.{sym, subst, arith}
use Rattle.amqp_blocks.specs.Chunked.{EachSpare}
use Rattle.amqp_blocks.proofs.RoomLemmas.{spares_push}
use Rattle.amqp_blocks.proofs.leaving.keep.Goals as goal

pub returns-then-capacity-least-clause-spares : goal.returns-then-capacity-least-clause-spares
returns-then-capacity-least-clause-spares g c =
    subst EachSpare (sym c.push_reserved.ensures.items) (spares_push c.args.spare.now.items c.args.ring c.requires.spares c.requires.empty (omega (arith, c.requires.least)))
