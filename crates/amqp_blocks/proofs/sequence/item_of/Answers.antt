use Rattle.std.proofs.Common.{refl}
use Rattle.amqp_blocks.proofs.PlaceLemmas.{item_at}
use Rattle.amqp_blocks.proofs.sequence.item_of.Goals as goal

pub returns : goal.returns
returns g c = record { value = item_at c.args.blocks.now.items c.args.place.block c.args.place.at _ c.index.result.now c.index-2.result.now c.requires.block c.index.ensures refl (c.requires.at c.index.result.now c.index.ensures) c.index-2.ensures }
