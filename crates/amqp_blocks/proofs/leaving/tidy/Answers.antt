use Rattle.std.proofs.Common.{ℕ, ◌<◌, ◌≤◌, List, length, ap, sym, subst, ◌∙◌, arith, slice_index}
use Rattle.amqp_blocks.proofs.PlaceLemmas.{ends_long}
use Rattle.amqp_blocks.proofs.LeaveLemmas.{sweep_is, settle_is, ends_low}
use Rattle.amqp_blocks.proofs.leaving.tidy.Goals as goal

pub sweep-requires-clause-ends : goal.sweep-requires-clause-ends
sweep-requires-clause-ends g c = ends_long c.args.base c.args.blocks.now.items c.args.ends.now.items c.requires.stops

pub settle-requires : goal.settle-requires
settle-requires g c =
    let s = sweep_is c.args.base c.args.blocks.now.items c.sweep.new.blocks.items c.args.ends.now.items c.sweep.new.ends.items c.args.block c.requires.some c.requires.block c.requires.stops c.sweep.ensures.swept in
    record { enough = subst (λ (ks : List ℕ). (i : ℕ) → i < length ks → c.args.base ≤ slice_index ks i) (sym s.ends) (ends_low c.args.base c.sweep.new.blocks.items) }

pub returns : goal.returns
returns g c =
    let s = sweep_is c.args.base c.args.blocks.now.items c.sweep.new.blocks.items c.args.ends.now.items c.sweep.new.ends.items c.args.block c.requires.some c.requires.block c.requires.stops c.sweep.ensures.swept in
    let t = settle_is c.args.base c.settle.result c.sweep.new.blocks.items c.sweep.new.ends.items c.settle.new.ends.items s.ends c.settle.ensures.small c.settle.ensures.large in
    record {
      chunked = record {
        stops = t.0;
        some = s.some;
        low = t.1;
        few = omega (arith, ap length s.items, c.requires.few);
      };
      items = s.items;
      spares = c.sweep.ensures.spares;
      count = c.sweep.ensures.count;
      rings = c.sweep.ensures.rings;
      kept = c.sweep.ensures.kept;
      capacity = (c.sweep.ensures.capacity.0, c.settle.ensures.capacity ∙ c.sweep.ensures.capacity.1);
    }
