use Rattle.std.proofs.Common.{◌+◌, ◌∷◌, length, ap, sym, subst, ◌∙◌, refl, arith, length-set}
use Rattle.amqp_blocks.specs.Chunked.{items_of, ends_from}
use Rattle.amqp_blocks.specs.Inner.Changes.{EachSomeBut}
use Rattle.amqp_blocks.proofs.LeaveLemmas.{ends_risen, items_popped, some_but_set, some_at}
use Rattle.amqp_blocks.proofs.leaving.pop.Goals as goal

pub pop_first-item-requires-clause-some : goal.pop_first-item-requires-clause-some
pop_first-item-requires-clause-some g c = λ b e. (some_at c.args.blocks.now.items 0 b c.requires.chunked.some c.requires.some e).0

pub overflow_add-base : goal.overflow_add-base
overflow_add-base g c = omega (arith, c.requires.chunked.low)

pub tidy-base-requires : goal.tidy-base-requires
tidy-base-requires g c =
    let bs = c.args.blocks.now.items in
    let v = c.requires.chunked in
    let t = c.pop_first-item.ensures.popped in
    let size = ap length t.items in
    let big = some_at bs 0 t.from v.some c.requires.some t.was in
    let items = items_popped bs 0 t.from t.to c.pop_first-item.result refl c.requires.some t.was t.items in
    record {
      stops = v.stops ∙ sym (ends_risen c.args.base bs 0 1 t.from t.to refl c.requires.some t.was (omega (arith, size))) ∙ ap (ends_from (c.args.base + 1)) (sym t.set);
      some = subst (λ xs. EachSomeBut xs 0) (sym t.set) (some_but_set bs 0 t.to v.some (omega (arith, size, big.1)));
      few = omega (arith, ap length items, ap length (ap items_of t.set), v.few);
      block = omega (arith, ap length t.set, length-set bs 0 t.to, c.requires.some);
      spares = c.requires.spares;
    }

pub returns : goal.returns
returns g c =
    let bs = c.args.blocks.now.items in
    let t = c.pop_first-item.ensures.popped in
    let e = c.tidy-base.ensures in
    let items = items_popped bs 0 t.from t.to c.pop_first-item.result refl c.requires.some t.was t.items in
    let count = ap length t.set ∙ length-set bs 0 t.to in
    record {
      chunked = e.chunked;
      items = items ∙ ap (λ xs. c.pop_first-item.result ∷ xs) (sym (e.items ∙ ap items_of t.set));
      spares = e.spares;
      count = omega (arith, e.count, count);
      rings = omega (arith, e.rings, count);
      kept = e.kept;
      capacity = (e.capacity.0 ∙ c.pop_first-item.ensures.capacity, e.capacity.1);
    }
