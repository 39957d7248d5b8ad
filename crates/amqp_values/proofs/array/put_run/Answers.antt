use Rattle.std.proofs.Common.{◌++◌, List, ℕ, length, take, ap, sym, ◌∙◌, arith, append_assoc}
use Rattle.std.proofs.lemmas.List.{length-append}
use Rattle.amqp_values.specs.Writing.{item_text, run_text}
use Rattle.amqp_values.proofs.ArrayItemLemmas.{short_item}
use Rattle.amqp_values.proofs.WrittenPartLemmas.{joined_more, room_for}
use Rattle.amqp_values.proofs.array.put_run.Goals as goal

pub put_item-requires-clause-room : goal.put_item-requires-clause-room
put_item-requires-clause-room c = omega (arith, room_for (item_text c.args.long) c.args.items.now c.loop-symbol.symbol-index c.symbol-item.result c.loop-symbol-test.true c.symbol-item.is)

pub put_item-requires-clause-short : goal.put_item-requires-clause-short
put_item-requires-clause-short c = λ f. short_item c.args.items.now c.args.long c.loop-symbol.symbol-index c.symbol-item.result c.requires.short f c.loop-symbol-test.true c.symbol-item.is

pub loop-symbol-preserved : goal.loop-symbol-preserved
loop-symbol-preserved c =
    let xs = c.args.items.now in
    let i = c.loop-symbol.symbol-index in
    let s = c.symbol-item.result in
    let before : List ℕ = run_text c.args.long (take i xs) in
    let text : List ℕ = item_text c.args.long s in
    let m = joined_more (item_text c.args.long) xs i s c.loop-symbol-test.true c.symbol-item.is in
    let len = ap length m ∙ length-append before text in
    record {
      items_are = c.put_item.ensures.items ∙ ap (λ (r : List ℕ). r ++ text) c.loop-symbol.invariant.items_are
          ∙ append_assoc c.args.out.now.items before text ∙ ap (λ (r : List ℕ). c.args.out.now.items ++ r) (sym m);
      spare_is = omega (arith, len, c.put_item.ensures.spare, c.loop-symbol.invariant.spare_is);
    }
