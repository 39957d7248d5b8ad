use Rattle.std.proofs.Common.{◌∙◌, List, ℕ, length, sym, ap, ltb, not}
use Rattle.std.proofs.Math.Numerals.{add-one}
use Rattle.amqp_values.proofs.ArrayItemLemmas.{all_more, all_fails, whole}
use Rattle.amqp_values.proofs.array.is_long.Goals as goal

pub loop-symbol-preserved : goal.loop-symbol-preserved
loop-symbol-preserved c = rw add-one (all_more (λ (s : List ℕ). ltb (length s) 256) c.args.items.now c.loop-symbol.symbol-index c.symbol-item.result c.loop-symbol.invariant c.loop-symbol-test.true c.symbol-item.is (sym c.is_short.ensures ∙ c.if-not-is_short.false))

pub returns-then-not-is_short : goal.returns-then-not-is_short
returns-then-not-is_short c =
    ap not (sym (all_fails (λ (s : List ℕ). ltb (length s) 256) c.args.items.now c.loop-symbol.symbol-index c.symbol-item.result c.loop-symbol-test.true c.symbol-item.is (sym c.is_short.ensures ∙ c.if-not-is_short.true)))

pub returns : goal.returns
returns c = ap not (sym (whole (λ (s : List ℕ). ltb (length s) 256) c.args.items.now c.loop-symbol.symbol-index c.loop-symbol-test.false c.loop-symbol.invariant))
