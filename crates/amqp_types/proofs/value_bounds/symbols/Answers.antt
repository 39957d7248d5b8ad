use Rattle.std.proofs.Common.{ℕ, List, [], ◌∷◌, ◌++◌}
use Rattle.std.proofs.lemmas.List.{take_more}
use Rattle.amqp_values.specs.Text.{IsSymbolText}
use Rattle.amqp_values.specs.Inner.Held.{AreSymbols}
use Rattle.amqp_types.proofs.value_bounds.symbols.Goals as goal

one_more : (xs : List (List ℕ)) (s : List ℕ) → AreSymbols xs → IsSymbolText s → AreSymbols (xs ++ s ∷ [])
one_more [] s h t = (t, tt)
one_more (x ∷ xs) s h t = (h.0, one_more xs s h.1 t)

pub loop-symbol-preserved : goal.loop-symbol-preserved
loop-symbol-preserved c =
    let more = take_more c.args.symbols.now c.loop-symbol.symbol-index c.symbol-item.result c.loop-symbol-test.true in
    rw (more, ← c.symbol-item.is) (one_more _ _ c.loop-symbol.invariant c.as_str-text.ensures.symbol)
