use Rattle.std.proofs.Common.{take}
use Rattle.amqp_values.specs.Inner.Held.{AreSymbols}
use Rattle.amqp_types.proofs.value_bounds.symbols.Given as goal

abbrev pub invariant-loop-symbol : goal.invariant-loop-symbol
invariant-loop-symbol l = AreSymbols (take l.symbol-index l.symbols)
