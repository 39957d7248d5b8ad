-- Part: inner.
-- What is known of symbols by their type.
use Rattle.std.specs.Prelude.{List, [], ◌∷◌, ℕ}
use Rattle.amqp_values.specs.Text.{IsSymbolText}

-- each of them can be written as a symbol
abbrev pub AreSymbols : List (List ℕ) → Type 0
AreSymbols [] = Unit {0}
AreSymbols (s ∷ others) = IsSymbolText s × AreSymbols others
