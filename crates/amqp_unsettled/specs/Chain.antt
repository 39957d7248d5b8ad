-- Part: other calls.
-- Calls in a row, the oldest first, of whatever has a step for each.
use Rattle.std.specs.Prelude.{◌≡◌, List, [], ◌∷◌, ◌++◌}

-- these calls lead from one view to the other
abbrev pub Chain : {V C : Type 0} → (V → C → V → Type 0) → V → List C → V → Type 0
Chain Step v [] w = w ≡ v
Chain {V} Step v (c ∷ cs) w = (m : V) × Step v c m × Chain Step m cs w

-- of each call of a history, the calls before it
abbrev pub EachCall : {C : Type 0} → List C → (List C → C → Type 0) → Type 0
EachCall {C} H P = (before after : List C) (c : C) → H ≡ before ++ c ∷ after → P before c
