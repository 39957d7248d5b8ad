-- Part: other calls.
-- What a walk over the parts of a list or a map gives.
use Rattle.std.specs.Prelude.{◌≤◌, ℕ, List, [], ◌∷◌, length, Option, Some, None}
use Rattle.std.specs.Iterator.{YieldsFirst}
use Rattle.amqp_values.specs.Parts.{IsItems, Lends}

-- what one call of `next` answered, and which parts it left
abbrev pub NextGives : List (List ℕ) → Option (List ℕ) → List (List ℕ) → Type 0
NextGives = YieldsFirst (λ s. s)

-- calls of `next`, one after the other, each of which gave a part
pub data Gave : List (List ℕ) → List (List ℕ) → List (List ℕ) → Type 0 where
  nothing_yet : (items : List (List ℕ)) → Gave items [] items
  one_more : (items : List (List ℕ)) (part : List ℕ) (others parts left : List (List ℕ)) → NextGives items (Some part) others
      → Gave others parts left
      → Gave items (part ∷ parts) left

-- A walk gives no more parts than there are, so it ends. When it has ended, what it gave is all: as many parts as the count
-- says, and joined they are the data after the count.
abbrev pub WalksGiveItems : Type 0
WalksGiveItems =
    (bytes : List ℕ) (items parts left : List (List ℕ)) → Lends bytes (Some items) → Gave items parts left
    → (length parts ≤ length items) × ((after : List (List ℕ)) → NextGives left None after → IsItems bytes parts)
