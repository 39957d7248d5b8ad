-- Part: other calls.
-- Names of links, told apart by role (AMQP 1.0 part 2, section 2.6.1).
use Rattle.std.specs.Prelude.{◌≢◌, ◌≡◌, ℕ, List, ◌∷◌, Option, Some, None}
use Rattle.amqp_types.specs.declared.definitions.Role.{Role}
use Rattle.amqp_types.specs.declared.definitions.Role.TheVariants.{Sender, Receiver}

-- the mark of a role: the letter s, or r
abbrev pub mark : Role → ℕ
mark Sender = 0x73
mark Receiver = 0x72

-- a name as it is kept: after the mark of its role
abbrev pub marked : Role → List ℕ → List ℕ
marked role name = mark role ∷ name

-- the role and the name that a marked name was made of, if it was
abbrev pub IsPlain : List ℕ → Option (Role × List ℕ) → Type 0
IsPlain kept (Some x) = kept ≡ marked x.0 x.1
IsPlain kept None = (role : Role) (name : List ℕ) → kept ≢ marked role name
