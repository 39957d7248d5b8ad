-- A name that begins with neither mark was not made.
use Rattle.std.specs.Prelude.{◌≢◌, ℕ, List, ◌∷◌}
use Rattle.amqp_types.specs.declared.definitions.Role.{Role}
use Rattle.amqp_types.specs.declared.definitions.Role.TheVariants.{Sender, Receiver}
use Rattle.amqp_driver.specs.LinkNames.{mark, marked}

pub not_made : (kept : List ℕ) → ((rest : List ℕ) → kept ≢ mark Sender ∷ rest) → ((rest : List ℕ) → kept ≢ mark Receiver ∷ rest)
    → (role : Role) (name : List ℕ) → kept ≢ marked role name
not_made kept no_s no_r Sender name = no_s name
not_made kept no_s no_r Receiver name = no_r name
