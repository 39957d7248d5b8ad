-- Part: other calls; inner.
-- Maps whose keys the peer chooses: how their keys are hashed, and what such a map is.
use Rattle.std.specs.Prelude.{◌≡◌, ℕ, List, Option, Some, None, refl}
use Rattle.std.specs.Coded.{Coded, code_by, coded×, coded_ℕ, coded_option}
use Rattle.std.specs.Hash.DefaultHasher.{initial}
use Rattle.std.specs.Ordering.{nat_cmp}
use Rattle.std.specs.FinMap as map
use Rattle.std.specs.RandomState.{initial_hasher}
use Rattle.std.specs.declared.hash.DefaultHasher.{DefaultHasher}
use Rattle.amqp_session.specs.declared.keys.KeyHash.{KeyHash}
use Rattle.amqp_session.specs.declared.keys.KeyHash.TheVariants.{Fixed, Keyed}

-- the hasher before it has seen a byte
abbrev pub hasher_by : KeyHash → DefaultHasher
hasher_by Fixed = initial
hasher_by (Keyed s) = initial_hasher s

-- its code: that of the two halves of its key, if it is a random one
abbrev pub halves_of : KeyHash → Option (ℕ × ℕ)
halves_of Fixed = None
halves_of (Keyed s) = Some (s.key0, s.key1)

abbrev pub of_halves : Option (ℕ × ℕ) → KeyHash
of_halves None = Fixed
of_halves (Some p) = Keyed (record { key0 = p.0; key1 = p.1 })

abbrev pub halves_again : (hash : KeyHash) → of_halves (halves_of hash) ≡ hash
halves_again Fixed = refl
halves_again (Keyed s) = refl

abbrev pub hash_code : Coded KeyHash
hash_code = code_by (Option (ℕ × ℕ)) (coded_option (coded× coded_ℕ coded_ℕ)) halves_of of_halves halves_again

-- a map by numbers, as its entries say
abbrev pub numbered : {V : Type 0} → List (ℕ × V) → map.FinMap nat_cmp V
numbered es = map.from_entries es
