-- Part: inner.
-- What the steps of reading a head find: the header, then the descriptor.
use Rattle.std.specs.Prelude.{◌≡◌, ℕ, List, [], ◌∷◌, ◌++◌, length, drop, Option, Some, None, Result, Ok, Err}
use Rattle.std.specs.Int.{w16, from_be_bytes}
use Rattle.amqp_types.specs.declared.performatives.kind.Kind.{Kind}
use Rattle.amqp_types.specs.Kinds.{kind_at}
use Rattle.amqp_frames.specs.declared.error.Error.{Error}
use Rattle.amqp_frames.specs.declared.error.Error.TheVariants as no

-- the bytes begin with a header that names this channel
pub record IsHeader (bytes : List ℕ) (n : ℕ) : Type 0 where
  pub channel : List ℕ
  pub two : length channel ≡ 2
  pub channel_is : n ≡ from_be_bytes w16 channel
  pub whole : bytes ≡ 0x02 ∷ 0x00 ∷ channel ++ drop 4 bytes

-- no body and no kind, or the descriptor of a kind and what is after it; reading them asks for no memory
abbrev pub Names : List ℕ → List ℕ → Result (Option Kind) Error → Type 0
Names bytes left (Ok None) = (bytes ≡ []) × (left ≡ [])
Names bytes left (Ok (Some k)) = ¬ (bytes ≡ []) × (kind_at bytes ≡ Some (k, left))
Names bytes left (Err no.DecodeError) = ¬ (bytes ≡ []) × (kind_at bytes ≡ None)
Names bytes left (Err no.OutOfMemory) = ⊥
Names bytes left (Err no.NotImplemented) = ⊥
Names bytes left (Err no.TooLarge) = ⊥
Names bytes left (Err (no.Io text)) = ⊥
