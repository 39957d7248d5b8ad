-- Part: other calls.
-- Canonical texts: each spells its performative and is read back. So do those of the transfers that a delivery is cut into
-- (AMQP 1.0 part 2, section 2.6.14).
use Rattle.std.specs.Prelude.{◌≡◌, ◌<◌, ◌^◌, ◌++◌, ℕ, List, length, Some, Result}
use Rattle.amqp_values.specs.declared.error.ReadError.{ReadError}
use Rattle.amqp_values.specs.Reading.{Answers, ReadsFront}
use Rattle.amqp_types.specs.declared.performatives.Performative.{Performative}
use Rattle.amqp_types.specs.declared.performatives.Performative.TheVariants.{Transfer}
use Rattle.amqp_types.specs.declared.performatives.transfer.TransferFragment.{TransferFragment}
use Rattle.amqp_types.specs.Performatives.{IsPerformative, performative_text}
use Rattle.amqp_types.specs.Transfer.{TransferModel, said_in}

-- the canonical text spells the performative, if it has at most 4294967295 bytes
abbrev pub IsSpelledIfShort : Performative → Type 0
IsSpelledIfShort p = length (performative_text p) < 2 ^ 32 → IsPerformative p (performative_text p)

-- Whatever follows such a text, reading gives the performative back and leaves what follows, unless memory is refused.
abbrev pub IsReadBack : Performative → Type 0
IsReadBack p =
    length (performative_text p) < 2 ^ 32 → (bytes rest : List ℕ) (result : Result (Performative × List ℕ) ReadError)
    → bytes ≡ performative_text p ++ rest → ReadsFront IsPerformative bytes result
    → Answers {Y = Performative × List ℕ} (λ x. x) result (Some (p, rest))

-- the texts of a transfer and of each transfer that it is cut into spell them
abbrev pub TextsAreSpelled : TransferModel → Type 0
TextsAreSpelled t = (text : TransferFragment) → IsSpelledIfShort (Transfer (said_in text t))

abbrev pub CutIsSpelled : Performative → Type 0
CutIsSpelled p = (t : TransferModel) → p ≡ Transfer t → TextsAreSpelled t
