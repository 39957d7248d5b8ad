-- Part: the bytes; other calls; inner.
-- Error: its fields, and how they stand in a list (AMQP 1.0 part 2, section 2.8.14).
use Rattle.std.specs.Prelude.{ℕ, List, Option}
use Rattle.amqp_values.specs.Slots.{PartsLeft}
use Rattle.amqp_values.specs.Text.{IsString, IsSymbol, string_at, symbol_at}
use Rattle.amqp_values.specs.Raw.{SpellsMap, map_at}
use Rattle.amqp_values.specs.Slots.{then_at, end_at, named_at, required_at, optional_at}
use Rattle.amqp_values.specs.Composite.{described_at}
use Rattle.amqp_values.specs.Writing.{string_text, symbol_text}
use Rattle.amqp_values.specs.Same.{Test, both, field, maybe, texts}
use Rattle.amqp_types.specs.Definitions.{value_text}
use Rattle.amqp_types.specs.FieldTable.{FieldTable, IsListed, listed_text, no_more, mandatory, optional}

pub record ErrorModel : Type 0 where
  pub condition : List ℕ
  pub description : Option (List ℕ)
  pub info : Option (List ℕ)

-- ---- the fields, in their order

unfoldable pub error_table : ErrorModel → FieldTable
error_table p =
    mandatory IsSymbol symbol_text p.condition
    (optional IsString string_text p.description
    (optional SpellsMap value_text p.info
    no_more))

abbrev pub IsErrorBody : ErrorModel → List (List ℕ) → Type 0
IsErrorBody p = (error_table p).Body

abbrev pub IsError : ErrorModel → List ℕ → Type 0
IsError = IsListed 0x1d error_table

-- ---- its reader

abbrev pub ErrorSlots : Type 0
ErrorSlots = List ℕ × (Option (List ℕ) × (Option (List ℕ) × Unit {0}))

abbrev pub error_of : ErrorSlots → ErrorModel
error_of (condition, (description, (info, end))) = record { condition = condition; description = description; info = info }

abbrev pub error_slots : ErrorModel → ErrorSlots
error_slots p = (p.condition, (p.description, (p.info, tt)))

unfoldable pub error_body_at : PartsLeft → Option (ErrorModel × PartsLeft)
error_body_at = named_at error_of
    (then_at (required_at symbol_at)
    (then_at (optional_at string_at)
    (then_at (optional_at map_at)
    end_at)))

unfoldable pub error_at : List ℕ → Option (ErrorModel × List ℕ)
error_at = described_at 0x1d error_body_at

-- ---- its canonical text

abbrev pub error_text : ErrorModel → List ℕ
error_text = listed_text 0x1d error_table

-- ---- when two are the same

abbrev pub error_same : Test ErrorModel
error_same =
    both (field (λ p. p.condition) texts)
    (both (field (λ p. p.description) (maybe texts))
    (field (λ p. p.info) (maybe texts)))
