-- Part: the bytes.
-- The table of a composite, a field a line: what may stand in the field's place, and its canonical text (AMQP 1.0 part 1, section 1.4).
use Rattle.std.specs.Prelude.{ℕ, List, [], ◌∷◌, Option}
use Rattle.amqp_values.specs.Slots.{Slot, NoMore, Optional, OrDefault}
use Rattle.amqp_values.specs.Composite.{IsDescribed}
use Rattle.amqp_values.specs.Writing.{described_text, optional_text}

-- the grammar of the fields, and their canonical texts
pub record FieldTable : Type 1 where
  pub Body : List (List ℕ) → Type 0
  pub canonical : List (List ℕ)

-- after the last field
abbrev pub no_more : FieldTable
no_more = record { Body = NoMore; canonical = [] }

-- a field and those after it
abbrev pub row : (List ℕ → Type 0) → List ℕ → FieldTable → FieldTable
row Is text others = record { Body = Slot Is others.Body; canonical = text ∷ others.canonical }

-- A field by its grammar, its text and its value: mandatory, one that may be null, and one whose null is the default.

abbrev pub mandatory : {V : Type 0} → (V → List ℕ → Type 0) → (V → List ℕ) → V → FieldTable → FieldTable
mandatory Is text v = row (Is v) (text v)

abbrev pub optional : {V : Type 0} → (V → List ℕ → Type 0) → (V → List ℕ) → Option V → FieldTable → FieldTable
optional Is text v = row (Optional Is v) (optional_text text v)

abbrev pub or_default : {V : Type 0} → V → (V → List ℕ → Type 0) → (V → List ℕ) → V → FieldTable → FieldTable
or_default d Is text v = row (OrDefault d Is v) (text v)

-- a described list with this code, and the fields of this table
abbrev pub IsListed : {V : Type 0} → ℕ → (V → FieldTable) → V → List ℕ → Type 0
IsListed code table = IsDescribed code (λ v. (table v).Body)

abbrev pub listed_text : {V : Type 0} → ℕ → (V → FieldTable) → V → List ℕ
listed_text code table v = described_text code (table v).canonical
