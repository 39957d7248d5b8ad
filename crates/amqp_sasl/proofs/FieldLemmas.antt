-- Fields that are read where they stand.
use Rattle.std.proofs.Common.{◌≡◌, ◌≢◌, ◌≤◌, ◌-◌, ◌+◌, ℕ, List, [], ◌∷◌, ◌++◌, length, drop, take, Option, Some, None, refl, ap, ◌∙◌, arith}
use Rattle.std.specs.Prelude.{slice_range}
use Rattle.std.proofs.lemmas.List.{length-append, length-drop}
use Rattle.std.proofs.Math.Seq.{take-append_seam}
use Rattle.amqp_values.specs.Text.{binary_at, string_at, symbol_at, var_at}
use Rattle.amqp_values.specs.Slots.{PartsLeft, required_at}
use Rattle.amqp_values.specs.Number.{ubyte_at}
use Rattle.amqp_values.specs.Walking.{part_code_at}
use Rattle.amqp_values.proofs.WalkLemmas.{part_ended, no_part, a_part, not_a_part}
use Rattle.amqp_sasl.specs.declared.value.FieldType.{FieldType}
use Rattle.amqp_sasl.specs.declared.value.FieldType.TheVariants.{Binary, String, Symbol}
use Rattle.amqp_sasl.specs.Inner.Reading.{bytes_at, sasl_code_at}

pub never_empty : (t : FieldType) → bytes_at t [] ≡ None
unfolding binary_at string_at symbol_at var_at
never_empty Binary = refl
never_empty String = refl
never_empty Symbol = refl

pub no_code : sasl_code_at [] ≡ None
unfolding sasl_code_at ubyte_at
no_code = refl

-- a mandatory field that has ended
pub none_needed : {V : Type 0} (at : List ℕ → Option (V × List ℕ)) (p : PartsLeft) → part_code_at p ≡ None → at [] ≡ None → required_at at p ≡ None
unfolding required_at
none_needed at p e none = rw (part_ended at p e none) refl

-- a mandatory field that is null
pub null_needed : {V : Type 0} (at : List ℕ → Option (V × List ℕ)) (p q : PartsLeft) → part_code_at p ≡ Some (0x40, q) → required_at at p ≡ None
unfolding required_at
null_needed at p q e = rw (no_part at p q e) refl

-- a mandatory field
pub part_needed : {V : Type 0} (at : List ℕ → Option (V × List ℕ)) (p q : PartsLeft) (code : ℕ) (v : V) (rest : List ℕ) → part_code_at p ≡ Some (code, q) → code ≢ 0x40 → at (code ∷ q.bytes) ≡ Some (v, rest)
    → required_at at p ≡ Some (v, record { left = q.left; bytes = rest })
unfolding required_at
part_needed at p q code v rest e other read = rw (a_part at p q code v rest e other read) refl

-- a mandatory field that is not of its type
pub other_needed : {V : Type 0} (at : List ℕ → Option (V × List ℕ)) (p q : PartsLeft) (code : ℕ) → part_code_at p ≡ Some (code, q) → code ≢ 0x40 → at (code ∷ q.bytes) ≡ None → required_at at p ≡ None
unfolding required_at
other_needed at p q code e other read = rw (not_a_part at p q code e other read) refl

-- a text at the front of what follows a place goes up to where the rest begins
pub goes_to : (from to : ℕ) (text part : List ℕ) → from ≤ length text → to ≤ length text → drop from text ≡ part ++ drop to text → to ≡ from + length part
goes_to from to text part inside bound e = omega (arith, ap length e, length-append part (drop to text), length-drop from text, length-drop to text)

pub part_is : (from to : ℕ) (text part : List ℕ) → from ≤ length text → to ≤ length text → drop from text ≡ part ++ drop to text → slice_range text from to ≡ part
part_is from to text part inside bound e =
    let size : to - from ≡ length part = omega (arith, goes_to from to text part inside bound e) in
    ap (λ n. take n (drop from text)) size ∙ ap (take (length part)) e ∙ take-append_seam part (drop to text)
