-- The canonical texts of numbers and booleans are in the grammar.
use Rattle.std.proofs.Common.{ℕ, ◌^◌, ◌<◌, Bool, true, false, ltb, ◌∷◌, refl, subst, inl, inr}
use Rattle.std.specs.Int.{w16, w32, w64, to_be_bytes}
use Rattle.std.proofs.lemmas.Nat.{from_be_bytes-to_be_bytes_2, from_be_bytes-to_be_bytes_4, from_be_bytes-to_be_bytes_8}
use Rattle.std.proofs.lemmas.Bool.Decides.{eqb_tells}
use Rattle.amqp_values.specs.Reading.{IsNumber, one, four}
use Rattle.amqp_values.specs.Number.{IsUbyte, ubyte, IsUshort, ushort, IsUint, uint0, small_uint, uint, IsUlong, ulong0, small_ulong, ulong, IsBoolean, is_true, is_false}
use Rattle.amqp_values.specs.Slots.{OrDefault}
use Rattle.amqp_values.specs.Writing.{ubyte_text, ushort_text, uint_text, ulong_text, boolean_text, number_text, uint_or, ushort_or}
use Rattle.amqp_values.proofs.SlotCanonicalLemmas.{yes_or_no, IsCanonical, other_canonical, null_canonical}

-- a length or a count
pub number_canonical : (wide : Bool) (n : ℕ) → n < 2 ^ 32 → IsNumber wide (number_text wide n) n
number_canonical false n fits = one n
number_canonical true n fits = subst (λ m. IsNumber true (to_be_bytes w32 n) m) (from_be_bytes-to_be_bytes_4 n fits) (four (to_be_bytes w32 n) refl)

pub ubyte_canonical : (n : ℕ) → IsCanonical (IsUbyte n) (ubyte_text n)
ubyte_canonical n = other_canonical _ _ refl (λ f. ubyte n)

pub ushort_canonical : (n : ℕ) → n < 2 ^ 16 → IsCanonical (IsUshort n) (ushort_text n)
ushort_canonical n fits = other_canonical _ _ refl (λ f. subst (λ m. IsUshort m (0x60 ∷ to_be_bytes w16 n)) (from_be_bytes-to_be_bytes_2 n fits) (ushort (to_be_bytes w16 n) refl))

pub uint_canonical : (n : ℕ) → n < 2 ^ 32 → IsCanonical (IsUint n) (uint_text n)
uint_canonical n fits = elim (eqb_tells n 0) [
  | inl z ↦ rw z.1 (other_canonical _ _ refl (λ f. uint0))
  | inr z ↦ elim (yes_or_no (ltb n 256)) [
    | inl t ↦ rw (z.0, t) (other_canonical _ _ refl (λ f. small_uint n))
    | inr t ↦ rw (z.0, t) (other_canonical _ _ refl (λ f. subst (λ m. IsUint m (0x70 ∷ to_be_bytes w32 n)) (from_be_bytes-to_be_bytes_4 n fits) (uint (to_be_bytes w32 n) refl)))
  ]
]

pub ulong_canonical : (n : ℕ) → n < 2 ^ 64 → IsCanonical (IsUlong n) (ulong_text n)
ulong_canonical n fits = elim (eqb_tells n 0) [
  | inl z ↦ rw z.1 (other_canonical _ _ refl (λ f. ulong0))
  | inr z ↦ elim (yes_or_no (ltb n 256)) [
    | inl t ↦ rw (z.0, t) (other_canonical _ _ refl (λ f. small_ulong n))
    | inr t ↦ rw (z.0, t) (other_canonical _ _ refl (λ f. subst (λ m. IsUlong m (0x80 ∷ to_be_bytes w64 n)) (from_be_bytes-to_be_bytes_8 n fits) (ulong (to_be_bytes w64 n) refl)))
  ]
]

pub boolean_canonical : (b : Bool) → IsCanonical (IsBoolean b) (boolean_text b)
boolean_canonical true = other_canonical _ _ refl (λ f. is_true)
boolean_canonical false = other_canonical _ _ refl (λ f. is_false)

-- ---- with a default, which is written as null

pub uint_or_canonical : (d n : ℕ) → n < 2 ^ 32 → IsCanonical (OrDefault d IsUint n) (uint_or d n)
uint_or_canonical d n fits = elim (eqb_tells n d) [
  | inl e ↦ rw e.0 (null_canonical (OrDefault d IsUint n) (inl (refl, e.1)))
  | inr e ↦ let c = uint_canonical n fits in rw e.0 (record { fits = λ f. inr (c.fits f); null_is = c.null_is })
]

pub ushort_or_canonical : (d n : ℕ) → n < 2 ^ 16 → IsCanonical (OrDefault d IsUshort n) (ushort_or d n)
ushort_or_canonical d n fits = elim (eqb_tells n d) [
  | inl e ↦ rw e.0 (null_canonical (OrDefault d IsUshort n) (inl (refl, e.1)))
  | inr e ↦ let c = ushort_canonical n fits in rw e.0 (record { fits = λ f. inr (c.fits f); null_is = c.null_is })
]
