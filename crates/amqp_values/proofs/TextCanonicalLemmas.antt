-- The canonical texts of binaries, strings, symbols and raw values are in the grammar.
use Rattle.std.proofs.Common.{◌≡◌, ℕ, ◌^◌, ◌<◌, true, false, ltb, eqb, List, [], ◌∷◌, ◌++◌, length, Some, None, refl, ap, ◌∙◌, arith, inl, inr}
use Rattle.std.specs.Int.{w32, to_be_bytes}
use Rattle.std.specs.Str.{is_utf8}
use Rattle.std.proofs.lemmas.Bool.{eqb-true}
use Rattle.std.proofs.lemmas.List.{length-append}
use Rattle.amqp_values.specs.Reading.{one}
use Rattle.amqp_values.specs.Text.{IsVar, var, IsBinary, IsString, IsSymbol, IsSymbolText}
use Rattle.amqp_values.specs.Raw.{IsRaw, SpellsRaw, IsMap, SpellsMap, raw_at}
use Rattle.amqp_values.specs.Slots.{is_null}
use Rattle.amqp_values.specs.Writing.{var_text, binary_text, string_text, symbol_text}
use Rattle.amqp_values.proofs.RawValueLemmas.{raw_format}
use Rattle.amqp_values.proofs.SlotCanonicalLemmas.{yes_or_no, Fits, IsCanonical, other_canonical}
use Rattle.amqp_values.proofs.NumberCanonicalLemmas.{number_canonical}

var_is : (a b : ℕ) (s : List ℕ) → Fits (var_text a b s) → IsVar a b s (var_text a b s)
unfolding var_text
var_is a b s fits = elim (yes_or_no (ltb (length s) 256)) [
  | inl t ↦ rw t (var false (length s ∷ []) s (one (length s)))
  | inr t ↦
      let whole : Fits (b ∷ to_be_bytes w32 (length s) ++ s) = rw t at fits in
      let short : length s < 2 ^ 32 = omega (arith, length-append (to_be_bytes w32 (length s)) s, whole) in
      rw t (var true (to_be_bytes w32 (length s)) s (number_canonical true (length s) short))
]

no_null : (a b : ℕ) (s : List ℕ) → eqb a 0x40 ≡ false → eqb b 0x40 ≡ false → is_null (var_text a b s) ≡ false
unfolding var_text
no_null a b s ea eb = elim (yes_or_no (ltb (length s) 256)) [ inl t ↦ rw (t, ea) refl | inr t ↦ rw (t, eb) refl ]

pub binary_canonical : (s : List ℕ) → IsCanonical (IsBinary s) (binary_text s)
binary_canonical s = other_canonical _ _ (no_null 0xa0 0xb0 s refl refl) (var_is 0xa0 0xb0 s)

pub string_canonical : (s : List ℕ) → is_utf8 s ≡ true → IsCanonical (IsString s) (string_text s)
string_canonical s h = other_canonical _ _ (no_null 0xa1 0xb1 s refl refl) (λ f. (var_is 0xa1 0xb1 s f, h))

pub symbol_canonical : (s : List ℕ) → IsSymbolText s → IsCanonical (IsSymbol s) (symbol_text s)
symbol_canonical s h = other_canonical _ _ (no_null 0xa3 0xb3 s refl refl) (λ f. (var_is 0xa3 0xb3 s f, h.ascii))

-- ---- values that are kept as they came

raw_other : (v : List ℕ) → IsRaw v → is_null v ≡ false
raw_other [] h = refl
raw_other (b ∷ bytes) h = elim (yes_or_no (eqb b 0x40)) [
  | inl e ↦
      let none : raw_at (b ∷ (bytes ++ [])) ≡ None = ap (λ c. raw_at (c ∷ (bytes ++ []))) (eqb-true b 0x40 e) ∙ raw_format.no_null (bytes ++ []) in
      let some : raw_at (b ∷ (bytes ++ [])) ≡ Some (b ∷ bytes, []) = raw_format.again (b ∷ bytes) (b ∷ bytes) [] (h, refl) in
      absurd cc
  | inr e ↦ e
]

pub raw_canonical : (v : List ℕ) → IsRaw v → IsCanonical (SpellsRaw v) v
raw_canonical v h = other_canonical _ _ (raw_other v h) (λ f. (h, refl))

pub map_canonical : (v : List ℕ) → IsMap v → IsCanonical (SpellsMap v) v
map_canonical v h = other_canonical _ _ (raw_other v h.raw) (λ f. (h, refl))
