-- The canonical text of a described list is in the grammar, if its fields stand in their slots.
use Rattle.std.proofs.Common.{◌≡◌, ℕ, suc, ◌+◌, ◌^◌, ◌<◌, ◌≤◌, true, false, ltb, eqb, List, [], ◌∷◌, ◌++◌, length, refl, subst, arith, inl, inr}
use Rattle.std.specs.Int.{w32, to_be_bytes}
use Rattle.std.proofs.Math.Numerals.{add-one}
use Rattle.std.proofs.lemmas.Bool.{ne_eqb}
use Rattle.std.proofs.lemmas.List.{length-append}
use Rattle.amqp_values.specs.Reading.{IsNumber, one, joined}
use Rattle.amqp_values.specs.Composite.{IsList, list0, list, IsDescribed, described_small}
use Rattle.amqp_values.specs.Writing.{trim, list_head, list_text, described_text}
use Rattle.amqp_values.proofs.SlotCanonicalLemmas.{yes_or_no, Fits, Trims}
use Rattle.amqp_values.proofs.NumberCanonicalLemmas.{number_canonical}
use Rattle.amqp_values.proofs.WrittenPartLemmas.{length_trim, size_le}

list_with : (parts : List (List ℕ)) → length parts ≤ 16 → Fits (list_head (length parts) (length (joined parts)) ++ joined parts)
    → IsList parts (list_head (length parts) (length (joined parts)) ++ joined parts)
list_with parts few fits = elim (yes_or_no (ltb (length (joined parts)) 255)) [
  | inl t ↦ rw (t, add-one) (list false (suc (length (joined parts)) ∷ []) (length parts ∷ []) parts (one _) (one _))
  | inr t ↦
      let count = to_be_bytes w32 (length parts) in
      let size = length (joined parts) + 4 in
      let after = length-append count (joined parts) in
      let whole : Fits (0xd0 ∷ to_be_bytes w32 size ++ count ++ joined parts) = rw t at fits in
      let small : size < 2 ^ 32 = omega (arith, length-append (to_be_bytes w32 size ++ count) (joined parts), length-append (to_be_bytes w32 size) count, whole) in
      let same : size ≡ length (count ++ joined parts) = omega (arith, after) in
      let size_is : IsNumber true (to_be_bytes w32 size) (length (count ++ joined parts)) = subst (λ m. IsNumber true (to_be_bytes w32 size) m) same (number_canonical true size small) in
      rw t (list true (to_be_bytes w32 size) count parts size_is (number_canonical true (length parts) (omega arith)))
]

list_is : (parts : List (List ℕ)) → length parts ≤ 16 → Fits (list_text parts) → IsList parts (list_text parts)
unfolding list_text
list_is [] few fits = list0
list_is (part ∷ parts) few fits =
    let some : eqb (length (part ∷ parts)) 0 ≡ false = ne_eqb (suc (length parts)) 0 (omega arith) in
    rw some (list_with (part ∷ parts) few (rw some at fits))

pub described_canonical : {V : Type 0} (code : ℕ) (B : V → List (List ℕ) → Type 0) (v : V) (fields : List (List ℕ)) → length fields ≤ 16 → Trims (B v) fields
    → Fits (described_text code fields) → IsDescribed code B v (described_text code fields)
described_canonical code B v fields few trims fits =
    let shorter : Fits (list_text (trim fields)) = omega (arith, fits) in
    record {
      descriptor = 0x00 ∷ 0x53 ∷ code ∷ [];
      list = list_text (trim fields);
      coded = described_small code;
      body = record {
        parts = trim fields;
        body = trims.fits (omega (arith, size_le (trim fields), shorter));
        list = list_is (trim fields) (omega (arith, length_trim fields, few)) shorter;
      };
      whole = refl;
    }
