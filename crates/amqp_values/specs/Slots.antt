-- Part: the bytes; other calls; inner.
-- The fields of a list, in order (AMQP 1.0 part 1, section 1.4).
use Rattle.std.specs.Prelude.{◌≡◌, ℕ, ◌-◌, List, [], ◌∷◌, drop, Option, Some, None, Bool, false, ◌==◌, if◌then◌else◌, ◌⊎◌}
use Rattle.amqp_values.specs.Reading.{◌>>=◌, is_empty}

-- the parts of a list that are left: how many its count promises, and the bytes that hold them
pub record PartsLeft : Type 0 where
  pub left : ℕ
  pub bytes : List ℕ

abbrev pub null : List ℕ
null = 0x40 ∷ []

-- ---- the grammar: the table of a composite is a chain of slots, and a field missing at the end is null

abbrev pub Slot : (List ℕ → Type 0) → (List (List ℕ) → Type 0) → List (List ℕ) → Type 0
Slot P Rest [] = P null × Rest []
Slot P Rest (part ∷ parts) = P part × Rest parts

-- after the last slot stands no further field
abbrev pub NoMore : List (List ℕ) → Type 0
NoMore parts = parts ≡ []

-- A mandatory field stands in its slot as it is: null is in no type's grammar. The two others:

abbrev pub Optional : {V : Type 0} → (V → List ℕ → Type 0) → Option V → List ℕ → Type 0
Optional Is None part = part ≡ null
Optional Is (Some v) part = Is v part

abbrev pub OrDefault : {V : Type 0} → V → (V → List ℕ → Type 0) → V → List ℕ → Type 0
OrDefault d Is v part = ((part ≡ null) × (v ≡ d)) ⊎ Is v part

-- ---- reading

abbrev pub is_null : List ℕ → Bool
is_null [] = false
is_null (b ∷ bytes) = b == 0x40

unfoldable pub optional_at : {V : Type 0} → (List ℕ → Option (V × List ℕ)) → PartsLeft → Option (Option V × PartsLeft)
optional_at at p =
    if p.left == 0 then Some (None, p)
    else if is_null p.bytes then Some (None, record { left = p.left - 1; bytes = drop 1 p.bytes })
    else (at p.bytes >>= λ x. Some (Some x.0, record { left = p.left - 1; bytes = x.1 }))

abbrev pub needed : {V : Type 0} → Option V × PartsLeft → Option (V × PartsLeft)
needed (Some v, p) = Some (v, p)
needed (None, p) = None

abbrev pub defaulted : {V : Type 0} → V → Option V → V
defaulted d (Some v) = v
defaulted d None = d

unfoldable pub required_at : {V : Type 0} → (List ℕ → Option (V × List ℕ)) → PartsLeft → Option (V × PartsLeft)
required_at at p = optional_at at p >>= needed

unfoldable pub default_at : {V : Type 0} → V → (List ℕ → Option (V × List ℕ)) → PartsLeft → Option (V × PartsLeft)
default_at d at p = optional_at at p >>= λ x. Some (defaulted d x.0, x.1)

unfoldable pub end_at : PartsLeft → Option (Unit {0} × PartsLeft)
end_at p = if p.left == 0 then (if is_empty p.bytes then Some (tt, p) else None) else None

-- one slot and those after it
abbrev pub then_at : {V W : Type 0} → (PartsLeft → Option (V × PartsLeft)) → (PartsLeft → Option (W × PartsLeft)) → PartsLeft → Option ((V × W) × PartsLeft)
then_at first others p = first p >>= λ x. others x.1 >>= λ y. Some ((x.0, y.0), y.1)

-- the fields of a chain, under their names
abbrev pub named_at : {V W : Type 0} → (V → W) → (PartsLeft → Option (V × PartsLeft)) → PartsLeft → Option (W × PartsLeft)
named_at name at p = at p >>= λ x. Some (name x.0, x.1)

-- ---- the values of a table of fields: each beside those after it

abbrev pub beside : {V W : Type 0} → V → W → V × W
beside v others = (v, others)

-- the first value, and the table of those after it
abbrev pub slot0 : {V W : Type 0} → V × W → V
slot0 table = table.0

abbrev pub after : {V W : Type 0} → V × W → W
after table = table.1

abbrev pub slot1 : {A V W : Type 0} → A × (V × W) → V
slot1 table = slot0 (after table)

abbrev pub slot2 : {A B V W : Type 0} → A × (B × (V × W)) → V
slot2 table = slot1 (after table)

abbrev pub slot3 : {A B C V W : Type 0} → A × (B × (C × (V × W))) → V
slot3 table = slot2 (after table)

abbrev pub slot4 : {A B C D V W : Type 0} → A × (B × (C × (D × (V × W)))) → V
slot4 table = slot3 (after table)

abbrev pub slot5 : {A B C D E V W : Type 0} → A × (B × (C × (D × (E × (V × W))))) → V
slot5 table = slot4 (after table)

abbrev pub slot6 : {A B C D E F V W : Type 0} → A × (B × (C × (D × (E × (F × (V × W)))))) → V
slot6 table = slot5 (after table)

abbrev pub slot7 : {A B C D E F G V W : Type 0} → A × (B × (C × (D × (E × (F × (G × (V × W))))))) → V
slot7 table = slot6 (after table)

abbrev pub slot8 : {A B C D E F G H V W : Type 0} → A × (B × (C × (D × (E × (F × (G × (H × (V × W)))))))) → V
slot8 table = slot7 (after table)

abbrev pub slot9 : {A B C D E F G H I V W : Type 0} → A × (B × (C × (D × (E × (F × (G × (H × (I × (V × W))))))))) → V
slot9 table = slot8 (after table)

abbrev pub slot10 : {A B C D E F G H I J V W : Type 0} → A × (B × (C × (D × (E × (F × (G × (H × (I × (J × (V × W)))))))))) → V
slot10 table = slot9 (after table)

abbrev pub slot11 : {A B C D E F G H I J K V W : Type 0}
    → A × (B × (C × (D × (E × (F × (G × (H × (I × (J × (K × (V × W))))))))))) → V
slot11 table = slot10 (after table)

abbrev pub slot12 : {A B C D E F G H I J K L V W : Type 0}
    → A × (B × (C × (D × (E × (F × (G × (H × (I × (J × (K × (L × (V × W)))))))))))) → V
slot12 table = slot11 (after table)

abbrev pub slot13 : {A B C D E F G H I J K L M V W : Type 0}
    → A × (B × (C × (D × (E × (F × (G × (H × (I × (J × (K × (L × (M × (V × W))))))))))))) → V
slot13 table = slot12 (after table)
