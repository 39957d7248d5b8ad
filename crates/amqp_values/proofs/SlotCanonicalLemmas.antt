-- The canonical text of a field stands in its slot, and nulls at the end may be cut.
use Rattle.std.proofs.Common.{◌≡◌, ℕ, ◌^◌, ◌<◌, Bool, true, false, List, [], ◌∷◌, ◌++◌, length, Option, Some, None, refl, sym, subst, arith, inl, inr, ◌⊎◌, lit<}
use Rattle.std.specs.Prelude.{IfSome}
use Rattle.std.proofs.lemmas.List.{length-append}
use Rattle.amqp_values.specs.Reading.{joined}
use Rattle.amqp_values.specs.Slots.{null, is_null, Slot, NoMore, Optional}
use Rattle.amqp_values.specs.Writing.{keep, trim, optional_text}

pub yes_or_no : (b : Bool) → (b ≡ true) ⊎ (b ≡ false)
yes_or_no true = inl refl
yes_or_no false = inr refl

abbrev pub Fits : List ℕ → Type 0
Fits text = length text < 2 ^ 32

-- a part that has its place unless it is too long, and begins as the null only where it is the null
pub record IsCanonical (P : List ℕ → Type 0) (part : List ℕ) : Type 0 where
  pub fits : Fits part → P part
  pub null_is : is_null part ≡ true → part ≡ null

-- a part that does not begin as the null
pub other_canonical : (P : List ℕ → Type 0) (part : List ℕ) → is_null part ≡ false → (Fits part → P part) → IsCanonical P part
other_canonical P part e h = record { fits = h; null_is = λ n. absurd cc }

pub null_canonical : (P : List ℕ → Type 0) → P null → IsCanonical P null
null_canonical P h = record { fits = λ f. h; null_is = λ e. refl }

pub optional_canonical : {V : Type 0} (Is : V → List ℕ → Type 0) (text : V → List ℕ) (Holds : V → Type 0) → ((v : V) → Holds v → IsCanonical (Is v) (text v))
    → (o : Option V) → IfSome o Holds → IsCanonical (Optional Is o) (optional_text text o)
optional_canonical Is text Holds each None h = null_canonical (Optional Is None) refl
optional_canonical Is text Holds each (Some v) h = each v h

-- ---- slots

-- parts that are a body without the nulls at the end, unless they are too long
pub record Trims (B : List (List ℕ) → Type 0) (parts : List (List ℕ)) : Type 0 where
  pub fits : Fits (joined (trim parts)) → B (trim parts)

kept : (P : List ℕ → Type 0) (Rest : List (List ℕ) → Type 0) (part : List ℕ) (others : List (List ℕ)) → IsCanonical P part → (Fits (joined others) → Rest others)
    → Fits (joined (keep part others)) → Slot P Rest (keep part others)
kept P Rest part [] c r h = elim (yes_or_no (is_null part)) [
  | inl e ↦
      let z = c.null_is e in
      rw e (subst P z (c.fits (subst Fits (sym z) (lit< tt))), r (lit< tt))
  | inr e ↦
      let whole : length (part ++ []) < 2 ^ 32 = rw e at h in
      rw e (c.fits (omega (arith, length-append part [], whole)), r (lit< tt))
]
kept P Rest part (x ∷ xs) c r h =
    let both = length-append part (joined (x ∷ xs)) in
    (c.fits (omega (arith, both, h)), r (omega (arith, both, h)))

pub slot_canonical : (P : List ℕ → Type 0) (Rest : List (List ℕ) → Type 0) (part : List ℕ) (parts : List (List ℕ)) → IsCanonical P part → Trims Rest parts → Trims (Slot P Rest) (part ∷ parts)
slot_canonical P Rest part parts c t = record { fits = kept P Rest part (trim parts) c t.fits }

pub end_canonical : Trims NoMore []
end_canonical = record { fits = λ h. refl }
