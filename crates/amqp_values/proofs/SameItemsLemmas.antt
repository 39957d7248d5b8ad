-- Two lists of parts are the same where their numbers and their bytes are.
use Rattle.std.proofs.Common.{◌≡◌, ℕ, Bool, true, false, ◌&&◌, List, length, refl, sym, ap, ◌∙◌}
use Rattle.std.specs.Prelude.{nat_eq}
use Rattle.std.specs.Bool.{Decides}
use Rattle.std.specs.Cmp.Lexicographic.{pointwise}
use Rattle.std.proofs.lemmas.Bool.Decides.{Decides-eqb, Decides-and, Decides-like}
use Rattle.std.proofs.lemmas.Slice.Eq.{slice_eq-Decides}
use Rattle.amqp_values.specs.Reading.{joined}
use Rattle.amqp_values.specs.Parts.{AllParts, parts_at}

same_texts : (xs ys : List ℕ) → Decides (pointwise nat_eq xs ys) (xs ≡ ys)
same_texts xs ys = slice_eq-Decides Decides-eqb xs ys (pointwise nat_eq xs ys) refl

-- two tests that decide the same are the same
as_one : (P : Type 0) (r s : Bool) → Decides r P → Decides s P → r ≡ s
as_one P true s d e = sym (e.1 (d.0 refl))
as_one P false true d e = d.1 (e.0 refl)
as_one P false false d e = refl

pub same_parts : (m n : ℕ) (xs ys : List ℕ) → AllParts m xs → AllParts n ys
    → (nat_eq m n && pointwise nat_eq xs ys) ≡ pointwise (pointwise nat_eq) (parts_at m xs) (parts_at n ys)
same_parts m n xs ys a b =
    as_one (parts_at m xs ≡ parts_at n ys) (nat_eq m n && pointwise nat_eq xs ys) (pointwise (pointwise nat_eq) (parts_at m xs) (parts_at n ys))
    (Decides-like (nat_eq m n && pointwise nat_eq xs ys) forth back (Decides-and (nat_eq m n) (pointwise nat_eq xs ys) (Decides-eqb m n) (same_texts xs ys)))
    (slice_eq-Decides same_texts (parts_at m xs) (parts_at n ys) (pointwise (pointwise nat_eq) (parts_at m xs) (parts_at n ys)) refl)
  where
    forth : (m ≡ n) × (xs ≡ ys) → parts_at m xs ≡ parts_at n ys
    forth h = ap (λ k. parts_at k xs) h.0 ∙ ap (parts_at n) h.1

    back : parts_at m xs ≡ parts_at n ys → (m ≡ n) × (xs ≡ ys)
    back h = (a.count ∙ ap length h ∙ sym b.count, a.whole ∙ ap joined h ∙ sym b.whole)

-- where the numbers are the same, the bytes decide
pub same_after : (m n : ℕ) (xs ys : List ℕ) (r : Bool) → AllParts m xs → AllParts n ys → m ≡ n → r ≡ pointwise nat_eq xs ys
    → r ≡ pointwise (pointwise nat_eq) (parts_at m xs) (parts_at n ys)
same_after m n xs ys r a b same e =
    e ∙ ap (λ (t : Bool). t && pointwise nat_eq xs ys) (sym ((Decides-eqb m n).1 same)) ∙ same_parts m n xs ys a b
