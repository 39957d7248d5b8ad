use Rattle.std.proofs.Common.{◌≡◌, ◌<◌, ◌≤◌, ◌-◌, ℕ, List, [], ◌∷◌, length, Some, None, true, nat_le, slice_get, refl, sym, ◌∙◌, subst, arith}
use Rattle.std.proofs.lemmas.Bool.Decides.{nat_tests}
use Rattle.std.proofs.lemmas.Grind.{common_steps}
use Rattle.std.proofs.lemmas.Option.{slice_get-get_or}
use Rattle.amqp_numbers.specs.declared.ranges.Range.{Range}
use Rattle.amqp_numbers.specs.Ranges.{IsSpaced, IsRank, begins_by}
use Rattle.amqp_numbers.proofs.SearchLemmas.{rank_is, begins_at}
use Rattle.amqp_numbers.proofs.search.rank_of.Goals as goal
use Rattle.amqp_numbers.proofs.search.rank_of.Goals.{in_default-via-in-Some+else-number-range, in_default-via-in_default}

at_or_before : (first n : ℕ) → first ≤ n → nat_le first n ≡ true
at_or_before first n h = grind (arith, nat_tests, common_steps)

-- the last range begins at the number or before it
all_begin : (rs : List Range) (n : ℕ) (a : Range) → IsSpaced 0 rs → slice_get rs (length rs - 1) ≡ Some a → a.first ≤ n → IsRank rs n (length rs)
all_begin rs n a s e h = rank_is rs 0 (length rs) n s (omega arith) (λ j l. let k : length rs - 1 ≡ j = omega (arith, l) in subst (λ k. begins_by rs k n ≡ true) k (begins_at rs (length rs - 1) n a e ∙ at_or_before a.first n h)) (λ h. absurd (omega arith))

-- there is none
none : (rs : List Range) (n : ℕ) → slice_get rs (length rs - 1) ≡ None → IsRank rs n (length rs)
none [] n e = refl
none (r ∷ rs) n e =
    let i : length (r ∷ rs) - 1 < length (r ∷ rs) = omega arith in
    let x = slice_get-get_or (r ∷ rs) (length (r ∷ rs) - 1) r i in
    absurd (cc)

pub returns-in_default : goal.returns-in_default
returns-in_default c =
    let rs = c.args.ranges.now.items in
    let n = c.args.number in
    elim c.in_default.branch [
      | in_default-via-in-Some+else-number-range w ↦
          record { rank = subst (λ k. IsRank rs n k) (sym c.len.ensures) (all_begin rs n w.in-Some.range.now c.requires.spaced (sym w.in-Some.ensures) w.if-number-range.false) }
      | in_default-via-in_default w ↦
          record { rank = subst (λ k. IsRank rs n k) (sym c.len.ensures) (none rs n (sym w.in_default.ensures)) }
    ]
