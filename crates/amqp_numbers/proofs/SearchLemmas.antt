-- Where a number is among ranges that are spaced.
use Rattle.std.proofs.Common.{◌≡◌, ℕ, zero, suc, ◌+◌, ◌<◌, ◌≤◌, List, [], ◌∷◌, length, Bool, true, false, ◌&&◌, ◌||◌, Some, nat_le, slice_get, refl, ap, ◌∙◌, subst, arith}
use Rattle.std.proofs.lemmas.Bool.Decides.{nat_tests}
use Rattle.std.proofs.lemmas.Grind.{common_steps}
use Rattle.amqp_numbers.specs.declared.ranges.Range.{Range}
use Rattle.amqp_numbers.specs.Ranges.{IsSpaced, IsRank, IsApart, begins_by, is_held}

pub begins_at : (rs : List Range) (i n : ℕ) (a : Range) → slice_get rs i ≡ Some a → begins_by rs i n ≡ nat_le a.first n
begins_at [] i n a e = absurd (cc)
begins_at (r ∷ rs) zero n a e = let x : r ≡ a = cc in ap (λ (r : Range). nat_le r.first n) x
begins_at (r ∷ rs) (suc i) n a e = begins_at rs i n a e

le_true : (a b : ℕ) → nat_le a b ≡ true → a ≤ b
le_true a b h = grind (arith, nat_tests, common_steps)

le_false : (a b : ℕ) → nat_le a b ≡ false → b < a
le_false a b h = grind (arith, nat_tests, common_steps)

begins_low : (rs : List Range) (low i n : ℕ) → IsSpaced low rs → begins_by rs i n ≡ true → low ≤ n
begins_low [] low i n s h = absurd (cc)
begins_low (r ∷ rs) low zero n s h = let x = le_true r.first n h in omega (arith, x, s.0)
begins_low (r ∷ rs) low (suc i) n s h = let x = begins_low rs (r.last + 2) i n s.3 h in omega (arith, x, s.0, s.1)

pub rank_is : (rs : List Range) (low rank n : ℕ) → IsSpaced low rs → rank ≤ length rs → ((j : ℕ) → rank ≡ suc j → begins_by rs j n ≡ true) → (rank < length rs → begins_by rs rank n ≡ false) → IsRank rs n rank
rank_is [] low rank n s w b a = omega (arith, w)
rank_is (r ∷ rs) low zero n s w b a = le_false r.first n (a (omega arith))
rank_is (r ∷ rs) low (suc zero) n s w b a = (le_true r.first n (b zero refl), rank_is rs (r.last + 2) 0 n s.3 (omega arith) (λ j e. absurd (omega (arith, e))) (λ h. a (omega (arith, h))))
rank_is (r ∷ rs) low (suc (suc i)) n s w b a =
    let x = begins_low rs (r.last + 2) i n s.3 (b (suc i) refl) in
    (omega (arith, x, s.1), rank_is rs (r.last + 2) (suc i) n s.3 (omega (arith, w)) (λ j e. b (suc j) (ap suc e)) (λ h. a (omega (arith, h))))

pub rank_within : (rs : List Range) (n rank : ℕ) → IsRank rs n rank → rank ≤ length rs
rank_within [] n rank h = omega arith
rank_within (r ∷ rs) n zero h = omega arith
rank_within (r ∷ rs) n (suc i) h = let x = rank_within rs n i h.1 in omega arith

pub apart_within : (rs : List Range) (n rank : ℕ) → IsApart rs n rank → rank ≤ length rs
apart_within [] n rank h = omega arith
apart_within (r ∷ rs) n zero h = omega arith
apart_within (r ∷ rs) n (suc i) h = let x = apart_within rs n i h.1 in omega arith

pub apart_below : (rs : List Range) (n i : ℕ) (a : Range) → IsApart rs n (suc i) → slice_get rs i ≡ Some a → a.last < n
apart_below [] n i a h e = absurd (cc)
apart_below (r ∷ rs) n zero a h e = let x : r ≡ a = cc in subst (λ (r : Range). r.last < n) x h.0
apart_below (r ∷ rs) n (suc i) a h e = apart_below rs n i a h.1 e

pub apart_above : (rs : List Range) (n i : ℕ) (a : Range) → IsApart rs n i → slice_get rs i ≡ Some a → n < a.first
apart_above [] n i a h e = absurd (cc)
apart_above (r ∷ rs) n zero a h e = let x : r ≡ a = cc in subst (λ (r : Range). n < r.first) x h
apart_above (r ∷ rs) n (suc i) a h e = apart_above rs n i a h.1 e

outside : (first last n : ℕ) (b : Bool) → (n < first → ⊥) → ((nat_le first n && nat_le n last) || b) ≡ false → (last < n) × (b ≡ false)
outside first last n true h e = grind (arith, nat_tests, common_steps)
outside first last n false h e = (grind (arith, nat_tests, common_steps), refl)

-- a number that no range holds is between two
pub apart : (rs : List Range) (n rank : ℕ) → IsRank rs n rank → is_held n rs ≡ false → IsApart rs n rank
apart [] n rank h e = h
apart (r ∷ rs) n zero h e = h
apart (r ∷ rs) n (suc i) h e = let x = outside r.first r.last n (is_held n rs) (λ l. omega (arith, l, h.0)) e in (x.0, apart rs n i h.1 x.1)

below : (first last n : ℕ) (b : Bool) → n < first → b ≡ false → ((nat_le first n && nat_le n last) || b) ≡ false
below first last n true h e = absurd (cc)
below first last n false h e = grind (arith, nat_tests, common_steps)

none_held : (rs : List Range) (low n : ℕ) → IsSpaced low rs → n < low → is_held n rs ≡ false
none_held [] low n s h = refl
none_held (r ∷ rs) low n s h = below r.first r.last n (is_held n rs) (omega (arith, h, s.0)) (none_held rs (r.last + 2) n s.3 (omega (arith, h, s.0, s.1)))

pub none_before : (rs : List Range) (low n : ℕ) → IsSpaced low rs → IsRank rs n 0 → is_held n rs ≡ false
none_before [] low n s h = refl
none_before (r ∷ rs) low n s h = below r.first r.last n (is_held n rs) h (none_held rs (r.last + 2) n s.3 (omega (arith, h, s.1)))

rank_low : (rs : List Range) (low n i : ℕ) → IsSpaced low rs → IsRank rs n (suc i) → low ≤ n
rank_low [] low n i s h = absurd (omega arith)
rank_low (r ∷ rs) low n i s h = omega (arith, s.0, h.0)

here : (first last n : ℕ) (b : Bool) → first ≤ n → b ≡ false → ((nat_le first n && nat_le n last) || b) ≡ nat_le n last
here first last n true h e = absurd (cc)
here first last n false h e = grind (arith, nat_tests, common_steps)

above : (first last n : ℕ) (b : Bool) → last < n → ((nat_le first n && nat_le n last) || b) ≡ b
above first last n true h = grind (arith, nat_tests, common_steps)
above first last n false h = grind (arith, nat_tests, common_steps)

-- only the range before the rank can hold the number
pub held_at : (rs : List Range) (low n i : ℕ) (a : Range) → IsSpaced low rs → IsRank rs n (suc i) → slice_get rs i ≡ Some a → is_held n rs ≡ nat_le n a.last
held_at [] low n i a s h e = absurd (cc)
held_at (r ∷ rs) low n zero a s h e =
    let x : r ≡ a = cc in
    here r.first r.last n (is_held n rs) h.0 (none_before rs (r.last + 2) n s.3 h.1) ∙ ap (λ (r : Range). nat_le n r.last) x
held_at (r ∷ rs) low n (suc i) a s h e =
    let x = rank_low rs (r.last + 2) n i s.3 h.1 in
    above r.first r.last n (is_held n rs) (omega (arith, x)) ∙ held_at rs (r.last + 2) n i a s.3 h.1 e
