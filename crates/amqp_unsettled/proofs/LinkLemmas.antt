-- The numbers of a link's entries: what they are of two lists in a row.
use Rattle.std.proofs.Common.{◌≡◌, ℕ, List, [], ◌∷◌, ◌++◌, map}
use Rattle.std.proofs.Common.{ap, refl, cond, Bool, true, false, Some}
use Rattle.std.specs.Prelude.{slice_get, option_map}
use Rattle.std.specs.List.{filter, find}
use Rattle.amqp_unsettled.specs.declared.entry.Entry.{Entry}
use Rattle.amqp_unsettled.specs.Table.{has_number, is_of}
use Rattle.amqp_unsettled.specs.Inner.Order.{NonePasses}
use Rattle.amqp_unsettled.specs.Inner.Lists.{is_number, numbers_in}
use Rattle.amqp_unsettled.proofs.ListLemmas.{each_filter, each_mapped}

abbrev number : Entry → ℕ
number e = e.number

module _ (link : ℕ) where
  -- with an entry before
  abbrev with : Bool → Entry → List Entry → List ℕ
  with b e es = map number (cond b (e ∷ filter (is_of link) es) (filter (is_of link) es))

  pub numbers_append : (es fs : List Entry) → numbers_in link (es ++ fs) ≡ numbers_in link es ++ numbers_in link fs
  numbers_append [] fs = refl
  numbers_append (e ∷ es) fs = by (is_of link e) (numbers_append es fs)
    where
      by : (b : Bool) → numbers_in link (es ++ fs) ≡ numbers_in link es ++ numbers_in link fs →
          with b e (es ++ fs) ≡ with b e es ++ numbers_in link fs
      by true r = ap (λ ns. e.number ∷ ns) r
      by false r = r

  pub numbers_own : (e : Entry) (es : List Entry) → is_of link e ≡ true →
      numbers_in link (e ∷ es) ≡ e.number ∷ numbers_in link es
  numbers_own e es t = ap (λ b. with b e es) t

  pub numbers_other : (e : Entry) (es : List Entry) → is_of link e ≡ false →
      numbers_in link (e ∷ es) ≡ numbers_in link es
  numbers_other e es t = ap (λ b. with b e es) t

  -- the first one is that of the first entry
  pub numbers_first : (es : List Entry) → slice_get (numbers_in link es) 0 ≡ option_map number (find (is_of link) es)
  numbers_first [] = refl
  numbers_first (e ∷ es) = by (is_of link e) (numbers_first es)
    where
      by : (b : Bool) → slice_get (numbers_in link es) 0 ≡ option_map number (find (is_of link) es) →
          slice_get (with b e es) 0 ≡ option_map number (cond b (Some e) (find (is_of link) es))
      by true r = refl
      by false r = r

  pub numbers_none : (n : ℕ) (es : List Entry) → NonePasses (has_number n) es →
      NonePasses (is_number n) (numbers_in link es)
  numbers_none n es h = each_mapped number (λ m. is_number n m ≡ false) (filter (is_of link) es)
      (each_filter (λ e. has_number n e ≡ false) (is_of link) es h)
