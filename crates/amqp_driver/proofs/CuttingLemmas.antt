-- What a cut leaves.
use Rattle.std.proofs.Common.{◌≡◌, ◌+◌, ◌-◌, ◌<◌, ℕ, List, Bool, true, false, cond, ◌&&◌, ◌||◌, nat_lt, nat_le, Option, Some, None, refl, ap, ◌∙◌, arith}
use Rattle.std.proofs.lemmas.Bool.Decides.{nat_tests}
use Rattle.std.proofs.lemmas.Grind.{common_steps}
use Rattle.amqp_driver.specs.declared.cut.Cut.{Cut}
use Rattle.amqp_driver.specs.declared.head.TransferHead.{TransferHead}
use Rattle.amqp_driver.specs.Heads.{has, has_room}
use Rattle.amqp_driver.specs.Cutting.{room_for, begun, in_one, uncut, in_two, goes_on, cut_at, cut_of, left_of, CutsWell}

-- what is said of a cut of this head, where it is not refused
record Well (limit : ℕ) (h : TransferHead) (bytes : List ℕ) (c : Cut) : Type 0 where
  fits : c.refusal ≡ 0 → has_room (room_for limit c.part bytes) c.part.payload ≡ true
  adds_up : c.refusal ≡ 0 → c.part.payload + left_of c ≡ h.payload

module _ (limit : ℕ) (h : TransferHead) (bytes : List ℕ) where
  refused : (why : ℕ) → Well limit h bytes (uncut h (why + 1))
  refused why = record { fits = λ e. absurd (omega (arith, e)); adds_up = λ e. absurd (omega (arith, e)) }

  whole : has_room (room_for limit h bytes) h.payload ≡ true → Well limit h bytes (in_one h)
  whole e = record { fits = λ _. e; adds_up = λ _. omega arith }

  less : (front : ℕ) → goes_on h front ≡ true → front < h.payload
  less front e = by (nat_lt front h.payload) (has h.flags 1 || nat_lt 0 front) refl e
    where
      by : (b c : Bool) → nat_lt front h.payload ≡ b → (b && c) ≡ true → front < h.payload
      by true c t x = grind (arith, nat_tests, common_steps)
      by false c t x = absurd (cc)

  cut : (front : ℕ) → room_for limit (begun h) bytes ≡ Some front → goes_on h front ≡ true → Well limit h bytes (in_two h front)
  cut front r e = record {
    fits = λ _. ap (λ o. has_room o front) r ∙ (let t : nat_le front front ≡ true = grind (arith, nat_tests, common_steps) in t);
    adds_up = λ _. (let l : front < h.payload = less front e in let s : front + (h.payload - front) ≡ h.payload = omega arith in s);
  }

  at_room : (o : Option ℕ) → room_for limit (begun h) bytes ≡ o → Well limit h bytes (cut_at h o)
  at_room None r = refused 90
  at_room (Some front) r = by (goes_on h front) refl
    where
      by : (b : Bool) → goes_on h front ≡ b → Well limit h bytes (cond b (in_two h front) (uncut h 91))
      by true e = cut front r e
      by false e = refused 90

  well : Well limit h bytes (cut_of limit h bytes)
  well = by (nat_lt 32 h.tag_size)
    where
      fitting : (b : Bool) → has_room (room_for limit h bytes) h.payload ≡ b
          → Well limit h bytes (cond b (in_one h) (cut_at h (room_for limit (begun h) bytes)))
      fitting true e = whole e
      fitting false e = at_room (room_for limit (begun h) bytes) refl

      by : (b : Bool) → Well limit h bytes (cond b (uncut h 92) (cond (has_room (room_for limit h bytes) h.payload) (in_one h) (cut_at h (room_for limit (begun h) bytes))))
      by true = refused 91
      by false = fitting (has_room (room_for limit h bytes) h.payload) refl

  pub cuts_well : CutsWell limit h bytes
  cuts_well = record { fits = well.fits; adds_up = well.adds_up }
