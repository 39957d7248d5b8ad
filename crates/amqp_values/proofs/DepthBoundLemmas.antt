-- What may stand inside a value, and one round of each loop of the walk.
use Rattle.std.proofs.Common.{◌≡◌, ℕ, zero, suc, ◌+◌, ◌-◌, ◌<◌, ◌≤◌, List, true, false, Option, Some, None, refl, sym, ◌∙◌, arith, ltb, eqb, length, ◌≢◌, ◌⊎◌, inl, inr}
use Rattle.amqp_values.specs.Reading.{byte_at, cut_at}
use Rattle.amqp_values.specs.Walk.{Level, under, level, repeat, may_hold, run_of, data_of, is_dataless, value_of, constructor_of, is_ground}
use Rattle.amqp_values.specs.declared.format_class.FormatClass.TheVariants as class
use Rattle.std.proofs.lemmas.Bool.{eqb-true, eq-eqb, ne_eqb, le-ltb}
use Rattle.amqp_values.specs.declared.format_class.FormatClass.{FormatClass}
use Rattle.amqp_values.specs.FormatClass.{class_of}

pub under_none : (d : ℕ) → d ≡ 0 → under d ≡ None
unfolding under
under_none d e = rw e refl

pub under_some : (d e : ℕ) → d ≡ e + 1 → under d ≡ Some (level e)
unfolding under
under_some d e h = let s : d ≡ suc e = omega arith in rw s refl

pub under_more : (d : ℕ) → 0 < d → under d ≡ Some (level (d - 1))
unfolding under
under_more zero h = absurd (omega arith)
under_more (suc d) h = let e : suc d - 1 ≡ d = omega arith in rw e refl

pub repeat_more : (f : List ℕ → Option (List ℕ)) (count i : ℕ) (bytes after : List ℕ) (total : Option (List ℕ)) → i < count → f bytes ≡ Some after
    → repeat (count - i) f bytes ≡ total → repeat (count - (i + 1)) f after ≡ total
unfolding repeat
repeat_more f count i bytes after total lt e so_far =
    let k : count - i ≡ suc (count - (i + 1)) = omega arith in
    let one : repeat (count - i) f bytes ≡ repeat (count - (i + 1)) f after = rw (k, e) refl in
    sym one ∙ so_far

pub repeat_fails : (f : List ℕ → Option (List ℕ)) (count i : ℕ) (bytes : List ℕ) (total : Option (List ℕ)) → i < count → f bytes ≡ None
    → repeat (count - i) f bytes ≡ total → total ≡ None
unfolding repeat
repeat_fails f count i bytes total lt e so_far =
    let k : count - i ≡ suc (count - (i + 1)) = omega arith in
    let one : repeat (count - i) f bytes ≡ None = rw (k, e) refl in
    sym so_far ∙ one

pub repeat_done : (f : List ℕ → Option (List ℕ)) (count i : ℕ) (bytes : List ℕ) (total : Option (List ℕ)) → count ≤ i
    → repeat (count - i) f bytes ≡ total → total ≡ Some bytes
unfolding repeat
repeat_done f count i bytes total le so_far =
    let k : count - i ≡ 0 = omega arith in
    let one : repeat (count - i) f bytes ≡ Some bytes = rw k refl in
    sym so_far ∙ one

-- data with no bytes need no walk
pub repeat_same : (f : List ℕ → Option (List ℕ)) (count : ℕ) (bytes : List ℕ) → f bytes ≡ Some bytes → repeat count f bytes ≡ Some bytes
unfolding repeat
repeat_same f zero bytes e = refl
repeat_same f (suc n) bytes e = rw e (repeat_same f n bytes e)

pub run_is : (b : Option Level) (k : FormatClass) (count : ℕ) (bytes : List ℕ) → run_of b k count bytes ≡ repeat count (data_of b k) bytes
unfolding run_of
run_is b k count bytes = refl

repeat_fails_first : (f : List ℕ → Option (List ℕ)) (count : ℕ) (bytes : List ℕ) → 0 < count → f bytes ≡ None → repeat count f bytes ≡ None
unfolding repeat
repeat_fails_first f zero bytes lt e = absurd (omega arith)
repeat_fails_first f (suc n) bytes lt e = rw e refl

same_data : (b : Option Level) (k : FormatClass) (bytes : List ℕ) → is_dataless k ≡ true → (data_of b k bytes ≡ Some bytes) ⊎ (data_of b k bytes ≡ None)
unfolding data_of cut_at
same_data b (class.Fixed n) bytes e = let z = eqb-true n 0 e in let f : ltb (length bytes) 0 ≡ false = le-ltb _ _ (omega arith) in inl (rw (z, f) refl)
same_data None class.List0 bytes e = inr refl
same_data (Some l) class.List0 bytes e = inl refl
same_data b class.Flag bytes e = absurd cc
same_data b (class.Variable w) bytes e = absurd cc
same_data b (class.List w) bytes e = absurd cc
same_data b (class.Map w) bytes e = absurd cc
same_data b (class.Array w) bytes e = absurd cc
same_data b class.Unknown bytes e = absurd cc

pub dataless_run : (b : Option Level) (k : FormatClass) (count : ℕ) (bytes : List ℕ) → 0 < count → is_dataless k ≡ true → run_of b k count bytes ≡ data_of b k bytes
dataless_run b k count bytes lt e = elim (same_data b k bytes e) [
  | inl s ↦ run_is b k count bytes ∙ repeat_same (data_of b k) count bytes s ∙ sym s
  | inr s ↦ run_is b k count bytes ∙ repeat_fails_first (data_of b k) count bytes lt s ∙ sym s
]

-- ---- the constructor of an array with no elements

pub constructor_fails : (b : Option Level) (n : ℕ) (bytes : List ℕ) → byte_at bytes ≡ None → constructor_of b n bytes ≡ None
unfolding constructor_of
constructor_fails b zero bytes e = refl
constructor_fails b (suc n) bytes e = rw e refl

pub constructor_holds : (b : Option Level) (n c : ℕ) (bytes after : List ℕ) → 0 < n → byte_at bytes ≡ Some (c, after) → c ≢ 0 → may_hold b (class_of c) ≡ true → constructor_of b n bytes ≡ Some after
unfolding constructor_of
constructor_holds b zero c bytes after lt e nz m = absurd (omega arith)
constructor_holds b (suc n) c bytes after lt e nz m = let z : eqb c 0 ≡ false = ne_eqb _ _ nz in rw (e, z, m) refl

pub constructor_holds_not : (b : Option Level) (n c : ℕ) (bytes after : List ℕ) → byte_at bytes ≡ Some (c, after) → c ≢ 0 → may_hold b (class_of c) ≡ false → constructor_of b n bytes ≡ None
unfolding constructor_of
constructor_holds_not b zero c bytes after e nz m = refl
constructor_holds_not b (suc n) c bytes after e nz m = let z : eqb c 0 ≡ false = ne_eqb _ _ nz in rw (e, z, m) refl

pub constructor_ground : (n c : ℕ) (bytes after : List ℕ) → byte_at bytes ≡ Some (c, after) → c ≡ 0 → constructor_of None n bytes ≡ None
unfolding constructor_of
constructor_ground zero c bytes after e z = refl
constructor_ground (suc n) c bytes after e z = let t : eqb c 0 ≡ true = eq-eqb _ _ z in rw (e, t) refl

pub constructor_value_fails : (b : Option Level) (n c : ℕ) (bytes after : List ℕ) → byte_at bytes ≡ Some (c, after) → c ≡ 0 → value_of b after ≡ None → constructor_of b n bytes ≡ None
unfolding constructor_of
constructor_value_fails b zero c bytes after e z v = refl
constructor_value_fails None (suc n) c bytes after e z v = let t : eqb c 0 ≡ true = eq-eqb _ _ z in rw (e, t) refl
constructor_value_fails (Some l) (suc n) c bytes after e z v = let t : eqb c 0 ≡ true = eq-eqb _ _ z in rw (e, t, v) refl

pub constructor_more : (b : Option Level) (n i c : ℕ) (bytes after rest : List ℕ) → i < n → is_ground b ≡ false → byte_at bytes ≡ Some (c, after) → c ≡ 0 → value_of b after ≡ Some rest
    → constructor_of b (n - (i + 1)) rest ≡ constructor_of b (n - i) bytes
unfolding constructor_of
constructor_more None n i c bytes after rest lt g e z v = absurd cc
constructor_more (Some l) n i c bytes after rest lt g e z v =
    let t : eqb c 0 ≡ true = eq-eqb _ _ z in
    let k : n - i ≡ suc (n - (i + 1)) = omega arith in
    rw (k, e, t, v) refl

pub constructor_done : (b : Option Level) (n i : ℕ) (bytes : List ℕ) → n ≤ i → constructor_of b (n - i) bytes ≡ None
unfolding constructor_of
constructor_done b n i bytes le = let k : n - i ≡ 0 = omega arith in rw k refl

pub not_ground : (d : ℕ) → 0 < d → is_ground (under d) ≡ false
not_ground d h = rw (under_more d h) refl
