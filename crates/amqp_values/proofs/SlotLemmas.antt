-- Reading fields in order is exactly the grammar of fields in order.
use Rattle.std.proofs.Common.{◌≡◌, ℕ, suc, ◌-◌, true, false, cond, eqb, List, [], ◌∷◌, ◌++◌, length, drop, Option, Some, None, refl, sym, ap, subst, ◌∙◌, arith, inl, inr, ◌⊎◌}
use Rattle.std.proofs.lemmas.Bool.{eqb-true, eq-eqb, ne_eqb}
use Rattle.std.proofs.lemmas.Bool.Decides.{eqb_tells}
use Rattle.amqp_values.specs.Slots.{PartsLeft}
use Rattle.amqp_values.specs.Reading.{◌>>=◌, is_empty, joined}
use Rattle.amqp_values.specs.Slots.{null, Slot, NoMore, Optional, OrDefault, is_null, needed, defaulted, optional_at, required_at, default_at, end_at, then_at, named_at}
use Rattle.amqp_values.proofs.ReaderLemmas.{IsFormat, bind_some, pair_is, chosen}

-- a cursor goes over one part, or stands at the end, where the part counts as null
abbrev pub Step : PartsLeft → List ℕ → PartsLeft → Type 0
Step p part q = ((p.left ≡ 0) × (part ≡ null) × (q ≡ p)) ⊎ ((p.left ≡ suc q.left) × (p.bytes ≡ part ++ q.bytes))

pub record IsSlot {V : Type 0} (P : V → List ℕ → Type 0) (at : PartsLeft → Option (V × PartsLeft)) : Type 0 where
  pub found : (p q : PartsLeft) (v : V) → at p ≡ Some (v, q) → (part : List ℕ) × P v part × Step p part q
  pub again : (p q : PartsLeft) (v : V) (part : List ℕ) → P v part → Step p part q → at p ≡ Some (v, q)

-- what a cursor has before it
pub record Ahead (p : PartsLeft) (parts : List (List ℕ)) : Type 0 where
  pub count : p.left ≡ length parts
  pub bytes : p.bytes ≡ joined parts

pub record IsBody {V : Type 0} (B : V → List (List ℕ) → Type 0) (at : PartsLeft → Option (V × PartsLeft)) : Type 0 where
  pub found : (p q : PartsLeft) (v : V) → at p ≡ Some (v, q) → (parts : List (List ℕ)) × B v parts × Ahead p parts
  pub again : (p : PartsLeft) (v : V) (parts : List (List ℕ)) → B v parts → Ahead p parts → (q : PartsLeft) × (at p ≡ Some (v, q))

-- ---- one slot

null_false : {V : Type 0} (Is : V → List ℕ → Type 0) (at : List ℕ → Option (V × List ℕ)) → IsFormat Is at → (bytes : List ℕ) (y : V × List ℕ) → at bytes ≡ Some y → is_null bytes ≡ false
null_false Is at law [] y e = refl
null_false Is at law (b ∷ bytes) y e =
    elim (chosen (eqb b 0x40) true false (eqb b 0x40) (elim (eqb b 0x40) as (λ t. cond t true false ≡ t) [ true ↦ refl | false ↦ refl ])) [
      | inl w ↦ let same : b ≡ 0x40 = eqb-true b 0x40 w.0 in let none : at (b ∷ bytes) ≡ None = rw same (law.no_null bytes) in absurd cc
      | inr w ↦ w.0
    ]

null_is : (bytes : List ℕ) → is_null bytes ≡ true → bytes ≡ null ++ drop 1 bytes
null_is [] e = absurd cc
null_is (b ∷ bytes) e = let same : b ≡ 0x40 = eqb-true b 0x40 e in rw same refl

opt_end : {V : Type 0} (at : List ℕ → Option (V × List ℕ)) (p : PartsLeft) → p.left ≡ 0 → optional_at at p ≡ Some (None, p)
unfolding optional_at
opt_end at p e = let t : eqb p.left 0 ≡ true = eq-eqb _ _ e in rw t refl

opt_null : {V : Type 0} (at : List ℕ → Option (V × List ℕ)) (p q : PartsLeft) → p.left ≡ suc q.left → p.bytes ≡ null ++ q.bytes → optional_at at p ≡ Some (None, q)
unfolding optional_at
opt_null at p q e h =
    let t : eqb p.left 0 ≡ false = ne_eqb _ _ (omega arith) in
    let n : p.left - 1 ≡ q.left = omega arith in
    rw (t, h, n) refl

opt_some : {V : Type 0} (at : List ℕ → Option (V × List ℕ)) (p q : PartsLeft) (v : V) → p.left ≡ suc q.left → is_null p.bytes ≡ false → at p.bytes ≡ Some (v, q.bytes) → optional_at at p ≡ Some (Some v, q)
unfolding optional_at
opt_some at p q v e l h =
    let t : eqb p.left 0 ≡ false = ne_eqb _ _ (omega arith) in
    let n : p.left - 1 ≡ q.left = omega arith in
    rw (t, l, h, n) refl

-- what a reading of an optional slot can have been
opt_cases : {V : Type 0} (at : List ℕ → Option (V × List ℕ)) (p q : PartsLeft) (v : Option V) → optional_at at p ≡ Some (v, q)
    → ((p.left ≡ 0) × (v ≡ None) × (q ≡ p)) ⊎ (((p.left ≡ suc q.left) × (v ≡ None) × (p.bytes ≡ null ++ q.bytes))
    ⊎ ((p.left ≡ suc q.left) × (x : V) × (v ≡ Some x) × (at p.bytes ≡ Some (x, q.bytes))))
unfolding optional_at
opt_cases {V} at p q v e =
    elim (eqb_tells p.left 0) [
      | inl t ↦ let e2 = pair_is None v p q (rw t.0 at e) in inl (t.1, sym e2.0, sym e2.1)
      | inr t ↦
          let e2 = rw t.0 at e in
          inr (elim (chosen (is_null p.bytes) _ _ _ e2) [
            | inl w ↦
                let e3 = pair_is None v (record { left = p.left - 1; bytes = drop 1 p.bytes }) q w.1 in
                let here = e3.1 in
                let n : p.left - 1 ≡ q.left = ap (λ (r : PartsLeft). r.left) here in
                let d : drop 1 p.bytes ≡ q.bytes = ap (λ (r : PartsLeft). r.bytes) here in
                inl (omega arith, sym e3.0, null_is p.bytes w.0 ∙ ap (λ (x : List ℕ). null ++ x) d)
            | inr w ↦
                let b = bind_some (at p.bytes) _ _ w.1 in
                let e3 = pair_is (Some b.0.0) v (record { left = p.left - 1; bytes = b.0.1 }) q b.2 in
                let here = e3.1 in
                let n : p.left - 1 ≡ q.left = ap (λ (r : PartsLeft). r.left) here in
                let d : b.0.1 ≡ q.bytes = ap (λ (r : PartsLeft). r.bytes) here in
                inr (omega arith, b.0.0, sym e3.0, b.1 ∙ ap (λ (r : List ℕ). Some (b.0.0, r)) d)
          ])
    ]

not_null : {V : Type 0} (Is : V → List ℕ → Type 0) (at : List ℕ → Option (V × List ℕ)) → IsFormat Is at → (v : V) → Is v null → ⊥
not_null Is at law v h = let e = law.again v null [] h in let n = law.no_null [] in cc

opt_found : {V : Type 0} (Is : V → List ℕ → Type 0) (at : List ℕ → Option (V × List ℕ)) → IsFormat Is at
    → (p q : PartsLeft) (v : Option V) → optional_at at p ≡ Some (v, q) → (part : List ℕ) × Optional Is v part × Step p part q
opt_found {V} Is at law p q v e =
    elim (opt_cases at p q v e) [
      | inl w ↦ (null, rw w.1 refl, inl (w.0, refl, w.2))
      | inr (inl w) ↦ (null, rw w.1 refl, inr (w.0, w.2))
      | inr (inr w) ↦ let f = law.found p.bytes w.1 q.bytes w.3 in (f.0, rw w.2 f.1, inr (w.0, f.2))
    ]

opt_again : {V : Type 0} (Is : V → List ℕ → Type 0) (at : List ℕ → Option (V × List ℕ)) → IsFormat Is at
    → (p q : PartsLeft) (v : Option V) (part : List ℕ) → Optional Is v part → Step p part q → optional_at at p ≡ Some (v, q)
opt_again Is at law p q None part h (inl w) = opt_end at p w.0 ∙ ap (λ (r : PartsLeft). Some (None, r)) (sym w.2)
opt_again Is at law p q None part h (inr w) = opt_null at p q w.0 (w.1 ∙ ap (λ (x : List ℕ). x ++ q.bytes) h)
opt_again Is at law p q (Some v) part h (inl w) = absurd (not_null Is at law v (subst (Is v) w.1 h))
opt_again Is at law p q (Some v) part h (inr w) =
    let e : at p.bytes ≡ Some (v, q.bytes) = ap at w.1 ∙ law.again v part q.bytes h in
    opt_some at p q v w.0 (null_false Is at law p.bytes (v, q.bytes) e) e

pub optional_law : {V : Type 0} (Is : V → List ℕ → Type 0) (at : List ℕ → Option (V × List ℕ)) → IsFormat Is at → IsSlot (Optional Is) (optional_at at)
optional_law Is at law = record { found = opt_found Is at law; again = opt_again Is at law }

needed_is : {V : Type 0} (x : Option V × PartsLeft) (v : V) (q : PartsLeft) → needed x ≡ Some (v, q) → x ≡ (Some v, q)
needed_is {V} (Some w, p) v q e = let s = pair_is w v p q e in ap (λ (x : V). (Some x, p)) s.0 ∙ ap (λ (x : PartsLeft). (Some v, x)) s.1
needed_is (None, p) v q e = absurd cc

pub required_law : {V : Type 0} (Is : V → List ℕ → Type 0) (at : List ℕ → Option (V × List ℕ)) → IsFormat Is at → IsSlot Is (required_at at)
unfolding required_at
required_law Is at law = record {
  found = λ p q v e.
      let b = bind_some (optional_at at p) needed (v, q) e in
      opt_found Is at law p q (Some v) (b.1 ∙ ap (λ x. Some x) (needed_is b.0 v q b.2));
  again = λ p q v part h s. rw (opt_again Is at law p q (Some v) part h s) refl;
}

default_found : {V : Type 0} (d : V) (Is : V → List ℕ → Type 0) (at : List ℕ → Option (V × List ℕ)) → IsFormat Is at
    → (p q : PartsLeft) (o : Option V) → optional_at at p ≡ Some (o, q) → (part : List ℕ) × OrDefault d Is (defaulted d o) part × Step p part q
default_found d Is at law p q None e = let f = opt_found Is at law p q None e in (f.0, inl (f.1, refl), f.2)
default_found d Is at law p q (Some v) e = let f = opt_found Is at law p q (Some v) e in (f.0, inr f.1, f.2)

default_again : {V : Type 0} (d : V) (Is : V → List ℕ → Type 0) (at : List ℕ → Option (V × List ℕ)) → IsFormat Is at
    → (p q : PartsLeft) (v : V) (part : List ℕ) → OrDefault d Is v part → Step p part q → default_at d at p ≡ Some (v, q)
unfolding default_at
default_again d Is at law p q v part (inl h) s = rw (opt_again Is at law p q None part h.0 s, h.1) refl
default_again d Is at law p q v part (inr h) s = rw (opt_again Is at law p q (Some v) part h s) refl

pub default_law : {V : Type 0} (d : V) (Is : V → List ℕ → Type 0) (at : List ℕ → Option (V × List ℕ)) → IsFormat Is at → IsSlot (OrDefault d Is) (default_at d at)
unfolding default_at
default_law {V} d Is at law = record {
  found = λ p q v e.
      let b = bind_some (optional_at at p) (λ x. Some (defaulted d x.0, x.1)) (v, q) e in
      let same : (defaulted d b.0.0, b.0.1) ≡ (v, q) = cc in
      subst (λ (y : V × PartsLeft). (part : List ℕ) × OrDefault d Is y.0 part × Step p part y.1) same
      (default_found d Is at law p b.0.1 b.0.0 b.1);
  again = default_again d Is at law;
}

-- ---- all slots

nothing : (parts : List (List ℕ)) → length parts ≡ 0 → parts ≡ []
nothing [] e = refl
nothing (x ∷ xs) e = absurd (omega arith)

then_found : {V W : Type 0} (P : V → List ℕ → Type 0) (B : W → List (List ℕ) → Type 0) (v : V) (w : W) (p q : PartsLeft) (part : List ℕ) (parts : List (List ℕ))
    → P v part → Step p part q → B w parts → Ahead q parts → (all : List (List ℕ)) × Slot (P v) (B w) all × Ahead p all
then_found P B v w p q part parts h (inl s) b a =
    let none : parts ≡ [] = nothing parts (sym a.count ∙ ap (λ (r : PartsLeft). r.left) s.2 ∙ s.0) in
    ([], (subst (P v) s.1 h, subst (B w) none b), subst (λ (x : List (List ℕ)). Ahead p x) none (subst (λ (x : PartsLeft). Ahead x parts) s.2 a))
then_found P B v w p q part parts h (inr s) b a =
    (part ∷ parts, (h, b), record { count = s.0 ∙ ap suc a.count; bytes = s.1 ∙ ap (λ (x : List ℕ). part ++ x) a.bytes })

then_again : {V W : Type 0} (P : V → List ℕ → Type 0) (B : W → List (List ℕ) → Type 0) (v : V) (w : W) (p : PartsLeft) (all : List (List ℕ))
    → Slot (P v) (B w) all → Ahead p all → (q : PartsLeft) × (part : List ℕ) × (parts : List (List ℕ)) × P v part × Step p part q × B w parts × Ahead q parts
then_again P B v w p [] h a = (p, null, [], h.0, inl (a.count, refl, refl), h.1, a)
then_again P B v w p (part ∷ parts) h a =
    let q : PartsLeft = record { left = length parts; bytes = joined parts } in
    (q, part, parts, h.0, inr (a.count, a.bytes), h.1, record { count = refl; bytes = refl })

pub then_law : {V W : Type 0} (P : V → List ℕ → Type 0) (B : W → List (List ℕ) → Type 0) (first : PartsLeft → Option (V × PartsLeft)) (others : PartsLeft → Option (W × PartsLeft))
    → IsSlot P first → IsBody B others → IsBody (λ (x : V × W). Slot (P x.0) (B x.1)) (then_at first others)
then_law {V} {W} P B first others slot body = record {
  found = λ p q v e.
      let b = bind_some (first p) (λ x. others x.1 >>= λ y. Some ((x.0, y.0), y.1)) (v, q) e in
      let c = bind_some (others b.0.1) (λ y. Some ((b.0.0, y.0), y.1)) (v, q) b.2 in
      let same : ((b.0.0, c.0.0), c.0.1) ≡ (v, q) = cc in
      let f = slot.found p b.0.1 b.0.0 b.1 in
      let g = body.found b.0.1 c.0.1 c.0.0 c.1 in
      subst (λ (y : (V × W) × PartsLeft). (all : List (List ℕ)) × Slot (P y.0.0) (B y.0.1) all × Ahead p all) same
      (then_found P B b.0.0 c.0.0 p b.0.1 f.0 g.0 f.1 f.2 g.1 g.2);
  again = λ p v all h a.
      let t = then_again P B v.0 v.1 p all h a in
      let e = slot.again p t.0 v.0 t.1 t.3 t.4 in
      let r = body.again t.0 v.1 t.2 t.5 t.6 in
      (r.0, rw (e, r.1) refl);
}

empty_is : (bytes : List ℕ) → is_empty bytes ≡ true → bytes ≡ []
empty_is [] e = refl
empty_is (b ∷ bytes) e = absurd cc

end_found : (p q : PartsLeft) → end_at p ≡ Some (tt, q) → (parts : List (List ℕ)) × NoMore parts × Ahead p parts
unfolding end_at
end_found p q e =
    elim (eqb_tells p.left 0) [
      | inl t ↦ let e2 = rw t.0 at e in elim (chosen (is_empty p.bytes) _ _ _ e2) [
        | inl w ↦ ([], refl, record { count = t.1; bytes = empty_is p.bytes w.0 })
        | inr w ↦ absurd (let n = w.1 in cc)
      ]
      | inr t ↦ let e2 : None ≡ Some (tt {0}, q) = rw t.0 at e in absurd cc
    ]

end_again : (p : PartsLeft) (parts : List (List ℕ)) → NoMore parts → Ahead p parts → (q : PartsLeft) × (end_at p ≡ Some (tt, q))
unfolding end_at
end_again p parts h a =
    let t : eqb p.left 0 ≡ true = eq-eqb _ _ (a.count ∙ ap length h) in
    let n : p.bytes ≡ [] = a.bytes ∙ ap joined h in
    (p, rw (t, n) refl)

pub end_law : IsBody (λ (x : Unit {0}). NoMore) end_at
end_law = record { found = λ p q v e. end_found p q e; again = λ p v parts h a. end_again p parts h a }

-- ---- fields under their names

pub named_law : {V W : Type 0} (B : V → List (List ℕ) → Type 0) (at : PartsLeft → Option (V × PartsLeft)) (name : V → W) (fields : W → V)
    → ((v : V) → fields (name v) ≡ v) → ((w : W) → name (fields w) ≡ w) → IsBody B at → IsBody (λ w. B (fields w)) (named_at name at)
named_law {V} {W} B at name fields back forth law = record {
  found = λ p q w e.
      let b = bind_some (at p) (λ x. Some (name x.0, x.1)) (w, q) e in
      let s = pair_is (name b.0.0) w b.0.1 q b.2 in
      let f = law.found p b.0.1 b.0.0 b.1 in
      (f.0, subst (λ (v : V). B v f.0) (sym (back b.0.0) ∙ ap fields s.0) f.1, f.2);
  again = λ p w parts h a.
      let r = law.again p (fields w) parts h a in
      (r.0, rw (r.1, forth w) refl);
}
