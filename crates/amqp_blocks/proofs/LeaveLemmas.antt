-- Blocks that lose items, and running lengths that sink.
use Rattle.std.proofs.Common.{◌≡◌, ℕ, suc, zero, ◌+◌, ◌-◌, ◌<◌, ◌≤◌, arith, List, [], ◌∷◌, ◌++◌, length, take, drop, map, ap, sym, subst, ◌∙◌, refl, get_or, set, length-append, length-take, length-drop, append_assoc}
use Rattle.std.specs.List.{remove}
use Rattle.std.proofs.Math.Seq.{take-append-add, drop-append-add}
use Rattle.std.proofs.lemmas.List.{take-append-le, drop-append-le}
use Rattle.std.proofs.lemmas.Bool.{cases_lt}
use Rattle.std.proofs.Common.{inl, inr, ◌^◌}
use Rattle.amqp_blocks.specs.Inner.Changes.{IsSunk, IsSwept, EachSomeBut}
use Rattle.amqp_blocks.specs.Chunked.{Block, in_block, items_of, start_of, ends_from, EachSome, without}

module _ {T : Type 0} where
  pub items_thinned : (bs : List (Block T)) (i at count r : ℕ) (b c : Block T) → i < length bs → b ≡ get_or bs i b → at + count ≤ length b.items → c.items ≡ take at b.items ++ drop (at + count) b.items → r ≡ start_of bs i + at → items_of (set bs i c) ≡ without r count (items_of bs)
  items_thinned [] i at count r b c h e w f s = absurd (omega arith)
  items_thinned (d ∷ ds) zero at count r b c h e w f s =
      let same : b.items ≡ d.items = ap in_block e in
      let at_is : r ≡ at = omega (arith, s) in
      let w : at + count ≤ length d.items = subst (λ (xs : List T). at + count ≤ length xs) same w in
      let f : c.items ≡ take at d.items ++ drop (at + count) d.items = f ∙ ap (λ (xs : List T). take at xs ++ drop (at + count) xs) same in
      ap (λ (xs : List T). xs ++ items_of ds) f ∙ append_assoc (take at d.items) (drop (at + count) d.items) (items_of ds)
      ∙ ap (λ (xs : List T). xs ++ (drop (at + count) d.items ++ items_of ds)) (sym (take-append-le at d.items (items_of ds) (omega (arith, w))))
      ∙ ap (λ (xs : List T). take at (d.items ++ items_of ds) ++ xs) (sym (drop-append-le (at + count) d.items (items_of ds) w))
      ∙ ap (λ n. without n count (d.items ++ items_of ds)) (sym at_is)
  items_thinned (d ∷ ds) (suc i) at count r b c h e w f s =
      let l = length-append d.items (items_of (take i ds)) in
      let r' : ℕ = start_of ds i + at in
      let r_is : length d.items + r' ≡ r = omega (arith, l, s) in
      let more = items_thinned ds i at count r' b c (omega arith) e w f refl in
      let k_is : length d.items + (r' + count) ≡ r + count = omega (arith, r_is) in
      ap (λ (xs : List T). d.items ++ xs) more ∙ sym (append_assoc d.items (take r' (items_of ds)) (drop (r' + count) (items_of ds)))
      ∙ ap (λ (xs : List T). xs ++ drop (r' + count) (items_of ds)) (sym (take-append-add d.items (items_of ds) r') ∙ ap (λ n. take n (d.items ++ items_of ds)) r_is)
      ∙ ap (λ (xs : List T). take r (d.items ++ items_of ds) ++ xs) (sym (drop-append-add d.items (items_of ds) (r' + count)) ∙ ap (λ n. drop n (d.items ++ items_of ds)) k_is)

  pub size_thinned : (b c : Block T) (at count : ℕ) → at + count ≤ length b.items → c.items ≡ take at b.items ++ drop (at + count) b.items → length c.items + count ≡ length b.items
  size_thinned b c at count w f =
      let l = ap length f ∙ length-append (take at b.items) (drop (at + count) b.items) in
      omega (arith, l, length-take at b.items, length-drop (at + count) b.items, w)

  -- running lengths that sink are those from a lower number on
  pub sunk : (m n count : ℕ) (bs : List (Block T)) → n ≡ m + count → map (λ e. e - count) (ends_from n bs) ≡ ends_from m bs
  sunk m n count [] e = refl
  sunk m n count (b ∷ bs) e =
      let h : n + length b.items - count ≡ m + length b.items = omega (arith, e) in
      ap (λ k. k ∷ map (λ e. e - count) (ends_from (n + length b.items) bs)) h
      ∙ ap (λ (ks : List ℕ). (m + length b.items) ∷ ks) (sunk (m + length b.items) (n + length b.items) count bs (omega (arith, e)))

  pub ends_thinned : (n : ℕ) (bs : List (Block T)) (i count : ℕ) (b c : Block T) → i < length bs → b ≡ get_or bs i b → length c.items + count ≡ length b.items → ends_from n (set bs i c) ≡ take i (ends_from n bs) ++ map (λ e. e - count) (drop i (ends_from n bs))
  ends_thinned n [] i count b c h e s = absurd (omega arith)
  ends_thinned n (d ∷ ds) zero count b c h e s =
      let same : length b.items ≡ length d.items = ap (λ (x : Block T). length x.items) e in
      let k : n + length c.items ≡ n + length d.items - count = omega (arith, same, s) in
      ap (λ (ks : List ℕ). (n + length c.items) ∷ ks) (sym (sunk (n + length c.items) (n + length d.items) count ds (omega (arith, same, s))))
      ∙ ap (λ m. m ∷ map (λ e. e - count) (ends_from (n + length d.items) ds)) k
  ends_thinned n (d ∷ ds) (suc i) count b c h e s =
      ap (λ (ks : List ℕ). (n + length d.items) ∷ ks) (ends_thinned (n + length d.items) ds i count b c (omega arith) e s)

  -- the base rises where the first block loses items
  pub ends_risen : (n : ℕ) (bs : List (Block T)) (i count : ℕ) (b c : Block T) → i ≡ 0 → i < length bs → b ≡ get_or bs i b → length c.items + count ≡ length b.items → ends_from (n + count) (set bs i c) ≡ ends_from n bs
  ends_risen n [] i count b c z h e s = absurd (omega arith)
  ends_risen n (d ∷ ds) zero count b c z h e s =
      let same : length b.items ≡ length d.items = ap (λ (x : Block T). length x.items) e in
      let k : n + count + length c.items ≡ n + length d.items = omega (arith, same, s) in
      ap (λ m. m ∷ ends_from m ds) k
  ends_risen n (d ∷ ds) (suc i) count b c z h e s = absurd (omega (arith, z))

  -- or the base and the lengths before a block that loses items
  pub ends_lifted : (n : ℕ) (bs : List (Block T)) (i count : ℕ) (b c : Block T) → i < length bs → b ≡ get_or bs i b → length c.items + count ≡ length b.items → ends_from (n + count) (set bs i c) ≡ map (λ e. e + count) (take i (ends_from n bs)) ++ drop i (ends_from n bs)
  ends_lifted n [] i count b c h e s = absurd (omega arith)
  ends_lifted n (d ∷ ds) zero count b c h e s =
      let same : length b.items ≡ length d.items = ap (λ (x : Block T). length x.items) e in
      let k : n + count + length c.items ≡ n + length d.items = omega (arith, same, s) in
      ap (λ m. m ∷ ends_from m ds) k
  ends_lifted n (d ∷ ds) (suc i) count b c h e s =
      let k : n + count + length d.items ≡ n + length d.items + count = omega arith in
      ap (λ m. m ∷ ends_from m (set ds i c)) k
      ∙ ap (λ (ks : List ℕ). (n + length d.items + count) ∷ ks) (ends_lifted (n + length d.items) ds i count b c (omega arith) e s)

  -- no end is above all items, counted from there
  pub ends_high : (n : ℕ) (bs : List (Block T)) (k : ℕ) → k < length (ends_from n bs) → get_or (ends_from n bs) k 0 ≤ n + length (items_of bs)
  ends_high n [] k h = absurd (omega arith)
  ends_high n (b ∷ bs) zero h = let l = length-append b.items (items_of bs) in omega (arith, l)
  ends_high n (b ∷ bs) (suc k) h =
      let l = length-append b.items (items_of bs) in
      let m = ends_high (n + length b.items) bs k (omega (arith, h)) in
      omega (arith, l, m)

  -- no end is below what it is counted from
  pub ends_low : (n : ℕ) (bs : List (Block T)) (k : ℕ) → k < length (ends_from n bs) → n ≤ get_or (ends_from n bs) k 0
  ends_low n [] k h = absurd (omega arith)
  ends_low n (b ∷ bs) zero h = omega arith
  ends_low n (b ∷ bs) (suc k) h = let m = ends_low (n + length b.items) bs k (omega (arith, h)) in omega (arith, m)

  -- nor below the items of its block
  pub ends_enough : (n : ℕ) (bs : List (Block T)) (i count : ℕ) (b : Block T) → i < length bs → b ≡ get_or bs i b → count ≤ length b.items → (k : ℕ) → k < length (drop i (ends_from n bs)) → count ≤ get_or (drop i (ends_from n bs)) k 0
  ends_enough n [] i count b h e s k lt = absurd (omega arith)
  ends_enough n (d ∷ ds) zero count b h e s zero lt = let same : length b.items ≡ length d.items = ap (λ (x : Block T). length x.items) e in omega (arith, same, s)
  ends_enough n (d ∷ ds) zero count b h e s (suc k) lt =
      let same : length b.items ≡ length d.items = ap (λ (x : Block T). length x.items) e in
      let m = ends_low (n + length d.items) ds k (omega (arith, lt)) in
      omega (arith, same, s, m)
  ends_enough n (d ∷ ds) (suc i) count b h e s k lt = ends_enough (n + length d.items) ds i count b (omega arith) e s k lt

  no_items : (xs : List T) → length xs ≡ 0 → xs ≡ []
  no_items [] h = refl
  no_items (x ∷ xs) h = absurd (omega (arith, h))

  -- an empty block may go
  pub items_swept : (bs : List (Block T)) (i : ℕ) (b : Block T) → i < length bs → b ≡ get_or bs i b → length b.items ≡ 0 → items_of (remove bs i) ≡ items_of bs
  items_swept [] i b h e z = absurd (omega arith)
  items_swept (d ∷ ds) zero b h e z =
      let none : d.items ≡ [] = sym (ap in_block e) ∙ no_items b.items z in
      sym (ap (λ (xs : List T). xs ++ items_of ds) none)
  items_swept (d ∷ ds) (suc i) b h e z = ap (λ (xs : List T). d.items ++ xs) (items_swept ds i b (omega arith) e z)

  pub ends_swept : (n : ℕ) (bs : List (Block T)) (i : ℕ) (b : Block T) → i < length bs → b ≡ get_or bs i b → length b.items ≡ 0 → remove (ends_from n bs) i ≡ ends_from n (remove bs i)
  ends_swept n [] i b h e z = absurd (omega arith)
  ends_swept n (d ∷ ds) zero b h e z =
      let same : length b.items ≡ length d.items = ap (λ (x : Block T). length x.items) e in
      let k : n + length d.items ≡ n = omega (arith, same, z) in
      ap (λ m. ends_from m ds) k
  ends_swept n (d ∷ ds) (suc i) b h e z = ap (λ (ks : List ℕ). (n + length d.items) ∷ ks) (ends_swept (n + length d.items) ds i b (omega arith) e z)

  pub some_at : (bs : List (Block T)) (i : ℕ) (b : Block T) → EachSome bs → i < length bs → b ≡ get_or bs i b → (0 < length b.items) × (length b.items ≤ 256)
  some_at [] i b v h e = absurd (omega arith)
  some_at (d ∷ ds) zero b v h e = let same : length b.items ≡ length d.items = ap (λ (x : Block T). length x.items) e in (omega (arith, same, v.0), omega (arith, same, v.1))
  some_at (d ∷ ds) (suc i) b v h e = some_at ds i b v.2 (omega arith) e

  pub some_set : (bs : List (Block T)) (i : ℕ) (c : Block T) → EachSome bs → 0 < length c.items → length c.items ≤ 256 → EachSome (set bs i c)
  some_set [] i c v s m = v
  some_set (d ∷ ds) zero c v s m = (s, m, v.2)
  some_set (d ∷ ds) (suc i) c v s m = (v.0, v.1, some_set ds i c v.2 s m)

  pub at_set : (bs : List (Block T)) (i : ℕ) (c d : Block T) → i < length bs → get_or (set bs i c) i d ≡ c
  at_set [] i c d h = absurd (omega arith)
  at_set (b ∷ bs) zero c d h = refl
  at_set (b ∷ bs) (suc i) c d h = at_set bs i c d (omega arith)

  pub length_without : (r count : ℕ) (items : List T) → length (without r count items) ≤ length items
  length_without r count items =
      omega (arith, length-append (take r items) (drop (r + count) items), length-take r items, length-drop (r + count) items)

  -- ---- the steps of a cut

  pub sunk_or_risen : (base risen : ℕ) (bs : List (Block T)) (old new : List ℕ) (i count : ℕ) (b c : Block T) → i < length bs → b ≡ get_or bs i b → length c.items + count ≡ length b.items → old ≡ ends_from base bs → IsSunk base old i count risen new → new ≡ ends_from risen (set bs i c)
  sunk_or_risen base risen bs old new i count b c h f s e (inl w) =
      w.1 ∙ ap (λ (ks : List ℕ). take i ks ++ map (λ e. e - count) (drop i ks)) e
      ∙ sym (ends_thinned base bs i count b c h f s) ∙ ap (λ m. ends_from m (set bs i c)) (sym w.0)
  sunk_or_risen base risen bs old new i count b c h f s e (inr w) =
      w.1 ∙ ap (λ (ks : List ℕ). map (λ e. e + count) (take i ks) ++ drop i ks) e
      ∙ sym (ends_lifted base bs i count b c h f s) ∙ ap (λ m. ends_from m (set bs i c)) (sym w.0)

  pub some_block : (bs : List (Block T)) (i : ℕ) → i < length bs → (b : Block T) × (b ≡ get_or bs i b)
  some_block [] i h = absurd (omega arith)
  some_block (c ∷ cs) zero h = (c, refl)
  some_block (c ∷ cs) (suc i) h = some_block cs i (omega arith)

  -- ---- a block that may be empty

  pub some_but_set : (bs : List (Block T)) (i : ℕ) (c : Block T) → EachSome bs → length c.items ≤ 256 → EachSomeBut (set bs i c) i
  some_but_set [] i c v m = v
  some_but_set (d ∷ ds) zero c v m = (m, v.2)
  some_but_set (d ∷ ds) (suc i) c v m = (v.0, v.1, some_but_set ds i c v.2 m)

  some_but_swept : (bs : List (Block T)) (i : ℕ) → EachSomeBut bs i → EachSome (remove bs i)
  some_but_swept [] zero v = tt
  some_but_swept [] (suc i) v = tt
  some_but_swept (d ∷ ds) zero v = v.1
  some_but_swept (d ∷ ds) (suc i) v = (v.0, v.1, some_but_swept ds i v.2)

  some_but_kept : (bs : List (Block T)) (i : ℕ) (b : Block T) → EachSomeBut bs i → b ≡ get_or bs i b → 0 < length b.items → EachSome bs
  some_but_kept [] i b v e s = v
  some_but_kept (d ∷ ds) zero b v e s = let same : length b.items ≡ length d.items = ap (λ (x : Block T). length x.items) e in (omega (arith, same, s), v.0, v.1)
  some_but_kept (d ∷ ds) (suc i) b v e s = (v.0, v.1, some_but_kept ds i b v.2 e s)

  pub record Swept (base : ℕ) (old new : List (Block T)) (stops : List ℕ) : Type 0 where
    pub ends : stops ≡ ends_from base new
    pub items : items_of new ≡ items_of old
    pub some : EachSome new

  pub sweep_is : (base : ℕ) (bs new : List (Block T)) (ends stops : List ℕ) (i : ℕ) → EachSomeBut bs i → i < length bs → ends ≡ ends_from base bs → IsSwept bs ends i new stops → Swept base bs new stops
  sweep_is base bs new ends stops i v h e w =
      let b = some_block bs i h in
      elim (cases_lt 0 (length b.0.items)) [
        | inl some ↦
            let u = (w b.0 b.1).1 some in
            record {
              ends = u.1 ∙ e ∙ ap (ends_from base) (sym u.0);
              items = ap items_of u.0;
              some = subst EachSome (sym u.0) (some_but_kept bs i b.0 v b.1 some);
            }
        | inr none ↦
            let z : length b.0.items ≡ 0 = omega (arith, none) in
            let u = (w b.0 b.1).0 z in
            record {
              ends = u.1 ∙ ap (λ (ks : List ℕ). remove ks i) e ∙ ends_swept base bs i b.0 h b.1 z ∙ ap (ends_from base) (sym u.0);
              items = ap items_of u.0 ∙ items_swept bs i b.0 h b.1 z;
              some = subst EachSome (sym u.0) (some_but_swept bs i v);
            }
      ]

  pub settle_is : (base risen : ℕ) (bs : List (Block T)) (old new : List ℕ) → old ≡ ends_from base bs → (base ≤ 2 ^ 32 → (new ≡ old) × (risen ≡ base)) → (2 ^ 32 < base → (new ≡ map (λ e. e - base) old) × (risen ≡ 0)) → (new ≡ ends_from risen bs) × (risen ≤ 2 ^ 33)
  settle_is base risen bs old new e small large =
      elim (cases_lt (2 ^ 32) base) [
        | inl lt ↦
            let w = large lt in
            (w.0 ∙ ap (map (λ e. e - base)) e ∙ sunk 0 base base bs (omega arith) ∙ ap (λ m. ends_from m bs) (sym w.1), omega (arith, w.1))
        | inr ge ↦ let w = small ge in (w.0 ∙ e ∙ ap (λ m. ends_from m bs) (sym w.1), omega (arith, w.1, ge))
      ]

  -- the first item leaves
  pub items_popped : (bs : List (Block T)) (i : ℕ) (b c : Block T) (x : T) → i ≡ 0 → i < length bs → b ≡ get_or bs i b → b.items ≡ x ∷ c.items → items_of bs ≡ x ∷ items_of (set bs i c)
  items_popped [] i b c x z h e f = absurd (omega arith)
  items_popped (d ∷ ds) zero b c x z h e f = ap (λ (xs : List T). xs ++ items_of ds) (sym (ap in_block e) ∙ f)
  items_popped (d ∷ ds) (suc i) b c x z h e f = absurd (omega (arith, z))
