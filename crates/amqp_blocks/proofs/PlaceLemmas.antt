-- The places of items in blocks.
use Rattle.std.proofs.Common.{◌≡◌, ℕ, suc, zero, ◌+◌, ◌-◌, ◌<◌, ◌≤◌, arith, List, [], ◌∷◌, length, take, ap, sym, subst, ◌∙◌, refl, Some, None, get_or, slice_get, slice_index, length-append, inl, inr}
use Rattle.std.proofs.lemmas.List.{take_all}
use Rattle.std.proofs.lemmas.List.Concat.{get_or-flat_map}
use Rattle.std.proofs.lemmas.Option.{slice_get-get_or}
use Rattle.amqp_blocks.specs.Chunked.{Block, in_block, items_of, start_of, ends_from, HasItem}
use Rattle.std.proofs.lemmas.Bool.{cases_lt}

module _ {X : Type 0} where
  -- what is read at a place, whatever stands for nothing
  pub same_at : (xs : List X) (i : ℕ) (a b : X) → i < length xs → a ≡ get_or xs i a → b ≡ get_or xs i b → a ≡ b
  same_at [] i a b h e f = absurd (omega arith)
  same_at (x ∷ xs) zero a b h e f = e ∙ sym f
  same_at (x ∷ xs) (suc i) a b h e f = same_at xs i a b (omega arith) e f

  pub read_none : (xs : List X) (i : ℕ) → length xs ≡ 0 → slice_get xs i ≡ None
  read_none [] i h = refl
  read_none (x ∷ xs) i h = absurd (omega (arith, h))

module _ {T : Type 0} where
  pub ends_length : (n : ℕ) (bs : List (Block T)) → length (ends_from n bs) ≡ length bs
  ends_length n [] = refl
  ends_length n (b ∷ bs) = ap suc (ends_length (n + length b.items) bs)

  -- where a block ends
  pub end_at : (n : ℕ) (bs : List (Block T)) (i : ℕ) → i < length bs → get_or (ends_from n bs) i 0 ≡ n + start_of bs (suc i)
  end_at n [] i h = absurd (omega arith)
  end_at n (b ∷ bs) zero h = let e = length-append b.items [] in omega (arith, e)
  end_at n (b ∷ bs) (suc i) h =
      let e = end_at (n + length b.items) bs i (omega arith) in
      let l = length-append b.items (items_of (take (suc i) bs)) in
      omega (arith, e, l)

  -- a block begins where the one before it ends
  pub start_more : (bs : List (Block T)) (i : ℕ) (b : Block T) → i < length bs → b ≡ get_or bs i b → start_of bs (suc i) ≡ start_of bs i + length b.items
  start_more [] i b h e = absurd (omega arith)
  start_more (c ∷ cs) zero b h e = length-append c.items [] ∙ (let s = ap (λ (x : Block T). length x.items) e in omega (arith, s))
  start_more (c ∷ cs) (suc i) b h e =
      let r = start_more cs i b (omega arith) e in
      let l = length-append c.items (items_of (take (suc i) cs)) in
      let k = length-append c.items (items_of (take i cs)) in
      omega (arith, r, l, k)

  pub start_few : (bs : List (Block T)) (i : ℕ) → start_of bs i ≤ length (items_of bs)
  start_few bs zero = omega arith
  start_few [] (suc i) = omega arith
  start_few (c ∷ cs) (suc i) =
      let l = length-append c.items (items_of (take i cs)) in
      let k = length-append c.items (items_of cs) in
      omega (arith, start_few cs i, l, k)

  pub start_all : (bs : List (Block T)) (i : ℕ) → length bs ≤ i → start_of bs i ≡ length (items_of bs)
  start_all bs i h = ap (λ (cs : List (Block T)). length (items_of cs)) (take_all i bs h)

  -- ---- what the running lengths say

  pub end_is : (base : ℕ) (bs : List (Block T)) (ends : List ℕ) (i k : ℕ) → ends ≡ ends_from base bs → i < length bs → k ≡ suc i → slice_index ends i ≡ base + start_of bs k
  end_is base bs ends i k e h s = ap (λ (es : List ℕ). get_or es i 0) e ∙ end_at base bs i h ∙ ap (λ n. base + start_of bs n) (sym s)

  -- the last one is that of all
  pub last_end : (base : ℕ) (bs : List (Block T)) (ends : List ℕ) (i : ℕ) → ends ≡ ends_from base bs → length bs ≡ i + 1 → slice_index ends i ≡ base + length (items_of bs)
  last_end base bs ends i e h =
      let l : length bs ≤ suc i = omega (arith, h) in
      end_is base bs ends i (suc i) e (omega (arith, h)) refl ∙ ap (λ n. base + n) (start_all bs (suc i) l)

  pub no_items_of : (bs : List (Block T)) → length bs ≡ 0 → length (items_of bs) ≡ 0
  no_items_of [] h = refl
  no_items_of (b ∷ bs) h = absurd (omega (arith, h))

  pub some_blocks : (bs : List (Block T)) (rank : ℕ) → rank < length (items_of bs) → 0 < length bs
  some_blocks [] rank h = absurd (omega arith)
  some_blocks (b ∷ bs) rank h = omega arith

  -- the item of a block and a place
  pub item_at : (bs : List (Block T)) (i j rank : ℕ) (b : Block T) (x : T) → i < length bs → b ≡ get_or bs i b → rank ≡ start_of bs i + j → j < length b.items → x ≡ get_or b.items j x → slice_get (items_of bs) rank ≡ Some x
  item_at bs i j rank b x h e r lt f =
      let within : j < length (in_block (get_or bs i b)) = subst (λ (c : Block T). j < length c.items) e lt in
      let read : get_or (items_of bs) (start_of bs i + j) x ≡ x = get_or-flat_map in_block bs i j b x h within ∙ ap (λ (c : Block T). get_or c.items j x) (sym e) ∙ sym f in
      let more = start_more bs i b h e in
      let few : start_of bs (suc i) ≤ length (items_of bs) = start_few bs (suc i) in
      let near : start_of bs i + j < length (items_of bs) = omega (arith, more, few, lt) in
      subst (λ n. slice_get (items_of bs) n ≡ Some x) (sym r) (slice_get-get_or (items_of bs) (start_of bs i + j) x near ∙ ap Some read)

  -- ---- a rank

  -- the running lengths say where a rank is
  pub placed : (base : ℕ) (bs : List (Block T)) (ends : List ℕ) (block at rank : ℕ) → ends ≡ ends_from base bs → block < length bs → (block ≡ 0 → at ≡ rank) → (0 < block → slice_index ends (block - 1) + at ≡ base + rank) → rank ≡ start_of bs block + at
  placed base bs ends zero at rank e h first other = let f = first refl in omega (arith, f)
  placed base bs ends (suc block) at rank e h first other =
      let o = other (omega arith) in
      let s : slice_index ends (suc block - 1) ≡ base + start_of bs (suc block) = end_is base bs ends (suc block - 1) (suc block) e (omega arith) (omega arith) in
      omega (arith, o, s)

  pub within_block : (base : ℕ) (bs : List (Block T)) (ends : List ℕ) (block at rank : ℕ) (b : Block T) → ends ≡ ends_from base bs → block < length bs → rank ≡ start_of bs block + at → base + rank < slice_index ends block → b ≡ get_or bs block b → at < length b.items
  within_block base bs ends block at rank b e h r after f =
      let s : slice_index ends block ≡ base + start_of bs (suc block) = end_is base bs ends block (suc block) e h refl in
      let m = start_more bs block b h f in
      omega (arith, s, m, r, after)

  pub ends_long : (base : ℕ) (bs : List (Block T)) (ends : List ℕ) → ends ≡ ends_from base bs → length ends ≡ length bs
  ends_long base bs ends e = ap length e ∙ ends_length base bs

  -- the last end is after each rank
  pub reaches : (base : ℕ) (bs : List (Block T)) (ends : List ℕ) (rank : ℕ) → ends ≡ ends_from base bs → rank < length (items_of bs) → (0 < length ends) × (base + rank < slice_index ends (length ends - 1))
  reaches base bs ends rank e h =
      let long = ends_long base bs ends e in
      let some = some_blocks bs rank h in
      let last = last_end base bs ends (length ends - 1) e (omega (arith, long, some)) in
      (omega (arith, long, some), omega (arith, last, h))

  pub total_is : (base n : ℕ) (bs : List (Block T)) (ends : List ℕ) → ends ≡ ends_from base bs → (length ends ≡ 0 → n ≡ 0) → (0 < length ends → base + n ≡ slice_index ends (length ends - 1)) → n ≡ length (items_of bs)
  total_is base n [] ends e none some = let h : length ends ≡ 0 = ends_long base [] ends e in none h
  total_is base n (b ∷ bs) ends e none some =
      let long : length ends ≡ suc (length bs) = ends_long base (b ∷ bs) ends e in
      let last = last_end base (b ∷ bs) ends (length ends - 1) e (omega (arith, long)) in
      let s = some (omega (arith, long)) in
      omega (arith, last, s)

  pub base_low : (base : ℕ) (bs : List (Block T)) (ends : List ℕ) → ends ≡ ends_from base bs → 0 < length ends → base ≤ slice_index ends (length ends - 1)
  base_low base bs ends e h =
      let long = ends_long base bs ends e in
      let last = last_end base bs ends (length ends - 1) e (omega (arith, long, h)) in
      omega (arith, last)

  -- where a block begins
  pub start_is : (base : ℕ) (bs : List (Block T)) (ends : List ℕ) (k s : ℕ) → ends ≡ ends_from base bs → k ≤ length bs → (k ≡ 0 → s ≡ base) → (0 < k → s ≡ slice_index ends (k - 1)) → s ≡ base + start_of bs k
  start_is base bs ends zero s e h first other = let f = first refl in omega (arith, f)
  start_is base bs ends (suc k) s e h first other =
      other (omega arith) ∙ end_is base bs ends (suc k - 1) (suc k) e (omega arith) (omega arith)

  -- a place that may be after the last block
  pub placed_end : (base : ℕ) (bs : List (Block T)) (ends : List ℕ) (block at rank : ℕ) → ends ≡ ends_from base bs → block ≤ length bs → (block ≡ 0 → at ≡ rank) → (0 < block → slice_index ends (block - 1) + at ≡ base + rank) → rank ≡ start_of bs block + at
  placed_end base bs ends zero at rank e h first other = let f = first refl in omega (arith, f)
  placed_end base bs ends (suc block) at rank e h first other =
      let o = other (omega arith) in
      let s : slice_index ends (suc block - 1) ≡ base + start_of bs (suc block) = end_is base bs ends (suc block - 1) (suc block) e (omega (arith, h)) (omega arith) in
      omega (arith, o, s)

  -- what a search tells of the place that it found
  pub record Located (bs : List (Block T)) (rank block at : ℕ) : Type 0 where
    pub block_is : block < length bs
    pub rank_is : rank ≡ start_of bs block + at
    pub item : HasItem bs block at

  pub located : (base : ℕ) (bs : List (Block T)) (ends : List ℕ) (block at rank : ℕ) → ends ≡ ends_from base bs → block < length ends → (block ≡ 0 → at ≡ rank) → (0 < block → slice_index ends (block - 1) + at ≡ base + rank) → base + rank < slice_index ends block → Located bs rank block at
  located base bs ends block at rank e lt first other after =
      let h : block < length bs = let long = ends_long base bs ends e in omega (arith, lt, long) in
      let r = placed base bs ends block at rank e h first other in
      record { block_is = h; rank_is = r; item = λ b f. within_block base bs ends block at rank b e h r after f }

  pub start_mono : (bs : List (Block T)) (i j : ℕ) → i ≤ j → start_of bs i ≤ start_of bs j
  start_mono bs zero j h = omega arith
  start_mono bs (suc i) zero h = absurd (omega arith)
  start_mono [] (suc i) (suc j) h = omega arith
  start_mono (b ∷ bs) (suc i) (suc j) h =
      let m = start_mono bs i j (omega arith) in
      omega (arith, m, length-append b.items (items_of (take i bs)), length-append b.items (items_of (take j bs)))

  -- a place after all of a block is in a later one
  pub comes_later : (base : ℕ) (bs : List (Block T)) (ends : List ℕ) (i j to : ℕ) → ends ≡ ends_from base bs → i < length bs → j ≤ length bs → start_of bs (suc i) < to → (j < length ends → base + to < slice_index ends j) → i < j
  comes_later base bs ends i j to e h w gt after =
      let long = ends_long base bs ends e in
      elim (cases_lt i j) [
        | inl lt ↦ lt
        | inr ge ↦
            let lt : j < length bs = omega (arith, h, ge) in
            let s = end_is base bs ends j (suc j) e lt refl in
            let b = after (omega (arith, lt, long)) in
            let m = start_mono bs (suc j) (suc i) (omega (arith, ge)) in
            absurd (omega (arith, s, b, m, gt))
      ]
