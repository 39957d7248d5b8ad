-- Items that pass the borders of blocks.
use Rattle.std.proofs.Common.{◌≡◌, ◌≢◌, ℕ, suc, zero, ◌+◌, ◌-◌, ◌<◌, ◌≤◌, arith, List, [], ◌∷◌, ◌++◌, length, take, ap, sym, subst, ◌∙◌, refl, get_or, set, length-append, length-set, append_assoc, get_or-set_other}
use Rattle.std.specs.List.{insert}
use Rattle.std.proofs.lemmas.List.Edits.{insert-append_left, insert-append_right, length-insert}
use Rattle.amqp_blocks.specs.Chunked.{Block, in_block, items_of, start_of, ends_from, EachSome, places_of, HasPlace}
use Rattle.amqp_blocks.specs.Inner.Changes.{IsShifted, IsUnshifted, IsPassed}
use Rattle.amqp_blocks.proofs.LeaveLemmas.{some_at, some_set, some_block}
use Rattle.amqp_blocks.proofs.PlaceLemmas.{start_more}
use Rattle.amqp_blocks.proofs.PutLemmas.{size_of}
use Rattle.amqp_blocks.proofs.RoomLemmas.{places_set}

module _ {T : Type 0} where
  -- an item at the start of what follows a list
  seam : (xs ys : List T) (n : ℕ) (y : T) → n ≡ length xs → insert (xs ++ ys) n y ≡ xs ++ y ∷ ys
  seam xs ys n y e =
      let z : n - length xs ≡ 0 = omega (arith, e) in
      insert-append_right xs ys (length xs) n y refl (omega (arith, e)) ∙ ap (λ m. xs ++ insert ys m y) z

  pub items_shifted : (bs : List (Block T)) (i at : ℕ) (b c : Block T) (x y : T) → i < length bs → b ≡ get_or bs i b → at ≤ length b.items → c.items ++ y ∷ [] ≡ insert b.items at x → insert (items_of (set bs i c)) (start_of (set bs i c) (suc i)) y ≡ insert (items_of bs) (start_of bs i + at) x
  items_shifted [] i at b c x y h e w f = absurd (omega arith)
  items_shifted (d ∷ ds) zero at b c x y h e w f =
      let same : b.items ≡ d.items = ap in_block e in
      let z : at ≡ start_of (d ∷ ds) 0 + at = omega arith in
      seam c.items (items_of ds) (start_of (c ∷ ds) 1) y (let l = length-append c.items [] in omega (arith, l))
      ∙ sym (append_assoc c.items (y ∷ []) (items_of ds))
      ∙ ap (λ (xs : List T). xs ++ items_of ds) (f ∙ ap (λ (xs : List T). insert xs at x) same)
      ∙ sym (insert-append_left d.items (items_of ds) at x (omega (arith, ap length same, w)))
      ∙ ap (λ n. insert (d.items ++ items_of ds) n x) z
  items_shifted (d ∷ ds) (suc i) at b c x y h e w f =
      let l = length-append d.items (items_of (take (suc i) (set ds i c))) in
      let k = length-append d.items (items_of (take i ds)) in
      let p : start_of (d ∷ set ds i c) (suc (suc i)) - length d.items ≡ start_of (set ds i c) (suc i) = omega (arith, l) in
      let q : start_of ds i + at ≡ start_of (d ∷ ds) (suc i) + at - length d.items = omega (arith, k) in
      insert-append_right d.items (items_of (set ds i c)) (length d.items) (start_of (d ∷ set ds i c) (suc (suc i))) y refl (omega (arith, l))
      ∙ ap (λ (xs : List T). d.items ++ xs) (ap (λ n. insert (items_of (set ds i c)) n y) p ∙ items_shifted ds i at b c x y (omega arith) e w f ∙ ap (λ n. insert (items_of ds) n x) q)
      ∙ sym (insert-append_right d.items (items_of ds) (length d.items) (start_of (d ∷ ds) (suc i) + at) x refl (omega (arith, k)))

  pub items_unshifted : (bs : List (Block T)) (i at : ℕ) (b c : Block T) (x y : T) → i < length bs → b ≡ get_or bs i b → at ≤ length b.items → y ∷ c.items ≡ insert b.items at x → insert (items_of (set bs i c)) (start_of (set bs i c) i) y ≡ insert (items_of bs) (start_of bs i + at) x
  items_unshifted [] i at b c x y h e w f = absurd (omega arith)
  items_unshifted (d ∷ ds) zero at b c x y h e w f =
      let same : b.items ≡ d.items = ap in_block e in
      let z : at ≡ start_of (d ∷ ds) 0 + at = omega arith in
      ap (λ (xs : List T). xs ++ items_of ds) (f ∙ ap (λ (xs : List T). insert xs at x) same)
      ∙ sym (insert-append_left d.items (items_of ds) at x (omega (arith, ap length same, w)))
      ∙ ap (λ n. insert (d.items ++ items_of ds) n x) z
  items_unshifted (d ∷ ds) (suc i) at b c x y h e w f =
      let l = length-append d.items (items_of (take i (set ds i c))) in
      let k = length-append d.items (items_of (take i ds)) in
      let p : start_of (d ∷ set ds i c) (suc i) - length d.items ≡ start_of (set ds i c) i = omega (arith, l) in
      let q : start_of ds i + at ≡ start_of (d ∷ ds) (suc i) + at - length d.items = omega (arith, k) in
      insert-append_right d.items (items_of (set ds i c)) (length d.items) (start_of (d ∷ set ds i c) (suc i)) y refl (omega (arith, l))
      ∙ ap (λ (xs : List T). d.items ++ xs) (ap (λ n. insert (items_of (set ds i c)) n y) p ∙ items_unshifted ds i at b c x y (omega arith) e w f ∙ ap (λ n. insert (items_of ds) n x) q)
      ∙ sym (insert-append_right d.items (items_of ds) (length d.items) (start_of (d ∷ ds) (suc i) + at) x refl (omega (arith, k)))

  pub ends_same : (n : ℕ) (bs : List (Block T)) (i : ℕ) (b c : Block T) → i < length bs → b ≡ get_or bs i b → length c.items ≡ length b.items → ends_from n (set bs i c) ≡ ends_from n bs
  ends_same n [] i b c h e f = absurd (omega arith)
  ends_same n (d ∷ ds) zero b c h e f = ap (λ k. (n + k) ∷ ends_from (n + k) ds) (f ∙ size_of b d e)
  ends_same n (d ∷ ds) (suc i) b c h e f = ap (λ (ks : List ℕ). (n + length d.items) ∷ ks) (ends_same (n + length d.items) ds i b c (omega arith) e f)

  pub count_same : (bs : List (Block T)) (i : ℕ) (b c : Block T) → i < length bs → b ≡ get_or bs i b → length c.items ≡ length b.items → length (items_of (set bs i c)) ≡ length (items_of bs)
  count_same [] i b c h e f = absurd (omega arith)
  count_same (d ∷ ds) zero b c h e f =
      omega (arith, length-append c.items (items_of ds), length-append d.items (items_of ds), f, size_of b d e)
  count_same (d ∷ ds) (suc i) b c h e f =
      omega (arith, length-append d.items (items_of (set ds i c)), length-append d.items (items_of ds), count_same ds i b c (omega arith) e f)

  -- one block has other items, as many as before
  passed_by : (bs cs : List (Block T)) (i at r s : ℕ) (b c : Block T) (x y : T) → i < length bs → b ≡ get_or bs i b → cs ≡ set bs i c → length c.items ≡ length b.items → b.cap ≤ c.cap → insert (items_of cs) s y ≡ insert (items_of bs) r x → IsPassed bs r x cs s y
  passed_by bs cs i at r s b c x y h e q f p w = record {
    sizes = λ n. ap (ends_from n) q ∙ ends_same n bs i b c h e f;
    some = λ v. let size = some_at bs i b v h e in subst EachSome (sym q) (some_set bs i c v (omega (arith, f, size.0)) (omega (arith, f, size.1)));
    items = w;
    count = ap (λ (xs : List (Block T)). length (items_of xs)) q ∙ count_same bs i b c h e f;
    blocks = ap length q ∙ length-set bs i c;
    places = let m = places_set bs i b c h e p in omega (arith, m, ap places_of q);
  }

  pub shifted_passes : (bs cs : List (Block T)) (i k at : ℕ) (x y : T) → i < length bs → (u : IsShifted bs i at x y cs) → at ≤ length u.from.items → k ≡ suc i → IsPassed bs (start_of bs i + at) x cs (start_of cs k) y
  shifted_passes bs cs i k at x y h u w e =
      let size = ap length u.items in
      let same : length u.to.items ≡ length u.from.items = omega (arith, size, length-append u.to.items (y ∷ []), length-insert u.from.items at x w) in
      let items = items_shifted bs i at u.from u.to x y h u.was w u.items in
      passed_by bs cs i at (start_of bs i + at) (start_of cs k) u.from u.to x y h u.was u.set same u.places
      (ap (λ n. insert (items_of cs) (start_of cs n) y) e ∙ ap (λ (zs : List (Block T)). insert (items_of zs) (start_of zs (suc i)) y) u.set ∙ items)

  pub unshifted_passes : (bs cs : List (Block T)) (i at : ℕ) (x y : T) → i < length bs → (u : IsUnshifted bs i at x y cs) → at ≤ length u.from.items → IsPassed bs (start_of bs i + at) x cs (start_of cs i) y
  unshifted_passes bs cs i at x y h u w =
      let size = ap length u.items in
      let same : length u.to.items ≡ length u.from.items = omega (arith, size, length-insert u.from.items at x w) in
      let items = items_unshifted bs i at u.from u.to x y h u.was w u.items in
      passed_by bs cs i at (start_of bs i + at) (start_of cs i) u.from u.to x y h u.was u.set same u.places
      (ap (λ (zs : List (Block T)). insert (items_of zs) (start_of zs i) y) u.set ∙ items)

  pub passed_none : (bs : List (Block T)) (r s : ℕ) (x : T) → r ≡ s → IsPassed bs r x bs s x
  passed_none bs r s x e = record {
    sizes = λ n. refl;
    some = λ v. v;
    items = ap (λ n. insert (items_of bs) n x) (sym e);
    count = refl;
    blocks = refl;
    places = omega arith;
  }

  pub passed_more : (bs cs ds : List (Block T)) (r s s' t : ℕ) (x y z : T) → IsPassed bs r x cs s y → s' ≡ s → IsPassed cs s' y ds t z → IsPassed bs r x ds t z
  passed_more bs cs ds r s s' t x y z u e v = record {
    sizes = λ n. v.sizes n ∙ u.sizes n;
    some = λ w. v.some (u.some w);
    items = v.items ∙ ap (λ n. insert (items_of cs) n y) e ∙ u.items;
    count = v.count ∙ u.count;
    blocks = v.blocks ∙ u.blocks;
    places = omega (arith, u.places, v.places);
  }

  -- a change of one block leaves the others their places
  pub place_other : (bs cs : List (Block T)) (i j : ℕ) (c : Block T) → cs ≡ set bs i c → j ≢ i → HasPlace bs j → HasPlace cs j
  place_other bs cs i j c e ne p = λ b f.
      p b (f ∙ ap (λ (xs : List (Block T)). get_or xs j b) e ∙ get_or-set_other bs i j c b ne)

  pub passed_at : (bs cs : List (Block T)) (r s t : ℕ) (x y : T) → IsPassed bs r x cs s y → s ≡ t → IsPassed bs r x cs t y
  passed_at bs cs r s t x y u e = subst (λ n. IsPassed bs r x cs n y) e u

  -- a block ends where the next one begins
  pub end_start : (bs : List (Block T)) (k n at : ℕ) → k < length bs → n ≡ suc k → ((b : Block T) → b ≡ get_or bs k b → at ≡ length b.items) → start_of bs k + at ≡ start_of bs n
  end_start bs k n at h e f =
      let b = some_block bs k h in
      let more = start_more bs k b.0 h b.1 in
      omega (arith, more, f b.0 b.1, ap (λ m. start_of bs m) e)
