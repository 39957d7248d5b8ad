-- Blocks that get items.
use Rattle.std.proofs.Common.{◌≡◌, ℕ, suc, zero, ◌+◌, ◌-◌, ◌<◌, ◌≤◌, arith, List, [], ◌∷◌, ◌++◌, length, take, drop, map, ap, sym, subst, ◌∙◌, refl, get_or, set, length-append}
use Rattle.std.specs.List.{insert}
use Rattle.amqp_blocks.proofs.LeaveLemmas.{some_set}
use Rattle.std.proofs.lemmas.List.Edits.{insert-append_left, insert-append_right, length-insert}
use Rattle.amqp_blocks.specs.Chunked.{Block, in_block, items_of, start_of, ends_from, IsChunked, EachSome}
use Rattle.amqp_blocks.specs.Inner.Changes.{IsPut}
use Rattle.amqp_blocks.proofs.PlaceLemmas.{start_more, start_few}
use Rattle.std.proofs.Common.{◌^◌}

module _ {T : Type 0} where
  pub size_put : (b c : Block T) (at : ℕ) (item : T) → at ≤ length b.items → c.items ≡ insert b.items at item → length c.items ≡ length b.items + 1
  size_put b c at item w f = ap length f ∙ length-insert b.items at item w

  pub size_of : (b d : Block T) → b ≡ d → length b.items ≡ length d.items
  size_of b d e = ap (λ (x : Block T). length x.items) e

  -- ---- an item more

  pub items_put : (bs : List (Block T)) (i at r : ℕ) (b c : Block T) (item : T) → i < length bs → b ≡ get_or bs i b → at ≤ length b.items → c.items ≡ insert b.items at item → r ≡ start_of bs i + at → items_of (set bs i c) ≡ insert (items_of bs) r item
  items_put [] i at r b c item h e w f s = absurd (omega arith)
  items_put (d ∷ ds) zero at r b c item h e w f s =
      let same : b.items ≡ d.items = ap in_block e in
      let at_is : at ≡ r = omega (arith, s) in
      ap (λ (xs : List T). xs ++ items_of ds) (f ∙ ap (λ (xs : List T). insert xs at item) same)
      ∙ sym (insert-append_left d.items (items_of ds) at item (omega (arith, ap length same, w))) ∙ ap (λ n. insert (d.items ++ items_of ds) n item) at_is
  items_put (d ∷ ds) (suc i) at r b c item h e w f s =
      let l = length-append d.items (items_of (take i ds)) in
      let r' : start_of ds i + at ≡ r - length d.items = omega (arith, l, s) in
      ap (λ (xs : List T). d.items ++ xs) (items_put ds i at (start_of ds i + at) b c item (omega arith) e w f refl ∙ ap (λ n. insert (items_of ds) n item) r')
      ∙ sym (insert-append_right d.items (items_of ds) (length d.items) r item refl (omega (arith, l, s)))

  pub items_kept : (bs : List (Block T)) (i : ℕ) (b c : Block T) → i < length bs → b ≡ get_or bs i b → c.items ≡ b.items → items_of (set bs i c) ≡ items_of bs
  items_kept [] i b c h e f = absurd (omega arith)
  items_kept (d ∷ ds) zero b c h e f = ap (λ (xs : List T). xs ++ items_of ds) (f ∙ ap in_block e)
  items_kept (d ∷ ds) (suc i) b c h e f = ap (λ (xs : List T). d.items ++ xs) (items_kept ds i b c (omega arith) e f)

  pub ends_kept : (n : ℕ) (bs : List (Block T)) (i : ℕ) (b c : Block T) → i < length bs → b ≡ get_or bs i b → c.items ≡ b.items → ends_from n (set bs i c) ≡ ends_from n bs
  ends_kept n [] i b c h e f = absurd (omega arith)
  ends_kept n (d ∷ ds) zero b c h e f = ap (λ k. (n + k) ∷ ends_from (n + k) ds) (ap length f ∙ size_of b d e)
  ends_kept n (d ∷ ds) (suc i) b c h e f = ap (λ (ks : List ℕ). (n + length d.items) ∷ ks) (ends_kept (n + length d.items) ds i b c (omega arith) e f)

  pub risen : (m n : ℕ) (bs : List (Block T)) → m ≡ n + 1 → map (λ e. e + 1) (ends_from n bs) ≡ ends_from m bs
  risen m n [] e = refl
  risen m n (b ∷ bs) e =
      let h : n + length b.items + 1 ≡ m + length b.items = omega (arith, e) in
      ap (λ k. k ∷ map (λ e. e + 1) (ends_from (n + length b.items) bs)) h
      ∙ ap (λ (ks : List ℕ). (m + length b.items) ∷ ks) (risen (m + length b.items) (n + length b.items) bs (omega (arith, e)))

  pub ends_put : (n : ℕ) (bs : List (Block T)) (i : ℕ) (b c : Block T) → i < length bs → b ≡ get_or bs i b → length c.items ≡ length b.items + 1 → ends_from n (set bs i c) ≡ take i (ends_from n bs) ++ map (λ e. e + 1) (drop i (ends_from n bs))
  ends_put n [] i b c h e s = absurd (omega arith)
  ends_put n (d ∷ ds) zero b c h e s =
      let k : n + length c.items ≡ n + length d.items + 1 = omega (arith, size_of b d e, s) in
      ap (λ (ks : List ℕ). (n + length c.items) ∷ ks) (sym (risen (n + length c.items) (n + length d.items) ds k))
      ∙ ap (λ m. m ∷ map (λ e. e + 1) (ends_from (n + length d.items) ds)) k
  ends_put n (d ∷ ds) (suc i) b c h e s = ap (λ (ks : List ℕ). (n + length d.items) ∷ ks) (ends_put (n + length d.items) ds i b c (omega arith) e s)

  pub put_is : (base : ℕ) (bs cs : List (Block T)) (ends new : List ℕ) (i at : ℕ) (item : T) → i < length bs → (u : IsPut bs i at item cs) → at ≤ length u.from.items → length u.from.items < 256 → length (items_of bs) < 2 ^ 33 → new ≡ take i ends ++ map (λ e. e + 1) (drop i ends) → IsChunked base bs ends → IsChunked base cs new × (items_of cs ≡ insert (items_of bs) (start_of bs i + at) item)
  put_is base bs cs ends new i at item h u w room few e v =
      let more_items : items_of cs ≡ insert (items_of bs) (start_of bs i + at) item = ap items_of u.set ∙ items_put bs i at _ u.from u.to item h u.was w u.items refl in
      let size = size_put u.from u.to at item w u.items in
      let more = start_more bs i u.from h u.was in
      let most = start_few bs (suc i) in
      let long = ap length more_items ∙ length-insert (items_of bs) (start_of bs i + at) item (omega (arith, more, most, w)) in (
        record {
          stops = e ∙ ap (λ (ks : List ℕ). take i ks ++ map (λ e. e + 1) (drop i ks)) v.stops ∙ sym (ap (ends_from base) u.set ∙ ends_put base bs i u.from u.to h u.was size);
          some = subst EachSome (sym u.set) (some_set bs i u.to v.some (omega (arith, size)) (omega (arith, size, room)));
          low = v.low;
          few = omega (arith, long, few);
        },
        more_items,
      )

  -- no end is after the last item
  pub ends_high : (n : ℕ) (bs : List (Block T)) (i k : ℕ) → k < length (drop i (ends_from n bs)) → get_or (drop i (ends_from n bs)) k 0 ≤ n + length (items_of bs)
  ends_high n [] zero k h = absurd (omega (arith, h))
  ends_high n [] (suc i) k h = absurd (omega (arith, h))
  ends_high n (b ∷ bs) zero zero h = let l = length-append b.items (items_of bs) in omega (arith, l)
  ends_high n (b ∷ bs) zero (suc k) h =
      let l = length-append b.items (items_of bs) in
      let m = ends_high (n + length b.items) bs zero k (omega (arith, h)) in
      omega (arith, l, m)
  ends_high n (b ∷ bs) (suc i) k h =
      let l = length-append b.items (items_of bs) in
      let m = ends_high (n + length b.items) bs i k h in
      omega (arith, l, m)

  -- an end is no less than the items of its block
  pub end_covers : (n : ℕ) (bs : List (Block T)) (i : ℕ) (b : Block T) (d : ℕ) → i < length bs → b ≡ get_or bs i b → length b.items ≤ get_or (ends_from n bs) i d
  end_covers n [] i b d h e = absurd (omega arith)
  end_covers n (c ∷ cs) zero b d h e = omega (arith, size_of b c e)
  end_covers n (c ∷ cs) (suc i) b d h e = end_covers (n + length c.items) cs i b d (omega arith) e

  pub chunked_same : (base : ℕ) (bs cs : List (Block T)) (ends stops : List ℕ) → cs ≡ bs → stops ≡ ends → IsChunked base bs ends → IsChunked base cs stops
  chunked_same base bs cs ends stops e f v = record {
    stops = f ∙ v.stops ∙ ap (ends_from base) (sym e);
    some = subst EachSome (sym e) v.some;
    low = v.low;
    few = omega (arith, ap (λ (xs : List (Block T)). length (items_of xs)) e, v.few);
  }
