-- How many more items the last block takes, and the block of a rank.
use Rattle.std.proofs.Common.{◌≡◌, ℕ, suc, zero, ◌+◌, ◌-◌, ◌<◌, ◌≤◌, arith, List, [], ◌∷◌, length, length-append, take, ap, sym, ◌∙◌, refl, get_or, set, min}
use Rattle.amqp_blocks.specs.Chunked.{Block, items_of, start_of, end_room, HasItem, HasPlace, IsFull}
use Rattle.amqp_blocks.specs.Inner.Changes.{IsPut, IsGrown, IsReplaced, HoldsRank}
use Rattle.amqp_blocks.proofs.LeaveLemmas.{some_block}
use Rattle.amqp_blocks.proofs.PutLemmas.{size_put}

module _ {T : Type 0} where
  end_at : (bs : List (Block T)) (i : ℕ) (b : Block T) → i + 1 ≡ length bs → b ≡ get_or bs i b → end_room bs ≡ min b.cap 256 - length b.items
  end_at [] i b e q = absurd (omega (arith, e))
  end_at (d ∷ []) zero b e q = sym (ap (λ (x : Block T). min x.cap 256 - length x.items) q)
  end_at (d ∷ []) (suc i) b e q = absurd (omega (arith, e))
  end_at (d ∷ f ∷ fs) zero b e q = absurd (omega (arith, e))
  end_at (d ∷ f ∷ fs) (suc i) b e q = end_at (f ∷ fs) i b (omega (arith, e)) q

  end_set : (bs : List (Block T)) (i : ℕ) (c : Block T) → i + 1 ≡ length bs → end_room (set bs i c) ≡ min c.cap 256 - length c.items
  end_set [] i c e = absurd (omega (arith, e))
  end_set (d ∷ []) zero c e = refl
  end_set (d ∷ []) (suc i) c e = absurd (omega (arith, e))
  end_set (d ∷ f ∷ fs) zero c e = absurd (omega (arith, e))
  end_set (d ∷ f ∷ fs) (suc zero) c e = end_set (f ∷ fs) zero c (omega (arith, e))
  end_set (d ∷ f ∷ fs) (suc (suc i)) c e = end_set (f ∷ fs) (suc i) c (omega (arith, e))

  -- an item more in the last block
  pub end_put : (bs cs : List (Block T)) (i at : ℕ) (item : T) → i + 1 ≡ length bs → (u : IsPut bs i at item cs) → at ≤ length u.from.items → end_room bs ≤ end_room cs + 1
  end_put bs cs i at item e u w =
      let was = end_at bs i u.from e u.was in
      let now = ap end_room u.set ∙ end_set bs i u.to e in
      let size = size_put u.from u.to at item w u.items in
      omega (arith, was, now, size, u.places)

  -- more places in it
  pub end_grown : (bs cs : List (Block T)) (i : ℕ) → i + 1 ≡ length bs → IsGrown bs i cs → end_room bs ≤ end_room cs
  end_grown bs cs i e u =
      let was = end_at bs i u.from e u.was in
      let now = ap end_room u.set ∙ end_set bs i u.to e in
      omega (arith, was, now, ap length u.items, u.places)

  end_same : (bs : List (Block T)) (i : ℕ) (b c : Block T) → i < length bs → b ≡ get_or bs i b → c.cap ≡ b.cap → length c.items ≡ length b.items → end_room (set bs i c) ≡ end_room bs
  end_same [] i b c h e m s = absurd (omega arith)
  end_same (d ∷ []) zero b c h e m s =
      let cap = ap (λ (x : Block T). x.cap) e in
      let size = ap (λ (x : Block T). length x.items) e in
      omega (arith, cap, size, m, s)
  end_same (d ∷ []) (suc i) b c h e m s = absurd (omega (arith, h))
  end_same (d ∷ f ∷ fs) zero b c h e m s = refl
  end_same (d ∷ f ∷ fs) (suc zero) b c h e m s = end_same (f ∷ fs) zero b c (omega arith) e m s
  end_same (d ∷ f ∷ fs) (suc (suc i)) b c h e m s = end_same (f ∷ fs) (suc i) b c (omega (arith, h)) e m s

  -- an item in the place of another, in any block
  pub end_replaced : (bs cs : List (Block T)) (i at : ℕ) (x : T) → i < length bs → (u : IsReplaced bs i at x cs) → length u.to.items ≡ length u.from.items → end_room cs ≡ end_room bs
  end_replaced bs cs i at x h u s = ap end_room u.set ∙ end_same bs i u.from u.to h u.was u.places s

  -- ---- whether it has a place

  pub has_end : (bs : List (Block T)) (i : ℕ) → i + 1 ≡ length bs → 0 < end_room bs → HasPlace bs i
  has_end bs i e h b q = omega (arith, end_at bs i b e q, h)

  pub end_full : (bs : List (Block T)) (i : ℕ) → i + 1 ≡ length bs → IsFull bs i → end_room bs ≡ 0
  end_full bs i e f =
      let b = some_block bs i (omega (arith, e)) in
      let full = f b.0 b.1 in
      omega (arith, end_at bs i b.0 e b.1, full)

  -- no block is both
  pub not_full : (bs : List (Block T)) (i : ℕ) → i < length bs → HasPlace bs i → IsFull bs i → ⊥
  not_full bs i h p f =
      let b = some_block bs i h in
      let place = p b.0 b.1 in
      let full = f b.0 b.1 in
      absurd (omega (arith, place, full))

  pub end_none : (bs : List (Block T)) (i : ℕ) → i + 1 ≡ length bs → end_room bs ≡ 0 → IsFull bs i
  end_none bs i e h b q = omega (arith, end_at bs i b e q, h)

  -- ---- the block of a rank

  one_block : (bs : List (Block T)) (i j a b : ℕ) → i < length bs → j < length bs → HasItem bs i a → HasItem bs j b → start_of bs i + a ≡ start_of bs j + b → i ≡ j
  one_block [] i j a b h k p q e = absurd (omega arith)
  one_block (d ∷ ds) zero zero a b h k p q e = refl
  one_block (d ∷ ds) zero (suc j) a b h k p q e =
      let l = length-append d.items (items_of (take j ds)) in
      let w = p d refl in
      absurd (omega (arith, l, w, e))
  one_block (d ∷ ds) (suc i) zero a b h k p q e =
      let l = length-append d.items (items_of (take i ds)) in
      let w = q d refl in
      absurd (omega (arith, l, w, e))
  one_block (d ∷ ds) (suc i) (suc j) a b h k p q e =
      let l = length-append d.items (items_of (take i ds)) in
      let m = length-append d.items (items_of (take j ds)) in
      ap suc (one_block ds i j a b (omega (arith, h)) (omega (arith, k)) p q (omega (arith, l, m, e)))

  -- a rank is in one block
  pub same_block : (bs : List (Block T)) (rank i j : ℕ) → HoldsRank bs rank i → HoldsRank bs rank j → i ≡ j
  same_block bs rank i j u v = one_block bs i j u.at v.at u.block v.block u.item v.item (u.rank_is ∙ sym v.rank_is)
