-- Two blocks that become one.
use Rattle.std.proofs.Common.{◌≡◌, ℕ, suc, zero, ◌+◌, ◌<◌, ◌≤◌, arith, add-one, List, [], ◌∷◌, ◌++◌, length, ap, sym, subst, ◌∙◌, refl, get_or, set, length-append, length-set, append_assoc}
use Rattle.std.specs.List.{remove}
use Rattle.amqp_blocks.specs.Chunked.{Block, in_block, items_of, ends_from, IsChunked, EachSome}
use Rattle.amqp_blocks.specs.Inner.Changes.{IsJoined}
use Rattle.amqp_blocks.proofs.PutLemmas.{size_of}

module _ {X : Type 0} where
  -- what is before a place stays when that place goes
  pub at_before : (xs : List X) (i k : ℕ) (d : X) → k ≡ suc i → get_or (remove xs k) i d ≡ get_or xs i d
  at_before xs i zero d e = absurd (omega (arith, e))
  at_before [] i (suc k) d e = refl
  at_before (x ∷ xs) zero (suc k) d e = refl
  at_before (x ∷ xs) (suc i) (suc k) d e = at_before xs i k d (omega (arith, e))

  pub length_removed : (xs : List X) (k : ℕ) → k < length xs → suc (length (remove xs k)) ≡ length xs
  length_removed [] k h = absurd (omega arith)
  length_removed (x ∷ xs) zero h = refl
  length_removed (x ∷ xs) (suc k) h = ap suc (length_removed xs k (omega arith))

module _ {T : Type 0} where
  items_joined : (bs : List (Block T)) (i : ℕ) (b d c : Block T) → suc i < length bs → b ≡ get_or bs i b → d ≡ get_or bs (suc i) d → c.items ≡ b.items ++ d.items → items_of (set (remove bs (suc i)) i c) ≡ items_of bs
  items_joined [] i b d c h e f q = absurd (omega arith)
  items_joined (x ∷ []) i b d c h e f q = absurd (omega arith)
  items_joined (x ∷ y ∷ ys) zero b d c h e f q =
      ap (λ (zs : List T). zs ++ items_of ys) (q ∙ ap (λ (zs : List T). zs ++ d.items) (ap in_block e) ∙ ap (λ (zs : List T). x.items ++ zs) (ap in_block f))
      ∙ append_assoc x.items y.items (items_of ys)
  items_joined (x ∷ y ∷ ys) (suc i) b d c h e f q = ap (λ (zs : List T). x.items ++ zs) (items_joined (y ∷ ys) i b d c (omega arith) e f q)

  ends_joined : (n : ℕ) (bs : List (Block T)) (i : ℕ) (b d c : Block T) → suc i < length bs → b ≡ get_or bs i b → d ≡ get_or bs (suc i) d → length c.items ≡ length b.items + length d.items → remove (ends_from n bs) i ≡ ends_from n (set (remove bs (suc i)) i c)
  ends_joined n [] i b d c h e f q = absurd (omega arith)
  ends_joined n (x ∷ []) i b d c h e f q = absurd (omega arith)
  ends_joined n (x ∷ y ∷ ys) zero b d c h e f q =
      let z : n + length x.items + length y.items ≡ n + length c.items = omega (arith, q, size_of b x e, size_of d y f) in
      ap (λ m. m ∷ ends_from m ys) z
  ends_joined n (x ∷ y ∷ ys) (suc i) b d c h e f q = ap (λ (ks : List ℕ). (n + length x.items) ∷ ks) (ends_joined (n + length x.items) (y ∷ ys) i b d c (omega arith) e f q)

  some_joined : (bs : List (Block T)) (i : ℕ) (c : Block T) → suc i < length bs → EachSome bs → 0 < length c.items → length c.items ≤ 256 → EachSome (set (remove bs (suc i)) i c)
  some_joined [] i c h v s m = absurd (omega arith)
  some_joined (x ∷ []) i c h v s m = absurd (omega arith)
  some_joined (x ∷ y ∷ ys) zero c h v s m = (s, m, v.2.2)
  some_joined (x ∷ y ∷ ys) (suc i) c h v s m = (v.0, v.1, some_joined (y ∷ ys) i c (omega arith) v.2 s m)

  pub record Joined (base : ℕ) (bs ds : List (Block T)) (ends : List ℕ) : Type 0 where
    pub chunked : IsChunked base ds ends
    pub items : items_of ds ≡ items_of bs
    pub count : suc (length ds) ≡ length bs

  pub joined_is : (base : ℕ) (bs ds : List (Block T)) (ends new : List ℕ) (i : ℕ) → i + 1 < length bs → (u : IsJoined bs i ds) → 0 < length u.lower.items → length u.lower.items + length u.upper.items ≤ 256 → new ≡ remove ends i → IsChunked base bs ends → Joined base bs ds new
  joined_is base bs ds ends new i h u s m e v =
      let k : suc i < length bs = omega (arith, h) in
      let upper : u.upper ≡ get_or bs (suc i) u.upper = u.upper_was ∙ ap (λ n. get_or bs n u.upper) (add-one i) in
      let whole : ds ≡ set (remove bs (suc i)) i u.whole = u.set ∙ ap (λ n. set (remove bs n) i u.whole) (add-one i) in
      let size : length u.whole.items ≡ length u.lower.items + length u.upper.items = ap length u.items ∙ length-append u.lower.items u.upper.items in
      let items : items_of ds ≡ items_of bs = ap items_of whole ∙ items_joined bs i u.lower u.upper u.whole k u.lower_was upper u.items in
      record {
        chunked = record {
          stops = e ∙ ap (λ (ks : List ℕ). remove ks i) v.stops ∙ ends_joined base bs i u.lower u.upper u.whole k u.lower_was upper size ∙ ap (ends_from base) (sym whole);
          some = subst EachSome (sym whole) (some_joined bs i u.whole k v.some (omega (arith, size, s)) (omega (arith, size, m)));
          low = v.low;
          few = omega (arith, ap length items, v.few);
        };
        items = items;
        count = ap (λ (xs : List (Block T)). suc (length xs)) whole ∙ ap suc (length-set (remove bs (suc i)) i u.whole) ∙ length_removed bs (suc i) k;
      }
