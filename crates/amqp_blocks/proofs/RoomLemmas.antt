-- The places of rings.
use Rattle.std.proofs.Common.{◌≡◌, ℕ, suc, zero, ◌+◌, ◌-◌, ◌*◌, ◌<◌, ◌≤◌, arith, add-one, length-set, List, [], ◌∷◌, ◌++◌, length, take, drop, ap, sym, subst, ◌∙◌, refl, get_or, set, min, map, length-append, Option, Some, inl, inr}
use Rattle.std.specs.Option.{option_to_list}
use Rattle.std.proofs.lemmas.Bool.{cases_lt}
use Rattle.std.specs.List.{insert}
use Rattle.std.specs.declared.alloc.Global.{Global}
use Rattle.std.specs.declared.vec.Vec.{Vec}
use Rattle.std.specs.Vec.{vec_capacity}
use Rattle.amqp_blocks.specs.Chunked.{Block, RunningLengths, items_of, ends_from, places_of, EachSpare, EachSome, IsFull, IsChunked, IsSound}
use Rattle.amqp_blocks.proofs.LeaveLemmas.{some_at, some_set}
use Rattle.amqp_blocks.proofs.PutLemmas.{chunked_same, items_kept, ends_kept}
use Rattle.amqp_blocks.specs.Inner.Changes.{free_of, IsGrown}

module _ {X : Type 0} where
  -- what comes off the end of a list
  pub popped : (o : Option X) (x : X) (xs ys : List X) → o ≡ Some x → xs ≡ ys ++ option_to_list o → xs ≡ ys ++ x ∷ []
  popped o x xs ys e f = f ∙ ap (λ p. ys ++ option_to_list p) e

  -- what comes off its front
  pub popped_front : (o : Option X) (x : X) (xs ys : List X) → o ≡ Some x → xs ≡ option_to_list o ++ ys → xs ≡ x ∷ ys
  popped_front o x xs ys e f = f ∙ ap (λ p. option_to_list p ++ ys) e

  pub length_raised : (f : X → X) (k : ℕ) (xs : List X) → length (take k xs ++ map f (drop k xs)) ≡ length xs
  length_raised f zero [] = refl
  length_raised f zero (x ∷ xs) = ap suc (length_raised f zero xs)
  length_raised f (suc k) [] = refl
  length_raised f (suc k) (x ∷ xs) = ap suc (length_raised f k xs)

  pub insert_end : (xs : List X) (x : X) → insert xs (length xs) x ≡ xs ++ x ∷ []
  insert_end [] x = refl
  insert_end (y ∷ ys) x = ap (λ zs. y ∷ zs) (insert_end ys x)

  pub nothing : (xs : List X) → length xs ≡ 0 → xs ≡ []
  nothing [] h = refl
  nothing (x ∷ xs) h = absurd (omega (arith, h))

module _ {T : Type 0} where
  -- a ring that grows keeps its places
  pub places_set : (bs : List (Block T)) (i : ℕ) (b c : Block T) → i < length bs → b ≡ get_or bs i b → b.cap ≤ c.cap → places_of bs ≤ places_of (set bs i c)
  places_set [] i b c h e m = absurd (omega arith)
  places_set (d ∷ ds) zero b c h e m = let same = ap (λ (x : Block T). x.cap) e in omega (arith, same, m)
  places_set (d ∷ ds) (suc i) b c h e m = let r = places_set ds i b c (omega arith) e m in omega (arith, r)

  pub places_insert : (bs : List (Block T)) (i : ℕ) (c : Block T) → i ≤ length bs → places_of (insert bs i c) ≡ min c.cap 256 + places_of bs
  places_insert bs zero c h = refl
  places_insert [] (suc i) c h = absurd (omega arith)
  places_insert (d ∷ ds) (suc i) c h = let r = places_insert ds i c (omega arith) in omega (arith, r)

  pub places_append : (bs cs : List (Block T)) → places_of (bs ++ cs) ≡ places_of bs + places_of cs
  places_append [] cs = omega arith
  places_append (d ∷ ds) cs = let r = places_append ds cs in omega (arith, r)

  -- ---- spare rings

  pub spares_front : (bs : List (Block T)) (b : Block T) → EachSpare (bs ++ b ∷ []) → EachSpare bs
  spares_front [] b v = tt
  spares_front (d ∷ ds) b v = (v.0, v.1, spares_front ds b v.2)

  pub spares_last : (bs : List (Block T)) (b : Block T) → EachSpare (bs ++ b ∷ []) → (b.items ≡ []) × (0 < b.cap)
  spares_last [] b v = (v.0, v.1)
  spares_last (d ∷ ds) b v = spares_last ds b v.2

  pub spares_push : (bs : List (Block T)) (b : Block T) → EachSpare bs → b.items ≡ [] → 0 < b.cap → EachSpare (bs ++ b ∷ [])
  spares_push [] b v e c = (e, c, tt)
  spares_push (d ∷ ds) b v e c = (v.0, v.1, spares_push ds b v.2 e c)

  pub spares_set : (bs : List (Block T)) (i : ℕ) (c : Block T) → EachSpare bs → c.items ≡ [] → 0 < c.cap → EachSpare (set bs i c)
  spares_set [] i c v e p = v
  spares_set (d ∷ ds) zero c v e p = (e, p, v.2)
  spares_set (d ∷ ds) (suc i) c v e p = (v.0, v.1, spares_set ds i c v.2 e p)

  pub spare_at : (bs : List (Block T)) (i : ℕ) (b : Block T) → EachSpare bs → i < length bs → b ≡ get_or bs i b → (b.items ≡ []) × (0 < b.cap)
  spare_at [] i b v h e = absurd (omega arith)
  spare_at (d ∷ ds) zero b v h e = (ap (λ (x : Block T). x.items) e ∙ v.0, let same = ap (λ (x : Block T). x.cap) e in omega (arith, same, v.1))
  spare_at (d ∷ ds) (suc i) b v h e = spare_at ds i b v.2 (omega arith) e

  -- each spare ring has a place
  pub spares_count : (bs : List (Block T)) → EachSpare bs → length bs ≤ places_of bs
  spares_count [] v = omega arith
  spares_count (d ∷ ds) v = let r = spares_count ds v.2 in omega (arith, r, v.1)

  -- ---- what is in the blocks has places

  pub items_fit : (bs : List (Block T)) → EachSome bs → length (items_of bs) ≤ places_of bs
  items_fit [] v = omega arith
  items_fit (d ∷ ds) v =
      let l = length-append d.items (items_of ds) in
      let r = items_fit ds v.2 in
      omega (arith, l, r, v.1, d.small, d.ok.0)

  -- where no block has a place, none is left
  pub all_full : (bs : List (Block T)) → ((i : ℕ) → i < length bs → IsFull bs i) → places_of bs ≤ length (items_of bs)
  all_full [] f = omega arith
  all_full (d ∷ ds) f =
      let l = length-append d.items (items_of ds) in
      let r = all_full ds (λ i h. f (suc i) (omega (arith, h))) in
      let q = f zero (omega arith) d refl in
      omega (arith, l, r, q)

  -- a search to both sides that has come a step further
  pub full_more : (bs : List (Block T)) (i a before : ℕ) → ((k : ℕ) → k < length bs → i < k + a → k < i + a → IsFull bs k) → (i + a < length bs → IsFull bs (i + a)) → before ≡ i - a → (before < length bs → IsFull bs before) → (k : ℕ) → k < length bs → i < k + (a + 1) → k < i + (a + 1) → IsFull bs k
  full_more bs i a before f up e down k h lo hi =
      elim (cases_lt k (i + a)) [
        | inl under ↦
            elim (cases_lt i (k + a)) [
              | inl over ↦ f k h over under
              | inr at ↦ let same : before ≡ k = omega (arith, e, at, lo) in subst (λ n. IsFull bs n) same (down (omega (arith, same, h)))
            ]
        | inr at ↦ let same : i + a ≡ k = omega (arith, at, hi) in subst (λ n. IsFull bs n) same (up (omega (arith, same, h)))
      ]

  -- ---- places that are free

  step : (bs : List (Block T)) (i n : ℕ) → i < length bs → ((b : Block T) → b ≡ get_or bs i b → n ≡ min b.cap 256 - length b.items) → free_of (take (suc i) bs) ≡ free_of (take i bs) + n
  step [] i n h f = absurd (omega arith)
  step (d ∷ ds) zero n h f = omega (arith, f d refl)
  step (d ∷ ds) (suc i) n h f = let r = step ds i n (omega arith) f in omega (arith, r)

  -- with one ring more
  pub free_next : (bs : List (Block T)) (i n : ℕ) → i < length bs → ((b : Block T) → b ≡ get_or bs i b → n ≡ min b.cap 256 - length b.items) → free_of (take (i + 1) bs) ≡ free_of (take i bs) + n
  free_next bs i n h f = ap (λ k. free_of (take k bs)) (add-one i) ∙ step bs i n h f

  pub free_some : (bs : List (Block T)) → EachSome bs → free_of bs + length (items_of bs) ≡ places_of bs
  free_some [] v = omega arith
  free_some (d ∷ ds) v =
      let l = length-append d.items (items_of ds) in
      let r = free_some ds v.2 in
      omega (arith, l, r, v.1, d.small, d.ok.0)

  pub free_spare : (bs : List (Block T)) → EachSpare bs → free_of bs ≡ places_of bs
  free_spare [] v = omega arith
  free_spare (d ∷ ds) v =
      let r = free_spare ds v.2 in
      omega (arith, r, ap length v.0)

  -- ---- rings that grow

  places_take_set : (bs : List (Block T)) (i n : ℕ) (c : Block T) → i < length bs → 256 ≤ c.cap → n ≤ places_of (take i bs) → n + 256 ≤ places_of (take (suc i) (set bs i c))
  places_take_set [] i n c h w p = absurd (omega arith)
  places_take_set (d ∷ ds) zero n c h w p = omega (arith, w, p)
  places_take_set (d ∷ ds) (suc i) n c h w p =
      let r = places_take_set ds i (n - min d.cap 256) c (omega arith) w (omega (arith, p)) in
      omega (arith, r, p)

  -- what is known of rings of which one more has grown
  pub record Grown (old : List (Block T)) (i : ℕ) (new : List (Block T)) : Type 0 where
    pub spares : EachSpare new
    pub count : length new ≡ length old
    pub places : places_of old ≤ places_of new

  pub spare_grows : (bs cs : List (Block T)) (i : ℕ) → i < length bs → EachSpare bs → IsGrown bs i cs → Grown bs i cs
  spare_grows bs cs i h v u =
      let s = spare_at bs i u.from v h u.was in
      record {
        spares = subst EachSpare (sym u.set) (spares_set bs i u.to v (u.items ∙ s.0) (omega (arith, s.1, u.places)));
        count = ap length u.set ∙ length-set bs i u.to;
        places = let m = places_set bs i u.from u.to h u.was u.places in omega (arith, m, ap places_of u.set);
      }

  pub set_at : (bs : List (Block T)) (i : ℕ) (c d : Block T) → i < length bs → get_or (set bs i c) i d ≡ c
  set_at [] i c d h = absurd (omega arith)
  set_at (b ∷ bs) zero c d h = refl
  set_at (b ∷ bs) (suc i) c d h = set_at bs i c d (omega arith)

  pub wide_more : (bs cs : List (Block T)) (i : ℕ) → i < length bs → IsGrown bs i cs → ((b : Block T) → b ≡ get_or cs i b → length b.items + 256 ≤ b.cap) → 256 * i ≤ places_of (take i bs) → 256 * (i + 1) ≤ places_of (take (i + 1) cs)
  wide_more bs cs i h u w p =
      let is_to : u.to ≡ get_or cs i u.to = sym (ap (λ (xs : List (Block T)). get_or xs i u.to) u.set ∙ set_at bs i u.to u.to h) in
      let wide = w u.to is_to in
      let more = places_take_set bs i (256 * i) u.to h (omega (arith, wide)) p in
      let same = ap (λ n. places_of (take n cs)) (add-one i) in
      omega (arith, more, same, ap (λ (xs : List (Block T)). places_of (take (suc i) xs)) u.set)

  pub places_none : (bs : List (Block T)) → length bs ≡ 0 → places_of bs ≡ 0
  places_none [] h = refl
  places_none (b ∷ bs) h = absurd (omega (arith, h))

  -- ---- room that was made

  pub one_fits : (bs : List (Block T)) (n : ℕ) → length bs ≡ 1 → ((b : Block T) → b ≡ get_or bs 0 b → length b.items + n ≤ b.cap) → length (items_of bs) + n ≤ 256 → length (items_of bs) + n ≤ places_of bs
  one_fits [] n e w m = absurd (omega (arith, e))
  one_fits (b ∷ []) n e w m = let l = length-append b.items [] in omega (arith, l, w b refl, m)
  one_fits (b ∷ c ∷ bs) n e w m = absurd (omega (arith, e))

  pub first_fits : (bs : List (Block T)) (n : ℕ) → 0 < length bs → ((b : Block T) → b ≡ get_or bs 0 b → length b.items + n ≤ b.cap) → n ≤ 256 → n ≤ places_of bs
  first_fits [] n h w m = absurd (omega arith)
  first_fits (b ∷ bs) n h w m = omega (arith, w b refl, m)

  -- the blocks are as they were, with spare rings that have their places among them
  pub slots_sound : (base : ℕ) (old blocks : Vec (Block T) Global) (was ends : RunningLengths) (had spare : Vec (Block T) Global) → IsSound base old was had → blocks.items ≡ old.items → ends.items ≡ was.items → EachSpare spare.items → length old.items + length spare.items ≤ vec_capacity blocks → length old.items + length spare.items ≤ ends.capacity → IsSound base blocks ends spare
  slots_sound base old blocks was ends had spare v e f s p q = record {
    chunked = chunked_same base old.items blocks.items was.items ends.items e f v.chunked;
    spares = s;
    blocks_fit = omega (arith, ap length e, p);
    ends_fit = omega (arith, ap length e, q);
  }

  pub grown_chunked : (base : ℕ) (bs cs : List (Block T)) (ends : List ℕ) (i : ℕ) → i < length bs → IsGrown bs i cs → IsChunked base bs ends → IsChunked base cs ends × (items_of cs ≡ items_of bs)
  grown_chunked base bs cs ends i h k v =
      let same : items_of cs ≡ items_of bs = ap items_of k.set ∙ items_kept bs i k.from k.to h k.was k.items in
      let size = some_at bs i k.from v.some h k.was in
      let long = ap length k.items in (
        record {
          stops = v.stops ∙ sym (ap (ends_from base) k.set ∙ ends_kept base bs i k.from k.to h k.was k.items);
          some = subst EachSome (sym k.set) (some_set bs i k.to v.some (omega (arith, long, size.0)) (omega (arith, long, size.1)));
          low = v.low;
          few = omega (arith, ap length same, v.few);
        },
        same,
      )
