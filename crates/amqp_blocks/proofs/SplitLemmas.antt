-- Blocks that are cut in two, and blocks of one item.
use Rattle.std.proofs.Common.{◌≡◌, ℕ, suc, zero, ◌+◌, ◌-◌, ◌<◌, ◌≤◌, ◌^◌, arith, List, [], ◌∷◌, ◌++◌, length, take, drop, map, min, ap, sym, subst, ◌∙◌, refl, add-one, inl, inr, get_or, set, length-append, length-take, length-drop, append_assoc}
use Rattle.std.specs.List.{insert}
use Rattle.std.proofs.lemmas.List.{take-append-drop}
use Rattle.std.proofs.lemmas.List.Edits.{insert-append_right, length-insert}
use Rattle.std.proofs.lemmas.Bool.{cases_lt}
use Rattle.amqp_blocks.specs.Chunked.{Block, in_block, items_of, start_of, ends_from, IsChunked, EachSome, places_of, HasPlace, Within}
use Rattle.amqp_blocks.specs.Inner.Changes.{IsHalved}
use Rattle.amqp_blocks.proofs.PlaceLemmas.{start_few, start_more}
use Rattle.amqp_blocks.proofs.LeaveLemmas.{some_at}
use Rattle.amqp_blocks.proofs.PutLemmas.{size_of, risen}

module _ {T : Type 0} where
  -- ---- a block in two

  -- the blocks with this one as two
  abbrev pub in_two : List (Block T) → ℕ → Block T → Block T → List (Block T)
  in_two bs i lower upper = insert (set bs i lower) (suc i) upper

  pub items_in_two : (bs : List (Block T)) (i half : ℕ) (b lower upper : Block T) → i < length bs → b ≡ get_or bs i b → lower.items ≡ take half b.items → upper.items ≡ drop half b.items → items_of (in_two bs i lower upper) ≡ items_of bs
  items_in_two [] i half b lower upper h e l u = absurd (omega arith)
  items_in_two (d ∷ ds) zero half b lower upper h e l u =
      sym (append_assoc lower.items upper.items (items_of ds))
      ∙ ap (λ (xs : List T). xs ++ items_of ds) (ap (λ (xs : List T). xs ++ upper.items) l ∙ ap (λ (xs : List T). take half b.items ++ xs) u ∙ take-append-drop half b.items ∙ ap in_block e)
  items_in_two (d ∷ ds) (suc i) half b lower upper h e l u = ap (λ (xs : List T). d.items ++ xs) (items_in_two ds i half b lower upper (omega arith) e l u)

  pub ends_in_two : (n : ℕ) (bs : List (Block T)) (i : ℕ) (b lower upper : Block T) → i < length bs → b ≡ get_or bs i b → length lower.items + length upper.items ≡ length b.items → insert (ends_from n bs) i (get_or (ends_from n bs) i 0 - length upper.items) ≡ ends_from n (in_two bs i lower upper)
  ends_in_two n [] i b lower upper h e s = absurd (omega arith)
  ends_in_two n (d ∷ ds) zero b lower upper h e s =
      let k : n + length d.items - length upper.items ≡ n + length lower.items = omega (arith, size_of b d e, s) in
      let m : n + length d.items ≡ n + length lower.items + length upper.items = omega (arith, size_of b d e, s) in
      ap (λ j. j ∷ (n + length d.items) ∷ ends_from (n + length d.items) ds) k ∙ ap (λ j. (n + length lower.items) ∷ j ∷ ends_from j ds) m
  ends_in_two n (d ∷ ds) (suc i) b lower upper h e s = ap (λ (ks : List ℕ). (n + length d.items) ∷ ks) (ends_in_two (n + length d.items) ds i b lower upper (omega arith) e s)

  pub some_in_two : (bs : List (Block T)) (i : ℕ) (b lower upper : Block T) → EachSome bs → i < length bs → b ≡ get_or bs i b → length lower.items + length upper.items ≡ length b.items → 0 < length lower.items → 0 < length upper.items → EachSome (in_two bs i lower upper)
  some_in_two [] i b lower upper v h e s x y = absurd (omega arith)
  some_in_two (d ∷ ds) zero b lower upper v h e s x y =
      let size = size_of b d e in
      (x, omega (arith, size, s, v.1), (y, omega (arith, size, s, v.1), v.2))
  some_in_two (d ∷ ds) (suc i) b lower upper v h e s x y = (v.0, v.1, some_in_two ds i b lower upper v.2 (omega arith) e s x y)

  pub default_same : (n : ℕ) (bs : List (Block T)) (i d : ℕ) → i < length bs → get_or (ends_from n bs) i d ≡ get_or (ends_from n bs) i 0
  default_same n [] i d h = absurd (omega arith)
  default_same n (b ∷ bs) zero d h = refl
  default_same n (b ∷ bs) (suc i) d h = default_same (n + length b.items) bs i d (omega arith)

  pub places_in_two : (bs : List (Block T)) (i : ℕ) (b lower upper : Block T) → i < length bs → b ≡ get_or bs i b → lower.cap ≡ b.cap → places_of (in_two bs i lower upper) ≡ places_of bs + min upper.cap 256
  places_in_two [] i b lower upper h e c = absurd (omega arith)
  places_in_two (d ∷ ds) zero b lower upper h e c = let same = ap (λ (x : Block T). x.cap) e in omega (arith, same, c)
  places_in_two (d ∷ ds) (suc i) b lower upper h e c = let r = places_in_two ds i b lower upper (omega arith) e c in omega (arith, r)

  pub length_in_two : (bs : List (Block T)) (i : ℕ) (lower upper : Block T) → i < length bs → length (in_two bs i lower upper) ≡ suc (length bs)
  length_in_two [] i lower upper h = absurd (omega arith)
  length_in_two (d ∷ ds) zero lower upper h = refl
  length_in_two (d ∷ ds) (suc i) lower upper h = ap suc (length_in_two ds i lower upper (omega arith))

  pub start_in_two : (bs : List (Block T)) (i : ℕ) (lower upper : Block T) → i < length bs → start_of (in_two bs i lower upper) i ≡ start_of bs i
  start_in_two [] i lower upper h = absurd (omega arith)
  start_in_two (d ∷ ds) zero lower upper h = refl
  start_in_two (d ∷ ds) (suc i) lower upper h =
      let r = start_in_two ds i lower upper (omega arith) in
      let l = length-append d.items (items_of (take i (in_two ds i lower upper))) in
      let k = length-append d.items (items_of (take i ds)) in
      omega (arith, r, l, k)

  pub at_in_two : (bs : List (Block T)) (i : ℕ) (lower upper d : Block T) → i < length bs → get_or (in_two bs i lower upper) i d ≡ lower
  at_in_two [] i lower upper d h = absurd (omega arith)
  at_in_two (b ∷ bs) zero lower upper d h = refl
  at_in_two (b ∷ bs) (suc i) lower upper d h = at_in_two bs i lower upper d (omega arith)

  pub upper_in_two : (bs : List (Block T)) (i : ℕ) (lower upper d : Block T) → i < length bs → get_or (in_two bs i lower upper) (suc i) d ≡ upper
  upper_in_two [] i lower upper d h = absurd (omega arith)
  upper_in_two (b ∷ bs) zero lower upper d h = refl
  upper_in_two (b ∷ bs) (suc i) lower upper d h = upper_in_two bs i lower upper d (omega arith)

  -- what is known once a block is in two
  pub record Split (base : ℕ) (bs ds : List (Block T)) (ends : List ℕ) (i half : ℕ) (upper : Block T) : Type 0 where
    pub chunked : IsChunked base ds ends
    pub items : items_of ds ≡ items_of bs
    pub places : places_of ds ≡ places_of bs + min upper.cap 256
    pub count : length ds ≡ suc (length bs)
    pub start : start_of ds i ≡ start_of bs i
    pub lower : (b : Block T) → b ≡ get_or ds i b → length b.items ≡ half
    pub place : HasPlace ds i
    pub upper_start : start_of ds (suc i) ≡ start_of bs i + half
    pub upper_is : (b : Block T) → b ≡ get_or ds (suc i) b → b ≡ upper

  pub split_is : (base : ℕ) (bs cs ds : List (Block T)) (ends new : List ℕ) (i k half end size : ℕ) (spare upper : Block T) → i < length bs → (u : IsHalved bs i half cs spare upper) → 0 < half → half < length u.from.items → k ≡ suc i → ds ≡ insert cs k upper → size ≡ length upper.items → end ≡ get_or ends i end → new ≡ insert ends i (end - size) → IsChunked base bs ends → Split base bs ds new i half upper
  split_is base bs cs ds ends new i k half end size spare upper h u x y ki e z n f v =
      let whole : ds ≡ in_two bs i u.lower upper = e ∙ ap (λ (xs : List (Block T)). insert xs k upper) u.set ∙ ap (λ n. insert (set bs i u.lower) n upper) ki in
      let items : items_of ds ≡ items_of bs = ap items_of whole ∙ items_in_two bs i half u.from u.lower upper h u.was u.items u.rest in
      let l = ap length u.items ∙ length-take half u.from.items in
      let r = ap length u.rest ∙ length-drop half u.from.items in
      let s : length u.lower.items + length upper.items ≡ length u.from.items = omega (arith, l, r, y) in
      let big = some_at bs i u.from v.some h u.was in
      let lower : (b : Block T) → b ≡ get_or ds i b → b ≡ u.lower = λ b q. q ∙ ap (λ (xs : List (Block T)). get_or xs i b) whole ∙ at_in_two bs i u.lower upper b h in
      let count = ap (λ (xs : List (Block T)). length xs) whole ∙ length_in_two bs i u.lower upper h in
      let start = ap (λ (xs : List (Block T)). start_of xs i) whole ∙ start_in_two bs i u.lower upper h in
      let first : u.lower ≡ get_or ds i u.lower = sym (ap (λ (xs : List (Block T)). get_or xs i u.lower) whole ∙ at_in_two bs i u.lower upper u.lower h) in
      let more = start_more ds i u.lower (omega (arith, count, h)) first in
      let end_is : end ≡ get_or (ends_from base bs) i 0 = n ∙ ap (λ (ks : List ℕ). get_or ks i end) v.stops ∙ default_same base bs i end h in
      record {
        chunked = record {
          stops = f ∙ ap (λ (ks : List ℕ). insert ks i (end - size)) v.stops ∙ ap (λ m. insert (ends_from base bs) i (m - size)) end_is ∙ ap (λ m. insert (ends_from base bs) i (get_or (ends_from base bs) i 0 - m)) z ∙ ends_in_two base bs i u.from u.lower upper h u.was s ∙ ap (ends_from base) (sym whole);
          some = subst EachSome (sym whole) (some_in_two bs i u.from u.lower upper v.some h u.was s (omega (arith, l, x, y)) (omega (arith, r, y)));
          low = v.low;
          few = omega (arith, ap length items, v.few);
        };
        items = items;
        places = ap places_of whole ∙ places_in_two bs i u.from u.lower upper h u.was u.places;
        count = count;
        start = start;
        upper_start = omega (arith, more, start, l, y);
        upper_is = λ b q. q ∙ ap (λ (xs : List (Block T)). get_or xs (suc i) b) whole ∙ upper_in_two bs i u.lower upper b h;
        lower = λ b q. size_of b u.lower (lower b q) ∙ l ∙ (omega (arith, y));
        place = λ b q. let c = ap (λ (w : Block T). w.cap) (lower b q) ∙ u.places in omega (arith, size_of b u.lower (lower b q), l, y, c, u.from.small, u.from.ok.0, big.1);
      }

  -- where a place of the block is now
  pub record Sided (bs ds : List (Block T)) (i at j k : ℕ) : Type 0 where
    pub block : j < length ds
    pub start : start_of ds j + k ≡ start_of bs i + at
    pub within : Within ds j k
    pub place : HasPlace ds j

  pub sided : (base : ℕ) (bs ds : List (Block T)) (ends : List ℕ) (i at half j k : ℕ) (upper : Block T) → i < length bs → Split base bs ds ends i half upper → at ≤ half + length upper.items → (half < at → length upper.items < min upper.cap 256) → (at ≤ half → (j ≡ i) × (k ≡ at)) → (half < at → (j ≡ i + 1) × (k + half ≡ at)) → Sided bs ds i at j k
  sided base bs ds ends i at half j k upper h s w room l u =
      elim (cases_lt half at) [
        | inl lt ↦
            let e = u lt in
            let ji : j ≡ suc i = e.0 ∙ add-one i in
            record {
              block = omega (arith, ji, s.count, h);
              start = omega (arith, ap (start_of ds) ji, s.upper_start, e.1);
              within = λ b q. let c = size_of b upper (s.upper_is b (q ∙ ap (λ n. get_or ds n b) ji)) in omega (arith, c, e.1, w);
              place = λ b q. let c = s.upper_is b (q ∙ ap (λ n. get_or ds n b) ji) in omega (arith, size_of b upper c, ap (λ (x : Block T). x.cap) c, room lt);
            }
        | inr ge ↦
            let e = l ge in
            record {
              block = omega (arith, e.0, s.count, h);
              start = omega (arith, ap (start_of ds) e.0, s.start, e.1);
              within = λ b q. let c = s.lower b (q ∙ ap (λ n. get_or ds n b) e.0) in omega (arith, c, e.1, ge);
              place = λ b q. s.place b (q ∙ ap (λ n. get_or ds n b) e.0);
            }
      ]

  -- ---- a block of one item

  pub items_alone : (bs : List (Block T)) (k : ℕ) (c : Block T) (item : T) → k ≤ length bs → c.items ≡ item ∷ [] → items_of (insert bs k c) ≡ insert (items_of bs) (start_of bs k) item
  items_alone bs zero c item h e = ap (λ (xs : List T). xs ++ items_of bs) e
  items_alone [] (suc k) c item h e = absurd (omega arith)
  items_alone (d ∷ ds) (suc k) c item h e =
      let l = length-append d.items (items_of (take k ds)) in
      let r : start_of ds k ≡ start_of (d ∷ ds) (suc k) - length d.items = omega (arith, l) in
      ap (λ (xs : List T). d.items ++ xs) (items_alone ds k c item (omega arith) e ∙ ap (λ n. insert (items_of ds) n item) r)
      ∙ sym (insert-append_right d.items (items_of ds) (length d.items) (start_of (d ∷ ds) (suc k)) item refl (omega (arith, l)))

  pub ends_alone : (n e : ℕ) (bs : List (Block T)) (k : ℕ) (c : Block T) → k ≤ length bs → length c.items ≡ 1 → e ≡ n + start_of bs k + 1 → insert (take k (ends_from n bs) ++ map (λ e. e + 1) (drop k (ends_from n bs))) k e ≡ ends_from n (insert bs k c)
  ends_alone n e bs zero c h s q =
      let m : e ≡ n + length c.items = omega (arith, s, q) in
      ap (λ j. j ∷ map (λ e. e + 1) (ends_from n bs)) m
      ∙ ap (λ (ks : List ℕ). (n + length c.items) ∷ ks) (risen (n + length c.items) n bs (omega (arith, s)))
  ends_alone n e [] (suc k) c h s q = absurd (omega arith)
  ends_alone n e (d ∷ ds) (suc k) c h s q =
      let l = length-append d.items (items_of (take k ds)) in
      ap (λ (ks : List ℕ). (n + length d.items) ∷ ks) (ends_alone (n + length d.items) e ds k c (omega arith) s (omega (arith, q, l)))

  pub some_alone : (bs : List (Block T)) (k : ℕ) (c : Block T) → k ≤ length bs → EachSome bs → length c.items ≡ 1 → EachSome (insert bs k c)
  some_alone bs zero c h v s = (omega (arith, s), omega (arith, s), v)
  some_alone [] (suc k) c h v s = absurd (omega arith)
  some_alone (d ∷ ds) (suc k) c h v s = (v.0, v.1, some_alone ds k c (omega arith) v.2 s)

  pub alone_is : (base end : ℕ) (bs ds : List (Block T)) (ends new : List ℕ) (k : ℕ) (c : Block T) (item : T) → k ≤ length bs → c.items ≡ item ∷ [] → ds ≡ insert bs k c → end ≡ base + start_of bs k → new ≡ insert (take k ends ++ map (λ e. e + 1) (drop k ends)) k (end + 1) → length (items_of bs) < 2 ^ 33 → IsChunked base bs ends → IsChunked base ds new × (items_of ds ≡ insert (items_of bs) (start_of bs k) item)
  alone_is base end bs ds ends new k c item h e w q f few v =
      let items : items_of ds ≡ insert (items_of bs) (start_of bs k) item = ap items_of w ∙ items_alone bs k c item h e in
      let one : length c.items ≡ 1 = ap length e in
      let long = ap length items ∙ length-insert (items_of bs) (start_of bs k) item (start_few bs k) in (
        record {
          stops = f ∙ ap (λ (ks : List ℕ). insert (take k ks ++ map (λ e. e + 1) (drop k ks)) k (end + 1)) v.stops ∙ ends_alone base (end + 1) bs k c h one (omega (arith, q)) ∙ ap (ends_from base) (sym w);
          some = subst EachSome (sym w) (some_alone bs k c h v.some one);
          low = v.low;
          few = omega (arith, long, few);
        },
        items,
      )
