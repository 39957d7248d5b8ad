-- A cut over several blocks.
use Rattle.std.proofs.Common.{◌≡◌, ℕ, suc, zero, ◌+◌, ◌-◌, ◌<◌, ◌≤◌, arith, add-one, List, [], ◌∷◌, ◌++◌, length, take, drop, map, ap, sym, subst, ◌∙◌, refl, get_or, set, length-append, length-drop, append_assoc, inl, inr}
use Rattle.std.proofs.lemmas.Bool.{cases_lt}
use Rattle.std.proofs.Math.Seq.{take-append-add, drop-append-add, take-append_seam}
use Rattle.std.proofs.lemmas.List.{take-append-le, drop-append-le, append-nil, drop-drop, length-take-le}
use Rattle.amqp_blocks.specs.Chunked.{Block, in_block, items_of, start_of, ends_from, IsChunked, EachSome, HasItem, without}
use Rattle.amqp_blocks.specs.Inner.Changes.{IsFront, IsTrimmed}
use Rattle.amqp_blocks.proofs.LeaveLemmas.{sunk, ends_low, some_block}
use Rattle.amqp_blocks.proofs.PlaceLemmas.{start_more, start_few}

-- what is below where it is any
pub no_more : (at n : ℕ) → (0 < at → at < n) → at ≤ n
no_more zero n f = omega arith
no_more (suc at) n f = let h = f (omega arith) in omega (arith, h)

-- lengths that sink by nothing
map_none : (ks : List ℕ) → map (λ e. e - 0) ks ≡ ks
map_none [] = refl
map_none (k ∷ ks) =
    let z : k - 0 ≡ k = omega arith in
    ap (λ j. j ∷ map (λ e. e - 0) ks) z ∙ ap (λ (js : List ℕ). k ∷ js) (map_none ks)

module _ {X : Type 0} where
  set_over : (xs : List X) (i : ℕ) (x : X) → drop (suc i) (set xs i x) ≡ drop (suc i) xs
  set_over [] i x = refl
  set_over (y ∷ ys) zero x = refl
  set_over (y ∷ ys) (suc i) x = set_over ys i x

  pub drop_set_over : (xs : List X) (i : ℕ) (x : X) → drop (i + 1) (set xs i x) ≡ drop (i + 1) xs
  drop_set_over xs i x = subst (λ k. drop k (set xs i x) ≡ drop k xs) (sym (add-one i)) (set_over xs i x)

  pub take_set_under : (xs : List X) (i : ℕ) (x : X) → take i (set xs i x) ≡ take i xs
  take_set_under [] i x = refl
  take_set_under (y ∷ ys) zero x = refl
  take_set_under (y ∷ ys) (suc i) x = ap (λ zs. y ∷ zs) (take_set_under ys i x)

  pub drop_whole : (xs : List X) (n : ℕ) → length xs ≤ n → drop n xs ≡ []
  drop_whole [] zero h = refl
  drop_whole [] (suc n) h = refl
  drop_whole (x ∷ xs) zero h = absurd (omega arith)
  drop_whole (x ∷ xs) (suc n) h = drop_whole xs n (omega arith)

  -- the same from a place on, and so from a later one
  pub drop_later : (xs ys : List X) (k j : ℕ) → k ≤ j → drop k xs ≡ drop k ys → drop j xs ≡ drop j ys
  drop_later xs ys k j h e =
      let z : k + (j - k) ≡ j = omega (arith, h) in
      ap (λ n. drop n xs) (sym z) ∙ sym (drop-drop (j - k) k xs) ∙ ap (drop (j - k)) e ∙ drop-drop (j - k) k ys ∙ ap (λ n. drop n ys) z

  -- the same up to a place, and so up to an earlier one
  pub take_earlier : (xs ys : List X) (k j : ℕ) → k ≤ j → take j xs ≡ take j ys → take k xs ≡ take k ys
  take_earlier xs ys k j h e = sym (take_again xs k j h) ∙ ap (take k) e ∙ take_again ys k j h
    where
      take_again : (zs : List X) (k j : ℕ) → k ≤ j → take k (take j zs) ≡ take k zs
      take_again zs zero j h = refl
      take_again zs (suc k) zero h = absurd (omega arith)
      take_again [] (suc k) (suc j) h = refl
      take_again (z ∷ zs) (suc k) (suc j) h = ap (λ ws. z ∷ ws) (take_again zs k j (omega arith))

  -- the two parts of a list that was put together of two
  pub take_seam : (xs ys zs : List X) (n : ℕ) → zs ≡ xs ++ ys → n ≡ length xs → take n zs ≡ xs
  take_seam xs ys zs n e h = ap (λ k. take k zs) h ∙ ap (take (length xs)) e ∙ take-append_seam xs ys

  pub drop_seam : (xs ys zs : List X) (n : ℕ) → zs ≡ xs ++ ys → n ≡ length xs → drop n zs ≡ ys
  drop_seam xs ys zs n e h =
      let z : n ≡ length xs + 0 = omega (arith, h) in
      ap (λ k. drop k zs) z ∙ ap (drop (length xs + 0)) e ∙ drop-append-add xs ys 0

module _ {T : Type 0} where
  pub some_take : (bs : List (Block T)) (k : ℕ) → EachSome bs → EachSome (take k bs)
  some_take bs zero v = tt
  some_take [] (suc k) v = tt
  some_take (b ∷ bs) (suc k) v = (v.0, v.1, some_take bs k v.2)

  pub some_drop : (bs : List (Block T)) (k : ℕ) → EachSome bs → EachSome (drop k bs)
  some_drop bs zero v = v
  some_drop [] (suc k) v = tt
  some_drop (b ∷ bs) (suc k) v = some_drop bs k v.2

  pub some_append : (bs cs : List (Block T)) → EachSome bs → EachSome cs → EachSome (bs ++ cs)
  some_append [] cs v w = w
  some_append (b ∷ bs) cs v w = (v.0, v.1, some_append bs cs v.2 w)

  pub items_append : (bs cs : List (Block T)) → items_of (bs ++ cs) ≡ items_of bs ++ items_of cs
  items_append [] cs = refl
  items_append (b ∷ bs) cs = ap (λ (xs : List T). b.items ++ xs) (items_append bs cs) ∙ sym (append_assoc b.items (items_of bs) (items_of cs))

  pub ends_append : (n m : ℕ) (bs cs : List (Block T)) → m ≡ n + length (items_of bs) → ends_from n (bs ++ cs) ≡ ends_from n bs ++ ends_from m cs
  ends_append n m [] cs e = let z : n ≡ m = omega (arith, e) in ap (λ k. ends_from k cs) z
  ends_append n m (b ∷ bs) cs e =
      let l = length-append b.items (items_of bs) in
      ap (λ (ks : List ℕ). (n + length b.items) ∷ ks) (ends_append (n + length b.items) m bs cs (omega (arith, e, l)))

  pub ends_take : (n : ℕ) (bs : List (Block T)) (k : ℕ) → take k (ends_from n bs) ≡ ends_from n (take k bs)
  ends_take n bs zero = refl
  ends_take n [] (suc k) = refl
  ends_take n (b ∷ bs) (suc k) = ap (λ (ks : List ℕ). (n + length b.items) ∷ ks) (ends_take (n + length b.items) bs k)

  pub ends_drop : (n m : ℕ) (bs : List (Block T)) (k : ℕ) → m ≡ n + start_of bs k → drop k (ends_from n bs) ≡ ends_from m (drop k bs)
  ends_drop n m bs zero e = let z : n ≡ m = omega (arith, e) in ap (λ k. ends_from k bs) z
  ends_drop n m [] (suc k) e = refl
  ends_drop n m (b ∷ bs) (suc k) e =
      let l = length-append b.items (items_of (take k bs)) in
      ends_drop (n + length b.items) m bs k (omega (arith, e, l))

  -- what is before a block's place
  pub items_take : (bs : List (Block T)) (k r : ℕ) → r ≡ start_of bs k → items_of (take k bs) ≡ take r (items_of bs)
  items_take bs zero r e = let z : 0 ≡ r = omega (arith, e) in ap (λ n. take n (items_of bs)) z
  items_take [] (suc k) zero e = refl
  items_take [] (suc k) (suc r) e = refl
  items_take (b ∷ bs) (suc k) r e =
      let l = length-append b.items (items_of (take k bs)) in
      let z : length b.items + start_of bs k ≡ r = omega (arith, e, l) in
      ap (λ (xs : List T). b.items ++ xs) (items_take bs k (start_of bs k) refl) ∙ sym (take-append-add b.items (items_of bs) (start_of bs k)) ∙ ap (λ n. take n (b.items ++ items_of bs)) z

  -- and with a part of its items
  take_in : (bs : List (Block T)) (i at r : ℕ) (b c : Block T) → i < length bs → b ≡ get_or bs i b → at ≤ length b.items → c.items ≡ take at b.items → r ≡ start_of bs i + at → items_of (take (suc i) (set bs i c)) ≡ take r (items_of bs)
  take_in [] i at r b c h e w f q = absurd (omega arith)
  take_in (d ∷ ds) zero at r b c h e w f q =
      let same : b.items ≡ d.items = ap in_block e in
      let z : at ≡ r = omega (arith, q) in
      append-nil c.items ∙ f ∙ ap (take at) same ∙ sym (take-append-le at d.items (items_of ds) (omega (arith, ap length same, w))) ∙ ap (λ n. take n (d.items ++ items_of ds)) z
  take_in (d ∷ ds) (suc i) at r b c h e w f q =
      let l = length-append d.items (items_of (take i ds)) in
      let z : length d.items + (start_of ds i + at) ≡ r = omega (arith, q, l) in
      ap (λ (xs : List T). d.items ++ xs) (take_in ds i at (start_of ds i + at) b c (omega arith) e w f refl) ∙ sym (take-append-add d.items (items_of ds) (start_of ds i + at)) ∙ ap (λ n. take n (d.items ++ items_of ds)) z

  pub items_take_in : (bs : List (Block T)) (i at r : ℕ) (b c : Block T) → i < length bs → b ≡ get_or bs i b → at ≤ length b.items → c.items ≡ take at b.items → r ≡ start_of bs i + at → items_of (take (i + 1) (set bs i c)) ≡ take r (items_of bs)
  items_take_in bs i at r b c h e w f q = subst (λ k. items_of (take k (set bs i c)) ≡ take r (items_of bs)) (sym (add-one i)) (take_in bs i at r b c h e w f q)

  pub items_drop : (bs : List (Block T)) (k r : ℕ) → r ≡ start_of bs k → items_of (drop k bs) ≡ drop r (items_of bs)
  items_drop bs zero r e = let z : 0 ≡ r = omega (arith, e) in ap (λ n. drop n (items_of bs)) z
  items_drop [] (suc k) zero e = refl
  items_drop [] (suc k) (suc r) e = refl
  items_drop (b ∷ bs) (suc k) r e =
      let l = length-append b.items (items_of (take k bs)) in
      let z : length b.items + start_of bs k ≡ r = omega (arith, e, l) in
      items_drop bs k (start_of bs k) refl ∙ sym (drop-append-add b.items (items_of bs) (start_of bs k)) ∙ ap (λ n. drop n (b.items ++ items_of bs)) z

  -- ---- the part that stays after the cut

  pub items_trimmed : (bs cs : List (Block T)) (at : ℕ) → IsTrimmed bs at cs → ((b : Block T) → b ≡ get_or bs 0 b → at ≤ length b.items) → items_of cs ≡ drop at (items_of bs)
  items_trimmed bs cs zero u w = ap items_of u
  items_trimmed [] cs (suc at) u w = absurd u
  items_trimmed (b ∷ bs) cs (suc at) u w =
      ap items_of u.1 ∙ ap (λ (xs : List T). xs ++ items_of bs) u.2 ∙ sym (drop-append-le (suc at) b.items (items_of bs) (w b refl))

  pub ends_trimmed : (m n count at : ℕ) (bs cs : List (Block T)) → IsTrimmed bs at cs → ((b : Block T) → b ≡ get_or bs 0 b → at ≤ length b.items) → m + count ≡ n + at → map (λ e. e - count) (ends_from n bs) ≡ ends_from m cs
  ends_trimmed m n count zero bs cs u w e = sunk m n count bs (omega (arith, e)) ∙ ap (ends_from m) (sym u)
  ends_trimmed m n count (suc at) [] cs u w e = absurd u
  ends_trimmed m n count (suc at) (b ∷ bs) cs u w e =
      let c = u.0 in
      let size = ap length u.2 ∙ length-drop (suc at) b.items in
      let k : n + length b.items - count ≡ m + length c.items = omega (arith, size, w b refl, e) in
      ap (λ j. j ∷ map (λ e. e - count) (ends_from (n + length b.items) bs)) k
      ∙ ap (λ (ks : List ℕ). (m + length c.items) ∷ ks) (sunk (m + length c.items) (n + length b.items) count bs (omega (arith, size, w b refl, e)))
      ∙ ap (ends_from m) (sym u.1)

  pub some_trimmed : (bs cs : List (Block T)) (at : ℕ) → IsTrimmed bs at cs → ((b : Block T) → b ≡ get_or bs 0 b → 0 < at → at < length b.items) → EachSome bs → EachSome cs
  some_trimmed bs cs zero u w v = subst EachSome (sym u) v
  some_trimmed [] cs (suc at) u w v = absurd u
  some_trimmed (b ∷ bs) cs (suc at) u w v =
      let size = ap length u.2 ∙ length-drop (suc at) b.items in
      let in_it = w b refl (omega arith) in
      subst EachSome (sym u.1) (omega (arith, size, in_it), omega (arith, size, v.1), v.2)

  -- ---- the two sides, as the code makes them

  ends_in : (n e : ℕ) (bs : List (Block T)) (i : ℕ) (c : Block T) → i < length bs → e ≡ n + start_of bs i + length c.items → take (suc i) (set (ends_from n bs) i e) ≡ ends_from n (take (suc i) (set bs i c))
  ends_in n e [] i c h q = absurd (omega arith)
  ends_in n e (d ∷ ds) zero c h q = let z : e ≡ n + length c.items = omega (arith, q) in ap (λ k. k ∷ []) z
  ends_in n e (d ∷ ds) (suc i) c h q =
      let l = length-append d.items (items_of (take i ds)) in
      ap (λ (ks : List ℕ). (n + length d.items) ∷ ks) (ends_in (n + length d.items) e ds i c (omega arith) (omega (arith, q, l)))

  pub ends_take_in : (n e : ℕ) (bs : List (Block T)) (i : ℕ) (c : Block T) → i < length bs → e ≡ n + start_of bs i + length c.items → take (i + 1) (set (ends_from n bs) i e) ≡ ends_from n (take (i + 1) (set bs i c))
  ends_take_in n e bs i c h q = subst (λ k. take k (set (ends_from n bs) i e) ≡ ends_from n (take k (set bs i c))) (sym (add-one i)) (ends_in n e bs i c h q)

  -- all of a block before a place
  pub kept_front : (b c : Block T) (at count : ℕ) → at + count ≡ length b.items → c.items ≡ take at b.items ++ drop (at + count) b.items → c.items ≡ take at b.items
  kept_front b c at count e f =
      let none : drop (at + count) b.items ≡ [] = drop_whole b.items (at + count) (omega (arith, e)) in
      f ∙ ap (λ (xs : List T). take at b.items ++ xs) none ∙ append-nil (take at b.items)

  pub trimmed_in : (bs : List (Block T)) (j at : ℕ) (b c : Block T) → 0 < at → j < length bs → b ≡ get_or bs j b → c.items ≡ take 0 b.items ++ drop (0 + at) b.items → IsTrimmed (drop j bs) at (drop j (set bs j c))
  trimmed_in bs j zero b c p h e f = absurd (omega (arith, p))
  trimmed_in [] j (suc at) b c p h e f = absurd (omega arith)
  trimmed_in (d ∷ ds) zero (suc at) b c p h e f =
      let z : 0 + suc at ≡ suc at = omega arith in
      (c, refl, f ∙ ap (λ n. drop n b.items) z ∙ ap (λ (x : Block T). drop (suc at) x.items) e)
  trimmed_in (d ∷ ds) (suc j) (suc at) b c p h e f = trimmed_in ds j (suc at) b c p (omega arith) e f

  -- no running length after a cut is below what is cut
  pub ends_enough_after : (n count at : ℕ) (bs : List (Block T)) → ((b : Block T) → b ≡ get_or bs 0 b → at ≤ length b.items) → count ≤ n + at → (k : ℕ) → k < length (ends_from n bs) → count ≤ get_or (ends_from n bs) k 0
  ends_enough_after n count at [] w e k h = absurd (omega arith)
  ends_enough_after n count at (b ∷ bs) w e zero h = let q = w b refl in omega (arith, q, e)
  ends_enough_after n count at (b ∷ bs) w e (suc k) h =
      let q = w b refl in
      let m = ends_low (n + length b.items) bs k (omega (arith, h)) in
      omega (arith, q, e, m)

  pub at_dropped : (bs : List (Block T)) (j : ℕ) (d : Block T) → get_or (drop j bs) 0 d ≡ get_or bs j d
  at_dropped bs zero d = refl
  at_dropped [] (suc j) d = refl
  at_dropped (b ∷ bs) (suc j) d = at_dropped bs j d

  -- the block of the second place, as what follows begins with it
  pub first_after : (bs : List (Block T)) (j at : ℕ) → (0 < at → (j < length bs) × HasItem bs j at) → (b : Block T) → b ≡ get_or (drop j bs) 0 b → 0 < at → at < length b.items
  first_after bs j at w b e p = (w p).1 b (e ∙ at_dropped bs j b)

  -- a cut that leaves nothing in front: the base rises
  after_all : (base rank count start at : ℕ) (front bs back : List (Block T)) (fronts : List ℕ) (items : List T) → IsFront base rank items front fronts → length fronts ≡ 0 → rank ≤ length items → IsTrimmed bs at back → ((b : Block T) → b ≡ get_or bs 0 b → at ≤ length b.items) → rank + count ≡ start + at → fronts ++ ends_from (base + start) bs ≡ ends_from (base + count) (front ++ back)
  after_all base rank count start at [] bs back fronts items f z low u fits q =
      let none : rank ≡ 0 = sym (ap length f.is ∙ length-take-le rank items low) in
      ap (λ (ks : List ℕ). ks ++ ends_from (base + start) bs) f.stops ∙ sym (map_none (ends_from (base + start) bs)) ∙ ends_trimmed (base + count) (base + start) 0 at bs back u fits (omega (arith, q, none))
  after_all base rank count start at (b ∷ front) bs back fronts items f z low u fits q = absurd (let l = ap length f.stops in omega (arith, l, z))

  -- what is known once a stretch is cut out
  pub record Cut (base rank count : ℕ) (bs ds : List (Block T)) (ends : List ℕ) : Type 0 where
    pub stops : ends ≡ ends_from base ds
    pub some : EachSome ds
    pub items : items_of ds ≡ without rank count (items_of bs)

  pub cut_is : (base risen rank count j at n : ℕ) (bs front back ds : List (Block T)) (es fronts left new : List ℕ) → IsChunked base bs es → IsFront base rank (items_of bs) front fronts → n ≡ length fronts → IsTrimmed (drop j bs) at back → (0 < at → (j < length bs) × HasItem bs j at) → rank ≤ length (items_of bs) → rank + count ≡ start_of bs j + at → ds ≡ front ++ back → left ≡ fronts ++ drop j es → (n ≡ 0 → (new ≡ left) × (risen ≡ base + count)) → (0 < n → (risen ≡ base) × (new ≡ take n left ++ map (λ e. e - count) (drop n left))) → Cut risen rank count bs ds new
  cut_is base risen rank count j at n bs front back ds es fronts left new v f z u w low q e s first other =
      let some = first_after bs j at w in
      let fits : (b : Block T) → b ≡ get_or (drop j bs) 0 b → at ≤ length b.items = λ b p. no_more at (length b.items) (some b p) in
      let kept : items_of back ≡ drop (rank + count) (items_of bs) = items_trimmed (drop j bs) back at u fits ∙ ap (drop at) (items_drop bs j (start_of bs j) refl) ∙ drop-drop at (start_of bs j) (items_of bs) ∙ ap (λ n. drop n (items_of bs)) (sym q) in
      let long : length (items_of front) ≡ rank = ap length f.is ∙ length-take-le rank (items_of bs) low in
      let gone : drop j es ≡ ends_from (base + start_of bs j) (drop j bs) = ap (drop j) v.stops ∙ ends_drop base (base + start_of bs j) bs j refl in
      record {
        stops = elim (cases_lt 0 n) [
          | inl more ↦
              let o = other more in
              let lowered : map (λ e. e - count) (drop n left) ≡ ends_from (base + rank) back = ap (map (λ e. e - count)) (drop_seam fronts (drop j es) left n s z ∙ gone) ∙ ends_trimmed (base + rank) (base + start_of bs j) count at (drop j bs) back u fits (omega (arith, q)) in
              o.1 ∙ ap (λ (ks : List ℕ). ks ++ map (λ e. e - count) (drop n left)) (take_seam fronts (drop j es) left n s z) ∙ ap (λ (ks : List ℕ). fronts ++ ks) lowered
              ∙ ap (λ (ks : List ℕ). ks ++ ends_from (base + rank) back) f.stops ∙ sym (ends_append base (base + rank) front back (omega (arith, long)))
              ∙ ap (ends_from base) (sym e) ∙ ap (λ m. ends_from m ds) (sym o.0)
          | inr none ↦
              let o = first (omega (arith, none)) in
              o.0 ∙ s ∙ ap (λ (ks : List ℕ). fronts ++ ks) gone
              ∙ after_all base rank count (start_of bs j) at front (drop j bs) back fronts (items_of bs) f (omega (arith, none, z)) low u fits q
              ∙ ap (ends_from (base + count)) (sym e) ∙ ap (λ m. ends_from m ds) (sym o.1)
        ];
        some = subst EachSome (sym e) (some_append front back f.some (some_trimmed (drop j bs) back at u some (some_drop bs j v.some)));
        items = ap items_of e ∙ items_append front back ∙ ap (λ (xs : List T). xs ++ items_of back) f.is ∙ ap (λ (xs : List T). take rank (items_of bs) ++ xs) kept;
      }

  pub trimmed_none : (bs : List (Block T)) (at : ℕ) → at ≡ 0 → IsTrimmed bs at bs
  trimmed_none bs zero e = refl
  trimmed_none bs (suc at) e = absurd (omega (arith, e))

  -- the second place is not after all items
  pub places_after : (bs : List (Block T)) (j at : ℕ) → (0 < at → (j < length bs) × HasItem bs j at) → start_of bs j + at ≤ length (items_of bs)
  places_after bs j zero w = let f = start_few bs j in omega (arith, f)
  places_after bs j (suc at) w =
      let in_it = w (omega arith) in
      let b = some_block bs j in_it.0 in
      let more = start_more bs j b.0 in_it.0 b.1 in
      let few = start_few bs (suc j) in
      omega (arith, in_it.1 b.0 b.1, more, few)
