-- Cells whose items are there, and runs of cells whose items have gone.
use Rattle.std.proofs.Common.{◌≡◌, ℕ, suc, zero, ◌+◌, ◌-◌, ◌<◌, ◌≤◌, arith, List, [], ◌∷◌, ◌++◌, length, take, drop}
use Rattle.std.proofs.Common.{map}
use Rattle.std.proofs.Common.{ap, sym, subst, ◌∙◌, refl, cond, Bool, true, false, true≢false, Option, Some, None}
use Rattle.std.specs.Prelude.{slice_get, slice_set, slice_index, slice_index_or}
use Rattle.std.proofs.lemmas.List.{map-append, take-append-drop, get_or-drop, length-drop, drop-drop, drop-set-lt}
use Rattle.std.proofs.lemmas.List.Elements.{filter-append, filter_more}
use Rattle.amqp_unsettled.specs.Serial.{distance}
use Rattle.amqp_unsettled.specs.declared.cells.Cell.{Cell}
use Rattle.amqp_unsettled.specs.Inner.Rows.{is_there, live, there, FirstGone, RunsGone, IsThereAt, fars}

module _ {X : Type 0} where
  -- ---- reading

  pub got : (cs : List X) (i : ℕ) (c : X) → i < length cs → c ≡ slice_index_or cs i c → slice_get cs i ≡ Some c
  got [] i c h e = absurd (omega (arith, h))
  got (d ∷ ds) zero c h e = let is : c ≡ d = e in ap Some (sym is)
  got (d ∷ ds) (suc i) c h e = got ds i c (omega (arith, h)) e

  pub got_within : (cs : List X) (i : ℕ) (c : X) → slice_get cs i ≡ Some c → i < length cs
  got_within [] i c e = absurd (let n : (let n : Option X = None in n) ≡ Some c = e in grind (arith, n))
  got_within (d ∷ ds) zero c e = omega arith
  got_within (d ∷ ds) (suc i) c e = let r = got_within ds i c e in omega (arith, r)

  pub got_drop : (k : ℕ) (cs : List X) (i : ℕ) → slice_get (drop k cs) i ≡ slice_get cs (k + i)
  got_drop zero cs i = ap (slice_get cs) (let e : i ≡ 0 + i = omega arith in e)
  got_drop (suc k) [] i = refl
  got_drop (suc k) (c ∷ cs) i = got_drop k cs i ∙ ap (slice_get (c ∷ cs)) (let e : suc (k + i) ≡ suc k + i = omega arith
      in e)

  pub got_take : (k : ℕ) (cs : List X) (i : ℕ) → i < k → slice_get (take k cs) i ≡ slice_get cs i
  got_take zero cs i h = absurd (omega (arith, h))
  got_take (suc k) [] i h = refl
  got_take (suc k) (c ∷ cs) zero h = refl
  got_take (suc k) (c ∷ cs) (suc i) h = got_take k cs i (omega (arith, h))

  pub got_set_other : (cs : List X) (i j : ℕ) (d : X) → (i ≡ j → ⊥) → slice_get (slice_set cs i d) j ≡ slice_get cs j
  got_set_other [] i j d h = refl
  got_set_other (c ∷ cs) zero zero d h = absurd (h refl)
  got_set_other (c ∷ cs) zero (suc j) d h = refl
  got_set_other (c ∷ cs) (suc i) zero d h = refl
  got_set_other (c ∷ cs) (suc i) (suc j) d h = got_set_other cs i j d (λ e. h (ap suc e))

  pub length_set : (cs : List X) (i : ℕ) (d : X) → length (slice_set cs i d) ≡ length cs
  length_set [] i d = refl
  length_set (c ∷ cs) zero d = refl
  length_set (c ∷ cs) (suc i) d = ap suc (length_set cs i d)

  pub drop_set_add : (k : ℕ) (cs : List X) (i : ℕ) (d : X) → drop k (slice_set cs (k + i) d) ≡ slice_set (drop k cs) i d
  drop_set_add zero cs i d = ap (λ n. slice_set cs n d) (let e : 0 + i ≡ i = omega arith in e)
  drop_set_add (suc k) [] i d = refl
  drop_set_add (suc k) (c ∷ cs) i d =
      ap (λ n. drop (suc k) (slice_set (c ∷ cs) n d)) (let e : suc k + i ≡ suc (k + i) = omega arith in e)
      ∙ drop_set_add k cs i d

  -- ---- items that are there

  pub there_append : (cs ds : List (Cell X)) → there (cs ++ ds) ≡ there cs ++ there ds
  there_append cs ds = ap (map (λ (c : Cell X). c.item)) (filter-append is_there cs ds)
      ∙ map-append (λ (c : Cell X). c.item) (live cs) (live ds)

  pub there_split : (k : ℕ) (cs : List (Cell X)) → there cs ≡ there (take k cs) ++ there (drop k cs)
  there_split k cs = ap there (sym (take-append-drop k cs)) ∙ there_append (take k cs) (drop k cs)

  pub there_more : (c : Cell X) (cs : List (Cell X)) → is_there c ≡ true → there (c ∷ cs) ≡ c.item ∷ there cs
  there_more c cs t = ap (λ b. map (λ (c : Cell X). c.item) (cond b (c ∷ live cs) (live cs))) t

  pub there_same : (c : Cell X) (cs : List (Cell X)) → is_there c ≡ false → there (c ∷ cs) ≡ there cs
  there_same c cs t = ap (λ b. map (λ (c : Cell X). c.item) (cond b (c ∷ live cs) (live cs))) t

  pub there_few : (cs : List (Cell X)) → length (there cs) ≤ length cs
  there_few [] = omega arith
  there_few (c ∷ cs) = by (is_there c) refl (there_few cs)
    where
      by : (b : Bool) → is_there c ≡ b → length (there cs) ≤ length cs → length (there (c ∷ cs)) ≤ length (c ∷ cs)
      by true t r = let e = ap length (there_more c cs t) in omega (arith, e, r)
      by false t r = let e = ap length (there_same c cs t) in omega (arith, e, r)

  -- where a cell is, what is there before, its own, and what is there after
  pub there_at : (cs : List (Cell X)) (i : ℕ) (c : Cell X) → slice_get cs i ≡ Some c → is_there c ≡ true →
      there cs ≡ there (take i cs) ++ c.item ∷ there (drop (suc i) cs)
  there_at [] i c e t = absurd (let n : (let n : Option (Cell X) = None in n) ≡ Some c = e in grind (arith, n))
  there_at (d ∷ ds) zero c e t = subst (λ (x : Cell X). there (d ∷ ds) ≡ x.item ∷ there ds) (at_is' d c e)
      (there_more d ds (ap is_there (at_is' d c e) ∙ t))
    where
      at_is' : (c d : Cell X) → (let o : Option (Cell X) = Some c in o) ≡ Some d → c ≡ d
      at_is' c d e = grind (arith, e)
  there_at (d ∷ ds) (suc i) c e t = by (is_there d) refl (there_at ds i c e t)
    where
      by : (b : Bool) → is_there d ≡ b → there ds ≡ there (take i ds) ++ c.item ∷ there (drop (suc i) ds) →
          there (d ∷ ds) ≡ there (d ∷ take i ds) ++ c.item ∷ there (drop (suc i) ds)
      by true u r = there_more d ds u ∙ ap (λ xs. d.item ∷ xs) r
          ∙ ap (λ xs. xs ++ c.item ∷ there (drop (suc i) ds)) (sym (there_more d (take i ds) u))
      by false u r = there_same d ds u ∙ r
          ∙ ap (λ xs. xs ++ c.item ∷ there (drop (suc i) ds)) (sym (there_same d (take i ds) u))

  -- a cell without an item does not count
  pub there_but : (cs : List (Cell X)) (i : ℕ) (c : Cell X) → i < length cs → is_there c ≡ false →
      there (slice_set cs i c) ≡ there (take i cs) ++ there (drop (suc i) cs)
  there_but [] i c h t = absurd (omega (arith, h))
  there_but (d ∷ ds) zero c h t = there_same c ds t
  there_but (d ∷ ds) (suc i) c h t = by (is_there d) refl (there_but ds i c (omega (arith, h)) t)
    where
      by : (b : Bool) → is_there d ≡ b → there (slice_set ds i c) ≡ there (take i ds) ++ there (drop (suc i) ds) →
          there (d ∷ slice_set ds i c) ≡ there (d ∷ take i ds) ++ there (drop (suc i) ds)
      by true u r = there_more d (slice_set ds i c) u ∙ ap (λ xs. d.item ∷ xs) r
          ∙ ap (λ xs. xs ++ there (drop (suc i) ds)) (sym (there_more d (take i ds) u))
      by false u r = there_same d (slice_set ds i c) u ∙ r
          ∙ ap (λ xs. xs ++ there (drop (suc i) ds)) (sym (there_same d (take i ds) u))

  pub there_not : (cs : List (Cell X)) (i : ℕ) (c : Cell X) → slice_get cs i ≡ Some c → is_there c ≡ false →
      there cs ≡ there (take i cs) ++ there (drop (suc i) cs)
  there_not [] i c e t = absurd (let n : (let n : Option (Cell X) = None in n) ≡ Some c = e in grind (arith, n))
  there_not (d ∷ ds) zero c e t = let is : d ≡ c = grind (arith, e) in there_same d ds (ap is_there is ∙ t)
  there_not (d ∷ ds) (suc i) c e t = by (is_there d) refl (there_not ds i c e t)
    where
      by : (b : Bool) → is_there d ≡ b → there ds ≡ there (take i ds) ++ there (drop (suc i) ds) →
          there (d ∷ ds) ≡ there (d ∷ take i ds) ++ there (drop (suc i) ds)
      by true u r = there_more d ds u ∙ ap (λ xs. d.item ∷ xs) r
          ∙ ap (λ xs. xs ++ there (drop (suc i) ds)) (sym (there_more d (take i ds) u))
      by false u r = there_same d ds u ∙ r
          ∙ ap (λ xs. xs ++ there (drop (suc i) ds)) (sym (there_same d (take i ds) u))

  -- ---- runs

  pub none_before : (k : ℕ) (cs : List (Cell X)) → FirstGone k cs → there (take k cs) ≡ []
  none_before zero cs h = refl
  none_before (suc k) [] h = refl
  none_before (suc k) (c ∷ cs) h = there_same c (take k cs) h.0 ∙ none_before k cs h.1

  pub gone_less : (j k : ℕ) (cs : List (Cell X)) → j ≤ k → FirstGone k cs → FirstGone j cs
  gone_less zero k cs h g = tt
  gone_less (suc j) zero cs h g = absurd (omega (arith, h))
  gone_less (suc j) (suc k) [] h g = tt
  gone_less (suc j) (suc k) (c ∷ cs) h g = (g.0, gone_less j k cs (omega (arith, h)) g.1)

  pub gone_take : (k n : ℕ) (cs : List (Cell X)) → FirstGone k cs → FirstGone k (take n cs)
  gone_take zero n cs g = tt
  gone_take (suc k) zero cs g = tt
  gone_take (suc k) (suc n) [] g = tt
  gone_take (suc k) (suc n) (c ∷ cs) g = (g.0, gone_take k n cs g.1)

  pub gone_more : (k m : ℕ) (cs : List (Cell X)) → FirstGone k cs → FirstGone m (drop k cs) → FirstGone (k + m) cs
  gone_more zero m cs g h = subst (λ n. FirstGone n cs) (let e : m ≡ 0 + m = omega arith in e) h
  gone_more (suc k) m [] g h = subst (λ n. FirstGone n (let n : List (Cell X) = [] in n)) (let e : suc (k + m) ≡ suc k +
      m = omega arith in e) tt
  gone_more (suc k) m (c ∷ cs) g h = subst (λ n. FirstGone n (c ∷ cs))
      (let e : suc (k + m) ≡ suc k + m = omega arith in e) (g.0, gone_more k m cs g.1 h)

  pub gone_set : (k i : ℕ) (cs : List (Cell X)) (c : Cell X) → is_there c ≡ false → FirstGone k cs →
      FirstGone k (slice_set cs i c)
  gone_set zero i cs c t g = tt
  gone_set (suc k) i [] c t g = tt
  gone_set (suc k) zero (d ∷ ds) c t g = (t, g.1)
  gone_set (suc k) (suc i) (d ∷ ds) c t g = (g.0, gone_set k i ds c t g.1)

  -- the first i have gone, and that of i then
  pub gone_upto : (i : ℕ) (cs : List (Cell X)) (c : Cell X) → is_there c ≡ false → FirstGone i cs →
      FirstGone (suc i) (slice_set cs i c)
  gone_upto i [] c t g = tt
  gone_upto zero (d ∷ ds) c t g = (t, tt)
  gone_upto (suc i) (d ∷ ds) c t g = (g.0, gone_upto i ds c t g.1)

  pub runs_take : (n : ℕ) (cs : List (Cell X)) → RunsGone cs → RunsGone (take n cs)
  runs_take zero cs r = tt
  runs_take (suc n) [] r = tt
  runs_take (suc n) (c ∷ cs) r = (gone_take c.run (suc n) (c ∷ cs) r.0, runs_take n cs r.1)

  pub runs_at : (cs : List (Cell X)) (i : ℕ) (c : Cell X) → RunsGone cs → slice_get cs i ≡ Some c →
      FirstGone c.run (drop i cs)
  runs_at [] i c r e = absurd (let n : (let n : Option (Cell X) = None in n) ≡ Some c = e in grind (arith, n))
  runs_at (d ∷ ds) zero c r e = let is : d ≡ c = grind (arith, e) in
      subst (λ (x : Cell X). FirstGone x.run (d ∷ ds)) is r.0
  runs_at (d ∷ ds) (suc i) c r e = runs_at ds i c r.1 e

  pub runs_set : (cs : List (Cell X)) (i : ℕ) (c : Cell X) → is_there c ≡ false →
      FirstGone c.run (drop i (slice_set cs i c)) → RunsGone cs → RunsGone (slice_set cs i c)
  runs_set [] i c t g r = tt
  runs_set (d ∷ ds) zero c t g r = (g, r.1)
  runs_set (d ∷ ds) (suc i) c t g r = (gone_set d.run (suc i) (d ∷ ds) c t r.0, runs_set ds i c t g r.1)

  -- a run ends before one that is there
  abbrev LastIsThere : List (Cell X) → Type 0
  LastIsThere cs = (i : ℕ) → suc i ≡ length cs → IsThereAt cs i

  gone_end : (k : ℕ) (d : Cell X) (cs : List (Cell X)) (c : Cell X) → FirstGone k (d ∷ cs) → LastIsThere (d ∷ cs) →
      FirstGone k ((d ∷ cs) ++ c ∷ [])
  gone_end zero d cs c g last = tt
  gone_end (suc k) d [] c g last = absurd (true≢false (sym (last 0 refl d refl) ∙ g.0))
  gone_end (suc k) d (e ∷ es) c g last =
      (g.0, gone_end k e es c g.1 (λ i h x at. last (suc i) (ap suc h) x at))

  pub runs_end : (cs : List (Cell X)) (c : Cell X) → c.run ≡ 0 → LastIsThere cs → RunsGone cs → RunsGone (cs ++ c ∷ [])
  runs_end [] c z last r = (subst (λ k. FirstGone k (c ∷ [])) (sym z) tt, tt)
  runs_end (d ∷ ds) c z last r =
      (gone_end d.run d ds c r.0 last, runs_end ds c z (λ i h x at. last (suc i) (ap suc h) x at) r.1)

  -- ---- all are there

  pub all_there : (cs : List (Cell X)) → length (there cs) ≡ length cs → (i : ℕ) → IsThereAt cs i
  all_there [] e i c at = absurd (let n : (let n : Option (Cell X) = None in n) ≡ Some c = at in grind (arith, n))
  all_there (d ∷ ds) e i c at = by (is_there d) refl i at (λ h j k. all_there ds h j c k)
    where
      by : (b : Bool) → is_there d ≡ b → (i : ℕ) → slice_get (d ∷ ds) i ≡ Some c →
          (length (there ds) ≡ length ds → (j : ℕ) → slice_get ds j ≡ Some c → is_there c ≡ true) → is_there c ≡ true
      by true t zero at on = let is : d ≡ c = grind (arith, at) in sym (ap is_there is) ∙ t
      by true t (suc i) at on =
          let m = ap length (there_more d ds t) in
          on (omega (arith, m, e)) i at
      by false t i at on = absurd (let m = ap length (there_same d ds t) in let f = there_few ds in omega (
        arith,
        m,
        e,
        f,
      ))

  pub live_there : (cs : List (Cell X)) → length (there (live cs)) ≡ length (live cs)
  live_there [] = refl
  live_there (c ∷ cs) = by (is_there c) refl (live_there cs)
    where
      by : (b : Bool) → is_there c ≡ b → length (there (live cs)) ≡ length (live cs) →
          length (there (cond b (c ∷ live cs) (live cs))) ≡ length (cond b (c ∷ live cs) (live cs))
      by true t r = ap length (there_more c (live cs) t) ∙ ap suc r
      by false t r = r

  pub runs_there : (cs : List (Cell X)) → ((i : ℕ) → IsThereAt cs i) → RunsGone cs
  runs_there [] h = tt
  runs_there (c ∷ cs) h = (by c.run refl, runs_there cs (λ i. h (suc i)))
    where
      by : (k : ℕ) → c.run ≡ k → FirstGone k (c ∷ cs)
      by zero z = tt
      by (suc k) z = absurd (true≢false (sym (h 0 c refl) ∙ let r = z in grind (arith, r)))

-- ---- numbers

module _ {X : Type 0} (f : X → ℕ) where
  pub far_is : (base : ℕ) (cs : List (Cell X)) (i : ℕ) (c : Cell X) → i < length cs → c ≡ slice_index_or cs i c →
      slice_index (fars f base cs) i ≡ distance base (f c.item)
  far_is base [] i c h e = absurd (omega (arith, h))
  far_is base (d ∷ ds) zero c h e = let is : c ≡ d = e in ap (λ (x : Cell X). distance base (f x.item)) (sym is)
  far_is base (d ∷ ds) (suc i) c h e = far_is base ds i c (omega (arith, h)) e

  pub fars_length : (base : ℕ) (cs : List (Cell X)) → length (fars f base cs) ≡ length cs
  fars_length base [] = refl
  fars_length base (c ∷ cs) = ap suc (fars_length base cs)

-- ---- those that are there move to the front

module _ {X : Type 0} (cs old : List (Cell X)) (head at : ℕ) (c : Cell X) (order : head ≤ at) (len : length cs ≡ length
    old)
    (rest : drop at cs ≡ drop at old) (within : at < length cs) (is : c ≡ slice_index_or cs at c) where
  same_at : c ≡ slice_index_or old at c
  same_at =
      let none : at ≡ at + 0 = omega arith in
      is ∙ ap (λ n. slice_index_or cs n c) none ∙ sym (get_or-drop at cs 0 c) ∙ ap (λ xs. slice_index_or xs 0 c) rest
      ∙ get_or-drop at old 0 c ∙ ap (λ n. slice_index_or old n c) (sym none)

  pub live_more : live (take (at + 1 - head) (drop head old))
      ≡ live (take (at - head) (drop head old)) ++ cond (is_there c) (c ∷ []) []
  live_more =
      let here : slice_index_or (drop head old) (at - head) c ≡ c =
      get_or-drop head old (at - head) c ∙ ap (λ n. slice_index_or old n c) (let e : head + (at - head) ≡ at = omega
      (arith, order) in e)
      ∙ sym same_at in
      let short : at - head < length (drop head old) = let l = length-drop head old in omega (
        arith,
        l,
        len,
        within,
        order,
      ) in
      ap (λ n. live (take n (drop head old))) (let e : at + 1 - head ≡ at - head + 1 = omega (arith, order) in e)
      ∙ filter_more is_there (drop head old) (at - head) c short
      ∙ ap (λ x. live (take (at - head) (drop head old)) ++ cond (is_there x) (x ∷ []) []) here

  pub rest_more : drop (at + 1) cs ≡ drop (at + 1) old
  rest_more = sym (drop-drop 1 at cs) ∙ ap (drop 1) rest ∙ drop-drop 1 at old

  pub rest_put : (kept : ℕ) → kept ≤ at → drop (at + 1) (slice_set cs kept c) ≡ drop (at + 1) old
  rest_put kept h = drop-set-lt (at + 1) cs kept c (omega (arith, h)) ∙ rest_more
