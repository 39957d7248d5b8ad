-- A row's cells: one more comes, one goes, those without items go.
use Rattle.std.proofs.Common.{◌≡◌, ℕ, suc, zero, ◌+◌, ◌-◌, ◌^◌, ◌<◌, ◌≤◌, arith, List, [], ◌∷◌, ◌++◌, length, take}
use Rattle.std.proofs.Common.{drop, map}
use Rattle.std.proofs.Common.{ap, sym, subst, ◌∙◌, refl, cond, ◌&&◌, Bool, true, false, true≢false, Option, Some, None}
use Rattle.std.specs.Prelude.{slice_get, slice_set, slice_index_or}
use Rattle.std.proofs.lemmas.List.{map-append, length-append, length-drop, append-nil, drop-take}
use Rattle.amqp_unsettled.specs.Serial.{is_after}
use Rattle.amqp_unsettled.specs.declared.cells.Cell.{Cell}
use Rattle.amqp_unsettled.specs.Inner.Order.{Each, Below}
use Rattle.amqp_unsettled.specs.Inner.Rows.{is_there, live, there, numbers, RunsGone, IsThereAt}
use Rattle.amqp_unsettled.specs.Inner.Rows.{InSerial, IsLooseRow, IsFullRow, comes_next}
use Rattle.amqp_unsettled.proofs.ListLemmas.{each_filter, each_mapped}
use Rattle.amqp_unsettled.proofs.NextLemmas.{all_pass, serial_take, serial_filter}
use Rattle.amqp_unsettled.proofs.NextLemmas.{serial_end, small_filter, small_end, all_before}
use Rattle.amqp_unsettled.proofs.PlaceLemmas.{item_at}
use Rattle.amqp_unsettled.proofs.NumberLemmas.{equal_test}
use Rattle.amqp_unsettled.proofs.CellLemmas.{got, got_drop, got_take, there_append}
use Rattle.amqp_unsettled.proofs.CellLemmas.{there_more, there_same, there_at, there_few}
use Rattle.amqp_unsettled.proofs.CellLemmas.{runs_take, runs_end}
use Rattle.amqp_unsettled.proofs.CellLemmas.{all_there, live_there, runs_there}

module _ {X : Type 0} (f : X → ℕ) where
  numbers_append : (cs ds : List (Cell X)) → numbers f (cs ++ ds) ≡ numbers f cs ++ numbers f ds
  numbers_append cs ds = map-append (λ (c : Cell X). f c.item) cs ds

  pub numbers_set : (cs : List (Cell X)) (i : ℕ) (c d : Cell X) → slice_get cs i ≡ Some c → d.item ≡ c.item →
      numbers f (slice_set cs i d) ≡ numbers f cs
  numbers_set [] i c d e same = refl
  numbers_set (a ∷ as') zero c d e same = let is : a ≡ c = grind (arith, e) in
      ap (λ x. f x ∷ numbers f as') (same ∙ ap (λ (x : Cell X). x.item) (sym is))
  numbers_set (a ∷ as') (suc i) c d e same = ap (λ ns. f a.item ∷ ns) (numbers_set as' i c d e same)

  number_got : (cs : List (Cell X)) (i : ℕ) (c : Cell X) → slice_get cs i ≡ Some c → slice_get (numbers f cs) i ≡ Some
      (f c.item)
  number_got [] i c e = absurd (let n : (let n : Option (Cell X) = None in n) ≡ Some c = e in grind (arith, n))
  number_got (a ∷ bs) zero c e = let is : a ≡ c = grind (arith, e) in ap (λ (x : Cell X). Some (f x.item)) is
  number_got (a ∷ bs) (suc i) c e = number_got bs i c e

  numbers_length : (cs : List (Cell X)) → length (numbers f cs) ≡ length cs
  numbers_length [] = refl
  numbers_length (c ∷ cs) = ap suc (numbers_length cs)

  -- ---- those that are there alone

  pub row_live : (cs : List (Cell X)) (gone : ℕ) → IsLooseRow f cs gone → IsFullRow f (live cs) 0
  row_live cs gone r =
      let all = all_there (live cs) (live_there cs) in
      record {
        loose = record {
          counts = let l = live_there cs in omega (arith, l);
          small = small_filter (λ (c : Cell X). f c.item) is_there (2 ^ 32) cs r.small;
          serial = serial_filter (λ (c : Cell X). f c.item) is_there cs r.serial;
          runs = runs_there (live cs) all;
        };
        front = all 0;
        back = λ i e. all i;
      }

  pub live_items : (cs : List (Cell X)) → there (live cs) ≡ there cs
  live_items [] = refl
  live_items (c ∷ cs) = by (is_there c) refl (live_items cs)
    where
      by : (b : Bool) → is_there c ≡ b → there (live cs) ≡ there cs →
          there (cond b (c ∷ live cs) (live cs)) ≡ map (λ (d : Cell X). d.item) (cond b (c ∷ live cs) (live cs))
      by true t r = there_more c (live cs) t ∙ ap (λ xs. c.item ∷ xs) r
      by false t r = r

  -- ---- one more

  each_number : (n : ℕ) (cs : List (Cell X)) → Each (λ m. is_after m n ≡ true) (numbers f cs) →
      Each (λ x. is_after (f x) n ≡ true) (there cs)
  each_number n cs h = each_mapped (λ (c : Cell X). c.item) (λ x. is_after (f x) n ≡ true) (live cs)
      (each_filter (λ (c : Cell X). is_after (f c.item) n ≡ true) is_there cs (cells cs h))
    where
      cells : (ds : List (Cell X)) → Each (λ m. is_after m n ≡ true) (numbers f ds) → Each (λ (c : Cell X). is_after (f
          c.item) n ≡ true) ds
      cells [] h = tt
      cells (d ∷ ds) h = (h.0, cells ds h.1)

  -- a number that lies after the first and the last lies after each one
  pub after_all : (n : ℕ) (cs : List (Cell X)) (gone i : ℕ) (first last : Cell X) → n < 2 ^ 32 → IsFullRow f cs gone →
      slice_get cs 0 ≡ Some first → i + 1 ≡ length cs → slice_get cs i ≡ Some last →
      is_after (f first.item) n ≡ true → is_after (f last.item) n ≡ true → Each (λ m. is_after m n ≡ true) (numbers f
      cs)
  after_all n [] gone i first last hn r a h b t u = tt
  after_all n (c ∷ cs) gone i first last hn r a h b t u =
      let is : c ≡ first = grind (arith, a) in
      let l = numbers_length cs in
      let small = r.loose.small in
      let near = number_got (c ∷ cs) i last b in
      let low = small_at (numbers f (c ∷ cs)) i (f last.item) near small in
      all_before (f c.item) (f last.item) n i (numbers f cs) low hn small r.loose.serial (omega (arith, h, l)) near
      (ap (λ (x : Cell X). is_after (f x.item) n) is ∙ t) u
    where
      small_at : (ns : List ℕ) (i m : ℕ) → slice_get ns i ≡ Some m → Below (2 ^ 32) ns → m < 2 ^ 32
      small_at [] i m e s = absurd (let n : (let n : Option ℕ = None in n) ≡ Some m = e in grind (arith, n))
      small_at (k ∷ ks) zero m e s = let is : k ≡ m = grind (arith, e) in subst (λ x. x < 2 ^ 32) is s.0
      small_at (k ∷ ks) (suc i) m e s = small_at ks i m e s.1

  pub next_if : (n : ℕ) (cs : List (Cell X)) → Each (λ m. is_after m n ≡ true) (numbers f cs) →
      comes_next f n (there cs) ≡ true
  next_if n cs h = all_pass (λ x. is_after (f x) n) (there cs) (each_number n cs h)

  -- one that is there tells against it
  pub next_fails : (n : ℕ) (cs : List (Cell X)) (i : ℕ) (c : Cell X) → slice_get cs i ≡ Some c → is_there c ≡ true →
      is_after (f c.item) n ≡ false → comes_next f n (there cs) ≡ false
  next_fails n cs i c e t u = ap (comes_next f n) (there_at cs i c e t) ∙ fails (there (take i cs))
    where
      fails : (xs : List X) → comes_next f n (xs ++ c.item ∷ there (drop (suc i) cs)) ≡ false
      fails [] = rw u refl
      fails (x ∷ xs) = by (is_after (f x) n) (fails xs)
        where
          by : (b : Bool) → comes_next f n (xs ++ c.item ∷ there (drop (suc i) cs)) ≡ false →
              (b && comes_next f n (xs ++ c.item ∷ there (drop (suc i) cs))) ≡ false
          by true r = r
          by false r = refl

  -- where it lies after the first, the last one tells
  pub next_by_last : (n : ℕ) (cs : List (Cell X)) (gone i : ℕ) (first last : Cell X) → n < 2 ^ 32 → IsFullRow f cs gone
      →
      slice_get cs 0 ≡ Some first → i + 1 ≡ length cs → slice_get cs i ≡ Some last → is_after (f first.item) n ≡ true →
      is_after (f last.item) n ≡ comes_next f n (there cs)
  next_by_last n cs gone i first last hn r a h b t = by (is_after (f last.item) n) refl
    where
      by : (w : Bool) → is_after (f last.item) n ≡ w → is_after (f last.item) n ≡ comes_next f n (there cs)
      by true v = v ∙ sym (next_if n cs (after_all n cs gone i first last hn r a h b t v))
      by false v = v ∙ sym (next_fails n cs i last b (r.back i h last b) v)

  after_there : (n : ℕ) (cs : List (Cell X)) (i : ℕ) (c : Cell X) → slice_get cs i ≡ Some c → is_there c ≡ true →
      comes_next f n (there cs) ≡ true → is_after (f c.item) n ≡ true
  after_there n cs i c e t next = by (is_after (f c.item) n) refl
    where
      by : (b : Bool) → is_after (f c.item) n ≡ b → is_after (f c.item) n ≡ true
      by true u = u
      by false u = absurd (true≢false (sym next ∙ next_fails n cs i c e t u))

  got_end : (cs : List (Cell X)) (c : Cell X) (i : ℕ) → i ≡ length cs → slice_get (cs ++ c ∷ []) i ≡ Some c
  got_end [] c zero e = refl
  got_end [] c (suc i) e = absurd (omega (arith, e))
  got_end (d ∷ ds) c zero e = absurd (omega (arith, e))
  got_end (d ∷ ds) c (suc i) e = got_end ds c i (omega (arith, e))

  all_after : (n : ℕ) (cs : List (Cell X)) (gone : ℕ) → n < 2 ^ 32 → IsFullRow f cs gone →
      comes_next f n (there cs) ≡ true → Each (λ m. is_after m n ≡ true) (numbers f cs)
  all_after n [] gone hn r next = tt
  all_after n (c ∷ cs) gone hn r next =
      let it = item_at (c ∷ cs) (length cs) (omega arith) in
      let last = r.back (length cs) (omega arith) it.0 it.1 in
      after_all n (c ∷ cs) gone (length cs) c it.0 hn r refl (omega arith) it.1
      (after_there n (c ∷ cs) 0 c refl (r.front c refl) next) (after_there n (c ∷ cs) (length cs) it.0 it.1 last next)

  -- the number of the item after all
  pub row_push : (cs : List (Cell X)) (gone : ℕ) (c : Cell X) → c.run ≡ 0 → f c.item < 2 ^ 32 → IsFullRow f cs gone →
      comes_next f (f c.item) (there cs) ≡ true → IsFullRow f (cs ++ c ∷ []) gone
  row_push cs gone c z small r next =
      let here = equal_test c.run 0 z in
      let more = length-append cs (c ∷ []) in
      record {
        loose = record {
          counts =
              let a = ap length (there_append cs (c ∷ [])) in
              let b = length-append (there cs) (there (c ∷ [])) in
              let d = ap length (there_more c [] here) in
              let k = r.loose.counts in
              omega (arith, a, b, d, k, more);
          small = subst (Below (2 ^ 32)) (sym (numbers_append cs (c ∷ [])))
              (small_end (2 ^ 32) (f c.item) (numbers f cs) r.loose.small small);
          serial = subst InSerial (sym (numbers_append cs (c ∷ [])))
              (serial_end (f c.item) (numbers f cs) r.loose.serial (all_after (f c.item) cs gone small r next));
          runs = runs_end cs c z (λ i e. r.back i (omega (arith, e))) r.loose.runs;
        };
        front = λ d e. first cs r.front d e here;
        back = λ i e d k. let s : Some c ≡ Some d = sym (got_end cs c i (omega (arith, e, more))) ∙ k in
            let same : c ≡ d = grind (arith, s) in sym (ap is_there same) ∙ here;
      }
    where
      first : (ds : List (Cell X)) → IsThereAt ds 0 → (d : Cell X) → slice_get (ds ++ c ∷ []) 0 ≡ Some d →
          is_there c ≡ true → is_there d ≡ true
      first [] h d e t = let same : c ≡ d = grind (arith, e) in sym (ap is_there same) ∙ t
      first (a ∷ ds) h d e t = h d e

  -- ---- the first one goes

  pub drop_there : (c : Cell X) (cs : List (Cell X)) (gone : ℕ) → is_there c ≡ true → IsLooseRow f (c ∷ cs) gone →
      IsLooseRow f cs gone
  drop_there c cs gone t r = record {
    counts = let a = ap length (there_more c cs t) in let k = r.counts in omega (arith, a, k);
    small = r.small.1;
    serial = r.serial.1;
    runs = r.runs.1;
  }

  pub drop_gone : (c : Cell X) (cs : List (Cell X)) (gone : ℕ) → is_there c ≡ false → IsLooseRow f (c ∷ cs) gone →
      (0 < gone) × IsLooseRow f cs (gone - 1)
  drop_gone c cs gone t r =
      let a = ap length (there_same c cs t) in
      let few = there_few cs in
      let k = r.counts in (
        omega (arith, a, k, few),
        record {
          counts = omega (arith, a, k, few);
          small = r.small.1;
          serial = r.serial.1;
          runs = r.runs.1;
        },
      )

  -- ---- the last one goes

  small_init : (ns : List ℕ) (n : ℕ) → Below (2 ^ 32) (ns ++ n ∷ []) → Below (2 ^ 32) ns
  small_init [] n s = tt
  small_init (m ∷ ms) n s = (s.0, small_init ms n s.1)

  serial_init : (ns : List ℕ) (n : ℕ) → InSerial (ns ++ n ∷ []) → InSerial ns
  serial_init ns n s = subst InSerial (init ns) (serial_take (length ns) (ns ++ n ∷ []) s)
    where
      init : (ms : List ℕ) → take (length ms) (ms ++ n ∷ []) ≡ ms
      init [] = refl
      init (m ∷ ms) = ap (λ ks. m ∷ ks) (init ms)

  runs_init : (cs : List (Cell X)) (c : Cell X) → RunsGone (cs ++ c ∷ []) → RunsGone cs
  runs_init cs c r = subst RunsGone (init cs) (runs_take (length cs) (cs ++ c ∷ []) r)
    where
      init : (ds : List (Cell X)) → take (length ds) (ds ++ c ∷ []) ≡ ds
      init [] = refl
      init (d ∷ ds) = ap (λ es. d ∷ es) (init ds)

  pub pop_row : (cs : List (Cell X)) (c : Cell X) (gone left : ℕ) → IsLooseRow f (cs ++ c ∷ []) gone →
      left + length (there cs) ≡ length cs → IsLooseRow f cs left
  pop_row cs c gone left r counts = record {
    counts = counts;
    small = small_init (numbers f cs) (f c.item) (subst (Below (2 ^ 32)) (numbers_append cs (c ∷ [])) r.small);
    serial = serial_init (numbers f cs) (f c.item) (subst InSerial (numbers_append cs (c ∷ [])) r.serial);
    runs = runs_init cs c r.runs;
  }

  pub pop_there : (cs : List (Cell X)) (c : Cell X) (gone : ℕ) → is_there c ≡ true → IsLooseRow f (cs ++ c ∷ []) gone →
      IsLooseRow f cs gone
  pop_there cs c gone t r =
      let a = ap length (there_append cs (c ∷ [])) in
      let b = length-append (there cs) (there (c ∷ [])) in
      let d = ap length (there_more c [] t) in
      let more = length-append cs (c ∷ []) in
      let k = r.counts in
      pop_row cs c gone gone r (omega (arith, a, b, d, k, more))

  pub pop_gone : (cs : List (Cell X)) (c : Cell X) (gone : ℕ) → is_there c ≡ false → IsLooseRow f (cs ++ c ∷ []) gone →
      (0 < gone) × (IsLooseRow f cs (gone - 1)) × (there cs ≡ there (cs ++ c ∷ []))
  pop_gone cs c gone t r =
      let a = ap length (there_append cs (c ∷ [])) in
      let b = length-append (there cs) (there (c ∷ [])) in
      let d = ap length (there_same c [] t) in
      let more = length-append cs (c ∷ []) in
      let few = there_few cs in
      let k = r.counts in (
        omega (arith, a, b, d, k, more, few),
        pop_row cs c gone (gone - 1) r (omega (arith, a, b, d, k, more, few)),
        sym (append-nil (there cs)) ∙ ap (λ xs. there cs ++ xs) (sym (there_same c [] t)) ∙ sym (there_append cs (c ∷
            [])),
      )

  -- ---- in a loop, at the front

  abbrev pub Back : List (Cell X) → Type 0
  Back cs = (i : ℕ) → i + 1 ≡ length cs → IsThereAt cs i

  pub first_goes : (cs : List (Cell X)) (gone : ℕ) → 0 < length cs → IsFullRow f cs gone →
      (IsLooseRow f (drop 1 cs) gone) × Back (drop 1 cs)
  first_goes [] gone h r = absurd (omega (arith, h))
  first_goes (c ∷ cs) gone h r =
      (drop_there c cs gone (r.front c refl) r.loose, λ i e d k. r.back (suc i) (omega (arith, e)) d k)

  pub next_goes : (cs : List (Cell X)) (gone : ℕ) (c : Cell X) → slice_get cs 0 ≡ Some c → is_there c ≡ false →
      IsLooseRow f cs gone → Back cs →
      (0 < gone) × (IsLooseRow f (drop 1 cs) (gone - 1)) × Back (drop 1 cs) × (there (drop 1 cs) ≡ there cs)
  next_goes [] gone c e t r b = absurd (let n : (let n : Option (Cell X) = None in n) ≡ Some c = e in grind (arith, n))
  next_goes (d ∷ ds) gone c e t r b =
      let is : d ≡ c = grind (arith, e) in
      let u = ap is_there is ∙ t in
      let k = drop_gone d ds gone u r in
      (k.0, k.1, λ i h a at. b (suc i) (omega (arith, h)) a at, sym (there_same d ds u))

  -- ---- and at the end

  abbrev init : List (Cell X) → List (Cell X)
  init cs = take (length cs - 1) cs

  init_is : (cs : List (Cell X)) (i : ℕ) (c : Cell X) → suc i ≡ length cs → slice_get cs i ≡ Some c → cs ≡ take i cs ++
      c ∷ []
  init_is [] i c h e = absurd (omega (arith, h))
  init_is (d ∷ []) zero c h e = let is : d ≡ c = grind (arith, e) in ap (λ x. x ∷ []) is
  init_is (d ∷ []) (suc i) c h e = absurd (omega (arith, h))
  init_is (d ∷ a ∷ bs) zero c h e = absurd (omega (arith, h))
  init_is (d ∷ a ∷ bs) (suc i) c h e = ap (λ xs. d ∷ xs) (init_is (a ∷ bs) i c (omega (arith, h)) e)

  pub last_goes : (cs : List (Cell X)) (gone : ℕ) → 0 < length cs → IsFullRow f cs gone → IsLooseRow f (init cs) gone
  last_goes cs gone h r =
      let it = item_at cs (length cs - 1) (omega (arith, h)) in
      let whole = init_is cs (length cs - 1) it.0 (omega (arith, h)) it.1 in
      pop_there (init cs) it.0 gone (r.back (length cs - 1) (omega (arith, h)) it.0 it.1)
      (subst (λ xs. IsLooseRow f xs gone) whole r.loose)

  pub last_gone : (cs : List (Cell X)) (gone i : ℕ) (c : Cell X) → i + 1 ≡ length cs → slice_get cs i ≡ Some c →
      is_there c ≡ false → IsLooseRow f cs gone →
      (0 < gone) × (IsLooseRow f (take i cs) (gone - 1)) × (there (take i cs) ≡ there cs)
  last_gone cs gone i c h e t r =
      let whole = init_is cs i c (omega (arith, h)) e in
      let k = pop_gone (take i cs) c gone t (subst (λ xs. IsLooseRow f xs gone) whole r) in
      (k.0, k.1, k.2 ∙ ap there (sym whole))

  -- the first one is there, and the last is not
  pub some_left : (cs : List (Cell X)) (i : ℕ) (c : Cell X) → IsThereAt cs 0 → slice_get cs i ≡ Some c →
      is_there c ≡ false → 0 < i
  some_left cs zero c h e t = absurd (true≢false (sym (h c e) ∙ t))
  some_left cs (suc i) c h e t = omega arith

  pub front_take : (cs : List (Cell X)) (i : ℕ) → 0 < i → IsThereAt cs 0 → IsThereAt (take i cs) 0
  front_take cs i h t c e = t c (sym (got_take i cs 0 h) ∙ e)

-- the cells in use but the last, and the last
pub init_used : {X : Type 0} (h n : ℕ) (xs : List X) → n ≡ length xs → h ≤ length xs → 0 < length (drop h xs) →
    drop h (take (n - 1) xs) ≡ take (length (drop h xs) - 1) (drop h xs)
init_used h n xs e w s =
    let l = length-drop h xs in
    ap (λ k. drop h (take k xs)) (let k : n - 1 ≡ h + (length (drop h xs) - 1) = omega (arith, l, s, w, e) in k)
    ∙ drop-take h (length (drop h xs) - 1) xs

pub cell_there : {X : Type 0} (h n : ℕ) (xs : List X) (c : X) → n ≡ length xs → h ≤ length xs → 0 < length (drop h xs) →
    c ≡ slice_index_or xs (n - 1) c → slice_get (drop h xs) (length (drop h xs) - 1) ≡ Some c
cell_there h n xs c e w s is =
    let l = length-drop h xs in
    got_drop h xs (length (drop h xs) - 1)
    ∙ ap (slice_get xs) (let k : h + (length (drop h xs) - 1) ≡ n - 1 = omega (arith, l, s, w, e) in k)
    ∙ got xs (n - 1) c (omega (arith, l, s, w, e)) is

pub same_there : {X : Type 0} (cs : List (Cell X)) (i j : ℕ) (c : Cell X) → i ≡ j → slice_get cs j ≡ Some c →
    is_there c ≡ true → IsThereAt cs i
same_there cs i j c e h t d k =
    let s : Some c ≡ Some d = sym h ∙ ap (slice_get cs) (sym e) ∙ k in
    let same : c ≡ d = grind (arith, s) in
    sym (ap is_there same) ∙ t
