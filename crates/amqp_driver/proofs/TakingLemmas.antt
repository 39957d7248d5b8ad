-- Frames that were taken, and one more.
use Rattle.std.proofs.Common.{◌≡◌, ◌↔◌, IsTrue, ◌≤◌, ◌<◌, ◌+◌, ◌-◌, ℕ, suc, Bool, true, false, List, [], ◌∷◌, ◌++◌, Option, Some, None, length, take, drop, get_or, min, set, map, refl, ap, sym, subst, ◌∙◌, append_assoc, add-one, arith}
use Rattle.std.proofs.lemmas.List.{append-nil, length-append, length-drop, length-take, length-take-le, take-take, take_all, take_rest}
use Rattle.std.proofs.Math.Seq.{drop-cons, set-append_seam, take-add}
use Rattle.std.specs.Int.{w32, from_be_bytes}
use Rattle.amqp_values.specs.Reading.{joined}
use Rattle.amqp_session.specs.Relay.{Relays}
use Rattle.amqp_engine.specs.Entry.{Entry}
use Rattle.amqp_driver.specs.declared.record.Record.{Record}
use Rattle.amqp_driver.specs.declared.told.Told.{Told}
use Rattle.amqp_driver.specs.declared.told.Told.TheVariants as told
use Rattle.amqp_driver.specs.declared.status.Status.TheVariants as status
use Rattle.amqp_driver.specs.declared.status.Taken.{Taken}
use Rattle.amqp_driver.specs.declared.front.Front.TheVariants as front
use Rattle.amqp_driver.specs.Front.{IsAllowed, IsWhole, Stands, size_at}
use Rattle.amqp_driver.specs.Told.{record_of}
use Rattle.amqp_driver.specs.Driver.{DriverView, Runs, NotRun, Tells}
use Rattle.amqp_driver.specs.Taking.{Answered, IsOver, IsSized, RunsEach, Took, Takes, Wants, is_wanted, listed, records_of, wants, wants_at}

-- ---- the frames

abbrev pub wholes : {R : Type 0} → List (Answered R) → List (List ℕ)
wholes rs = map (λ (x : Answered _). x.whole) rs

bytes_more : {R : Type 0} (rs : List (Answered R)) (a : Answered R) → joined (wholes (rs ++ a ∷ [])) ≡ joined (wholes rs) ++ a.whole
bytes_more [] a = append-nil a.whole
bytes_more (r ∷ rs) a = ap (λ (t : List ℕ). r.whole ++ t) (bytes_more rs a) ∙ sym (append_assoc r.whole (joined (wholes rs)) a.whole)

runs_more : {R : Type 0} (g : Relays R) (limit : ℕ) (d k n : DriverView R) (rs : List (Answered R)) (a : Answered R)
    → RunsEach g limit d rs k → a.before ≡ k → ¬ IsOver k → IsSized limit a.whole → Runs g k (drop 4 a.whole) a.entry n → RunsEach g limit d (rs ++ a ∷ []) n
runs_more g limit d k n [] a t b goes f r =
    (n, b ∙ t, subst (λ x. ¬ IsOver x) t goes, f, subst (λ x. Runs g x (drop 4 a.whole) a.entry n) t r, refl)
runs_more g limit d k n (x ∷ rs) a t b goes f r = (t.0, t.1, t.2, t.3, t.4, runs_more g limit t.0 k n rs a t.5 b goes f r)

-- one more frame behind those of which none is to be answered
wants_more : {R : Type 0} (at : ℕ) (rs : List (Answered R)) (a : Answered R) (asks : Bool) → Wants at rs false
    → wants_at (at + length (joined (wholes rs))) a ≡ asks → Wants at (rs ++ a ∷ []) asks
wants_more at [] a asks w h = ap (λ n. wants_at n a) (let e : at ≡ at + 0 = omega arith in e) ∙ h
wants_more at (r ∷ []) a asks w h = (w, ap (λ n. wants_at n a) (one at r) ∙ h)
  where
    one : {R : Type 0} (at : ℕ) (r : Answered R) → at + length r.whole ≡ at + length (joined (wholes (r ∷ [])))
    one at r = ap (λ (xs : List ℕ). at + length xs) (sym (append-nil r.whole))
wants_more at (r ∷ s ∷ rs) a asks w h = (
  w.0,
  wants_more (at + length r.whole) (s ∷ rs) a asks w.1
      (ap (λ n. wants_at n a) (sums at (length r.whole) (length (joined (wholes (s ∷ rs))))
      ∙ ap (λ n. at + n) (sym (length-append r.whole (joined (wholes (s ∷ rs)))))) ∙ h),
)
  where
    sums : (x y z : ℕ) → x + y + z ≡ x + (y + z)
    sums x y z = omega arith

records_more : {R : Type 0} (at : ℕ) (rs : List (Answered R)) (a : Answered R)
    → records_of at (rs ++ a ∷ []) ≡ records_of at rs ++ listed (record_of a.before.engine (at + length (joined (wholes rs))) (length a.whole) a.entry)
records_more at [] a = append-nil _ ∙ ap (λ n. listed (record_of a.before.engine n (length a.whole) a.entry)) (let e : at ≡ at + 0 = omega arith in e)
records_more at (r ∷ rs) a =
    ap (λ (xs : List Record). listed (record_of r.before.engine at (length r.whole) r.entry) ++ xs) (records_more (at + length r.whole) rs a)
    ∙ sym (append_assoc (listed (record_of r.before.engine at (length r.whole) r.entry)) (records_of (at + length r.whole) rs) _)
    ∙ ap (λ n. (listed (record_of r.before.engine at (length r.whole) r.entry) ++ records_of (at + length r.whole) rs)
    ++ listed (record_of a.before.engine n (length a.whole) a.entry))
    (sums at (length r.whole) (length (joined (wholes rs))) ∙ ap (λ n. at + n) (sym (length-append r.whole (joined (wholes rs)))))
  where
    sums : (x y z : ℕ) → x + y + z ≡ x + (y + z)
    sums x y z = omega arith

-- ---- the frame at the front of what is left

pub sized_is : (limit : ℕ) (rest : List ℕ) → IsWhole limit rest → IsSized limit (take (size_at rest) rest) × (length (take (size_at rest) rest) ≡ size_at rest)
sized_is limit rest w =
    let n : ℕ = size_at rest in
    let l : length (take n rest) ≡ n = length-take-le n rest w.2 in
    let s : size_at (take n rest) ≡ n = ap (λ (xs : List ℕ). from_be_bytes w32 xs) (take-take 4 n rest (let h : 8 ≤ n = w.1.0 in omega arith)) in
    ((subst (λ k. IsAllowed limit k) (sym l) w.1, s ∙ sym l), l)

-- ---- what was taken

pub took_none : {R : Type 0} (g : Relays R) (limit : ℕ) (d : DriverView R) (input : List ℕ) (old : List Record) → Took g limit d input 0 old 0 false d old
took_none g limit d input old =
    record { answered = []; within = omega arith; front = refl; runs = refl; last = refl; count = refl; fits = omega arith; output = refl }

-- one more is put at the first place behind the others
pub put_next : {X : Type 0} (xs old : List X) (n : ℕ) (r : X) → n ≡ length xs → n < length old → set (xs ++ drop n old) n r ≡ (xs ++ r ∷ []) ++ drop (n + 1) old
put_next xs old n r e h =
    ap (λ (ys : List _). set (xs ++ ys) n r) (drop-cons old n r h)
    ∙ ap (λ k. set (xs ++ get_or old n r ∷ drop (suc n) old) k r) e
    ∙ set-append_seam xs (get_or old n r) (drop (suc n) old) r
    ∙ ap (λ k. xs ++ r ∷ drop k old) (sym (add-one n))
    ∙ sym (append_assoc xs (r ∷ []) (drop (n + 1) old))

module _ {R : Type 0} (g : Relays R) (limit : ℕ) (d k n : DriverView R) (input : List ℕ) (taken : ℕ) (old : List Record) (written : ℕ) (new : List Record)
    (t : Took g limit d input taken old written false k new) (goes : ¬ IsOver k) (w : IsWhole limit (drop taken input)) (e : Entry R)
    (r : Runs g k (drop 4 (take (size_at (drop taken input)) (drop taken input))) e n) where
  unfoldable this : Answered R
  this = record { whole = take (size_at (drop taken input)) (drop taken input); before = k; entry = e }

  records_are : records_of 0 (t.answered ++ this ∷ []) ≡ records_of 0 t.answered ++ listed (record_of k.engine taken (size_at (drop taken input)) e)
  unfolding this
  records_are = records_more 0 t.answered this
      ∙ ap (λ m. records_of 0 t.answered ++ listed (record_of k.engine m (length this.whole) e))
      (let z : 0 + length (joined (wholes t.answered)) ≡ length (joined (wholes t.answered)) = omega arith in
      z ∙ ap length (sym t.front) ∙ length-take-le taken input t.within)
      ∙ ap (λ m. records_of 0 t.answered ++ listed (record_of k.engine taken m e)) (sized_is limit (drop taken input) w).1

  within_is : taken + size_at (drop taken input) ≤ length input
  within_is =
      let h : size_at (drop taken input) ≤ length input - taken = subst (λ m. size_at (drop taken input) ≤ m) (length-drop taken input) w.2 in
      let a : taken ≤ length input = t.within in omega arith

  front_is : take (taken + size_at (drop taken input)) input ≡ joined (wholes (t.answered ++ this ∷ []))
  unfolding this
  front_is = take-add taken (size_at (drop taken input)) input
      ∙ ap (λ (xs : List ℕ). xs ++ take (size_at (drop taken input)) (drop taken input)) t.front
      ∙ sym (bytes_more t.answered this)

  runs_is : RunsEach g limit d (t.answered ++ this ∷ []) n
  unfolding this
  runs_is = runs_more g limit d k n t.answered this t.runs refl goes (sized_is limit (drop taken input) w).0 r

  -- whether it is to be answered
  last_is : Wants 0 (t.answered ++ this ∷ []) (wants (record_of k.engine taken (size_at (drop taken input)) e))
  unfolding this
  last_is = wants_more 0 t.answered this (wants (record_of k.engine taken (size_at (drop taken input)) e)) t.last
      (ap (λ m. wants_at m this)
      (let z : 0 + length (joined (wholes t.answered)) ≡ length (joined (wholes t.answered)) = omega arith in
      z ∙ ap length (sym t.front) ∙ length-take-le taken input t.within)
      ∙ ap (λ m. wants (record_of k.engine taken m e)) (sized_is limit (drop taken input) w).1)

  -- a frame that has no record
  pub took_nothing : record_of k.engine taken (size_at (drop taken input)) e ≡ None → Took g limit d input (taken + size_at (drop taken input)) old written false n new
  took_nothing none =
      let rs : records_of 0 (t.answered ++ this ∷ []) ≡ records_of 0 t.answered =
      records_are ∙ ap (λ (x : Option Record). records_of 0 t.answered ++ listed x) none ∙ append-nil (records_of 0 t.answered) in
      record {
        answered = t.answered ++ this ∷ [];
        within = within_is;
        front = front_is;
        runs = runs_is;
        last = subst (λ (x : Option Record). Wants 0 (t.answered ++ this ∷ []) (wants x)) none last_is;
        count = t.count ∙ ap length (sym rs);
        fits = t.fits;
        output = t.output ∙ ap (λ (x : List Record). x ++ drop written old) (sym rs);
      }

  -- one whose record is written after the others
  pub took_one : (x : Record) (new' : List Record) → record_of k.engine taken (size_at (drop taken input)) e ≡ Some x → written < length old
      → new' ≡ set new written x → Took g limit d input (taken + size_at (drop taken input)) old (written + 1) (is_wanted x.kind) n new'
  took_one x new' one room put =
      let rs : records_of 0 (t.answered ++ this ∷ []) ≡ records_of 0 t.answered ++ x ∷ [] =
      records_are ∙ ap (λ (y : Option Record). records_of 0 t.answered ++ listed y) one in
      record {
        answered = t.answered ++ this ∷ [];
        within = within_is;
        front = front_is;
        runs = runs_is;
        last = subst (λ (y : Option Record). Wants 0 (t.answered ++ this ∷ []) (wants y)) one last_is;
        count = let c : written ≡ length (records_of 0 t.answered) = t.count in
            let s : length (records_of 0 t.answered ++ x ∷ []) ≡ length (records_of 0 t.answered) + 1 = length-append (records_of 0 t.answered) (x ∷ []) in
            let u : written + 1 ≡ length (records_of 0 t.answered ++ x ∷ []) = omega arith in u ∙ ap length (sym rs);
        fits = omega arith;
        output = put ∙ ap (λ (ys : List Record). set ys written x) t.output
            ∙ put_next (records_of 0 t.answered) old written x t.count room
            ∙ ap (λ (ys : List Record). ys ++ drop (written + 1) old) (sym rs);
      }

-- the records keep their number
pub length_is : {R : Type 0} (g : Relays R) (limit : ℕ) (d k : DriverView R) (input : List ℕ) (taken : ℕ) (old : List Record) (written : ℕ) (asks : Bool)
    (new : List Record) → Took g limit d input taken old written asks k new → length new ≡ length old
length_is g limit d k input taken old written asks new t =
    ap length t.output ∙ length-append (records_of 0 t.answered) (drop written old)
    ∙ (let a : written ≡ length (records_of 0 t.answered) = t.count in
    let b : length (drop written old) ≡ length old - written = length-drop written old in
    let f : written ≤ length old = t.fits in omega arith)

-- ---- a turn of the loop

front_of : (limit size : ℕ) (input : List ℕ) (taken : ℕ) → Stands limit (take (length input - taken) (drop taken input)) (front.Whole size)
    → IsWhole limit (drop taken input) × (size ≡ size_at (drop taken input))
front_of limit size input taken s = subst (λ (r : List ℕ). Stands limit r (front.Whole size)) (take_rest input taken) s

told_at : {R : Type 0} (g : Relays R) (k n : DriverView R) (input : List ℕ) (taken size size' : ℕ) (t : Told) → size ≡ size'
    → Tells g k (drop 4 (take size (drop taken input))) taken size t n → Tells g k (drop 4 (take size' (drop taken input))) taken size' t n
told_at g k n input taken size size' t e h = subst (λ m. Tells g k (drop 4 (take m (drop taken input))) taken m t n) e h

module _ {R : Type 0} (g : Relays R) (limit : ℕ) (d k n : DriverView R) (input : List ℕ) (taken size : ℕ) (old : List Record) (written : ℕ) (new : List Record)
    (t : Took g limit d input taken old written false k new) (goes : ¬ IsOver k) (s : Stands limit (take (length input - taken) (drop taken input)) (front.Whole size)) where
  pub told_nothing : Tells g k (drop 4 (take size (drop taken input))) taken size told.Nothing n → Took g limit d input (taken + size) old written false n new
  told_nothing h =
      let f = front_of limit size input taken s in
      let x : Tells g k (drop 4 (take (size_at (drop taken input)) (drop taken input))) taken (size_at (drop taken input)) told.Nothing n =
      told_at g k n input taken size (size_at (drop taken input)) told.Nothing f.1 h in
      subst (λ m. Took g limit d input (taken + m) old written false n new) (sym f.1) (took_nothing g limit d k n input taken old written new t goes f.0 x.0 x.1 x.2)

  pub told_one : (r : Record) (new' : List Record) → written < length new → new' ≡ set new written r
      → Tells g k (drop 4 (take size (drop taken input))) taken size (told.One r) n → Took g limit d input (taken + size) old (written + 1) (is_wanted r.kind) n new'
  told_one r new' room put h =
      let f = front_of limit size input taken s in
      let x : Tells g k (drop 4 (take (size_at (drop taken input)) (drop taken input))) taken (size_at (drop taken input)) (told.One r) n =
      told_at g k n input taken size (size_at (drop taken input)) (told.One r) f.1 h in
      let room' : written < length old = subst (λ m. written < m) (length_is g limit d k input taken old written false new t) room in
      subst (λ m. Took g limit d input (taken + m) old (written + 1) (is_wanted r.kind) n new') (sym f.1)
      (took_one g limit d k n input taken old written new t goes f.0 x.0 x.1 r new' x.2 room' put)

  -- memory was refused, for this frame or for the copy of it
  pub not_run : written < length new → NotRun g k n → Takes g limit d input old status.NoMemory taken written 0 n new
  not_run room h =
      let f = front_of limit size input taken s in
      let room' : written < length old = subst (λ m. written < m) (length_is g limit d k input taken old written false new t) room in
      (k, t, goes, f.0, room', h, refl)

-- where it is not seen to be over, it is not
pub goes_on : {R : Type 0} (d : DriverView R) (b : Bool) → IsTrue b ↔ IsOver d → b ≡ false → ¬ IsOver d
goes_on d b both off over = let on : b ≡ true = both.1 over in absurd cc

-- there is a place for one record more
pub room_left : {R : Type 0} (g : Relays R) (limit : ℕ) (d k : DriverView R) (input : List ℕ) (taken : ℕ) (old : List Record) (written : ℕ) (new : List Record)
    → Took g limit d input taken old written false k new → ¬ (written ≡ length new) → written < length new
room_left g limit d k input taken old written new t some =
    let f : written ≤ length old = t.fits in
    let l : length new ≡ length old = length_is g limit d k input taken old written false new t in
    below written (length new) (omega arith) some
  where
    below : (m n : ℕ) → m ≤ n → ¬ (m ≡ n) → m < n
    below m n h e = omega (arith, e)

-- what a call says of how it ended
pub says : {R : Type 0} (g : Relays R) (limit : ℕ) (d n : DriverView R) (input : List ℕ) (old new : List Record) (s t : Taken) → s ≡ t
    → Takes g limit d input old t.status t.taken t.written t.wanted n new → Takes g limit d input old s.status s.taken s.written s.wanted n new
says g limit d n input old new s t e h = subst (λ (x : Taken). Takes g limit d input old x.status x.taken x.written x.wanted n new) (sym e) h

-- ---- the input, as far as it is seen

pub seen_all : (xs : List ℕ) (most : ℕ) → length xs ≤ most → xs ≡ take most xs
seen_all xs most h = sym (take_all most xs h)

pub seen_length : (xs : List ℕ) (most : ℕ) → most < length xs → most ≡ length (take most xs)
seen_length xs most h = sym (length-take-le most xs (omega arith))

take_few : (n : ℕ) (xs : List ℕ) → length (take n xs) ≤ n
take_few n xs = let e : length (take n xs) ≡ min n (length xs) = length-take n xs in omega arith

pub seen_below : (xs ys : List ℕ) (n m : ℕ) → ys ≡ take n xs → n < m → length ys < m
seen_below xs ys n m e h = let l : length ys ≡ length (take n xs) = ap length e in let f : length (take n xs) ≤ n = take_few n xs in omega arith
