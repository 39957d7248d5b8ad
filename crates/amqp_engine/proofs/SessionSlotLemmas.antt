-- A place that is written, and what the places give then.
use Rattle.std.proofs.Common.{◌≡◌, ℕ, ◌+◌, ◌<◌, ◌≤◌, length, length-append, List, [], ◌∷◌, ◌++◌, Option, Some, None, IsSome, is_some, refl, ap, sym, subst, ◌∙◌, nat_eq, true, false, arith, inl, inr}
use Rattle.std.specs.Ordering.{nat_cmp}
use Rattle.std.specs.Map.{lookup, set_value}
use Rattle.std.specs.FinMap as map
use Rattle.std.specs.BinaryHeap.{IsHeap, IsUpperBound}
use Rattle.std.specs.List.Sorted.{IsPermutation}
use Rattle.amqp_types.specs.Error.{ErrorModel}
use Rattle.amqp_session.proofs.FiniteMapLemmas.{remove_none}
use Rattle.amqp_engine.specs.declared.engine.handle_state.SessionSlot.{SessionSlot}
use Rattle.amqp_connection.specs.Channels.{mark}
use Rattle.amqp_engine.specs.Kept.{Outcomes, Wishes, CloseOutcome, EndOutcome, end_kept, end_noted, end_wished}
use Rattle.amqp_engine.specs.Inner.Places.{pick, Swaps, TakesEnd, Queued, noted, has_wish, times}
use Rattle.amqp_engine.proofs.PickedMapLemmas.{Writes, picked_at, get_pick, writes, put, cleared, stays}
use Rattle.amqp_engine.proofs.EndQueueLemmas.{same_length, noted_written, noted_most, noted_more, each_same, each_noted, each_taken, popped_noted, no_wish, none_below, lowest_first}

there : (es : List (ℕ × SessionSlot)) (n : ℕ) (p : SessionSlot) → lookup (nat_eq n) es ≡ Some p → IsSome (lookup (nat_eq n) es)
there es n p is = subst IsSome (sym is) refl

wrote : (es es' : List (ℕ × SessionSlot)) (n : ℕ) (p q : SessionSlot) → lookup (nat_eq n) es ≡ Some p → es' ≡ set_value (nat_eq n) es q → Writes es es' n q
wrote es es' n p q is set = subst (λ (fs : List (ℕ × SessionSlot)). Writes es fs n q) (sym set) (writes es n q (there es n p is))

module _ {Y : Type 0} (f : SessionSlot → Option Y) (to : SessionSlot → SessionSlot) (n : ℕ) (es : List (ℕ × SessionSlot)) (given : Option Y) (es' : List (ℕ × SessionSlot)) where
  -- what was given stood there
  pub given_is : Swaps f to n es given es' → given ≡ map.get (pick f es) n
  given_is (inl s) = s.2 ∙ sym (get_pick f es n ∙ ap (picked_at f) s.1)
  given_is (inr s) = s.1 ∙ sym (get_pick f es n ∙ ap (picked_at f) s.0)

  -- what is picked of a part that is not written stays
  pub same_pick : {Z : Type 0} (h : SessionSlot → Option Z) → ((p : SessionSlot) → h (to p) ≡ h p) → Swaps f to n es given es' → pick h es' ≡ pick h es
  same_pick h same (inl s) = stays h es es' n (to s.0) (wrote es es' n s.0 (to s.0) s.1 s.3) (same s.0 ∙ ap (picked_at h) (sym s.1))
  same_pick h same (inr s) = ap (pick h) s.2

  pub put_pick : {Z : Type 0} (h : SessionSlot → Option Z) (z : Z) → ((p : SessionSlot) → h (to p) ≡ Some z) → IsSome (lookup (nat_eq n) es) → Swaps f to n es given es' →
      pick h es' ≡ map.insert (pick h es) n z
  put_pick h z is known (inl s) = put h es es' n (to s.0) z (wrote es es' n s.0 (to s.0) s.1 s.3) (is s.0)
  put_pick h z is known (inr s) = absurd (let x = subst IsSome s.0 known in cc)

  pub cleared_pick : {Z : Type 0} (h : SessionSlot → Option Z) → ((p : SessionSlot) → h (to p) ≡ None) → Swaps f to n es given es' → pick h es' ≡ map.remove (pick h es) n
  cleared_pick h is (inl s) = cleared h es es' n (to s.0) (wrote es es' n s.0 (to s.0) s.1 s.3) (is s.0)
  cleared_pick h is (inr s) = ap (pick h) s.2 ∙ sym (remove_none (pick h es) n (get_pick h es n ∙ ap (picked_at h) s.0))

  -- where wishes stay, so does the queue
  pub queued_still : (items : List ℕ) (count capacity : ℕ) → ((p : SessionSlot) → (to p).wish ≡ p.wish) → Swaps f to n es given es' → Queued es items count capacity → Queued es' items count capacity
  queued_still items count capacity same (inl s) q =
      let w = wrote es es' n s.0 (to s.0) s.1 s.3 in
      let size : length es' ≡ length es = ap length s.3 ∙ same_length es n (to s.0) in
      let number : noted es' + mark (is_some s.0.wish) ≡ noted es + mark (is_some (to s.0).wish) = ap (λ fs. noted fs + mark (is_some s.0.wish)) s.3 ∙ noted_written es n s.0 (to s.0) s.1 in
      record {
        ordered = q.ordered;
        each = each_same es es' items n (to s.0) w (ap (λ o. is_some o) (same s.0) ∙ ap has_wish (sym s.1)) q.each;
        counted = omega (arith, q.counted, number, ap (λ o. mark (is_some o)) (same s.0));
        room = omega (arith, q.room, size);
      }
  queued_still items count capacity same (inr s) q = subst (λ (fs : List (ℕ × SessionSlot)). Queued fs items count capacity) (sym s.2) q

-- whether a session has a place
pub known : (es : List (ℕ × SessionSlot)) (n : ℕ) → IsSome (map.get (pick (λ p. Some true) es) n) → IsSome (lookup (nat_eq n) es)
known es n h = by (lookup (nat_eq n) es) (subst IsSome (get_pick (λ p. Some true) es n) h)
  where
    by : (o : Option SessionSlot) → IsSome (picked_at (λ (p : SessionSlot). Some true) o) → IsSome o
    by (Some p) x = refl
    by None x = absurd cc

pub unknown : (es : List (ℕ × SessionSlot)) (n : ℕ) → map.get (pick (λ p. Some true) es) n ≡ None → lookup (nat_eq n) es ≡ None
unknown es n h = by (lookup (nat_eq n) es) (sym (get_pick (λ p. Some true) es n) ∙ h)
  where
    by : (o : Option SessionSlot) → picked_at (λ (p : SessionSlot). Some true) o ≡ None → o ≡ None
    by (Some p) x = absurd cc
    by None x = refl

-- ---- what the calls do

pub ended : (connection : Option CloseOutcome) (es es' : List (ℕ × SessionSlot)) (n : ℕ) (answer given : Option EndOutcome) → IsSome answer → IsSome (lookup (nat_eq n) es) →
    Swaps (λ p. p.outcome) (λ p. record p { outcome = answer }) n es given es' →
    ◌≡◌ {A = Outcomes} (record { connection = connection; sessions = pick (λ p. p.outcome) es' }) (end_kept n answer (record { connection = connection; sessions = pick (λ p. p.outcome) es }))
ended connection es es' n None given is there s = absurd (cc)
ended connection es es' n (Some a) given is there s =
    ap (λ m. record { connection = connection; sessions = m }) (put_pick (λ p. p.outcome) (λ p. record p { outcome = Some a }) n es given es' (λ p. p.outcome) a (λ p. refl) there s)

-- where none was noted, one is
pub wished : (close : Option (Option ErrorModel)) (es es' : List (ℕ × SessionSlot)) (n : ℕ) (error : Option ErrorModel) (given : Option (Option ErrorModel)) →
    has_wish (lookup (nat_eq n) es) ≡ false → IsSome (lookup (nat_eq n) es) →
    Swaps (λ p. p.wish) (λ p. record p { wish = Some error }) n es given es' →
    ◌≡◌ {A = Wishes} (record { close = close; ends = pick (λ p. p.wish) es' }) (end_wished n error (record { close = close; ends = pick (λ p. p.wish) es }))
wished close es es' n error given none there s =
    ap (λ m. record { close = close; ends = m }) (put_pick (λ p. p.wish) (λ p. record p { wish = Some error }) n es given es' (λ p. p.wish) error (λ p. refl) there s)
    ∙ sym (ap (λ o. end_noted o n error (record { close = close; ends = pick (λ p. p.wish) es })) (get_pick (λ p. p.wish) es n ∙ no_wish (lookup (nat_eq n) es) none))

-- where one was noted, it stays
pub wished_still : (close : Option (Option ErrorModel)) (es : List (ℕ × SessionSlot)) (n : ℕ) (error : Option ErrorModel) → has_wish (lookup (nat_eq n) es) ≡ true →
    ◌≡◌ {A = Wishes} (record { close = close; ends = pick (λ p. p.wish) es }) (end_wished n error (record { close = close; ends = pick (λ p. p.wish) es }))
wished_still close es n error is =
    sym (by (lookup (nat_eq n) es) is (map.get (pick (λ p. p.wish) es) n) (get_pick (λ p. p.wish) es n))
  where
    w : Wishes
    w = record { close = close; ends = pick (λ p. p.wish) es }

    noted_one : (o : Option (Option ErrorModel)) → is_some o ≡ true → end_noted o n error w ≡ w
    noted_one None h = absurd cc
    noted_one (Some x) h = refl

    by : (o : Option SessionSlot) → has_wish o ≡ true → (g : Option (Option ErrorModel)) → g ≡ picked_at (λ p. p.wish) o → end_noted g n error w ≡ w
    by None h g e = absurd cc
    by (Some p) h g e = noted_one g (ap (λ x. is_some x) e ∙ h)

-- a wish more
pub queued_noted : (es es' : List (ℕ × SessionSlot)) (n x : ℕ) (error : Option ErrorModel) (given : Option (Option ErrorModel)) (items items' : List ℕ) (count count' capacity capacity' : ℕ) →
    has_wish (lookup (nat_eq n) es) ≡ false → IsSome (lookup (nat_eq n) es) → Swaps (λ p. p.wish) (λ p. record p { wish = Some error }) n es given es' →
    x + n ≡ 4294967295 → IsPermutation (x ∷ items) items' → IsHeap nat_cmp items' → count' ≡ count + 1 → capacity ≤ capacity' →
    Queued es items count capacity → Queued es' items' count' capacity'
queued_noted es es' n x error given items items' count count' capacity capacity' none there (inl s) sum perm heap more wide q =
    let to : SessionSlot = record s.0 { wish = Some error } in
    let w = wrote es es' n s.0 to s.1 s.3 in
    let size : length es' ≡ length es = ap length s.3 ∙ same_length es n to in
    let was : is_some s.0.wish ≡ false = ap has_wish (sym s.1) ∙ none in
    let number : noted es' + mark (is_some s.0.wish) ≡ noted es + 1 = ap (λ fs. noted fs + mark (is_some s.0.wish)) s.3 ∙ noted_written es n s.0 to s.1 in
    record {
      ordered = heap;
      each = each_noted es es' items items' x n to sum perm w none refl q.each;
      counted = omega (arith, more, q.counted, number, ap mark was);
      room = omega (arith, q.room, size, wide);
    }
queued_noted es es' n x error given items items' count count' capacity capacity' none there (inr s) sum perm heap more wide q = absurd (let y = subst IsSome s.0 there in cc)

pub has_room : (es es' : List (ℕ × SessionSlot)) (n : ℕ) (error : Option ErrorModel) (given : Option (Option ErrorModel)) (items : List ℕ) (count capacity : ℕ) →
    has_wish (lookup (nat_eq n) es) ≡ false → IsSome (lookup (nat_eq n) es) → Swaps (λ p. p.wish) (λ p. record p { wish = Some error }) n es given es' →
    Queued es items count capacity → count < capacity
has_room es es' n error given items count capacity none there (inl s) q =
    let to : SessionSlot = record s.0 { wish = Some error } in
    let size : length es' ≡ length es = ap length s.3 ∙ same_length es n to in
    let was : is_some s.0.wish ≡ false = ap has_wish (sym s.1) ∙ none in
    let number : noted es' + mark (is_some s.0.wish) ≡ noted es + 1 = ap (λ fs. noted fs + mark (is_some s.0.wish)) s.3 ∙ noted_written es n s.0 to s.1 in
    omega (arith, q.counted, q.room, number, size, ap mark was, noted_most es')
has_room es es' n error given items count capacity none there (inr s) q = absurd (let y = subst IsSome s.0 there in cc)

-- a wish less
pub queued_taken : (es es' : List (ℕ × SessionSlot)) (n x : ℕ) (given : Option (Option ErrorModel)) (items items' : List ℕ) (count count' capacity : ℕ) →
    Swaps (λ p. p.wish) (λ p. record p { wish = None }) n es given es' → x + n ≡ 4294967295 → IsPermutation items (x ∷ items') → IsHeap nat_cmp items' → count' + 1 ≡ count →
    Queued es items count capacity → Queued es' items' count' capacity
queued_taken es es' n x given items items' count count' capacity (inl s) sum perm heap less q =
    let to : SessionSlot = record s.0 { wish = None } in
    let w = wrote es es' n s.0 to s.1 s.3 in
    let size : length es' ≡ length es = ap length s.3 ∙ same_length es n to in
    let here = popped_noted es items items' x n sum perm q.each in
    let was : is_some s.0.wish ≡ true = ap has_wish (sym s.1) ∙ here in
    let number : noted es' + mark (is_some s.0.wish) ≡ noted es + 0 = ap (λ fs. noted fs + mark (is_some s.0.wish)) s.3 ∙ noted_written es n s.0 to s.1 in
    record {
      ordered = heap;
      each = each_taken es es' items items' x n to sum perm w here refl q.each;
      counted = omega (arith, less, q.counted, number, ap mark was);
      room = omega (arith, q.room, size);
    }
queued_taken es es' n x given items items' count count' capacity (inr s) sum perm heap less q =
    let here = popped_noted es items items' x n sum perm q.each in
    absurd (let y = sym here ∙ ap has_wish s.0 in cc)

-- what was taken stood first
pub took_first : (close : Option (Option ErrorModel)) (es es' : List (ℕ × SessionSlot)) (n x : ℕ) (error : Option ErrorModel) (items items' : List ℕ) →
    Swaps (λ p. p.wish) (λ p. record p { wish = None }) n es (Some error) es' → x + n ≡ 4294967295 → IsPermutation items (x ∷ items') → IsUpperBound nat_cmp x items' →
    ((k : ℕ) → times k items ≡ mark (has_wish (lookup (nat_eq k) es))) →
    TakesEnd (record { close = close; ends = pick (λ p. p.wish) es }) (Some (record { 0 = n }, error)) (record { close = close; ends = pick (λ p. p.wish) es' })
took_first close es es' n x error items items' s sum perm all each = (
  lowest_first (pick (λ p. p.wish) es) n error (sym (given_is (λ p. p.wish) (λ p. record p { wish = None }) n es (Some error) es' s)) (none_below es items items' x n sum perm all each)
      ∙ ap (λ m. (n, error) ∷ map.entries m) (sym (cleared_pick (λ p. p.wish) (λ p. record p { wish = None }) n es (Some error) es' (λ p. p.wish) (λ p. refl) s)),
  refl,
)

-- ---- a place more

-- it gives nothing yet
pub same_more : {Z : Type 0} (h : SessionSlot → Option Z) (es es' : List (ℕ × SessionSlot)) (n : ℕ) (p : SessionSlot) → Writes es es' n p → lookup (nat_eq n) es ≡ None → h p ≡ None → pick h es' ≡ pick h es
same_more h es es' n p w none is = stays h es es' n p w (is ∙ ap (picked_at h) (sym none))

pub placed : (es es' : List (ℕ × SessionSlot)) (n : ℕ) (p : SessionSlot) → Writes es es' n p → pick (λ q. Some true) es' ≡ map.insert (pick (λ q. Some true) es) n true
placed es es' n p w = put (λ q. Some true) es es' n p true w refl

pub queued_more : (es es' : List (ℕ × SessionSlot)) (n : ℕ) (p : SessionSlot) (items : List ℕ) (count capacity : ℕ) → Writes es es' n p → es' ≡ es ++ (n, p) ∷ [] → lookup (nat_eq n) es ≡ None →
    p.wish ≡ None → length es < capacity → Queued es items count capacity → Queued es' items count capacity
queued_more es es' n p items count capacity w more none is wide q =
    record {
      ordered = q.ordered;
      each = each_same es es' items n p w (ap (λ o. is_some o) is ∙ ap has_wish (sym none)) q.each;
      counted = omega (arith, q.counted, ap noted more, noted_more es n p is);
      room = omega (arith, q.room, wide, ap length more, length-append es ((n, p) ∷ []));
    }
