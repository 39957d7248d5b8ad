-- A place that goes, and a session that is let go.
use Rattle.std.proofs.Common.{◌≡◌, ◌≤◌, ℕ, List, [], ◌∷◌, length, cond, position, Option, Some, None, IsSome, is_some, inl, inr, sum_by, get_or, swap_remove, Bool, true, false, refl, ap, sym, subst, ◌∙◌, nat_eq, arith}
use Rattle.std.proofs.lemmas.List.Sums.{sum_by-cons, sum_by-swap_remove}
use Rattle.std.proofs.lemmas.Option.{slice_get-map, slice_get-get_or}
use Rattle.std.specs.Option.{option_map}
use Rattle.std.specs.Map.{lookup, keys_of}
use Rattle.std.specs.FinMap as map
use Rattle.std.specs.Cmp.{nat_cmp_total, eq_by_cmp_equiv}
use Rattle.std.specs.Ordering.{nat_cmp}
use Rattle.std.proofs.lemmas.Bool.Decides.{nat_tests}
use Rattle.indexmap.specs.IndexMap.{swap_remove_entry}
use Rattle.indexmap.proofs.MapLemmas.{Found-position, swap_remove_entry-found, swap_remove_entry-missing}
use Rattle.amqp_types.specs.Error.{ErrorModel}
use Rattle.amqp_session.proofs.FiniteMapLemmas.{remove_none, same_test}
use Rattle.amqp_session.specs.Session.{SessionModel}
use Rattle.amqp_connection.specs.Channels.{mark}
use Rattle.amqp_connection.proofs.LowestChannelLemmas.{same_number}
use Rattle.amqp_engine.specs.declared.engine.handle_state.SessionSlot.{SessionSlot}
use Rattle.amqp_engine.specs.declared.engine.step_error.StepError.{StepError}
use Rattle.amqp_engine.specs.declared.engine.step_error.StepError.TheVariants as no
use Rattle.amqp_engine.specs.Inner.Places.{pick, Queued, Seated, noted, has_wish, times}
use Rattle.amqp_frames.specs.declared.frame.Frame.{Frame}
use Rattle.amqp_connection.specs.Connection.{ConnectionView}
use Rattle.amqp_numbers.specs.Ranges.{Numbers}
use Rattle.amqp_engine.specs.Kept.{Outcomes, Wishes}
use Rattle.amqp_engine.specs.EngineView.{EngineView, views_of, walks_of}
use Rattle.amqp_engine.specs.Sessions.{ForgetRequest, LetsGo, Over, Used, Without}
use Rattle.amqp_engine.proofs.SameEngineLemmas.{parts}
use Rattle.amqp_engine.proofs.SessionListLemmas.{viewed, walked}
use Rattle.amqp_engine.proofs.PickedMapLemmas.{Clears, picked_at, get_pick, gone}
use Rattle.amqp_engine.proofs.EndQueueLemmas.{no_wish}

-- ---- how many Ends are noted

abbrev wish_mark : ℕ × SessionSlot → ℕ
wish_mark e = mark (is_some e.1.wish)

noted_sum : (es : List (ℕ × SessionSlot)) → noted es ≡ sum_by wish_mark es
noted_sum [] = refl
noted_sum (e ∷ es) = omega (arith, noted_sum es, sum_by-cons wish_mark e es)

-- what stands at an index that a key was found at
at_index : {X : Type 0} (es : List (ℕ × X)) (n i : ℕ) (d : ℕ × X) → position (nat_eq n) (keys_of es) ≡ Some i → lookup (nat_eq n) es ≡ Some (get_or es i d).1
at_index es n i d p =
    let f = Found-position (nat_eq n) es i p in
    f.value ∙ slice_get-map (λ e. e.1) es i ∙ ap (option_map (λ e. e.1)) (slice_get-get_or es i d f.within)

noted_less : (es : List (ℕ × SessionSlot)) (n : ℕ) → has_wish (lookup (nat_eq n) es) ≡ false → noted (swap_remove_entry (nat_eq n) es) ≡ noted es
noted_less es n none = by (position (nat_eq n) (keys_of es)) refl
  where
    d : ℕ × SessionSlot
    d = (0, record { outcome = None; wish = None })

    by : (r : Option ℕ) → position (nat_eq n) (keys_of es) ≡ r → noted (swap_remove_entry (nat_eq n) es) ≡ noted es
    by None p = ap noted (swap_remove_entry-missing (nat_eq n) es p)
    by (Some i) p =
        let f = Found-position (nat_eq n) es i p in
        let zero_there : wish_mark (get_or es i d) ≡ mark false = ap (λ (o : Option SessionSlot). mark (has_wish o)) (sym (at_index es n i d p)) ∙ ap mark none in
        omega (arith, ap noted (swap_remove_entry-found (nat_eq n) es i d p), noted_sum (swap_remove es i d), sum_by-swap_remove wish_mark es i d f.within, zero_there, noted_sum es)

-- ---- the queue

pub queued_gone : (es es' : List (ℕ × SessionSlot)) (n : ℕ) (items : List ℕ) (count capacity : ℕ) → Clears es es' n → es' ≡ swap_remove_entry (nat_eq n) es → length es' ≤ length es → has_wish (lookup (nat_eq n) es) ≡ false →
    Queued es items count capacity → Queued es' items count capacity
queued_gone es es' n items count capacity w is short none q = record {
  ordered = q.ordered;
  each = λ k. by k (nat_eq n k) refl;
  counted = omega (arith, q.counted, ap noted is, noted_less es n none);
  room = omega (arith, q.room, short);
}
  where
    by : (k : ℕ) (b : Bool) → nat_eq n k ≡ b → times k items ≡ mark (has_wish (lookup (nat_eq k) es'))
    by k true t =
        q.each k ∙ ap (λ j. mark (has_wish (lookup (nat_eq j) es))) (sym (same_number n k t)) ∙ ap mark none
        ∙ sym (ap (λ o. mark (has_wish o)) (w k ∙ ap (λ b. cond b None (lookup (nat_eq k) es)) t))
    by k false t = q.each k ∙ sym (ap (λ o. mark (has_wish o)) (w k ∙ ap (λ b. cond b None (lookup (nat_eq k) es)) t))

-- whether a wish is noted, by the place and by the map of them
pub wish_at : (es : List (ℕ × SessionSlot)) (n : ℕ) → has_wish (lookup (nat_eq n) es) ≡ is_some (map.get (pick (λ p. p.wish) es) n)
wish_at es n = by (lookup (nat_eq n) es) ∙ sym (ap (λ (o : Option (Option ErrorModel)). is_some o) (get_pick (λ p. p.wish) es n))
  where
    by : (o : Option SessionSlot) → has_wish o ≡ is_some (picked_at (λ (p : SessionSlot). p.wish) o)
    by None = refl
    by (Some p) = refl

-- where none is noted, wishes stay
pub same_wishes : (es es' : List (ℕ × SessionSlot)) (n : ℕ) → Clears es es' n → has_wish (lookup (nat_eq n) es) ≡ false → pick (λ p. p.wish) es' ≡ pick (λ p. p.wish) es
same_wishes es es' n w none = gone (λ p. p.wish) es es' n w ∙ remove_none (pick (λ p. p.wish) es) n (get_pick (λ p. p.wish) es n ∙ no_wish (lookup (nat_eq n) es) none)

-- ---- in the engine

stood : {X : Type 0} (old new : List (ℕ × X)) (n k : ℕ) (b : Bool) → Clears old new n → nat_eq n k ≡ b → lookup (nat_eq k) new ≡ cond b None (lookup (nat_eq k) old)
stood old new n k b w t = w k ∙ ap (λ c. cond c None (lookup (nat_eq k) old)) t

here : (n : ℕ) → nat_eq n n ≡ true
here n = grind (arith, nat_tests)

pub sessions_without : {R : Type 0} (old new : List (ℕ × SessionModel R)) (n : ℕ) → Clears old new n → Without n (views_of old) (views_of new)
sessions_without old new n w = record {
  gone = viewed n new ∙ ap (option_map (λ o. o.view)) (stood old new n n true w (here n));
  others = λ k t. viewed k new ∙ ap (option_map (λ o. o.view)) (stood old new n k false w t) ∙ sym (viewed k old);
}

pub walks_without : {R : Type 0} (old new : List (ℕ × SessionModel R)) (n : ℕ) → Clears old new n → Without n (walks_of old) (walks_of new)
walks_without old new n w = record {
  gone = walked n new ∙ ap (option_map (λ o. o.last_walk)) (stood old new n n true w (here n));
  others = λ k t. walked k new ∙ ap (option_map (λ o. o.last_walk)) (stood old new n k false w t) ∙ sym (walked k old);
}

-- each session still has a place, and no other number has
pub seated_less : {X : Type 0} (old new : List (ℕ × X)) (n : ℕ) (places places' : map.FinMap nat_cmp Bool) → Clears old new n → places' ≡ map.remove places n → Seated old places → Seated new places'
seated_less old new n places places' w less seated q =
    ap is_some (w q) ∙ by (nat_eq n q)
    ∙ sym (ap is_some (ap (λ m. map.get m q) less ∙ map.get-remove nat_cmp_total places n q ∙ ap (λ b. cond b None (map.get places q)) ((eq_by_cmp_equiv nat_cmp_total).symm q n ∙ same_test n q)))
  where
    by : (b : Bool) → is_some (cond b None (lookup (nat_eq q) old)) ≡ is_some (cond b None (map.get places q))
    by true = refl
    by false = seated q

-- whether a number is used, by what is there and by what was forgotten
pub used_there : {R : Type 0} (v : EngineView R) (n : ℕ) (b : Bool) → b ≡ true → IsSome (lookup (nat_eq n) v.sessions) → Used v n b
used_there v n true t there = inl there
used_there v n false t there = absurd (let y : false ≡ true = t in cc)

pub used_or : {R : Type 0} (v : EngineView R) (n : ℕ) (b : Bool) → lookup (nat_eq n) v.sessions ≡ None → b ≡ is_some (map.get v.forgotten n) → Used v n b
used_or v n b none is = by (map.get v.forgotten n) refl b is
  where
    by : (o : Option Bool) → map.get v.forgotten n ≡ o → (b : Bool) → b ≡ is_some o → Used v n b
    by None e true is = absurd (let y : true ≡ false = is in cc)
    by None e false is = (none, e)
    by (Some x) e true is = inr (subst IsSome (sym e) refl)
    by (Some x) e false is = absurd (let y : false ≡ true = is in cc)

-- what is left of an engine whose session goes
pub lets_go : {R : Type 0} (c : ConnectionView) (old new : List (ℕ × SessionModel R)) (n limit : ℕ) (used used' : Numbers) (fs : List Frame) (o : Outcomes) (q : Wishes) → Clears old new n → used' ≡ map.insert used n true →
    LetsGo (parts used o q c old limit fs) n (parts used' o q c new limit fs)
lets_go c old new n limit used used' fs o q w is = record {
  sessions = sessions_without old new n w;
  walks = walks_without old new n w;
  put = ap (λ p. parts p o q c new limit fs) is;
}

pub refused : {R : Type 0} (v : EngineView R) (n : ℕ) (e : StepError) → Over v n (Some e) → ForgetRequest v n None [] (Some e) v
refused v n no.OutOfMemory o = absurd o
refused v n e o = (((refl, refl), refl), o)
