-- How long nothing is sent or received, where ticks come on time.
use Rattle.std.proofs.Common.{◌≡◌, ℕ, zero, suc, ◌+◌, ◌^◌, ◌<◌, ◌≤◌, max, nat_lt, Bool, true, false, List, [], ◌∷◌}
use Rattle.std.proofs.Common.{Option}
use Rattle.std.proofs.Common.{Some, None, if◌then◌else◌, refl, sym, ap, ◌∙◌, subst, subst₂, arith, true≢false}
use Rattle.std.proofs.lemmas.Bool.Decides.{nat_tests}
use Rattle.std.proofs.lemmas.Grind.{common_steps}
use Rattle.amqp_idle.specs.declared.phase.Phase.{Phase}
use Rattle.amqp_idle.specs.declared.phase.Phase.TheVariants.{Opening, Open, Over}
use Rattle.amqp_idle.specs.Idle.{IdleView, lasting, halved, later_by, earlier, next_in, new_clock, opened_at}
use Rattle.amqp_idle.specs.History.{IdleCall, IdleStep, IdleChain, Always, time_after, time_of, last_sent}
use Rattle.amqp_idle.specs.History.{sends}
use Rattle.amqp_idle.specs.History.{last_received, receives, is_opened, ours_of, peers_of, is_ended}
use Rattle.amqp_idle.specs.History.{Opens, Sends, Receives, Ticks, AsksNext}
use Rattle.amqp_idle.specs.Laws.{NoMoreThan, IsBy, said_after, said_by, OnTime, EachTime, BeatsInTime, SilentInTime}
use Rattle.amqp_idle.proofs.HistoryLemmas.{stands, split_of, step_seen, step_sent, step_received}
use Rattle.amqp_idle.proofs.HistoryLemmas.{phase_where, phase_by}
use Rattle.amqp_idle.proofs.DueLemmas.{chosen, goes_on}
use Rattle.amqp_idle.proofs.NextLemmas.{TakesTime, in_bits, chain_in_bits, next_answered}

-- neither has more than its span passed since something was sent, nor since something was received
pub record Within (sent received : ℕ) (silence beat : Option ℕ) (now : ℕ) : Type 0 where
  pub of_sent : NoMoreThan sent beat now
  pub of_received : NoMoreThan received silence now

-- so it is by a time that was said
abbrev pub Bound : Phase → ℕ → ℕ → Option ℕ → Type 0
Bound (Open silence beat) sent received said = (now : ℕ) → now < 2 ^ 64 → IsBy said now →
    Within sent received silence beat now
Bound p sent received said = Unit {0}

-- ---- what is said as the next time

by_first : (a b : Option ℕ) (now : ℕ) → IsBy (earlier a b) now → IsBy a now
by_first None b now h = tt
by_first (Some a) None now h = h
by_first (Some a) (Some b) now h = omega (arith, h)

by_second : (a b : Option ℕ) (now : ℕ) → IsBy (earlier a b) now → IsBy b now
by_second None b now h = h
by_second (Some a) None now h = tt
by_second (Some a) (Some b) now h = omega (arith, h)

within_bits : (since span now : ℕ) → now < 2 ^ 64 → (b : Bool) → nat_lt (since + span) (2 ^ 64) ≡ b →
    IsBy (if b then Some (since + span) else None) now → now ≤ since + span
within_bits since span now f true e h = h
within_bits since span now f false e h = grind (arith, nat_tests, common_steps)

by_a_span : (since : ℕ) (span : Option ℕ) (now : ℕ) → now < 2 ^ 64 → IsBy (later_by since span) now →
    NoMoreThan since span now
by_a_span since None now f h = tt
by_a_span since (Some n) now f h = within_bits since n now f (nat_lt (since + n) (2 ^ 64)) refl h

next_bounds : (p : Phase) (sent received : ℕ) → Bound p sent received (next_in p sent received)
next_bounds (Opening began limit) sent received = tt
next_bounds (Open silence beat) sent received = λ now f h. record {
  of_sent = by_a_span sent beat now f (by_second (later_by received silence) (later_by sent beat) now h);
  of_received = by_a_span received silence now f (by_first (later_by received silence) (later_by sent beat) now h);
}
next_bounds Over sent received = tt

-- ---- a call keeps it

no_more_later : (since later : ℕ) (span : Option ℕ) (now : ℕ) → since ≤ later → NoMoreThan since span now →
    NoMoreThan later span now
no_more_later since later None now l h = tt
no_more_later since later (Some n) now l h = omega (arith, l, h)

bound_later : (p : Phase) (sent received sent2 received2 : ℕ) (said : Option ℕ) → sent ≤ sent2 → received ≤ received2 →
    Bound p sent received said → Bound p sent2 received2 said
bound_later (Opening began limit) sent received sent2 received2 said l m h = tt
bound_later (Open silence beat) sent received sent2 received2 said l m h = λ now f by. record {
  of_sent = no_more_later sent sent2 beat now l (h now f by).of_sent;
  of_received = no_more_later received received2 silence now m (h now f by).of_received;
}
bound_later Over sent received sent2 received2 said l m h = tt

at_once : (since : ℕ) (span : Option ℕ) (now : ℕ) → now ≤ since → NoMoreThan since span now
at_once since None now h = tt
at_once since (Some n) now h = omega (arith, h)

-- a view by a time that was said
pub record Good (v : IdleView) (said : Option ℕ) : Type 0 where
  pub sent_before : v.sent ≤ v.seen
  pub received_before : v.received ≤ v.seen
  pub bound : Bound v.phase v.sent v.received said

abbrev pub BoundOf : IdleView → Option ℕ → Type 0
BoundOf v said = Bound v.phase v.sent v.received said

-- the bound of a view that another one is
bound_of : (v m : IdleView) (said : Option ℕ) → m ≡ v → BoundOf v said → BoundOf m said
bound_of v m said e h = subst (λ x. BoundOf x said) (sym e) h

open_bound : (silence beat : Option ℕ) (at : ℕ) → Bound (Open silence beat) at at (Some at)
open_bound silence beat at =
    λ now f h. record { of_sent = at_once at beat now h; of_received = at_once at silence now h }

call_bound : (v m : IdleView) (c : IdleCall) (said : Option ℕ) → IdleStep v c m → Good v said →
    BoundOf m (said_after v.seen said c)
call_bound v m (Opens t ours peers taken) said h g =
    by taken (h.1.1 ∙ ap (λ b. if b then opened_at v.seen ours peers t else v) (sym h.1.0))
  where
    by : (taken : Bool) → m ≡ (if taken then opened_at v.seen ours peers t else v) →
        BoundOf m (if taken then Some (max v.seen t) else said)
    by true e = bound_of (opened_at v.seen ours peers t) m _ e
        (open_bound (lasting ours) (halved (lasting peers)) (max v.seen t))
    by false e = bound_of v m said e g.bound
call_bound v m (Sends t) said h g =
    bound_of _ m said h.1
    (bound_later v.phase v.sent v.received (max v.seen t) v.received said (omega (arith, g.sent_before))
    (omega arith) g.bound)
call_bound v m (Receives t) said h g =
    bound_of _ m said h.1
    (bound_later v.phase v.sent v.received v.sent (max v.seen t) said (omega arith)
    (omega (arith, g.received_before)) g.bound)
call_bound v m (Ticks t answer) said h g =
    subst (BoundOf m) (sym (next_answered v m t answer h)) (next_bounds m.phase m.sent m.received)
call_bound v m (AsksNext next) said h g =
    bound_of v m next h.1 (subst (BoundOf v) (sym h.0) (next_bounds v.phase v.sent v.received))

call_good : (v m : IdleView) (c : IdleCall) (said : Option ℕ) → IdleStep v c m → Good v said →
    Good m (said_after v.seen said c)
call_good v m c said h g = record {
  sent_before = subst₂ (λ x y. x ≤ y) (sym (step_sent v m c h)) (sym (step_seen v m c h))
      (chosen (sends c) v.seen v.sent (time_after v.seen c) g.sent_before (goes_on v.seen c));
  received_before = subst₂ (λ x y. x ≤ y) (sym (step_received v m c h)) (sym (step_seen v m c h))
      (chosen (receives c) v.seen v.received (time_after v.seen c) g.received_before (goes_on v.seen c));
  bound = call_bound v m c said h g;
}

chain_good : (v w : IdleView) (cs : List IdleCall) (said : Option ℕ) → IdleChain v cs w → Good v said →
    Good w (said_by v.seen said cs)
chain_good v w [] said h g = subst (λ x. Good x said) (sym h) g
chain_good v w (c ∷ cs) said h g =
    subst (λ n. Good w (said_by n (said_after v.seen said c) cs)) (step_seen v h.0 c h.1)
    (chain_good h.0 w cs (said_after v.seen said c) h.2 (call_good v h.0 c said h.1 g))

-- ---- a history

-- where it is not open no time-out is known
pub record Unknown (peers ours : Option ℕ) : Type 0 where
  pub no_peers : peers ≡ None
  pub no_ours : ours ≡ None

unopened : (H : List IdleCall) → is_opened H ≡ false → Unknown (peers_of H) (ours_of H)
unopened [] e = record { no_peers = refl; no_ours = refl }
unopened (Opens t ours peers true ∷ H) e = absurd (true≢false e)
unopened (Opens t ours peers false ∷ H) e = unopened H e
unopened (Sends t ∷ H) e = unopened H e
unopened (Receives t ∷ H) e = unopened H e
unopened (Ticks t answer ∷ H) e = unopened H e
unopened (AsksNext next ∷ H) e = unopened H e

lasting_takes : (span : Option ℕ) → TakesTime (lasting span)
lasting_takes None = tt
lasting_takes (Some zero) = tt
lasting_takes (Some (suc n)) = omega arith

peers_take : (H : List IdleCall) → TakesTime (peers_of H)
peers_take [] = tt
peers_take (Opens t ours peers true ∷ H) = lasting_takes peers
peers_take (Opens t ours peers false ∷ H) = peers_take H
peers_take (Sends t ∷ H) = peers_take H
peers_take (Receives t ∷ H) = peers_take H
peers_take (Ticks t answer ∷ H) = peers_take H
peers_take (AsksNext next ∷ H) = peers_take H

half_is_less : (sent : ℕ) (span : Option ℕ) (now : ℕ) → TakesTime span → NoMoreThan sent (halved span) now →
    NoMoreThan sent span now
half_is_less sent None now k h = tt
half_is_less sent (Some n) now k h = omega (arith, k, h)

none_passed : (since : ℕ) (span : Option ℕ) (now : ℕ) → span ≡ None → NoMoreThan since span now
none_passed since span now e = subst (λ s. NoMoreThan since s now) (sym e) tt

-- the bound of a phase that a history gives, where the clock is not over
of_phase : (start : ℕ) (limit : Option ℕ) (H : List IdleCall) (sent received now : ℕ) (said : Option ℕ) →
    is_ended H ≡ false → Bound (phase_by start limit H) sent received said → now < 2 ^ 64 → IsBy said now →
    Within sent received (ours_of H) (halved (peers_of H)) now
of_phase start limit H sent received now said over bound f is_by =
    by (is_ended H) (is_opened H) over (unopened H) bound
  where
    by : (e o : Bool) → e ≡ false → (o ≡ false → Unknown (peers_of H) (ours_of H)) →
        Bound (phase_where e o start limit H) sent received said →
        Within sent received (ours_of H) (halved (peers_of H)) now
    by true o e n b = absurd (true≢false e)
    by false true e n b = b now f is_by
    by false false e n b = record {
      of_sent = none_passed sent (halved (peers_of H)) now (ap halved (n refl).no_peers);
      of_received = none_passed received (ours_of H) now (n refl).no_ours;
    }

-- where calls come on time
within : Always (λ start limit H. OnTime start H → EachTime start H (λ before now. is_ended before ≡ false →
    Within (last_sent start before) (last_received start before) (ours_of before) (halved (peers_of before)) now))
within start limit H v h on_time before rest c e over =
    let s = split_of start limit H before rest c v h e in
    let k = stands start limit before s.at s.reached in
    let now = time_after (time_of start before) c in
    let said = said_by start None before in
    let new : Good (new_clock start limit) None =
    record { sent_before = omega arith; received_before = omega arith; bound = tt } in
    let good = chain_good (new_clock start limit) s.at before None s.reached new in
    let by_phase = subst (λ p. Bound p s.at.sent s.at.received said) k.phase_is good.bound in
    let by_times = subst₂ (λ x y. Bound (phase_by start limit before) x y said) k.sent_is k.received_is by_phase in
    let now_is : s.next.seen ≡ now = step_seen s.at s.next c s.step ∙ ap (λ n. time_after n c) k.seen_is in
    let before_in = chain_in_bits (new_clock start limit) s.at before s.reached h.0 in
    let now_in = subst (λ n. n < 2 ^ 64) now_is (in_bits s.at s.next c s.step before_in) in
    of_phase start limit before (last_sent start before) (last_received start before) now said over by_times now_in
    (on_time before rest c e)

pub beats_in_time : Always (λ start limit H. BeatsInTime start H)
beats_in_time start limit H v h on_time before rest c e over =
    let now = time_after (time_of start before) c in
    let half = (within start limit H v h on_time before rest c e over).of_sent in
    (half, half_is_less (last_sent start before) (peers_of before) now (peers_take before) half)

pub silent_in_time : Always (λ start limit H. SilentInTime start H)
silent_in_time start limit H v h on_time before rest c e over =
    (within start limit H v h on_time before rest c e over).of_received
