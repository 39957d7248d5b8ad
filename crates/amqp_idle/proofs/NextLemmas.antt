-- When something is due next.
use Rattle.std.proofs.Common.{◌≡◌, ℕ, ◌+◌, ◌^◌, ◌<◌, ◌||◌, min, max, Bool, true, false, List, [], ◌∷◌, Option, Some}
use Rattle.std.proofs.Common.{None, nat_le, nat_lt, if◌then◌else◌, refl, sym, ap, ap₂, ◌∙◌, subst, subst₂, arith}
use Rattle.std.proofs.lemmas.Bool.Decides.{nat_tests}
use Rattle.std.proofs.lemmas.Grind.{common_steps}
use Rattle.amqp_idle.specs.declared.due.Due.TheVariants.{Nothing, Beat, OpeningLate, PeerSilent}
use Rattle.amqp_idle.specs.declared.due.Tick.{Tick}
use Rattle.amqp_idle.specs.declared.phase.Phase.{Phase}
use Rattle.amqp_idle.specs.declared.phase.Phase.TheVariants.{Opening, Open, Over}
use Rattle.amqp_idle.specs.Idle.{IdleView, halved, has_passed, later_by, earlier, due_in, due_at, next_in, next_of}
use Rattle.amqp_idle.specs.Idle.{new_clock, having_told}
use Rattle.amqp_idle.specs.History.{IdleCall, IdleStep, IdleChain, Always, time_after}
use Rattle.amqp_idle.specs.History.{is_opened, peers_of, is_ended, Opens, Sends, Receives, Ticks, AsksNext}
use Rattle.amqp_idle.specs.Laws.{is_told, has_come, IsAfter, NextIsExact, AnswerIsExact}
use Rattle.amqp_idle.proofs.HistoryLemmas.{stands, split_of, due_is, phase_where, phase_by, step_seen}

-- ---- something is due from the next time on

come_within : (since span now : ℕ) → now < 2 ^ 64 → (b : Bool) → nat_lt (since + span) (2 ^ 64) ≡ b →
    nat_le (since + span) now ≡ has_come (if b then Some (since + span) else None) now
come_within since span now f true e = refl
come_within since span now f false e = grind (arith, nat_tests, common_steps)

come_by : (since : ℕ) (span : Option ℕ) (now : ℕ) → now < 2 ^ 64 →
    has_passed since span now ≡ has_come (later_by since span) now
come_by since None now f = refl
come_by since (Some n) now f = come_within since n now f (nat_lt (since + n) (2 ^ 64)) refl

either_come : (a b now : ℕ) → nat_le (min a b) now ≡ (nat_le a now || nat_le b now)
either_come a b now = grind (arith, nat_tests, common_steps)

or_false : (b : Bool) → b ≡ (b || false)
or_false true = refl
or_false false = refl

come_earlier : (a b : Option ℕ) (now : ℕ) → has_come (earlier a b) now ≡ (has_come a now || has_come b now)
come_earlier None b now = refl
come_earlier (Some a) None now = or_false (nat_le a now)
come_earlier (Some a) (Some b) now = either_come a b now

told_where : (s b : Bool) → is_told (if s then PeerSilent else (if b then Beat else Nothing)) ≡ (s || b)
told_where true b = refl
told_where false true = refl
told_where false false = refl

told_late : (b : Bool) → is_told (if b then OpeningLate else Nothing) ≡ b
told_late true = refl
told_late false = refl

told_from_next : (p : Phase) (sent received now : ℕ) → now < 2 ^ 64 →
    is_told (due_in p sent received now) ≡ has_come (next_in p sent received) now
told_from_next (Opening began limit) sent received now f = told_late (has_passed began limit now)
    ∙ come_by began limit now f
told_from_next (Open silence beat) sent received now f =
    told_where (has_passed received silence now) (has_passed sent beat now)
    ∙ ap₂ (λ x y. x || y) (come_by received silence now f) (come_by sent beat now f)
    ∙ sym (come_earlier (later_by received silence) (later_by sent beat) now)
told_from_next Over sent received now f = refl

-- ---- after a tick it is to come

-- a beat takes time
abbrev pub TakesTime : Option ℕ → Type 0
TakesTime None = Unit {0}
TakesTime (Some n) = 0 < n

halved_takes : (span : Option ℕ) → TakesTime (halved span)
halved_takes None = tt
halved_takes (Some n) = omega arith

not_passed : (now : ℕ) (span : Option ℕ) → TakesTime span → has_passed now span now ≡ false
not_passed now None p = refl
not_passed now (Some n) p = grind (arith, nat_tests, common_steps)

abbrev pub BeatTakesTime : Phase → Type 0
BeatTakesTime (Open silence beat) = TakesTime beat
BeatTakesTime p = Unit {0}

beat_takes : (start : ℕ) (limit : Option ℕ) (H : List IdleCall) → BeatTakesTime (phase_by start limit H)
beat_takes start limit H = by (is_ended H) (is_opened H)
  where
    by : (e o : Bool) → BeatTakesTime (phase_where e o start limit H)
    by true o = tt
    by false true = halved_takes (peers_of H)
    by false false = tt

-- where a tick has told what was due at a time, nothing more is due at that time
nothing_more : (p : Phase) (seen sent received now : ℕ) → BeatTakesTime p →
    let v : IdleView = record { seen = seen; sent = sent; received = received; phase = p } in
    due_at (having_told (due_in p sent received now) now v) now ≡ Nothing
nothing_more (Opening began limit) seen sent received now k = by (has_passed began limit now) refl
  where
    by : (b : Bool) → has_passed began limit now ≡ b →
        let v : IdleView = record { seen = seen; sent = sent; received = received; phase = Opening began limit } in
        due_at (having_told (if b then OpeningLate else Nothing) now v) now ≡ Nothing
    by true e = refl
    by false e = ap (λ x. if x then OpeningLate else Nothing) e
nothing_more (Open silence beat) seen sent received now k =
    by (has_passed received silence now) (has_passed sent beat now) refl refl
  where
    by : (s b : Bool) → has_passed received silence now ≡ s → has_passed sent beat now ≡ b →
        let v : IdleView = record { seen = seen; sent = sent; received = received; phase = Open silence beat } in
        due_at (having_told (if s then PeerSilent else (if b then Beat else Nothing)) now v) now ≡ Nothing
    by true b d e = refl
    by false true d e = ap₂ (λ x y. if x then PeerSilent else (if y then Beat else Nothing)) d (not_passed now beat k)
    by false false d e = ap₂ (λ x y. if x then PeerSilent else (if y then Beat else Nothing)) d e
nothing_more Over seen sent received now k = refl

to_come : (next : Option ℕ) (now : ℕ) → has_come next now ≡ false → IsAfter next now
to_come None now h = tt
to_come (Some n) now h = grind (arith, nat_tests, common_steps)

-- the time of a call within 64 bits
pub in_bits : (v m : IdleView) (c : IdleCall) → IdleStep v c m → v.seen < 2 ^ 64 → m.seen < 2 ^ 64
in_bits v m c h f = subst (λ n. n < 2 ^ 64) (sym (step_seen v m c h)) (by c h)
  where
    opens_in : (taken : Bool) (t : ℕ) → t < 2 ^ 64 → (if taken then max v.seen t else v.seen) < 2 ^ 64
    opens_in true t g = omega (arith, f, g)
    opens_in false t g = f

    by : (c : IdleCall) → IdleStep v c m → time_after v.seen c < 2 ^ 64
    by (Opens t ours peers taken) h = opens_in taken t h.0
    by (Sends t) h = omega (arith, f, h.0)
    by (Receives t) h = omega (arith, f, h.0)
    by (Ticks t answer) h = omega (arith, f, h.0)
    by (AsksNext next) h = f

pub chain_in_bits : (v w : IdleView) (cs : List IdleCall) → IdleChain v cs w → v.seen < 2 ^ 64 → w.seen < 2 ^ 64
chain_in_bits v w [] h f = subst (λ (x : IdleView). x.seen < 2 ^ 64) (sym h) f
chain_in_bits v w (c ∷ cs) h f = chain_in_bits h.0 w cs h.2 (in_bits v h.0 c h.1 f)

pub next_answered : (v m : IdleView) (t : ℕ) (answer : Tick) → IdleStep v (Ticks t answer) m → answer.next ≡ next_of m
next_answered v m t answer h = ap (λ (x : Tick). x.next) h.1.0

tick_in_bits : (seen t : ℕ) → seen < 2 ^ 64 → t < 2 ^ 64 → max seen t < 2 ^ 64
tick_in_bits seen t f g = omega (arith, f, g)

-- what a tick answers as the next time is after its own
is_after : (v m : IdleView) (t : ℕ) (answer : Tick) → IdleStep v (Ticks t answer) m → v.seen < 2 ^ 64 →
    BeatTakesTime v.phase →
    IsAfter answer.next (max v.seen t)
is_after v m t answer h f k =
    let now = max v.seen t in
    let told : due_at m now ≡ Nothing = ap (λ (x : IdleView). due_at x now) h.1.1
    ∙ nothing_more v.phase v.seen v.sent v.received now k in
    let due = told_from_next m.phase m.sent m.received now (tick_in_bits v.seen t f h.0) in
    subst (λ next. IsAfter next now) (sym (next_answered v m t answer h))
    (to_come (next_of m) now (sym due ∙ ap is_told told))

-- ---- two ticks

-- a tick tells something where the time has come
told_as_said : (v m : IdleView) (u : ℕ) (told : Tick) → IdleStep v (Ticks u told) m → v.seen < 2 ^ 64 →
    is_told told.due ≡ has_come (next_of v) (max v.seen u)
told_as_said v m u told h f =
    sym (ap is_told (due_is v m u told h))
    ∙ told_from_next v.phase v.sent v.received (max v.seen u) (tick_in_bits v.seen u f h.0)

-- and where it tells nothing it says the same time again
said_again : (v m : IdleView) (u : ℕ) (told : Tick) → IdleStep v (Ticks u told) m → told.due ≡ Nothing →
    told.next ≡ next_of v
said_again v m u told h e =
    next_answered v m u told h
    ∙ ap next_of (h.1.1 ∙ ap (λ d. having_told d (max v.seen u) v) (due_is v m u told h ∙ e))

come_after : (next : Option ℕ) (seen u : ℕ) → IsAfter next seen → has_come next (max seen u) ≡ has_come next u
come_after None seen u a = refl
come_after (Some n) seen u a = grind (arith, nat_tests, common_steps)

-- the first of some calls
first_of_chain : (v w : IdleView) (c : IdleCall) (xs rest : List IdleCall) → IdleChain v xs w → xs ≡ c ∷ rest →
    (m : IdleView) × IdleStep v c m
first_of_chain v w c xs rest h e = let g = subst (λ ys. IdleChain v ys w) e h in (g.0, g.1)

pub next_is_exact : Always (λ start limit H. NextIsExact start H)
next_is_exact start limit H v h before rest t answer e =
    let s = split_of start limit H before rest (Ticks t answer) v h e in
    let k = stands start limit before s.at s.reached in
    let f = chain_in_bits (new_clock start limit) s.at before s.reached h.0 in
    let a = is_after s.at s.next t answer s.step f
    (subst BeatTakesTime (sym k.phase_is) (beat_takes start limit before)) in
    let seen = step_seen s.at s.next (Ticks t answer) s.step in
    let said = next_answered s.at s.next t answer s.step in (
      subst (λ n. IsAfter answer.next (max n t)) k.seen_is a,
      λ more u told e2.
          let g = first_of_chain s.next v (Ticks u told) rest more s.onward e2 in
          let b = subst₂ IsAfter said (sym seen) a in (
            told_as_said s.next g.0 u told g.1 (in_bits s.at s.next (Ticks t answer) s.step f)
                ∙ come_after (next_of s.next) s.next.seen u b
                ∙ ap (λ n. has_come n u) (sym said),
            λ nothing. said_again s.next g.0 u told g.1 nothing ∙ sym said,
          ),
    )

pub answer_is_exact : Always (λ start limit H. AnswerIsExact start H)
answer_is_exact start limit H v h before rest next u told e =
    let s = split_of start limit H before (Ticks u told ∷ rest) (AsksNext next) v h e in
    let k = stands start limit before s.at s.reached in
    let f = chain_in_bits (new_clock start limit) s.at before s.reached h.0 in
    let step = subst (λ x. IdleStep x (Ticks u told) s.onward.0) s.step.1 s.onward.1 in (
      told_as_said s.at s.onward.0 u told step f
          ∙ ap₂ (λ n seen. has_come n (max seen u)) (sym s.step.0) k.seen_is,
      λ nothing. said_again s.at s.onward.0 u told step nothing ∙ sym s.step.0,
    )
