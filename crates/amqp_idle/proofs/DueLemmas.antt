-- What each tick of a history tells, by the calls before it.
use Rattle.std.proofs.Common.{◌≡◌, ℕ, ◌≤◌, ◌||◌, not, max, Bool, true, false, List, [], ◌∷◌, ◌++◌, Option, Some}
use Rattle.std.proofs.Common.{None, if◌then◌else◌, refl, sym, ap, ap₂, ◌∙◌, subst, arith, true≢false, le_trans}
use Rattle.std.proofs.lemmas.Bool.Decides.{nat_tests}
use Rattle.std.proofs.lemmas.Grind.{common_steps}
use Rattle.amqp_idle.specs.declared.due.Due.{Due}
use Rattle.amqp_idle.specs.declared.due.Due.TheVariants.{Nothing, Beat, OpeningLate, PeerSilent}
use Rattle.amqp_idle.specs.declared.due.Tick.{Tick}
use Rattle.amqp_idle.specs.declared.phase.Phase.TheVariants.{Over}
use Rattle.amqp_idle.specs.Idle.{IdleView, halved, has_passed, due_in, due_at}
use Rattle.amqp_idle.specs.Idle.{next_of, next_in, is_opening, is_over, new_clock}
use Rattle.amqp_idle.specs.History.{IdleCall, LeadsTo, Always, time_after, time_of, last_by, sends, receives}
use Rattle.amqp_idle.specs.History.{last_sent, last_received, is_opened, ours_of, peers_of, is_ended}
use Rattle.amqp_idle.specs.History.{Opens, Sends, Receives, Ticks, AsksNext}
use Rattle.amqp_idle.specs.Laws.{due_by, due_when_open, HasPassed, SinceEach, TellsWhatIsDue, OpensOnce}
use Rattle.amqp_idle.specs.Laws.{BeatsWhereIdle}
use Rattle.amqp_idle.specs.Laws.{SilentWhereIdle, SilentAtOnce, LateOpenings, QuietAfterEnd}
use Rattle.amqp_idle.proofs.HistoryLemmas.{Stands, stands, Split, split_of, due_is, step_phase, over_step}
use Rattle.amqp_idle.proofs.HistoryLemmas.{phase_where, phase_by}

-- ---- what is due

due_of_phase : (start : ℕ) (limit : Option ℕ) (H : List IdleCall) (now : ℕ) →
    due_in (phase_by start limit H) (last_sent start H) (last_received start H) now ≡ due_by start limit H now
due_of_phase start limit H now = by (is_ended H) (is_opened H)
  where
    late : Due
    late = if has_passed start limit now then OpeningLate else Nothing

    by : (e o : Bool) →
        due_in (phase_where e o start limit H) (last_sent start H) (last_received start H) now
        ≡ (if e then Nothing else (if o then due_when_open start H now else late))
    by true o = refl
    by false true = refl
    by false false = refl

due_same : (v : IdleView) (start : ℕ) (limit : Option ℕ) (H : List IdleCall) (t : ℕ) → Stands start limit H v →
    due_at v (max v.seen t)
    ≡ due_in (phase_by start limit H) (last_sent start H) (last_received start H) (max (time_of start H) t)
due_same v start limit H t k =
    ap₂ (λ p s. due_in p s v.received (max v.seen t)) k.phase_is k.sent_is
    ∙ ap₂ (λ r n. due_in (phase_by start limit H) (last_sent start H) r (max n t)) k.received_is k.seen_is

pub tells : Always (λ start limit H. TellsWhatIsDue start limit H)
tells start limit H v h before rest t answer e =
    let s = split_of start limit H before rest (Ticks t answer) v h e in
    sym (due_is s.at s.next t answer s.step)
    ∙ due_same s.at start limit before t (stands start limit before s.at s.reached)
    ∙ due_of_phase start limit before (max (time_of start before) t)

opening_of_phase : (start : ℕ) (limit : Option ℕ) (H : List IdleCall) →
    is_opening (phase_by start limit H) ≡ not (is_ended H || is_opened H)
opening_of_phase start limit H = by (is_ended H) (is_opened H)
  where
    by : (e o : Bool) → is_opening (phase_where e o start limit H) ≡ not (e || o)
    by true o = refl
    by false true = refl
    by false false = refl

pub opens_once : Always (λ start limit H. OpensOnce H)
opens_once start limit H v h before rest t ours peers taken e =
    let s = split_of start limit H before rest (Opens t ours peers taken) v h e in
    s.step.1.0 ∙ ap is_opening (stands start limit before s.at s.reached).phase_is
    ∙ opening_of_phase start limit before

-- ---- spans

pub passed : (since : ℕ) (span : Option ℕ) (now : ℕ) → has_passed since span now ≡ true → HasPassed since span now
passed since None now h = absurd (true≢false (sym h))
passed since (Some n) now h = grind (arith, nat_tests, common_steps)

has_passed_by : (since : ℕ) (span : Option ℕ) (now : ℕ) → HasPassed since span now → has_passed since span now ≡ true
has_passed_by since None now h = absurd h
has_passed_by since (Some n) now h = grind (arith, nat_tests, common_steps)

earlier_since : (early since : ℕ) (span : Option ℕ) (now : ℕ) → early ≤ since → HasPassed since span now →
    HasPassed early span now
earlier_since early since None now l h = h
earlier_since early since (Some n) now l h = omega (arith, l, h)

pub goes_on : (now : ℕ) (c : IdleCall) → now ≤ time_after now c
goes_on now (Opens t ours peers true) = omega arith
goes_on now (Opens t ours peers false) = omega arith
goes_on now (Sends t) = omega arith
goes_on now (Receives t) = omega arith
goes_on now (Ticks t answer) = omega arith
goes_on now (AsksNext next) = omega arith

-- what is found last lies before the time
pub chosen : (b : Bool) (now last later : ℕ) → last ≤ now → now ≤ later → (if b then later else last) ≤ later
chosen true now last later p q = omega arith
chosen false now last later p q = omega (arith, p, q)

last_grows : (test : IdleCall → Bool) (now last : ℕ) (cs : List IdleCall) → last ≤ now →
    last ≤ last_by test now last cs
last_grows test now last [] p = omega arith
last_grows test now last (c ∷ cs) p =
    let then_is = time_after now c in
    let before = chosen (test c) now last then_is p (goes_on now c) in
    le_trans (grown (test c)) (last_grows test then_is (if test c then then_is else last) cs before)
  where
    grown : (b : Bool) → last ≤ (if b then time_after now c else last)
    grown true = le_trans p (goes_on now c)
    grown false = omega arith

last_at : (test : IdleCall → Bool) (now last : ℕ) (before rest : List IdleCall) (c : IdleCall) → test c ≡ true →
    last ≤ now → time_of now (before ++ c ∷ []) ≤ last_by test now last (before ++ c ∷ rest)
last_at test now last [] rest c e p =
    let then_is = time_after now c in
    subst (λ (b : Bool). then_is ≤ last_by test then_is (if b then then_is else last) rest) (sym e)
    (last_grows test then_is then_is rest (omega arith))
last_at test now last (x ∷ before) rest c e p =
    last_at test (time_after now x) (if test x then time_after now x else last) before rest c e
    (chosen (test x) now last (time_after now x) p (goes_on now x))

since_each : (test : IdleCall → Bool) (start : ℕ) (H : List IdleCall) (span : Option ℕ) (now : ℕ) →
    HasPassed (last_by test start start H) span now → SinceEach test start H span now
since_each test start H span now h before rest c e found =
    let found_at = time_of start (before ++ c ∷ []) in
    let least = last_at test start start before rest c found (omega arith) in
    earlier_since found_at (last_by test start start H) span now
    (subst (λ xs. found_at ≤ last_by test start start xs) (sym e) least) h

-- ---- what follows

-- what is due, by tests: it is over, it is open, the peer is silent, a beat is due, it is late
abbrev told : Bool → Bool → Bool → Bool → Bool → Due
told over opened silent beat late =
    if over then Nothing
    else (if opened then (if silent then PeerSilent else (if beat then Beat else Nothing))
    else (if late then OpeningLate else Nothing))

abbrev BeatNeeds : Bool → Bool → Bool → Bool → Bool → Type 0
BeatNeeds e o s b l = told e o s b l ≡ Beat → (o ≡ true) × (b ≡ true)

when_beat : (e o s b l : Bool) → BeatNeeds e o s b l
when_beat true o s b l h = absurd cc
when_beat false true true b l h = absurd cc
when_beat false true false true l h = (refl, refl)
when_beat false true false false l h = absurd cc
when_beat false false s b true h = absurd cc
when_beat false false s b false h = absurd cc

abbrev SilentNeeds : Bool → Bool → Bool → Bool → Bool → Type 0
SilentNeeds e o s b l = told e o s b l ≡ PeerSilent → (o ≡ true) × (s ≡ true)

when_silent : (e o s b l : Bool) → SilentNeeds e o s b l
when_silent true o s b l h = absurd cc
when_silent false true true b l h = (refl, refl)
when_silent false true false true l h = absurd cc
when_silent false true false false l h = absurd cc
when_silent false false s b true h = absurd cc
when_silent false false s b false h = absurd cc

abbrev LateNeeds : Bool → Bool → Bool → Bool → Bool → Type 0
LateNeeds e o s b l = told e o s b l ≡ OpeningLate → (o ≡ false) × (l ≡ true)

when_late : (e o s b l : Bool) → LateNeeds e o s b l
when_late true o s b l h = absurd cc
when_late false true true b l h = absurd cc
when_late false true false true l h = absurd cc
when_late false true false false l h = absurd cc
when_late false false s b true h = (refl, refl)
when_late false false s b false h = absurd cc

abbrev SilentWhere : Bool → Bool → Bool → Bool → Bool → Type 0
SilentWhere e o s b l = e ≡ false → o ≡ true → s ≡ true → told e o s b l ≡ PeerSilent

silent_then : (e o s b l : Bool) → SilentWhere e o s b l
silent_then e o s b l p q r = ap (λ x. told x o s b l) p ∙ ap₂ (λ x y. told false x y b l) q r

abbrev LateWhere : Bool → Bool → Bool → Bool → Bool → Type 0
LateWhere e o s b l = e ≡ false → o ≡ false → l ≡ true → told e o s b l ≡ OpeningLate

late_then : (e o s b l : Bool) → LateWhere e o s b l
late_then e o s b l p q r = ap (λ x. told x o s b l) p ∙ ap₂ (λ x y. told false x s b y) q r

over_then : (e o s b l : Bool) → e ≡ true → told e o s b l ≡ Nothing
over_then e o s b l p = ap (λ x. told x o s b l) p

-- a fact of what is told, at the tests that a history gives
by_tests : (P : Bool → Bool → Bool → Bool → Bool → Type 0) → ((e o s b l : Bool) → P e o s b l) →
    (start : ℕ) (limit : Option ℕ) (before : List IdleCall) (now : ℕ) →
    P (is_ended before) (is_opened before) (has_passed (last_received start before) (ours_of before) now)
    (has_passed (last_sent start before) (halved (peers_of before)) now) (has_passed start limit now)
by_tests P f start limit before now = f _ _ _ _ _

pub beats_where_idle : Always (λ start limit H. BeatsWhereIdle start H)
beats_where_idle start limit H v h before rest t answer e beat =
    let now = max (time_of start before) t in
    let due = tells start limit H v h before rest t answer e in
    let p = by_tests BeatNeeds when_beat start limit before now (sym due ∙ beat) in (
      p.0,
      since_each sends start before (halved (peers_of before)) now
          (passed (last_sent start before) (halved (peers_of before)) now p.1),
    )

pub silent_where_idle : Always (λ start limit H. SilentWhereIdle start H)
silent_where_idle start limit H v h before rest t answer e silent =
    let now = max (time_of start before) t in
    let due = tells start limit H v h before rest t answer e in
    let p = by_tests SilentNeeds when_silent start limit before now (sym due ∙ silent) in (
      p.0,
      since_each receives start before (ours_of before) now
          (passed (last_received start before) (ours_of before) now p.1),
    )

pub silent_at_once : Always (λ start limit H. SilentAtOnce start H)
silent_at_once start limit H v h before rest t answer e over opened long =
    let now = max (time_of start before) t in
    tells start limit H v h before rest t answer e
    ∙ by_tests SilentWhere silent_then start limit before now over opened
    (has_passed_by (last_received start before) (ours_of before) now long)

pub late_openings : Always (λ start limit H. LateOpenings start limit H)
late_openings start limit H v h before rest t answer e =
    let now = max (time_of start before) t in
    let due = tells start limit H v h before rest t answer e in (
      λ late.
          let p = by_tests LateNeeds when_late start limit before now (sym due ∙ late) in
          (p.0, passed start limit now p.1),
      λ over opened long.
          due ∙ by_tests LateWhere late_then start limit before now over opened (has_passed_by start limit now long),
    )

over_by : (start : ℕ) (limit : Option ℕ) (H : List IdleCall) → is_ended H ≡ true → phase_by start limit H ≡ Over
over_by start limit H e =
    ap (λ x. phase_where x (is_opened H) start limit H) e

none_next : (v : IdleView) → v.phase ≡ Over → next_of v ≡ None
none_next v p = ap (λ x. next_in x v.sent v.received) p

pub quiet_after_end : Always (λ start limit H. QuietAfterEnd H)
quiet_after_end start limit H v h before rest over = (of_tick, of_question)
  where
    over_at : (c : IdleCall) (s : Split (new_clock start limit) before c rest v) → s.at.phase ≡ Over
    over_at c s = (stands start limit before s.at s.reached).phase_is ∙ over_by start limit before over

    of_tick : (t : ℕ) (answer : Tick) → H ≡ before ++ Ticks t answer ∷ rest →
        (answer.due ≡ Nothing) × (answer.next ≡ None)
    of_tick t answer e =
        let s = split_of start limit H before rest (Ticks t answer) v h e in
        let now = max (time_of start before) t in (
          tells start limit H v h before rest t answer e
              ∙ by_tests (λ e o s b l. e ≡ true → told e o s b l ≡ Nothing) over_then start limit before now over,
          ap (λ (x : Tick). x.next) s.step.1.0
              ∙ none_next s.next (step_phase s.at s.next (Ticks t answer) s.step
              ∙ over_step s.at s.next (Ticks t answer) (over_at (Ticks t answer) s) s.step),
        )

    of_question : (next : Option ℕ) → H ≡ before ++ AsksNext next ∷ rest → next ≡ None
    of_question next e =
        let s = split_of start limit H before rest (AsksNext next) v h e in
        s.step.0 ∙ none_next s.at (over_at (AsksNext next) s)

pub over_as_ended : (start : ℕ) (limit : Option ℕ) (H : List IdleCall) (v : IdleView) → LeadsTo start limit H v →
    is_over v.phase ≡ is_ended H
over_as_ended start limit H v h = ap is_over (stands start limit H v h.1).phase_is ∙ by (is_ended H) (is_opened H)
  where
    by : (e o : Bool) → is_over (phase_where e o start limit H) ≡ e
    by true o = refl
    by false true = refl
    by false false = refl
