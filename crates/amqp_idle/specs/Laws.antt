-- Part: other calls.
-- What holds of every history of a clock (AMQP 1.0 part 2, section 2.4.5).
use Rattle.std.specs.Prelude.{ℕ, ◌+◌, ◌<◌, ◌≤◌, ◌≡◌, ◌||◌, not, ⊤, max, nat_le, Bool, true, false}
use Rattle.std.specs.Prelude.{List, [], ◌∷◌, ◌++◌, Option, Some, None, if◌then◌else◌}
use Rattle.amqp_idle.specs.declared.due.Due.{Due}
use Rattle.amqp_idle.specs.declared.due.Due.TheVariants.{Nothing, Beat, OpeningLate, PeerSilent}
use Rattle.amqp_idle.specs.declared.due.Tick.{Tick}
use Rattle.amqp_idle.specs.Idle.{halved, has_passed}
use Rattle.amqp_idle.specs.History.{IdleCall, time_after, time_of, last_sent, last_received, sends, receives}
use Rattle.amqp_idle.specs.History.{is_opened, ours_of, peers_of, is_ended}
use Rattle.amqp_idle.specs.History.{Opens, Ticks, AsksNext}

-- of each call of a history, and the calls before it
abbrev pub Each : List IdleCall → (List IdleCall → IdleCall → Type 0) → Type 0
Each H P = (before after : List IdleCall) (c : IdleCall) → H ≡ before ++ c ∷ after → P before c

-- of each tick of a history, the calls before it, its time and its answer
abbrev pub EachTick : ℕ → List IdleCall → (List IdleCall → ℕ → Tick → Type 0) → Type 0
EachTick start H P = (before after : List IdleCall) (t : ℕ) (answer : Tick) →
    H ≡ before ++ Ticks t answer ∷ after → P before (max (time_of start before) t) answer

-- what is due at a time of a connection that is open, by the calls before
abbrev pub due_when_open : ℕ → List IdleCall → ℕ → Due
due_when_open start before now =
    if has_passed (last_received start before) (ours_of before) now then PeerSilent
    else (if has_passed (last_sent start before) (halved (peers_of before)) now then Beat else Nothing)

-- what is due at a time, by the calls before
abbrev pub due_by : ℕ → Option ℕ → List IdleCall → ℕ → Due
due_by start limit before now =
    if is_ended before then Nothing
    else (if is_opened before then due_when_open start before now
    else (if has_passed start limit now then OpeningLate else Nothing))

-- each tick tells what is due by the calls before it
abbrev pub TellsWhatIsDue : ℕ → Option ℕ → List IdleCall → Type 0
TellsWhatIsDue start limit H = EachTick start H (λ before now answer. answer.due ≡ due_by start limit before now)

-- an opening is taken where none was before, and the clock is not over
abbrev pub OpensOnce : List IdleCall → Type 0
OpensOnce H = (before after : List IdleCall) (t : ℕ) (ours peers : Option ℕ) (taken : Bool) →
    H ≡ before ++ Opens t ours peers taken ∷ after → taken ≡ not (is_ended before || is_opened before)

-- a time at which so long has passed since another one
abbrev pub HasPassed : ℕ → Option ℕ → ℕ → Type 0
HasPassed since None now = ⊥
HasPassed since (Some span) now = since + span ≤ now

-- a time at which no more has passed
abbrev pub NoMoreThan : ℕ → Option ℕ → ℕ → Type 0
NoMoreThan since None now = ⊤
NoMoreThan since (Some span) now = now ≤ since + span

-- so long has passed at a time since each of these calls that a test finds
abbrev pub SinceEach : (IdleCall → Bool) → ℕ → List IdleCall → Option ℕ → ℕ → Type 0
SinceEach test start H span now = (before after : List IdleCall) (c : IdleCall) →
    H ≡ before ++ c ∷ after → test c ≡ true → HasPassed (time_of start (before ++ c ∷ [])) span now

-- A beat is told only where nothing was sent for at least half of the peer's time-out: no frame, and no other beat.
abbrev pub BeatsWhereIdle : ℕ → List IdleCall → Type 0
BeatsWhereIdle start H = EachTick start H (λ before now answer. answer.due ≡ Beat →
    (is_opened before ≡ true) × SinceEach sends start before (halved (peers_of before)) now)

-- The peer is told to be silent only where nothing was received for as long as this side's time-out.
abbrev pub SilentWhereIdle : ℕ → List IdleCall → Type 0
SilentWhereIdle start H = EachTick start H (λ before now answer. answer.due ≡ PeerSilent →
    (is_opened before ≡ true) × SinceEach receives start before (ours_of before) now)

-- It is told at once: at the first tick at which so long has passed.
abbrev pub SilentAtOnce : ℕ → List IdleCall → Type 0
SilentAtOnce start H = EachTick start H (λ before now answer. is_ended before ≡ false → is_opened before ≡ true →
    HasPassed (last_received start before) (ours_of before) now → answer.due ≡ PeerSilent)

-- The opening is told to be late only where it was not over within the limit, and then at once.
abbrev pub LateOpenings : ℕ → Option ℕ → List IdleCall → Type 0
LateOpenings start limit H = EachTick start H (λ before now answer.
    (answer.due ≡ OpeningLate → (is_opened before ≡ false) × HasPassed start limit now)
    × (is_ended before ≡ false → is_opened before ≡ false → HasPassed start limit now → answer.due ≡ OpeningLate))

-- After one of these two nothing is told, and no tick is wanted.
abbrev pub QuietAfterEnd : List IdleCall → Type 0
QuietAfterEnd H = (before after : List IdleCall) → is_ended before ≡ true →
    ((t : ℕ) (answer : Tick) → H ≡ before ++ Ticks t answer ∷ after → (answer.due ≡ Nothing) × (answer.next ≡ None))
    × ((next : Option ℕ) → H ≡ before ++ AsksNext next ∷ after → next ≡ None)

-- When a tick was said to be wanted: what was answered last, by a tick or a question; right after the opening, at
-- once.
abbrev pub said_after : ℕ → Option ℕ → IdleCall → Option ℕ
said_after now said (Ticks t answer) = answer.next
said_after now said (AsksNext next) = next
said_after now said (Opens t ours peers taken) = if taken then Some (max now t) else said
said_after now said c = said

abbrev pub said_by : ℕ → Option ℕ → List IdleCall → Option ℕ
said_by now said [] = said
said_by now said (c ∷ cs) = said_by (time_after now c) (said_after now said c) cs

-- not after a time that was said
abbrev pub IsBy : Option ℕ → ℕ → Type 0
IsBy None now = ⊤
IsBy (Some said) now = now ≤ said

-- of each call of a history, the calls before it, and its time
abbrev pub EachTime : ℕ → List IdleCall → (List IdleCall → ℕ → Type 0) → Type 0
EachTime start H P = Each H (λ before c. P before (time_after (time_of start before) c))

-- each call comes no later than the tick that was wanted last
abbrev pub OnTime : ℕ → List IdleCall → Type 0
OnTime start H = EachTime start H (λ before now. IsBy (said_by start None before) now)

-- Where calls come on time, no more than half of the peer's time-out passes from one thing that is sent to the next
-- one, and from the last one to the end: at each call no more has passed since what was sent last before it.
abbrev pub BeatsInTime : ℕ → List IdleCall → Type 0
BeatsInTime start H = OnTime start H → EachTime start H (λ before now. is_ended before ≡ false →
    NoMoreThan (last_sent start before) (halved (peers_of before)) now
    × NoMoreThan (last_sent start before) (peers_of before) now)

-- Where calls come on time, it is told that the peer is silent before nothing was received for longer than this side's
-- time-out.
abbrev pub SilentInTime : ℕ → List IdleCall → Type 0
SilentInTime start H = OnTime start H → EachTime start H (λ before now. is_ended before ≡ false →
    NoMoreThan (last_received start before) (ours_of before) now)

-- something is told
abbrev pub is_told : Due → Bool
is_told Nothing = false
is_told due = true

-- a time is not before one that was said
abbrev pub has_come : Option ℕ → ℕ → Bool
has_come None now = false
has_come (Some said) now = nat_le said now

-- after a time, or not said
abbrev pub IsAfter : Option ℕ → ℕ → Type 0
IsAfter None now = ⊤
IsAfter (Some said) now = now < said

-- What a tick answers as the next time is when something is due, if nothing else happens: it is to come, a tick before
-- it tells nothing and says the same time again, and one at that time or after it tells something.
abbrev pub NextIsExact : ℕ → List IdleCall → Type 0
NextIsExact start H = (before after : List IdleCall) (t : ℕ) (answer : Tick) → H ≡ before ++ Ticks t answer ∷ after →
    IsAfter answer.next (max (time_of start before) t)
    × ((rest : List IdleCall) (u : ℕ) (told : Tick) → after ≡ Ticks u told ∷ rest →
    (is_told told.due ≡ has_come answer.next u) × (told.due ≡ Nothing → told.next ≡ answer.next))

-- The same of what is answered to a question, where that time may have come already.
abbrev pub AnswerIsExact : ℕ → List IdleCall → Type 0
AnswerIsExact start H = (before after : List IdleCall) (next : Option ℕ) (u : ℕ) (told : Tick) →
    H ≡ before ++ AsksNext next ∷ Ticks u told ∷ after →
    (is_told told.due ≡ has_come next (max (time_of start before) u)) × (told.due ≡ Nothing → told.next ≡ next)
