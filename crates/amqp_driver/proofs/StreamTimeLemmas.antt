-- Chains of calls of a stream: what its clock is told, and its end.
use Rattle.std.proofs.Common.{◌≡◌, ℕ, zero, suc, ◌<◌, ◌^◌, List, [], ◌∷◌, ◌++◌, Bool, true, false, ◌||◌, if◌then◌else◌, Option, refl, ap, subst, ◌∙◌, arith}
use Rattle.std.specs.Prelude.{Result, Err}
use Rattle.amqp_types.specs.declared.definitions.Role.{Role}
use Rattle.amqp_types.specs.Error.{ErrorModel}
use Rattle.amqp_session.specs.Relay.{Relays}
use Rattle.amqp_session.specs.Settings.{SettingsModel}
use Rattle.amqp_connection.specs.declared.numbers.SessionNo.{SessionNo}
use Rattle.amqp_connection.specs.Connection.{ConnectionView}
use Rattle.amqp_engine.specs.declared.engine.input.Input.{Input}
use Rattle.amqp_engine.specs.Entry.{Entry}
use Rattle.amqp_engine.specs.Promise.{inputs_of}
use Rattle.amqp_engine.specs.History.{Chain}
use Rattle.amqp_sasl.specs.declared.told.OpeningError.{OpeningError}
use Rattle.amqp_sasl.specs.declared.told.OpeningError.TheVariants as no
use Rattle.amqp_sasl.specs.Opening.{OpeningView, Logs, Challenges, Responds, is_done, is_over as is_shut}
use Rattle.amqp_idle.specs.declared.due.Due.{Due}
use Rattle.amqp_idle.specs.declared.due.Due.TheVariants as due
use Rattle.amqp_idle.specs.declared.due.Tick.{Tick}
use Rattle.amqp_idle.specs.Idle.{IdleView, TickStep, is_over as is_late}
use Rattle.amqp_idle.specs.History.{IdleCall, IdleChain, Opens, Receives, Sends, Ticks}
use Rattle.amqp_driver.specs.declared.answered.BeginAnswer.{BeginAnswer}
use Rattle.amqp_driver.specs.declared.answered.EndAnswer.{EndAnswer}
use Rattle.amqp_driver.specs.declared.asked.Asked.{Asked}
use Rattle.amqp_driver.specs.declared.head.Sent.{Sent}
use Rattle.amqp_driver.specs.declared.head.TransferHead.{TransferHead}
use Rattle.amqp_driver.specs.declared.record.Record.{Record}
use Rattle.amqp_driver.specs.declared.status.Status.{Status}
use Rattle.amqp_driver.specs.Driver.{DriverView, SendsOnly}
use Rattle.amqp_driver.specs.Stream.{StreamView, is_closed, is_over, is_running, having_sent, sent_some, waiting}
use Rattle.amqp_driver.specs.StreamTaking.{TakesUnless, TakesWhere, heard}
use Rattle.amqp_driver.specs.StreamTicking.{AsksUnless, BeginsUnless, DisposesUnless, DoesDue, EndsUnless, OpensUnless, PostsUnless, TellsOpened, TicksUnless, beat_for, time_out_of}
use Rattle.amqp_driver.specs.StreamLife.{Call, Calls, CallsEach, IsTimeOf, AreTimesOf, TimeIsTold, IsQuiet, StaysOver}
use Rattle.amqp_driver.specs.StreamLife.{takes, hears, ticks, goes, logs, challenges, responds, asks, posts, disposes, begins, ends, flushes}

-- ---- what a call tells the clock

abbrev pub Times : {R : Type 0} → StreamView R → Call R → StreamView R → Type 0
Times v c w = (own : List IdleCall) × IsTimeOf c own × IdleChain v.clock own w.clock

heard_times : {R : Type 0} (n now : ℕ) (v w : StreamView R) (input : List ℕ) (old : List Record) (s : Status) (m k : ℕ) (new : List Record)
    → now < 2 ^ 64 → w.clock ≡ heard n now v.clock → Times v (takes now input old s n m k new) w
heard_times zero now v w input old s m k new small e = ([], refl, e)
heard_times (suc n) now v w input old s m k new small e = (Receives now ∷ [], (refl, omega arith), (w.clock, (small, e), refl))

takes_times : {R : Type 0} (is_open : Bool) (g : Relays R) (v : StreamView R) (now : ℕ) (input : List ℕ) (old : List Record) (s : Status) (n m k : ℕ)
    (w : StreamView R) (new : List Record) → now < 2 ^ 64 → TakesWhere is_open g v now input old s n m k w new → Times v (takes now input old s n m k new) w
takes_times true g v now input old s n m k w new small t = heard_times n now v w input old s m k new small (ap (λ (x : StreamView _). x.clock) t.rest)
takes_times false g v now input [] s n m k w new small t = ([], t.1, ap (λ (x : StreamView _). x.clock) t.4)
takes_times false g v now input (r ∷ rs) s n m k w new small t =
    heard_times n now v w input (r ∷ rs) s m k new small (ap (λ (x : StreamView _). x.clock) t.rest)

unless_times : {R : Type 0} (over : Bool) (g : Relays R) (v : StreamView R) (now : ℕ) (input : List ℕ) (old : List Record) (s : Status) (n m k : ℕ)
    (w : StreamView R) (new : List Record) → now < 2 ^ 64 → TakesUnless over g v now input old s n m k w new → Times v (takes now input old s n m k new) w
unless_times true g v now input old s n m k w new small t = ([], t.1, ap (λ (x : StreamView _). x.clock) t.4)
unless_times false g v now input old s n m k w new small t = takes_times (is_done v.opening.phase) g v now input old s n m k w new small t

if_clock : {R : Type 0} (b : Bool) (v u : StreamView R) → u.clock ≡ v.clock → (if b then u else v).clock ≡ v.clock
if_clock true v u same = same
if_clock false v u same = refl

due_clock : {R : Type 0} (g : Relays R) (d : Due) (v w : StreamView R) → DoesDue g d v w → w.clock ≡ v.clock
due_clock g due.Beat v w t =
    ap (λ (x : StreamView _). x.clock) t
    ∙ if_clock (is_running v) v (record v { beat = beat_for (waiting v) v.beat }) refl
due_clock g due.PeerSilent v w t = ap (λ (x : StreamView _). x.clock) t.1
due_clock g due.Nothing v w t = ap (λ (x : StreamView _). x.clock) t
due_clock g due.OpeningLate v w t = ap (λ (x : StreamView _). x.clock) t

tick_times : {R : Type 0} (opened : Bool) (c : ConnectionView) (v w : StreamView R) (now : ℕ) (t : Tick) (between after : IdleView) → now < 2 ^ 64
    → TellsOpened opened c now v.clock between → TickStep between now t after → w.clock ≡ after → Times v (ticks now t) w
tick_times false c v w now t between after small tells step same =
    (Ticks now t ∷ [], (refl, refl), (after, (small, subst (λ (x : IdleView). TickStep x now t after) tells step), same))
tick_times true c v w now t between after small tells step same = (
  Opens now c.local_open.idle_time_out (time_out_of c.remote_open) tells.0 ∷ Ticks now t ∷ [],
  (refl, refl, refl),
  (between, (small, tells.1), (after, (small, step), same)),
)

ticks_times : {R : Type 0} (over : Bool) (g : Relays R) (v : StreamView R) (now : ℕ) (t : Tick) (w : StreamView R) → now < 2 ^ 64
    → TicksUnless over g v now t w → Times v (ticks now t) w
ticks_times true g v now t w small x = ([], x.0, ap (λ (y : StreamView _). y.clock) x.1)
ticks_times false g v now t w small x =
    tick_times _ v.driver.engine.connection v w now t x.opened x.ticked small x.tells x.ticks (due_clock g t.due (record v { clock = x.ticked }) w x.does)

goes_times : {R : Type 0} (n : ℕ) (v w : StreamView R) → w.clock ≡ sent_some n v.clock → Times v (goes n) w
goes_times zero v w e = ([], refl, e)
goes_times (suc n) v w e = (Sends 0 ∷ [], (refl, omega arith), (w.clock, (omega arith, e), refl))

opens_clock : {R : Type 0} (over : Bool) (Does : OpeningView → List ℕ → Result (Unit {0}) OpeningError → List ℕ → OpeningView → Type 0) (v : StreamView R)
    (result : Result (Unit {0}) OpeningError) (w : StreamView R) → OpensUnless over Does v result w → w.clock ≡ v.clock
opens_clock true Does v result w t = ap (λ (x : StreamView _). x.clock) t.1
opens_clock false Does v result w t = ap (λ (x : StreamView _). x.clock) t.1

asks_clock : {R : Type 0} (over : Bool) (g : Relays R) (v : StreamView R) (i : Input R) (a : Asked) (w : StreamView R) → AsksUnless over g v i a w
    → w.clock ≡ v.clock
asks_clock true g v i a w x = ap (λ (y : StreamView _). y.clock) x.1
asks_clock false g v i a w x = ap (λ (y : StreamView _). y.clock) x.1

posts_clock : {R : Type 0} (over : Bool) (g : Relays R) (v : StreamView R) (heads : List TransferHead) (bytes : List ℕ) (old : List Sent) (s : Status)
    (n used : ℕ) (w : StreamView R) (new : List Sent) → PostsUnless over g v heads bytes old s n used w new → w.clock ≡ v.clock
posts_clock true g v heads bytes old s n used w new x = ap (λ (y : StreamView _). y.clock) x.3
posts_clock false g v heads bytes old s n used w new x = ap (λ (y : StreamView _). y.clock) x.1

disposes_clock : {R : Type 0} (over : Bool) (g : Relays R) (v : StreamView R) (session : ℕ) (role : Role) (first last : ℕ) (settled : Bool)
    (state : Option (Option (List ℕ))) (answer : Option Asked) (w : StreamView R)
    → DisposesUnless over g v session role first last settled state answer w → w.clock ≡ v.clock
disposes_clock true g v session role first last settled state answer w x = ap (λ (y : StreamView _). y.clock) x.1
disposes_clock false g v session role first last settled state answer w x = ap (λ (y : StreamView _). y.clock) x.1

begins_clock : {R : Type 0} (over : Bool) (g : Relays R) (v : StreamView R) (frame : List ℕ) (number : SessionNo) (settings : SettingsModel)
    (a : BeginAnswer) (w : StreamView R) → BeginsUnless over g v frame number settings a w → w.clock ≡ v.clock
begins_clock true g v frame number settings a w x = ap (λ (y : StreamView _). y.clock) x.1
begins_clock false g v frame number settings a w x = ap (λ (y : StreamView _). y.clock) x.1

ends_clock : {R : Type 0} (over : Bool) (g : Relays R) (v : StreamView R) (n : SessionNo) (error : Option ErrorModel) (a : EndAnswer) (w : StreamView R)
    → EndsUnless over g v n error a w → w.clock ≡ v.clock
ends_clock true g v n error a w x = ap (λ (y : StreamView _). y.clock) x.1
ends_clock false g v n error a w x = ap (λ (y : StreamView _). y.clock) x.1

call_times : {R : Type 0} (g : Relays R) (v : StreamView R) (c : Call R) (w : StreamView R) → Calls g v c w → Times v c w
call_times g v (takes now input old s n m k new) w t = unless_times (is_over v) g v now input old s n m k w new t.0 t.1
call_times g v (hears now) w t = (Receives now ∷ [], refl, (w.clock, (t.0, ap (λ (x : StreamView _). x.clock) t.1), refl))
call_times g v (ticks now t) w x = ticks_times (is_over v) g v now t w x.0 x.1
call_times g v (goes n) w t = goes_times n v w (ap (λ (x : StreamView _). x.clock) t.1)
call_times g v (logs c additional result) w t = ([], tt, opens_clock (is_over v) (Logs c additional) v result w t)
call_times g v (challenges c result) w t = ([], tt, opens_clock (is_over v) (Challenges c) v result w t)
call_times g v (responds c result) w t = ([], tt, opens_clock (is_over v) (Responds c) v result w t)
call_times g v (asks i a) w t = ([], tt, asks_clock (is_over v) g v i a w t)
call_times g v (posts heads bytes old s n used new) w t = ([], tt, posts_clock (is_over v) g v heads bytes old s n used w new t)
call_times g v (disposes session role first last settled state answer) w t =
    ([], tt, disposes_clock (is_over v) g v session role first last settled state answer w t)
call_times g v (begins frame number settings a) w t = ([], tt, begins_clock (is_over v) g v frame number settings a w t)
call_times g v (ends n error a) w t = ([], tt, ends_clock (is_over v) g v n error a w t)
call_times g v flushes w t = ([], tt, ap (λ (x : StreamView _). x.clock) t.1)

idle_append : (v m w : IdleView) (es fs : List IdleCall) → IdleChain v es m → IdleChain m fs w → IdleChain v (es ++ fs) w
idle_append v m w [] fs c rest = subst (λ (x : IdleView). IdleChain x fs w) c rest
idle_append v m w (e ∷ es) fs c rest = (c.0, c.1, idle_append c.0 m w es fs c.2 rest)

each_times : {R : Type 0} (g : Relays R) (v : StreamView R) (cs : List (Call R)) (w : StreamView R) → CallsEach g v cs w
    → (H : List IdleCall) × AreTimesOf cs H × IdleChain v.clock H w.clock
each_times g v [] w e = ([], refl, ap (λ (x : StreamView _). x.clock) e)
each_times g v (c ∷ cs) w e =
    let first = call_times g v c e.0 e.1 in
    let rest = each_times g e.0 cs w e.2 in
    (first.0 ++ rest.0, (first.0, rest.0, refl, first.1, rest.1), idle_append v.clock e.0.clock w.clock first.0 rest.0 first.2 rest.2)

pub time_is_told : {R : Type 0} (g : Relays R) → TimeIsTold g
time_is_told g opening start limit hash o v w cs small b chain =
    let H = each_times g v cs w chain in
    (H.0, H.1, (small, subst (λ (x : IdleView). IdleChain x H.0 w.clock) (ap (λ (x : StreamView _). x.clock) b.1) H.2))

-- ---- the end

-- a run of no input has no entry
no_entries : {R : Type 0} (es : List (Entry R)) → [] ≡ inputs_of es ++ [] → es ≡ []
no_entries [] e = refl
no_entries (x ∷ es) e = let k : [] ≡ x.input ∷ (inputs_of es ++ []) = e in absurd cc

-- what waits is sent, and the connection is as it was
sends_state : {R : Type 0} (g : Relays R) (d d' : DriverView R) → SendsOnly g d d' → d'.engine.connection ≡ d.engine.connection
sends_state g d d' x =
    let ran = x.1.1 in
    let stays : Chain g d.engine [] d'.engine =
    subst (λ (es : List (Entry _)). Chain g d.engine es d'.engine) (no_entries ran.entries ran.promise.taken) ran.steps in
    stays.connection_is

sent_over : {R : Type 0} (n : ℕ) (v : StreamView R) → is_over (having_sent n v) ≡ is_over v
sent_over zero v = refl
sent_over (suc n) v = refl

heard_over : {R : Type 0} (now : ℕ) (v : StreamView R) → is_over (record v { clock = heard 1 now v.clock }) ≡ is_over v
heard_over now v = refl

same_over : {R : Type 0} (v w : StreamView R) → w ≡ v → is_over v ≡ true → is_over w ≡ true
same_over v w same over = ap (λ (x : StreamView _). is_over x) same ∙ over

flush_over : {R : Type 0} (v : StreamView R) (d : DriverView R) → d.engine.connection ≡ v.driver.engine.connection
    → is_over (record v { driver = d }) ≡ is_over v
flush_over v d same =
    ap (λ (c : ConnectionView). is_shut v.opening.phase || (is_late v.clock.phase || (v.is_bad || is_closed c.state))) same

takes_quiet : {R : Type 0} (g : Relays R) (v : StreamView R) (now : ℕ) (input : List ℕ) (old : List Record) (s : Status) (n m k : ℕ)
    (w : StreamView R) (new : List Record) → is_over v ≡ true → TakesUnless true g v now input old s n m k w new
    → (is_over w ≡ true) × IsQuiet {R = R} (takes now input old s n m k new)
takes_quiet g v now input old s n m k w new over t = (same_over v w t.4 over, (t.0, t.1, t.2, t.5))

opens_quiet : {R : Type 0} (Does : OpeningView → List ℕ → Result (Unit {0}) OpeningError → List ℕ → OpeningView → Type 0) (v : StreamView R)
    (result : Result (Unit {0}) OpeningError) (w : StreamView R) → is_over v ≡ true → OpensUnless (is_over v) Does v result w
    → (is_over w ≡ true) × (result ≡ Err no.WrongTime)
opens_quiet Does v result w over t =
    let u : OpensUnless true Does v result w = subst (λ (b : Bool). OpensUnless b Does v result w) over t in (same_over v w u.1 over, u.0)

call_over : {R : Type 0} (g : Relays R) (v : StreamView R) (c : Call R) (w : StreamView R) → is_over v ≡ true → Calls g v c w
    → (is_over w ≡ true) × IsQuiet c
call_over g v (takes now input old s n m k new) w over t =
    takes_quiet g v now input old s n m k w new over (subst (λ (b : Bool). TakesUnless b g v now input old s n m k w new) over t.1)
call_over g v (hears now) w over t = (ap (λ (x : StreamView _). is_over x) t.1 ∙ heard_over now v ∙ over, tt)
call_over g v (ticks now t) w over x =
    let u : TicksUnless true g v now t w = subst (λ (b : Bool). TicksUnless b g v now t w) over x.1 in (same_over v w u.1 over, u.0)
call_over g v (goes n) w over t = (ap (λ (x : StreamView _). is_over x) t.1 ∙ sent_over n v ∙ over, tt)
call_over g v (logs c additional result) w over t = opens_quiet (Logs c additional) v result w over t
call_over g v (challenges c result) w over t = opens_quiet (Challenges c) v result w over t
call_over g v (responds c result) w over t = opens_quiet (Responds c) v result w over t
call_over g v (asks i a) w over t =
    let u : AsksUnless true g v i a w = subst (λ (b : Bool). AsksUnless b g v i a w) over t in (same_over v w u.1 over, u.0)
call_over g v (posts heads bytes old s n used new) w over t =
    let u : PostsUnless true g v heads bytes old s n used w new = subst (λ (b : Bool). PostsUnless b g v heads bytes old s n used w new) over t in
    (same_over v w u.3 over, (u.0, u.1, u.4))
call_over g v (disposes session role first last settled state answer) w over t =
    let u : DisposesUnless true g v session role first last settled state answer w =
    subst (λ (b : Bool). DisposesUnless b g v session role first last settled state answer w) over t in
    (same_over v w u.1 over, u.0)
call_over g v (begins frame number settings a) w over t =
    let u : BeginsUnless true g v frame number settings a w = subst (λ (b : Bool). BeginsUnless b g v frame number settings a w) over t in
    (same_over v w u.1 over, u.0)
call_over g v (ends n error a) w over t =
    let u : EndsUnless true g v n error a w = subst (λ (b : Bool). EndsUnless b g v n error a w) over t in (same_over v w u.1 over, u.0)
call_over g v flushes w over t =
    (ap (λ (x : StreamView _). is_over x) t.1 ∙ flush_over v w.driver (sends_state g v.driver w.driver t.0) ∙ over, tt)

pub stays_over : {R : Type 0} (g : Relays R) → StaysOver g
stays_over g v w [] over chain = (same_over v w chain over, tt)
stays_over g v w (c ∷ cs) over chain =
    let first = call_over g v c chain.0 over chain.1 in
    let rest = stays_over g chain.0 w cs first.0 chain.2 in
    (rest.0, (first.1, rest.1))
