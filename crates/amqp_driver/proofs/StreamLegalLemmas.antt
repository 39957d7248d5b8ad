-- Chains of calls of a stream: the history of its engine.
use Rattle.std.proofs.Common.{◌≡◌, ℕ, List, [], ◌∷◌, ◌++◌, Bool, true, false, if◌then◌else◌, Option, Some, None, refl, sym, ap, subst, ◌∙◌, inl, inr, append_assoc}
use Rattle.std.specs.Prelude.{Result}
use Rattle.std.proofs.lemmas.List.{append-nil}
use Rattle.amqp_types.specs.Open.{OpenModel}
use Rattle.amqp_types.specs.declared.definitions.Role.{Role}
use Rattle.amqp_types.specs.declared.states.ConnectionState.{ConnectionState}
use Rattle.amqp_types.specs.Error.{ErrorModel}
use Rattle.amqp_session.specs.Relay.{Relays}
use Rattle.amqp_session.specs.Settings.{SettingsModel}
use Rattle.amqp_connection.specs.declared.numbers.SessionNo.{SessionNo}
use Rattle.amqp_engine.specs.declared.engine.input.Input.{Input}
use Rattle.amqp_engine.specs.declared.engine.refusal.Refusal.{Refusal}
use Rattle.amqp_engine.specs.Entry.{Entry}
use Rattle.amqp_engine.specs.Legal.{Legal}
use Rattle.amqp_sasl.specs.declared.told.OpeningError.{OpeningError}
use Rattle.amqp_sasl.specs.Opening.{OpeningView, Logs, Challenges, Responds, is_done}
use Rattle.amqp_idle.specs.declared.due.Due.{Due}
use Rattle.amqp_idle.specs.declared.due.Due.TheVariants as due
use Rattle.amqp_idle.specs.declared.due.Tick.{Tick}
use Rattle.amqp_driver.specs.declared.answered.BeginAnswer.{BeginAnswer}
use Rattle.amqp_driver.specs.declared.answered.EndAnswer.{EndAnswer}
use Rattle.amqp_driver.specs.declared.asked.Asked.{Asked}
use Rattle.amqp_driver.specs.declared.asked.Asked.TheVariants as asked
use Rattle.amqp_driver.specs.declared.head.Sent.{Sent}
use Rattle.amqp_driver.specs.declared.head.TransferHead.{TransferHead}
use Rattle.amqp_driver.specs.declared.record.Record.{Record}
use Rattle.amqp_driver.specs.declared.status.Status.{Status}
use Rattle.amqp_driver.specs.declared.status.Status.TheVariants as status
use Rattle.amqp_driver.specs.Driver.{DriverView, NotRun, SendsOnly}
use Rattle.amqp_driver.specs.Laws.{asked_entries, entries_of}
use Rattle.amqp_driver.specs.Requests.{Requests, RunsInput}
use Rattle.amqp_driver.specs.Sending.{Posts, Sends}
use Rattle.amqp_driver.specs.Settling.{Disposes}
use Rattle.amqp_driver.specs.Taking.{Takes, Took}
use Rattle.amqp_driver.specs.Stream.{StreamView, is_over, is_running, waiting}
use Rattle.amqp_driver.specs.StreamTaking.{ClosesFor, ClosesIf, TakesUnless, TakesWhere}
use Rattle.amqp_driver.specs.StreamTicking.{AsksUnless, BeginsUnless, DisposesUnless, DoesDue, EndsUnless, OpensUnless, PostsUnless, TicksUnless, beat_for}
use Rattle.amqp_driver.specs.StreamLife.{Call, Calls, CallsEach}
use Rattle.amqp_driver.specs.StreamLife.{takes, hears, ticks, goes, logs, challenges, responds, asks, posts, disposes, begins, ends, flushes}
use Rattle.amqp_driver.specs.Answering.{begin_entries}
use Rattle.amqp_driver.specs.Ending.{end_entries}
use Rattle.amqp_driver.proofs.AnswerLawLemmas.{begins_go_on, ends_go_on}
use Rattle.amqp_driver.proofs.LawLemmas.{each_goes_on, heads_go_on, input_goes_on, rest_stays, sends_stays}

-- the history goes on, by some entries or none
abbrev pub GoesOn : {R : Type 0} → Relays R → DriverView R → DriverView R → Type 0
GoesOn g d d' = (s : ConnectionState) (o : OpenModel) (H : List (Entry _)) → Legal g s o H d.engine → (es : List (Entry _)) × Legal g s o (H ++ es) d'.engine

by_none : {R : Type 0} (g : Relays R) (d d' : DriverView R) → ((s : ConnectionState) (o : OpenModel) (H : List (Entry R)) → Legal g s o H d.engine → Legal g s o H d'.engine)
    → GoesOn g d d'
by_none g d d' stays s o H l = ([], subst (λ (es : List (Entry _)). Legal g s o es d'.engine) (sym (append-nil H)) (stays s o H l))

same_goes_on : {R : Type 0} (g : Relays R) (d d' : DriverView R) → d' ≡ d → GoesOn g d d'
same_goes_on g d d' same = by_none g d d' (λ s o H l. subst (λ (x : DriverView _). Legal g s o H x.engine) (sym same) l)

then_goes_on : {R : Type 0} (g : Relays R) (d k d' : DriverView R) → GoesOn g d k → GoesOn g k d' → GoesOn g d d'
then_goes_on g d k d' a b s o H l =
    let x = a s o H l in
    let y = b s o (H ++ x.0) x.1 in
    (x.0 ++ y.0, subst (λ (es : List (Entry _)). Legal g s o es d'.engine) (append_assoc H x.0 y.0) y.1)

sends_go_on : {R : Type 0} (g : Relays R) (d d' : DriverView R) → SendsOnly g d d' → GoesOn g d d'
sends_go_on g d d' x = by_none g d d' (sends_stays g d d' x)

not_run_goes_on : {R : Type 0} (g : Relays R) (d d' : DriverView R) → NotRun g d d' → GoesOn g d d'
not_run_goes_on g d d' x = by_none g d d' (rest_stays g d d' (inr x))

input_stays_legal : {R : Type 0} (g : Relays R) (d d' : DriverView R) (i : Input R) (e : Entry R) (returned : List Refusal) → RunsInput g d i e returned d'
    → GoesOn g d d'
input_stays_legal g d d' i e returned r s o H l = (e ∷ [], input_goes_on g d d' i e returned r s o H l)

requests_go_on : {R : Type 0} (g : Relays R) (d : DriverView R) (i : Input R) (a : Asked) (d' : DriverView R) → Requests g d i a d' → GoesOn g d d'
requests_go_on g d i asked.NoMemory d' x = sends_go_on g d d' x.1
requests_go_on g d i asked.Over d' x = absurd x
requests_go_on g d i asked.Done d' x = input_stays_legal g d d' i x.0 x.1 x.2
requests_go_on g d i asked.TooLarge d' x = input_stays_legal g d d' i x.0 x.1 x.2
requests_go_on g d i (asked.Refused e) d' x = input_stays_legal g d d' i x.0 x.1 x.2

closes_go_on : {R : Type 0} (g : Relays R) (condition : List ℕ) (d d' : DriverView R) → ClosesFor g condition d d' → GoesOn g d d'
closes_go_on g condition d d' (inl x) = requests_go_on g d _ x.0 d' x.1
closes_go_on g condition d d' (inr x) = same_goes_on g d d' x.0

closes_if_go_on : {R : Type 0} (g : Relays R) (s : Status) (d d' : DriverView R) → ClosesIf g s d d' → GoesOn g d d'
closes_if_go_on g status.BadSize d d' x = closes_go_on g _ d d' x
closes_if_go_on g status.Done d d' x = same_goes_on g d d' x
closes_if_go_on g status.Full d d' x = same_goes_on g d d' x
closes_if_go_on g status.NoMemory d d' x = same_goes_on g d d' x
closes_if_go_on g status.Short d d' x = same_goes_on g d d' x
closes_if_go_on g status.Again d d' x = same_goes_on g d d' x
closes_if_go_on g status.Waits d d' x = same_goes_on g d d' x
closes_if_go_on g status.Over d d' x = same_goes_on g d d' x
closes_if_go_on g status.TooLarge d d' x = same_goes_on g d d' x

took_goes_on : {R : Type 0} (g : Relays R) (limit : ℕ) (d : DriverView R) (input : List ℕ) (n : ℕ) (old : List Record) (m : ℕ) (wanted : Bool) (d' : DriverView R)
    (new : List Record) → Took g limit d input n old m wanted d' new → GoesOn g d d'
took_goes_on g limit d input n old m wanted d' new t s o H l = (entries_of t.answered, each_goes_on g limit d d' t.answered t.runs s o H l)

takes_go_on : {R : Type 0} (g : Relays R) (limit : ℕ) (d : DriverView R) (input : List ℕ) (old : List Record) (s : Status) (n m k : ℕ) (d' : DriverView R)
    (new : List Record) → Takes g limit d input old s n m k d' new → GoesOn g d d'
takes_go_on g limit d input old status.Done n m k d' new x = took_goes_on g limit d input n old m _ d' new x.0
takes_go_on g limit d input old status.Full n m k d' new x = took_goes_on g limit d input n old m _ d' new x.0
takes_go_on g limit d input old status.BadSize n m k d' new x = took_goes_on g limit d input n old m _ d' new x.0
takes_go_on g limit d input old status.NoMemory n m k d' new x =
    then_goes_on g d x.0 d' (took_goes_on g limit d input n old m _ x.0 new x.1) (not_run_goes_on g x.0 d' x.5)
takes_go_on g limit d input old status.Short n m k d' new x = absurd x
takes_go_on g limit d input old status.Again n m k d' new x = took_goes_on g limit d input n old m _ d' new x.0
takes_go_on g limit d input old status.Waits n m k d' new x = absurd x
takes_go_on g limit d input old status.Over n m k d' new x = took_goes_on g limit d input n old m _ d' new x.0
takes_go_on g limit d input old status.TooLarge n m k d' new x = absurd x

posted_goes_on : {R : Type 0} (g : Relays R) (d : DriverView R) (heads : List TransferHead) (bytes : List ℕ) (old : List Sent) (n used : ℕ)
    (d' : DriverView R) (new : List Sent) → Posts g d heads bytes old n used d' new → GoesOn g d d'
posted_goes_on g d heads bytes old n used d' new t s o H l = (asked_entries t.handled, heads_go_on g d d' None t.handled t.each s o H l)

posts_go_on : {R : Type 0} (g : Relays R) (d : DriverView R) (heads : List TransferHead) (bytes : List ℕ) (old : List Sent) (s : Status) (n used : ℕ)
    (d' : DriverView R) (new : List Sent) → Sends g d heads bytes old s n used d' new → GoesOn g d d'
posts_go_on g d heads bytes old status.Done n used d' new x = posted_goes_on g d heads bytes old n used d' new x.0
posts_go_on g d heads bytes old status.Full n used d' new x = posted_goes_on g d heads bytes old n used d' new x.0
posts_go_on g d heads bytes old status.Short n used d' new x = posted_goes_on g d heads bytes old n used d' new x.1
posts_go_on g d heads bytes old status.NoMemory n used d' new x =
    then_goes_on g d x.1 d' (posted_goes_on g d heads bytes old n used x.1 new x.2) (not_run_goes_on g x.1 d' x.6)
posts_go_on g d heads bytes old status.BadSize n used d' new x = absurd x
posts_go_on g d heads bytes old status.Again n used d' new x = absurd x
posts_go_on g d heads bytes old status.Waits n used d' new x = absurd x
posts_go_on g d heads bytes old status.Over n used d' new x = absurd x
posts_go_on g d heads bytes old status.TooLarge n used d' new x = absurd x

disposes_go_on : {R : Type 0} (g : Relays R) (d : DriverView R) (session : ℕ) (role : Role) (first last : ℕ) (settled : Bool)
    (state : Option (Option (List ℕ))) (answer : Option Asked) (d' : DriverView R) → Disposes g d session role first last settled state answer d'
    → GoesOn g d d'
disposes_go_on g d session role first last settled None answer d' x = same_goes_on g d d' x.1
disposes_go_on g d session role first last settled (Some state) answer d' x = requests_go_on g d _ x.0 d' x.2

-- ---- each call

same_driver : {R : Type 0} (g : Relays R) (v w : StreamView R) → w ≡ v → GoesOn g v.driver w.driver
same_driver g v w same = same_goes_on g v.driver w.driver (ap (λ (x : StreamView _). x.driver) same)

takes_where : {R : Type 0} (is_open : Bool) (g : Relays R) (v : StreamView R) (now : ℕ) (input : List ℕ) (old : List Record) (s : Status) (n m k : ℕ)
    (w : StreamView R) (new : List Record) → TakesWhere is_open g v now input old s n m k w new → GoesOn g v.driver w.driver
takes_where true g v now input old s n m k w new t =
    then_goes_on g v.driver t.between w.driver (takes_go_on g _ v.driver input old s n m k t.between new t.takes)
    (closes_if_go_on g s t.between w.driver t.closes)
takes_where false g v now input [] s n m k w new t = same_driver g v w t.4
takes_where false g v now input (r ∷ rs) s n m k w new t = same_goes_on g v.driver w.driver (ap (λ (x : StreamView _). x.driver) t.rest)

takes_unless : {R : Type 0} (over : Bool) (g : Relays R) (v : StreamView R) (now : ℕ) (input : List ℕ) (old : List Record) (s : Status) (n m k : ℕ)
    (w : StreamView R) (new : List Record) → TakesUnless over g v now input old s n m k w new → GoesOn g v.driver w.driver
takes_unless true g v now input old s n m k w new t = same_driver g v w t.4
takes_unless false g v now input old s n m k w new t = takes_where (is_done v.opening.phase) g v now input old s n m k w new t

if_driver : {R : Type 0} (b : Bool) (v u : StreamView R) → u.driver ≡ v.driver → (if b then u else v).driver ≡ v.driver
if_driver true v u same = same
if_driver false v u same = refl

does_due : {R : Type 0} (g : Relays R) (d : Due) (v w : StreamView R) → DoesDue g d v w → GoesOn g v.driver w.driver
does_due g due.Beat v w t =
    same_goes_on g v.driver w.driver (ap (λ (x : StreamView _). x.driver) t ∙ if_driver (is_running v) v (record v { beat = beat_for (waiting v) v.beat }) refl)
does_due g due.PeerSilent v w t = closes_go_on g _ v.driver w.driver t.0
does_due g due.Nothing v w t = same_driver g v w t
does_due g due.OpeningLate v w t = same_driver g v w t

ticks_unless : {R : Type 0} (over : Bool) (g : Relays R) (v : StreamView R) (now : ℕ) (t : Tick) (w : StreamView R) → TicksUnless over g v now t w
    → GoesOn g v.driver w.driver
ticks_unless true g v now t w x = same_driver g v w x.1
ticks_unless false g v now t w x = does_due g t.due (record v { clock = x.ticked }) w x.does

opens_unless : {R : Type 0} (over : Bool) (g : Relays R) (Does : OpeningView → List ℕ → Result (Unit {0}) OpeningError → List ℕ → OpeningView → Type 0)
    (v : StreamView R) (result : Result (Unit {0}) OpeningError) (w : StreamView R) → OpensUnless over Does v result w → GoesOn g v.driver w.driver
opens_unless true g Does v result w t = same_driver g v w t.1
opens_unless false g Does v result w t = same_goes_on g v.driver w.driver (ap (λ (x : StreamView _). x.driver) t.1)

asks_unless : {R : Type 0} (over : Bool) (g : Relays R) (v : StreamView R) (i : Input R) (a : Asked) (w : StreamView R) → AsksUnless over g v i a w
    → GoesOn g v.driver w.driver
asks_unless true g v i a w x = same_driver g v w x.1
asks_unless false g v i a w x = requests_go_on g v.driver i a w.driver x.0

posts_unless : {R : Type 0} (over : Bool) (g : Relays R) (v : StreamView R) (heads : List TransferHead) (bytes : List ℕ) (old : List Sent) (s : Status)
    (n used : ℕ) (w : StreamView R) (new : List Sent) → PostsUnless over g v heads bytes old s n used w new → GoesOn g v.driver w.driver
posts_unless true g v heads bytes old s n used w new x = same_driver g v w x.3
posts_unless false g v heads bytes old s n used w new x = posts_go_on g v.driver heads bytes old s n used w.driver new x.0

disposes_unless : {R : Type 0} (over : Bool) (g : Relays R) (v : StreamView R) (session : ℕ) (role : Role) (first last : ℕ) (settled : Bool)
    (state : Option (Option (List ℕ))) (answer : Option Asked) (w : StreamView R)
    → DisposesUnless over g v session role first last settled state answer w → GoesOn g v.driver w.driver
disposes_unless true g v session role first last settled state answer w x = same_driver g v w x.1
disposes_unless false g v session role first last settled state answer w x =
    disposes_go_on g v.driver session role first last settled state answer w.driver x.0

begins_unless : {R : Type 0} (over : Bool) (g : Relays R) (v : StreamView R) (frame : List ℕ) (number : SessionNo) (settings : SettingsModel)
    (a : BeginAnswer) (w : StreamView R) → BeginsUnless over g v frame number settings a w → GoesOn g v.driver w.driver
begins_unless true g v frame number settings a w x = same_driver g v w x.1
begins_unless false g v frame number settings a w x = λ s o H l.
    (begin_entries g v.driver frame number settings a w.driver x.0, begins_go_on g v.driver w.driver frame number settings a x.0 s o H l)

ends_unless : {R : Type 0} (over : Bool) (g : Relays R) (v : StreamView R) (n : SessionNo) (error : Option ErrorModel) (a : EndAnswer) (w : StreamView R)
    → EndsUnless over g v n error a w → GoesOn g v.driver w.driver
ends_unless true g v n error a w x = same_driver g v w x.1
ends_unless false g v n error a w x = λ s o H l.
    (end_entries g v.driver n error a w.driver x.0, ends_go_on g v.driver w.driver n error a x.0 s o H l)

gone_legal : {R : Type 0} (g : Relays R) (v w : StreamView R) (n : ℕ) → w.driver.engine ≡ v.driver.engine → GoesOn g v.driver w.driver
gone_legal g v w n same = by_none g v.driver w.driver (λ s o H l. subst (λ (x : _). Legal g s o H x) (sym same) l)

call_goes_on : {R : Type 0} (g : Relays R) (v : StreamView R) (c : Call R) (w : StreamView R) → Calls g v c w → GoesOn g v.driver w.driver
call_goes_on g v (takes now input old s n m k new) w t = takes_unless (is_over v) g v now input old s n m k w new t.1
call_goes_on g v (hears now) w t = same_goes_on g v.driver w.driver (ap (λ (x : StreamView _). x.driver) t.1)
call_goes_on g v (ticks now t) w x = ticks_unless (is_over v) g v now t w x.1
call_goes_on g v (goes n) w t = gone_legal g v w n (ap (λ (x : StreamView _). x.driver.engine) t.1)
call_goes_on g v (logs c additional result) w t = opens_unless (is_over v) g (Logs c additional) v result w t
call_goes_on g v (challenges c result) w t = opens_unless (is_over v) g (Challenges c) v result w t
call_goes_on g v (responds c result) w t = opens_unless (is_over v) g (Responds c) v result w t
call_goes_on g v (asks i a) w t = asks_unless (is_over v) g v i a w t
call_goes_on g v (posts heads bytes old s n used new) w t = posts_unless (is_over v) g v heads bytes old s n used w new t
call_goes_on g v (disposes session role first last settled state answer) w t =
    disposes_unless (is_over v) g v session role first last settled state answer w t
call_goes_on g v (begins frame number settings a) w t = begins_unless (is_over v) g v frame number settings a w t
call_goes_on g v (ends n error a) w t = ends_unless (is_over v) g v n error a w t
call_goes_on g v flushes w t = sends_go_on g v.driver w.driver t.0

pub each_stays_legal : {R : Type 0} (g : Relays R) (v : StreamView R) (cs : List (Call R)) (w : StreamView R) → CallsEach g v cs w → GoesOn g v.driver w.driver
each_stays_legal g v [] w same = same_driver g v w same
each_stays_legal g v (c ∷ cs) w chain =
    then_goes_on g v.driver chain.0.driver w.driver (call_goes_on g v c chain.0 chain.1) (each_stays_legal g chain.0 cs w chain.2)
