-- Chains of calls of a stream: what each does with its opening.
use Rattle.std.proofs.Common.{◌≡◌, ℕ, List, [], ◌∷◌, ◌++◌, Bool, true, false, if◌then◌else◌, Option, Some, None, refl, sym, ap, subst, ◌∙◌}
use Rattle.std.specs.Prelude.{Result, Ok, Err}
use Rattle.std.proofs.lemmas.List.{append-nil}
use Rattle.amqp_types.specs.Error.{ErrorModel}
use Rattle.amqp_session.specs.Relay.{Relays}
use Rattle.amqp_session.specs.Settings.{SettingsModel}
use Rattle.amqp_connection.specs.declared.numbers.SessionNo.{SessionNo}
use Rattle.amqp_types.specs.declared.definitions.Role.{Role}
use Rattle.amqp_engine.specs.declared.engine.input.Input.{Input}
use Rattle.amqp_idle.specs.declared.due.Due.{Due}
use Rattle.amqp_idle.specs.declared.due.Due.TheVariants as due
use Rattle.amqp_idle.specs.declared.due.Tick.{Tick}
use Rattle.amqp_sasl.specs.declared.body.SaslCode.{SaslCode}
use Rattle.amqp_sasl.specs.declared.opening.Phase.{Phase}
use Rattle.amqp_sasl.specs.declared.opening.Phase.TheVariants as phase
use Rattle.amqp_sasl.specs.declared.told.Taken.{Taken as SaslTaken}
use Rattle.amqp_sasl.specs.declared.told.Told.TheVariants as told
use Rattle.amqp_sasl.specs.declared.told.OpeningError.{OpeningError}
use Rattle.amqp_sasl.specs.declared.told.OpeningError.TheVariants as no
use Rattle.amqp_sasl.specs.Opening.{OpeningView, Move, Does, Calls as OpensBy, Logs, Challenges, Responds, TakesAt, fresh, is_done, on_header, on_frame, stays, login_at, challenge_at, response_at}
use Rattle.amqp_sasl.specs.History.{Entry, begun, took, logged, challenged, responded, sent, Called, Chain, OpensByLogin}
use Rattle.amqp_driver.specs.declared.answered.BeginAnswer.{BeginAnswer}
use Rattle.amqp_driver.specs.declared.answered.EndAnswer.{EndAnswer}
use Rattle.amqp_driver.specs.declared.asked.Asked.{Asked}
use Rattle.amqp_driver.specs.declared.head.Sent.{Sent}
use Rattle.amqp_driver.specs.declared.head.TransferHead.{TransferHead}
use Rattle.amqp_driver.specs.declared.record.Record.{Record}
use Rattle.amqp_driver.specs.declared.status.Status.{Status}
use Rattle.amqp_driver.specs.Stream.{StreamView, is_over, is_running, waiting}
use Rattle.amqp_driver.specs.StreamTaking.{TakesUnless, TakesWhere, TakesThing}
use Rattle.amqp_driver.specs.StreamTicking.{AsksUnless, BeginsUnless, DisposesUnless, DoesDue, EndsUnless, OpensUnless, PostsUnless, TicksUnless, beat_for}
use Rattle.amqp_driver.specs.StreamLife.{Call, Calls, CallsEach, IsOpeningOf, AreOpeningsOf, RunsFrames, FramesComeAfter}
use Rattle.amqp_driver.specs.StreamLife.{takes, hears, ticks, goes, logs, challenges, responds, asks, posts, disposes, begins, ends, flushes}

-- ---- what a call of the opening appends

appended : {X : Type 0} (m : Move) (v : OpeningView) (old : List ℕ) (result : Result X OpeningError) (new : List ℕ) (w : OpeningView)
    → Does m v old result new w → (out : List ℕ) × (new ≡ old ++ out)
appended m v old (Ok x) new w d = (m.frame ++ m.header, d.0.0)
appended m v old (Err no.TooLarge) new w d = ([], d.0.0 ∙ sym (append-nil old))
appended m v old (Err no.OutOfMemory) new w d = ([], d.0.0 ∙ sym (append-nil old))
appended m v old (Err no.WrongTime) new w d = absurd d.0

pub called : (m : Option Move) (v : OpeningView) (old : List ℕ) (result : Result (Unit {0}) OpeningError) (new : List ℕ) (w : OpeningView)
    → OpensBy m v old result new w → (out : List ℕ) × (new ≡ old ++ out)
called (Some m) v old result new w d = appended m v old result new w d
called None v old result new w d = ([], d.1 ∙ sym (append-nil old))

pub took_some : (p : Phase) (v : OpeningView) (input old : List ℕ) (result : Result SaslTaken OpeningError) (new : List ℕ) (w : OpeningView)
    → TakesAt p v input old result new w → (out : List ℕ) × (new ≡ old ++ out)
took_some phase.Fresh v input old result new w t = ([], t.1 ∙ sym (append-nil old))
took_some phase.AwaitsHeader v input old result new w t = appended (on_header v t.0).move v old result new w t.2.0
took_some phase.AwaitsAmqp v input old result new w t = appended (on_header v t.0).move v old result new w t.2.0
took_some phase.AsksLogin v input old result new w t = appended (stays v.phase told.Waits).move v old result new w t.0
took_some phase.AsksResponse v input old result new w t = appended (stays v.phase told.Waits).move v old result new w t.0
took_some phase.Open v input old result new w t = appended (stays v.phase told.Ended).move v old result new w t.0
took_some phase.Over v input old result new w t = appended (stays v.phase told.Ended).move v old result new w t.0
took_some phase.AwaitsMechanisms v input old result new w t = appended (on_frame v input t.0).move v old result new w t.2.0
took_some phase.AwaitsOutcome v input old result new w t = appended (on_frame v input t.0).move v old result new w t.2.0
took_some phase.AwaitsInit v input old result new w t = appended (on_frame v input t.0).move v old result new w t.2.0
took_some phase.AwaitsResponse v input old result new w t = appended (on_frame v input t.0).move v old result new w t.2.0

-- ---- what a call does with the opening

abbrev pub Opens : {R : Type 0} → StreamView R → Call R → StreamView R → Type 0
Opens v c w = (es : List Entry) × IsOpeningOf c es × Chain v.opening es w.opening

-- nothing
none : {R : Type 0} (v : StreamView R) (c : Call R) (w : StreamView R) → w.opening ≡ v.opening → Opens v c w
none v c w same = ([], tt, same)

taken : {R : Type 0} (v : StreamView R) (now : ℕ) (input : List ℕ) (old : List Record) (s : Status) (n m k : ℕ) (w : StreamView R) (new : List Record)
    → TakesThing v now input old s n m k w new → Opens v (takes now input old s n m k new) w
taken v now input old s n m k w new t =
    let some = took_some v.opening.phase v.opening input v.first t.result w.first w.opening t.took in
    (took input t.result some.0 ∷ [], refl, (w.opening, (v.first, w.first, some.1, t.took), refl))

takes_where : {R : Type 0} (is_open : Bool) (g : Relays R) (v : StreamView R) (now : ℕ) (input : List ℕ) (old : List Record) (s : Status) (n m k : ℕ)
    (w : StreamView R) (new : List Record) → TakesWhere is_open g v now input old s n m k w new → Opens v (takes now input old s n m k new) w
takes_where true g v now input old s n m k w new t = none v (takes now input old s n m k new) w (ap (λ (x : StreamView _). x.opening) t.rest)
takes_where false g v now input [] s n m k w new t = none v (takes now input [] s n m k new) w (ap (λ (x : StreamView _). x.opening) t.4)
takes_where false g v now input (r ∷ rs) s n m k w new t = taken v now input (r ∷ rs) s n m k w new t

takes_unless : {R : Type 0} (over : Bool) (g : Relays R) (v : StreamView R) (now : ℕ) (input : List ℕ) (old : List Record) (s : Status) (n m k : ℕ)
    (w : StreamView R) (new : List Record) → TakesUnless over g v now input old s n m k w new → Opens v (takes now input old s n m k new) w
takes_unless true g v now input old s n m k w new t = none v (takes now input old s n m k new) w (ap (λ (x : StreamView _). x.opening) t.4)
takes_unless false g v now input old s n m k w new t = takes_where (is_done v.opening.phase) g v now input old s n m k w new t

one : {R : Type 0} (v : StreamView R) (e : Entry) (w : StreamView R) (out : List ℕ) → w.first ≡ v.first ++ sent e → Called v.opening e v.first w.first w.opening
    → Chain v.opening (e ∷ []) w.opening
one v e w out same is = (w.opening, (v.first, w.first, same, is), refl)

logs_unless : {R : Type 0} (over : Bool) (c : SaslCode) (additional : Option (List ℕ)) (v : StreamView R) (result : Result (Unit {0}) OpeningError)
    (w : StreamView R) → OpensUnless over (Logs c additional) v result w → Opens v (logs c additional result) w
logs_unless true c additional v result w t = none v (logs c additional result) w (ap (λ (x : StreamView _). x.opening) t.1)
logs_unless false c additional v result w t =
    let some = called (login_at c additional v.opening.phase) v.opening v.first result w.first w.opening t.0 in
    (logged c additional result some.0 ∷ [], (refl, refl, refl), one v (logged c additional result some.0) w some.0 some.1 t.0)

challenges_unless : {R : Type 0} (over : Bool) (c : List ℕ) (v : StreamView R) (result : Result (Unit {0}) OpeningError) (w : StreamView R)
    → OpensUnless over (Challenges c) v result w → Opens v (challenges c result) w
challenges_unless true c v result w t = none v (challenges c result) w (ap (λ (x : StreamView _). x.opening) t.1)
challenges_unless false c v result w t =
    let some = called (challenge_at c v.opening.phase) v.opening v.first result w.first w.opening t.0 in
    (challenged c result some.0 ∷ [], (refl, refl), one v (challenged c result some.0) w some.0 some.1 t.0)

responds_unless : {R : Type 0} (over : Bool) (c : List ℕ) (v : StreamView R) (result : Result (Unit {0}) OpeningError) (w : StreamView R)
    → OpensUnless over (Responds c) v result w → Opens v (responds c result) w
responds_unless true c v result w t = none v (responds c result) w (ap (λ (x : StreamView _). x.opening) t.1)
responds_unless false c v result w t =
    let some = called (response_at c v.opening.phase) v.opening v.first result w.first w.opening t.0 in
    (responded c result some.0 ∷ [], (refl, refl), one v (responded c result some.0) w some.0 some.1 t.0)

-- ---- the other calls leave it

beaten_opening : {R : Type 0} (b : Bool) (v u : StreamView R) → u.opening ≡ v.opening → (if b then u else v).opening ≡ v.opening
beaten_opening true v u same = same
beaten_opening false v u same = refl

due_opening : {R : Type 0} (g : Relays R) (d : Due) (v w : StreamView R) → DoesDue g d v w → w.opening ≡ v.opening
due_opening g due.Beat v w t =
    ap (λ (x : StreamView _). x.opening) t
    ∙ beaten_opening (is_running v) v (record v { beat = beat_for (waiting v) v.beat }) refl
due_opening g due.PeerSilent v w t = ap (λ (x : StreamView _). x.opening) t.1
due_opening g due.Nothing v w t = ap (λ (x : StreamView _). x.opening) t
due_opening g due.OpeningLate v w t = ap (λ (x : StreamView _). x.opening) t

ticks_opening : {R : Type 0} (over : Bool) (g : Relays R) (v : StreamView R) (now : ℕ) (t : Tick) (w : StreamView R) → TicksUnless over g v now t w
    → w.opening ≡ v.opening
ticks_opening true g v now t w x = ap (λ (y : StreamView _). y.opening) x.1
ticks_opening false g v now t w x = due_opening g t.due (record v { clock = x.ticked }) w x.does

asks_opening : {R : Type 0} (over : Bool) (g : Relays R) (v : StreamView R) (i : Input R) (a : Asked) (w : StreamView R) → AsksUnless over g v i a w
    → w.opening ≡ v.opening
asks_opening true g v i a w x = ap (λ (y : StreamView _). y.opening) x.1
asks_opening false g v i a w x = ap (λ (y : StreamView _). y.opening) x.1

posts_opening : {R : Type 0} (over : Bool) (g : Relays R) (v : StreamView R) (heads : List TransferHead) (bytes : List ℕ) (old : List Sent) (s : Status)
    (n used : ℕ) (w : StreamView R) (new : List Sent) → PostsUnless over g v heads bytes old s n used w new → w.opening ≡ v.opening
posts_opening true g v heads bytes old s n used w new x = ap (λ (y : StreamView _). y.opening) x.3
posts_opening false g v heads bytes old s n used w new x = ap (λ (y : StreamView _). y.opening) x.1

disposes_opening : {R : Type 0} (over : Bool) (g : Relays R) (v : StreamView R) (session : ℕ) (role : Role) (first last : ℕ) (settled : Bool)
    (state : Option (Option (List ℕ))) (answer : Option Asked) (w : StreamView R)
    → DisposesUnless over g v session role first last settled state answer w → w.opening ≡ v.opening
disposes_opening true g v session role first last settled state answer w x = ap (λ (y : StreamView _). y.opening) x.1
disposes_opening false g v session role first last settled state answer w x = ap (λ (y : StreamView _). y.opening) x.1

begins_opening : {R : Type 0} (over : Bool) (g : Relays R) (v : StreamView R) (frame : List ℕ) (number : SessionNo) (settings : SettingsModel)
    (a : BeginAnswer) (w : StreamView R) → BeginsUnless over g v frame number settings a w → w.opening ≡ v.opening
begins_opening true g v frame number settings a w x = ap (λ (y : StreamView _). y.opening) x.1
begins_opening false g v frame number settings a w x = ap (λ (y : StreamView _). y.opening) x.1

ends_opening : {R : Type 0} (over : Bool) (g : Relays R) (v : StreamView R) (n : SessionNo) (error : Option ErrorModel) (a : EndAnswer) (w : StreamView R)
    → EndsUnless over g v n error a w → w.opening ≡ v.opening
ends_opening true g v n error a w x = ap (λ (y : StreamView _). y.opening) x.1
ends_opening false g v n error a w x = ap (λ (y : StreamView _). y.opening) x.1

-- ---- each call

call_opens : {R : Type 0} (g : Relays R) (v : StreamView R) (c : Call R) (w : StreamView R) → Calls g v c w → Opens v c w
call_opens g v (takes now input old s n m k new) w t = takes_unless (is_over v) g v now input old s n m k w new t.1
call_opens g v (hears now) w t = none v (hears now) w (ap (λ (x : StreamView _). x.opening) t.1)
call_opens g v (ticks now t) w x = none v (ticks now t) w (ticks_opening (is_over v) g v now t w x.1)
call_opens g v (goes count) w t = none v (goes count) w (ap (λ (x : StreamView _). x.opening) t.1)
call_opens g v (logs c additional result) w t = logs_unless (is_over v) c additional v result w t
call_opens g v (challenges c result) w t = challenges_unless (is_over v) c v result w t
call_opens g v (responds c result) w t = responds_unless (is_over v) c v result w t
call_opens g v (asks i a) w t = none v (asks i a) w (asks_opening (is_over v) g v i a w t)
call_opens g v (posts heads bytes old s n used new) w t =
    none v (posts heads bytes old s n used new) w (posts_opening (is_over v) g v heads bytes old s n used w new t)
call_opens g v (disposes session role first last settled state answer) w t =
    none v (disposes session role first last settled state answer) w (disposes_opening (is_over v) g v session role first last settled state answer w t)
call_opens g v (begins frame number settings a) w t =
    none v (begins frame number settings a) w (begins_opening (is_over v) g v frame number settings a w t)
call_opens g v (ends n error a) w t = none v (ends n error a) w (ends_opening (is_over v) g v n error a w t)
call_opens g v flushes w t = none v flushes w (ap (λ (x : StreamView _). x.opening) t.1)

chain_append : (v m w : OpeningView) (es fs : List Entry) → Chain v es m → Chain m fs w → Chain v (es ++ fs) w
chain_append v m w [] fs c rest = subst (λ (x : OpeningView). Chain x fs w) c rest
chain_append v m w (e ∷ es) fs c rest = (c.0, c.1, chain_append c.0 m w es fs c.2 rest)

pub each_opens : {R : Type 0} (g : Relays R) (v : StreamView R) (cs : List (Call R)) (w : StreamView R) → CallsEach g v cs w
    → (es : List Entry) × AreOpeningsOf cs es × Chain v.opening es w.opening
each_opens g v [] w e = ([], refl, ap (λ (x : StreamView _). x.opening) e)
each_opens g v (c ∷ cs) w e =
    let first = call_opens g v c e.0 e.1 in
    let rest = each_opens g e.0 cs w e.2 in
    (first.0 ++ rest.0, (first.0, rest.0, refl, first.1, rest.1), chain_append v.opening e.0.opening w.opening first.0 rest.0 first.2 rest.2)

-- ---- frames come after

pub done_is_open : (p : Phase) → is_done p ≡ true → p ≡ phase.Open
done_is_open phase.Open e = refl
done_is_open phase.Fresh e = absurd cc
done_is_open phase.AwaitsHeader e = absurd cc
done_is_open phase.AwaitsMechanisms e = absurd cc
done_is_open phase.AwaitsOutcome e = absurd cc
done_is_open phase.AsksResponse e = absurd cc
done_is_open phase.AwaitsInit e = absurd cc
done_is_open phase.AsksLogin e = absurd cc
done_is_open phase.AwaitsResponse e = absurd cc
done_is_open phase.AwaitsAmqp e = absurd cc
done_is_open phase.Over e = absurd cc

where_open : {R : Type 0} (is_open : Bool) (g : Relays R) (v : StreamView R) (now : ℕ) (input : List ℕ) (old : List Record) (s : Status) (n m k : ℕ)
    (w : StreamView R) (new : List Record) → TakesWhere is_open g v now input old s n m k w new → ¬ (w.driver ≡ v.driver) → is_open ≡ true
where_open true g v now input old s n m k w new t h = refl
where_open false g v now input [] s n m k w new t h = absurd (h (ap (λ (x : StreamView _). x.driver) t.4))
where_open false g v now input (r ∷ rs) s n m k w new t h = absurd (h (ap (λ (x : StreamView _). x.driver) t.rest))

unless_open : {R : Type 0} (over : Bool) (g : Relays R) (v : StreamView R) (now : ℕ) (input : List ℕ) (old : List Record) (s : Status) (n m k : ℕ)
    (w : StreamView R) (new : List Record) → TakesUnless over g v now input old s n m k w new → ¬ (w.driver ≡ v.driver) → is_done v.opening.phase ≡ true
unless_open true g v now input old s n m k w new t h = absurd (h (ap (λ (x : StreamView _). x.driver) t.4))
unless_open false g v now input old s n m k w new t h = where_open (is_done v.opening.phase) g v now input old s n m k w new t h

runs_open : {R : Type 0} (g : Relays R) (v : StreamView R) (c : Call R) (w : StreamView R) → Calls g v c w → RunsFrames v c w → v.opening.phase ≡ phase.Open
runs_open g v (takes now input old s n m k new) w t h =
    done_is_open v.opening.phase (unless_open (is_over v) g v now input old s n m k w new t.1 h)
runs_open g v (hears now) w t h = absurd h
runs_open g v (ticks now t) w x h = absurd h
runs_open g v (goes count) w t h = absurd h
runs_open g v (logs c additional result) w t h = absurd h
runs_open g v (challenges c result) w t h = absurd h
runs_open g v (responds c result) w t h = absurd h
runs_open g v (asks i a) w t h = absurd h
runs_open g v (posts heads bytes old s n used new) w t h = absurd h
runs_open g v (disposes session role first last settled state answer) w t h = absurd h
runs_open g v (begins frame number settings a) w t h = absurd h
runs_open g v (ends n error a) w t h = absurd h
runs_open g v flushes w t h = absurd h

pub frames_come_after : {R : Type 0} (g : Relays R) → OpensByLogin → FramesComeAfter g
frames_come_after g law side logins hostname names start limit hash o v m w cs c b chain is runs =
    let es = each_opens g v cs m chain in
    let whole : Chain (fresh side logins hostname names) (begun (Ok tt) v.first ∷ es.0) m.opening = (v.opening, ([], v.first, refl, b.0), es.2) in
    let was = law side logins hostname names (begun (Ok tt) v.first ∷ es.0) m.opening whole (runs_open g m c w is runs) in
    (v.first, es.0, es.1, was.0, was.1)
