-- Chains of calls of a stream: what goes out, in its order.
use Rattle.std.proofs.Common.{◌≡◌, ℕ, ◌-◌, ◌≤◌, List, [], ◌∷◌, ◌++◌, take, drop, length, map, Bool, true, false, ◌&&◌, if◌then◌else◌, Option, None, refl, sym, ap, subst, ◌∙◌, append_assoc, arith}
use Rattle.std.specs.Prelude.{Result, cond}
use Rattle.std.proofs.lemmas.List.{append-nil, map-append, take-append-drop}
use Rattle.amqp_values.specs.Reading.{joined}
use Rattle.amqp_types.specs.declared.definitions.Role.{Role}
use Rattle.amqp_types.specs.Error.{ErrorModel}
use Rattle.amqp_session.specs.Relay.{Relays}
use Rattle.amqp_session.specs.Settings.{SettingsModel}
use Rattle.amqp_connection.specs.declared.numbers.SessionNo.{SessionNo}
use Rattle.amqp_engine.specs.declared.engine.input.Input.{Input}
use Rattle.amqp_sasl.specs.declared.body.SaslCode.{SaslCode}
use Rattle.amqp_sasl.specs.declared.opening.Phase.{Phase}
use Rattle.amqp_sasl.specs.declared.told.OpeningError.{OpeningError}
use Rattle.amqp_sasl.specs.Opening.{OpeningView, Move, Calls as OpensBy, Logs, Challenges, Responds, is_done, login_at, challenge_at, response_at}
use Rattle.amqp_sasl.specs.History.{Entry, took, logged, challenged, responded, sent}
use Rattle.amqp_idle.specs.declared.due.Due.{Due}
use Rattle.amqp_idle.specs.declared.due.Due.TheVariants as due
use Rattle.amqp_idle.specs.declared.due.Tick.{Tick}
use Rattle.amqp_idle.specs.Idle.{IdleView}
use Rattle.amqp_driver.specs.declared.answered.BeginAnswer.{BeginAnswer}
use Rattle.amqp_driver.specs.declared.answered.EndAnswer.{EndAnswer}
use Rattle.amqp_driver.specs.declared.asked.Asked.{Asked}
use Rattle.amqp_driver.specs.declared.head.Sent.{Sent}
use Rattle.amqp_driver.specs.declared.head.TransferHead.{TransferHead}
use Rattle.amqp_driver.specs.declared.record.Record.{Record}
use Rattle.amqp_driver.specs.declared.status.Status.{Status}
use Rattle.amqp_driver.specs.Stream.{StreamView, beat_bytes, empty_frame, frames_if, is_over, is_running, waiting}
use Rattle.amqp_driver.specs.StreamTaking.{TakesUnless, TakesWhere, heard}
use Rattle.amqp_driver.specs.StreamTicking.{AsksUnless, BeginsUnless, DisposesUnless, DoesDue, EndsUnless, OpensUnless, PostsUnless, TicksUnless, beat_for}
use Rattle.amqp_driver.specs.StreamLife.{Call, Calls, CallsEach, IsOpeningOf, AreOpeningsOf, Part, an_empty_frame, handed_out, part_bytes, Adds, AddEach, SendsInOrder, gone, gone_by, all_out}
use Rattle.amqp_driver.specs.StreamLife.{takes, hears, ticks, goes, logs, challenges, responds, asks, posts, disposes, begins, ends, flushes}
use Rattle.amqp_driver.proofs.StreamLifeLemmas.{called, done_is_open, took_some}
use Rattle.amqp_driver.proofs.StreamOrderLemmas.{More, drop_both, drop_frames, no_more, more_still, sends_more, requests_more, closes_more, closes_if_more, takes_more, posts_more, disposes_more, begins_more, ends_more}

-- the frames that wait, whether the stream is is_open or not
abbrev pub frames : {R : Type 0} → StreamView R → List ℕ
frames v = beat_bytes v.beat ++ v.driver.to_send

-- what a call adds to what is to be sent
record Out {R : Type 0} (v : StreamView R) (c : Call R) (w : StreamView R) : Type 0 where
  es : List Entry
  part : Part
  are : IsOpeningOf c es
  adds : Adds v c w part
  first_is : w.first ≡ v.first ++ joined (map sent es)
  frames_are : frames w ≡ frames v ++ part_bytes part
  least : w.beat ≤ 8
  stays : is_done v.opening.phase ≡ true → (es ≡ []) × (is_done w.opening.phase ≡ true)

-- what the driver appends, and nothing else
by_driver : {R : Type 0} (v : StreamView R) (c : Call R) (w : StreamView R) → v.beat ≤ 8 → IsOpeningOf c [] → w.opening ≡ v.opening → w.first ≡ v.first
    → w.beat ≡ v.beat → (m : More v.driver w.driver) → Adds v c w (handed_out m.0) → Out v c w
by_driver v c w most are opening first beat m adds = record {
  es = [];
  part = handed_out m.0;
  are = are;
  adds = adds;
  first_is = first ∙ sym (append-nil v.first);
  frames_are = ap (λ (b : ℕ). beat_bytes b ++ w.driver.to_send) beat ∙ ap (λ (x : List ℕ). beat_bytes v.beat ++ x) m.1
      ∙ sym (append_assoc (beat_bytes v.beat) v.driver.to_send m.0);
  least = subst (λ (b : ℕ). b ≤ 8) (sym beat) most;
  stays = λ done. (refl, ap (λ (o : OpeningView). is_done o.phase) opening ∙ done);
}

-- one call of the opening
by_opening : {R : Type 0} (v : StreamView R) (c : Call R) (w : StreamView R) (e : Entry) → v.beat ≤ 8 → IsOpeningOf c (e ∷ []) → w.first ≡ v.first ++ sent e
    → w.beat ≡ v.beat → w.driver ≡ v.driver → is_done v.opening.phase ≡ false → Adds v c w (handed_out []) → Out v c w
by_opening v c w e most are first beat same closed adds = record {
  es = e ∷ [];
  part = handed_out [];
  are = are;
  adds = adds;
  first_is = first ∙ ap (λ (x : List ℕ). v.first ++ x) (sym (append-nil (sent e)));
  frames_are = ap (λ (b : ℕ). beat_bytes b ++ w.driver.to_send) beat ∙ ap (λ (d : _). beat_bytes v.beat ++ d.to_send) same ∙ sym (append-nil (frames v));
  least = subst (λ (b : ℕ). b ≤ 8) (sym beat) most;
  stays = λ done. let none : true ≡ false = sym done ∙ closed in absurd cc;
}

-- nothing
nothing : {R : Type 0} (v : StreamView R) (c : Call R) (w : StreamView R) → v.beat ≤ 8 → IsOpeningOf c [] → w ≡ v
    → ((more : List ℕ) → w.driver.to_send ≡ v.driver.to_send ++ more → Adds v c w (handed_out more)) → Out v c w
nothing v c w most are same adds =
    let m = no_more v.driver w.driver (ap (λ (x : StreamView _). x.driver) same) in
    by_driver v c w most are (ap (λ (x : StreamView _). x.opening) same) (ap (λ (x : StreamView _). x.first) same) (ap (λ (x : StreamView _). x.beat) same)
    m (adds m.0 m.1)

-- ---- takes

takes_out : {R : Type 0} (is_open : Bool) (g : Relays R) (v : StreamView R) (now : ℕ) (input : List ℕ) (old : List Record) (s : Status) (n m k : ℕ)
    (w : StreamView R) (new : List Record) → v.beat ≤ 8 → is_done v.opening.phase ≡ is_open → TakesWhere is_open g v now input old s n m k w new
    → Out v (takes now input old s n m k new) w
takes_out true g v now input old s n m k w new most is t =
    let more = more_still v.driver t.between w.driver (takes_more g _ v.driver input old s n m k t.between new t.takes) (closes_if_more g s t.between w.driver t.closes) in
    by_driver v (takes now input old s n m k new) w most tt (ap (λ (x : StreamView _). x.opening) t.rest) (ap (λ (x : StreamView _). x.first) t.rest)
    (ap (λ (x : StreamView _). x.beat) t.rest) more more.1
takes_out false g v now input [] s n m k w new most is t = nothing v (takes now input [] s n m k new) w most tt t.4 (λ more e. e)
takes_out false g v now input (r ∷ rs) s n m k w new most is t =
    let some = took_some v.opening.phase v.opening input v.first t.result w.first w.opening t.took in
    let driver : w.driver ≡ v.driver = ap (λ (x : StreamView _). x.driver) t.rest in
    by_opening v (takes now input (r ∷ rs) s n m k new) w (took input t.result some.0) most refl some.1 (ap (λ (x : StreamView _). x.beat) t.rest) driver is
    (ap (λ (x : _). x.to_send) driver ∙ sym (append-nil v.driver.to_send))

unless_out : {R : Type 0} (over : Bool) (g : Relays R) (v : StreamView R) (now : ℕ) (input : List ℕ) (old : List Record) (s : Status) (n m k : ℕ)
    (w : StreamView R) (new : List Record) → v.beat ≤ 8 → TakesUnless over g v now input old s n m k w new → Out v (takes now input old s n m k new) w
unless_out true g v now input old s n m k w new most t = nothing v (takes now input old s n m k new) w most tt t.4 (λ more e. e)
unless_out false g v now input old s n m k w new most t = takes_out (is_done v.opening.phase) g v now input old s n m k w new most refl t

-- ---- bytes came

hears_out : {R : Type 0} (v : StreamView R) (now : ℕ) (w : StreamView R) → v.beat ≤ 8 → w ≡ record v { clock = heard 1 now v.clock } → Out v (hears now) w
hears_out v now w most t =
    let m = no_more v.driver w.driver (ap (λ (x : StreamView _). x.driver) t) in
    by_driver v (hears now) w most tt (ap (λ (x : StreamView _). x.opening) t) (ap (λ (x : StreamView _). x.first) t)
    (ap (λ (x : StreamView _). x.beat) t) m m.1

-- ---- the calls of SASL

-- Once it is is_open, such a call is refused and changes nothing.
opening_out : {R : Type 0} (is_open : Bool) (move : Option Move) (v : StreamView R) (c : Call R) (w : StreamView R) (result : Result (Unit {0}) OpeningError)
    (e : Entry) → v.beat ≤ 8 → is_done v.opening.phase ≡ is_open → (is_done v.opening.phase ≡ true → move ≡ None) → IsOpeningOf c [] → IsOpeningOf c (e ∷ [])
    → ((more : List ℕ) → w.driver.to_send ≡ v.driver.to_send ++ more → Adds v c w (handed_out more))
    → OpensBy move v.opening v.first result w.first w.opening → w ≡ record v { opening = w.opening; first = w.first } → w.first ≡ v.first ++ sent e
    → Out v c w
opening_out true move v c w result e most is none are own adds does rest some =
    let u : OpensBy None v.opening v.first result w.first w.opening =
    subst (λ (x : Option Move). OpensBy x v.opening v.first result w.first w.opening) (none is) does in
    let m = no_more v.driver w.driver (ap (λ (x : StreamView _). x.driver) rest) in
    by_driver v c w most are u.2 u.1 (ap (λ (x : StreamView _). x.beat) rest) m (adds m.0 m.1)
opening_out false move v c w result e most is none are own adds does rest some =
    let driver : w.driver ≡ v.driver = ap (λ (x : StreamView _). x.driver) rest in
    by_opening v c w e most own some (ap (λ (x : StreamView _). x.beat) rest) driver is
    (adds [] (ap (λ (x : _). x.to_send) driver ∙ sym (append-nil v.driver.to_send)))

logs_out : {R : Type 0} (over : Bool) (c : SaslCode) (additional : Option (List ℕ)) (v : StreamView R) (result : Result (Unit {0}) OpeningError)
    (w : StreamView R) → v.beat ≤ 8 → OpensUnless over (Logs c additional) v result w → Out v (logs c additional result) w
logs_out true c additional v result w most t = nothing v (logs c additional result) w most tt t.1 (λ more e. e)
logs_out false c additional v result w most t =
    let some = called (login_at c additional v.opening.phase) v.opening v.first result w.first w.opening t.0 in
    opening_out (is_done v.opening.phase) (login_at c additional v.opening.phase) v (logs c additional result) w result (logged c additional result some.0)
    most refl (λ done. ap (λ (p : Phase). login_at c additional p) (done_is_open v.opening.phase done)) tt (refl, refl, refl) (λ more e. e) t.0 t.1 some.1

challenges_out : {R : Type 0} (over : Bool) (c : List ℕ) (v : StreamView R) (result : Result (Unit {0}) OpeningError) (w : StreamView R) → v.beat ≤ 8
    → OpensUnless over (Challenges c) v result w → Out v (challenges c result) w
challenges_out true c v result w most t = nothing v (challenges c result) w most tt t.1 (λ more e. e)
challenges_out false c v result w most t =
    let some = called (challenge_at c v.opening.phase) v.opening v.first result w.first w.opening t.0 in
    opening_out (is_done v.opening.phase) (challenge_at c v.opening.phase) v (challenges c result) w result (challenged c result some.0)
    most refl (λ done. ap (λ (p : Phase). challenge_at c p) (done_is_open v.opening.phase done)) tt (refl, refl) (λ more e. e) t.0 t.1 some.1

responds_out : {R : Type 0} (over : Bool) (c : List ℕ) (v : StreamView R) (result : Result (Unit {0}) OpeningError) (w : StreamView R) → v.beat ≤ 8
    → OpensUnless over (Responds c) v result w → Out v (responds c result) w
responds_out true c v result w most t = nothing v (responds c result) w most tt t.1 (λ more e. e)
responds_out false c v result w most t =
    let some = called (response_at c v.opening.phase) v.opening v.first result w.first w.opening t.0 in
    opening_out (is_done v.opening.phase) (response_at c v.opening.phase) v (responds c result) w result (responded c result some.0)
    most refl (λ done. ap (λ (p : Phase). response_at c p) (done_is_open v.opening.phase done)) tt (refl, refl) (λ more e. e) t.0 t.1 some.1

-- ---- ticks

-- where nothing waits in a stream that is is_open, no frames wait
no_frames : (is_open : Bool) (f d : List ℕ) → is_open ≡ true → f ++ (if is_open then d else []) ≡ [] → d ≡ []
no_frames true [] d is none = none
no_frames true (x ∷ f) d is none = absurd cc
no_frames false f d is none = absurd cc

and_left : (a b : Bool) → a && b ≡ true → a ≡ true
and_left true b is = refl
and_left false b is = is

frames_of : {R : Type 0} (is_open : Bool) (v : StreamView R) → is_open ≡ true → v.first ++ frames_if is_open v ≡ [] → frames v ≡ []
frames_of true v is none = no_frames true v.first (frames v) refl none
frames_of false v is none = absurd cc

second_none : (xs ys : List ℕ) → xs ++ ys ≡ [] → ys ≡ []
second_none [] ys none = none
second_none (x ∷ xs) ys none = absurd cc

-- An empty frame is added where nothing waited.
beat_out : {R : Type 0} (waits : List ℕ) (v : StreamView R) (now : ℕ) (t : Tick) (clock : IdleView) (w : StreamView R) → v.beat ≤ 8 → t.due ≡ due.Beat
    → is_done v.opening.phase ≡ true → waiting v ≡ waits → w ≡ record v { clock = clock; beat = beat_for waits v.beat } → Out v (ticks now t) w
beat_out [] v now t clock w most is is_open none same =
    let empty : frames v ≡ [] = frames_of (is_done v.opening.phase) v is_open none in
    record {
      es = [];
      part = an_empty_frame;
      are = tt;
      adds = (is, none);
      first_is = ap (λ (x : StreamView _). x.first) same ∙ sym (append-nil v.first);
      frames_are = ap (λ (x : StreamView _). frames x) same
          ∙ ap (λ (x : List ℕ). empty_frame ++ x) (second_none (beat_bytes v.beat) v.driver.to_send empty)
          ∙ sym (ap (λ (x : List ℕ). x ++ empty_frame) empty);
      least = subst (λ (x : StreamView _). x.beat ≤ 8) (sym same) (omega arith);
      stays = λ done. (refl, ap (λ (x : StreamView _). is_done x.opening.phase) same ∙ done);
    }
beat_out (b ∷ bs) v now t clock w most is is_open some same =
    let m = no_more v.driver w.driver (ap (λ (x : StreamView _). x.driver) same) in
    by_driver v (ticks now t) w most tt (ap (λ (x : StreamView _). x.opening) same) (ap (λ (x : StreamView _). x.first) same)
    (ap (λ (x : StreamView _). x.beat) same) m m.1

beaten_out : {R : Type 0} (running : Bool) (v : StreamView R) (now : ℕ) (t : Tick) (clock : IdleView) (w : StreamView R) → v.beat ≤ 8 → t.due ≡ due.Beat
    → is_running v ≡ running
    → w ≡ (if running then record v { clock = clock; beat = beat_for (waiting v) v.beat } else record v { clock = clock }) → Out v (ticks now t) w
beaten_out true v now t clock w most is running same =
    beat_out (waiting v) v now t clock w most is (and_left (is_done v.opening.phase) _ running) refl same
beaten_out false v now t clock w most is running same =
    let m = no_more v.driver w.driver (ap (λ (x : StreamView _). x.driver) same) in
    by_driver v (ticks now t) w most tt (ap (λ (x : StreamView _). x.opening) same) (ap (λ (x : StreamView _). x.first) same)
    (ap (λ (x : StreamView _). x.beat) same) m m.1

frames_same : {R : Type 0} (is_open : Bool) (v : StreamView R) (clock : IdleView) → frames_if is_open (record v { clock = clock }) ≡ frames_if is_open v
frames_same true v clock = refl
frames_same false v clock = refl

waits_same : {R : Type 0} (v : StreamView R) (clock : IdleView) → waiting (record v { clock = clock }) ≡ waiting v
waits_same v clock = ap (λ (x : List ℕ). v.first ++ x) (frames_same (is_done v.opening.phase) v clock)

due_out : {R : Type 0} (d : Due) (g : Relays R) (v : StreamView R) (now : ℕ) (t : Tick) (clock : IdleView) (w : StreamView R) → v.beat ≤ 8 → t.due ≡ d
    → DoesDue g d (record v { clock = clock }) w → Out v (ticks now t) w
due_out due.Beat g v now t clock w most is does =
    beaten_out (is_running v) v now t clock w most is refl
    (does ∙ ap (λ (xs : List ℕ). if is_running v then record v { clock = clock; beat = beat_for xs v.beat } else record v { clock = clock }) (waits_same v clock))
due_out due.PeerSilent g v now t clock w most is does =
    let m = closes_more g _ v.driver w.driver does.0 in
    by_driver v (ticks now t) w most tt (ap (λ (x : StreamView _). x.opening) does.1) (ap (λ (x : StreamView _). x.first) does.1)
    (ap (λ (x : StreamView _). x.beat) does.1) m m.1
due_out due.Nothing g v now t clock w most is does =
    let m = no_more v.driver w.driver (ap (λ (x : StreamView _). x.driver) does) in
    by_driver v (ticks now t) w most tt (ap (λ (x : StreamView _). x.opening) does) (ap (λ (x : StreamView _). x.first) does)
    (ap (λ (x : StreamView _). x.beat) does) m m.1
due_out due.OpeningLate g v now t clock w most is does =
    let m = no_more v.driver w.driver (ap (λ (x : StreamView _). x.driver) does) in
    by_driver v (ticks now t) w most tt (ap (λ (x : StreamView _). x.opening) does) (ap (λ (x : StreamView _). x.first) does)
    (ap (λ (x : StreamView _). x.beat) does) m m.1

ticks_out : {R : Type 0} (over : Bool) (g : Relays R) (v : StreamView R) (now : ℕ) (t : Tick) (w : StreamView R) → v.beat ≤ 8
    → TicksUnless over g v now t w → Out v (ticks now t) w
ticks_out true g v now t w most x = nothing v (ticks now t) w most tt x.1 (λ more e. e)
ticks_out false g v now t w most x = due_out t.due g v now t x.ticked w most refl x.does

-- ---- requests

-- the driver alone did something
by_rest : {R : Type 0} (v : StreamView R) (c : Call R) (w : StreamView R) → v.beat ≤ 8 → IsOpeningOf c [] → w ≡ record v { driver = w.driver }
    → (m : More v.driver w.driver) → Adds v c w (handed_out m.0) → Out v c w
by_rest v c w most are rest m adds =
    by_driver v c w most are (ap (λ (x : StreamView _). x.opening) rest) (ap (λ (x : StreamView _). x.first) rest) (ap (λ (x : StreamView _). x.beat) rest)
    m adds

asks_out : {R : Type 0} (over : Bool) (g : Relays R) (v : StreamView R) (i : Input R) (a : Asked) (w : StreamView R) → v.beat ≤ 8
    → AsksUnless over g v i a w → Out v (asks i a) w
asks_out true g v i a w most x = nothing v (asks i a) w most tt x.1 (λ more e. e)
asks_out false g v i a w most x = let m = requests_more g v.driver i a w.driver x.0 in by_rest v (asks i a) w most tt x.1 m m.1

posts_out : {R : Type 0} (over : Bool) (g : Relays R) (v : StreamView R) (heads : List TransferHead) (bytes : List ℕ) (old : List Sent) (s : Status)
    (n used : ℕ) (w : StreamView R) (new : List Sent) → v.beat ≤ 8 → PostsUnless over g v heads bytes old s n used w new
    → Out v (posts heads bytes old s n used new) w
posts_out true g v heads bytes old s n used w new most x = nothing v (posts heads bytes old s n used new) w most tt x.3 (λ more e. e)
posts_out false g v heads bytes old s n used w new most x =
    let m = posts_more g v.driver heads bytes old s n used w.driver new x.0 in by_rest v (posts heads bytes old s n used new) w most tt x.1 m m.1

disposes_out : {R : Type 0} (over : Bool) (g : Relays R) (v : StreamView R) (session : ℕ) (role : Role) (first last : ℕ) (settled : Bool)
    (state : Option (Option (List ℕ))) (answer : Option Asked) (w : StreamView R) → v.beat ≤ 8
    → DisposesUnless over g v session role first last settled state answer w → Out v (disposes session role first last settled state answer) w
disposes_out true g v session role first last settled state answer w most x =
    nothing v (disposes session role first last settled state answer) w most tt x.1 (λ more e. e)
disposes_out false g v session role first last settled state answer w most x =
    let m = disposes_more g v.driver session role first last settled state answer w.driver x.0 in
    by_rest v (disposes session role first last settled state answer) w most tt x.1 m m.1

begins_out : {R : Type 0} (over : Bool) (g : Relays R) (v : StreamView R) (frame : List ℕ) (number : SessionNo) (settings : SettingsModel)
    (a : BeginAnswer) (w : StreamView R) → v.beat ≤ 8 → BeginsUnless over g v frame number settings a w → Out v (begins frame number settings a) w
begins_out true g v frame number settings a w most x = nothing v (begins frame number settings a) w most tt x.1 (λ more e. e)
begins_out false g v frame number settings a w most x =
    let m = begins_more g v.driver frame number settings a w.driver x.0 in by_rest v (begins frame number settings a) w most tt x.1 m m.1

ends_out : {R : Type 0} (over : Bool) (g : Relays R) (v : StreamView R) (n : SessionNo) (error : Option ErrorModel) (a : EndAnswer) (w : StreamView R)
    → v.beat ≤ 8 → EndsUnless over g v n error a w → Out v (ends n error a) w
ends_out true g v n error a w most x = nothing v (ends n error a) w most tt x.1 (λ more e. e)
ends_out false g v n error a w most x = let m = ends_more g v.driver n error a w.driver x.0 in by_rest v (ends n error a) w most tt x.1 m m.1

flushes_out : {R : Type 0} (g : Relays R) (v w : StreamView R) → v.beat ≤ 8 → Calls g v flushes w → Out v flushes w
flushes_out g v w most x = let m = sends_more g v.driver w.driver x.0 in by_rest v flushes w most tt x.1 m m.1

-- ---- chains

joined_append : (xs ys : List (List ℕ)) → joined (xs ++ ys) ≡ joined xs ++ joined ys
joined_append [] ys = refl
joined_append (x ∷ xs) ys = ap (λ (z : List ℕ). x ++ z) (joined_append xs ys) ∙ sym (append_assoc x (joined xs) (joined ys))

sent_append : (es fs : List Entry) → joined (map sent (es ++ fs)) ≡ joined (map sent es) ++ joined (map sent fs)
sent_append es fs = ap (λ (xs : List (List ℕ)). joined xs) (map-append sent es fs) ∙ joined_append (map sent es) (map sent fs)

-- what these entries and parts are behind what was there
abbrev pub line : Bool → List ℕ → List ℕ → List ℕ → List ℕ → List ℕ
line is_open first frames sasl parts = first ++ (sasl ++ cond is_open (frames ++ parts) [])

record Line {R : Type 0} (g : Relays R) (v : StreamView R) (cs : List (Call R)) (w : StreamView R) (chain : CallsEach g v cs w) : Type 0 where
  es : List Entry
  parts : List Part
  are : AreOpeningsOf cs es
  add : AddEach g v cs w chain parts
  out : gone g v cs w chain ++ waiting w ≡ line (is_done w.opening.phase) v.first (frames v) (joined (map sent es)) (joined (map part_bytes parts))
  stays : is_done v.opening.phase ≡ true → (es ≡ []) × (is_done w.opening.phase ≡ true)

as_it_was : {R : Type 0} (is_open : Bool) (v : StreamView R) → v.first ++ frames_if is_open v ≡ line is_open v.first (frames v) [] []
as_it_was true v = ap (λ (x : List ℕ). v.first ++ x) (sym (append-nil (frames v)))
as_it_was false v = refl

-- behind a call that takes nothing off
more_line : {R : Type 0} (is_open : Bool) (v m : StreamView R) (s p sasl parts : List ℕ) → m.first ≡ v.first ++ s → frames m ≡ frames v ++ p
    → line is_open m.first (frames m) sasl parts ≡ line is_open v.first (frames v) (s ++ sasl) (p ++ parts)
more_line is_open v m s p sasl parts first more =
    ap (λ (x : List ℕ). x ++ (sasl ++ cond is_open (frames m ++ parts) [])) first
    ∙ append_assoc v.first s (sasl ++ cond is_open (frames m ++ parts) [])
    ∙ ap (λ (x : List ℕ). v.first ++ x) (sym (append_assoc s sasl (cond is_open (frames m ++ parts) [])))
    ∙ ap (λ (x : List ℕ). v.first ++ ((s ++ sasl) ++ cond is_open x [])) (ap (λ (x : List ℕ). x ++ parts) more ∙ append_assoc (frames v) p parts)

-- the bytes that went out, and what is left of what waited
gone_line : {R : Type 0} (is_open after : Bool) (v : StreamView R) (sasl parts : List ℕ) (n : ℕ) → n ≤ length (v.first ++ frames_if is_open v)
    → (is_open ≡ true → (sasl ≡ []) × (after ≡ true))
    → take n (v.first ++ frames_if is_open v) ++ line after (drop n v.first) (drop (n - length v.first) (frames v)) sasl parts
    ≡ line after v.first (frames v) sasl parts
gone_line false after v sasl parts n within h =
    let least : n ≤ length v.first = subst (λ (x : List ℕ). n ≤ length x) (append-nil v.first) within in
    let rest = sasl ++ cond after (frames v ++ parts) [] in
    let none : n - length v.first ≡ 0 = omega arith in
    ap (λ (k : ℕ). take n (v.first ++ []) ++ line after (drop n v.first) (drop k (frames v)) sasl parts) none
    ∙ ap (λ (x : List ℕ). take n x ++ (drop n v.first ++ rest)) (append-nil v.first)
    ∙ sym (append_assoc (take n v.first) (drop n v.first) rest)
    ∙ ap (λ (x : List ℕ). x ++ rest) (take-append-drop n v.first)
gone_line true after v sasl parts n within h =
    let e = h refl in
    let k = n - length v.first in
    ap (λ (s : List ℕ). take n (v.first ++ frames v) ++ line after (drop n v.first) (drop k (frames v)) s parts) e.0
    ∙ ap (λ (b : Bool). take n (v.first ++ frames v) ++ line b (drop n v.first) (drop k (frames v)) [] parts) e.1
    ∙ ap (λ (x : List ℕ). take n (v.first ++ frames v) ++ x) (sym (append_assoc (drop n v.first) (drop k (frames v)) parts)
    ∙ ap (λ (x : List ℕ). x ++ parts) (sym (drop_both n v.first (frames v))))
    ∙ sym (append_assoc (take n (v.first ++ frames v)) (drop n (v.first ++ frames v)) parts)
    ∙ ap (λ (x : List ℕ). x ++ parts) (take-append-drop n (v.first ++ frames v))
    ∙ append_assoc v.first (frames v) parts
    ∙ ap (λ (b : Bool). line b v.first (frames v) [] parts) (sym e.1)
    ∙ ap (λ (s : List ℕ). line after v.first (frames v) s parts) (sym e.0)

-- one call that takes nothing off, and the others
behind : {R : Type 0} (g : Relays R) (v : StreamView R) (c : Call R) (cs : List (Call R)) (w : StreamView R) (chain : CallsEach g v (c ∷ cs) w)
    → gone_by v c ≡ [] → Out v c chain.0 → Line g chain.0 cs w chain.2 → Line g v (c ∷ cs) w chain
behind g v c cs w chain none o l = record {
  es = o.es ++ l.es;
  parts = o.part ∷ l.parts;
  are = (o.es, l.es, refl, o.are, l.are);
  add = (o.part, l.parts, refl, o.adds, l.add);
  out = ap (λ (x : List ℕ). (x ++ gone g chain.0 cs w chain.2) ++ waiting w) none ∙ l.out
      ∙ more_line (is_done w.opening.phase) v chain.0 (joined (map sent o.es)) (part_bytes o.part) (joined (map sent l.es)) (joined (map part_bytes l.parts))
      o.first_is o.frames_are
      ∙ ap (λ (x : List ℕ). line (is_done w.opening.phase) v.first (frames v) x (part_bytes o.part ++ joined (map part_bytes l.parts))) (sym (sent_append o.es l.es));
  stays = λ done. let a = o.stays done in let b = l.stays a.1 in (ap (λ (x : List Entry). x ++ l.es) a.0 ∙ b.0, b.1);
}

-- some went out, and the others
behind_sent : {R : Type 0} (g : Relays R) (v : StreamView R) (n : ℕ) (cs : List (Call R)) (w : StreamView R) (chain : CallsEach g v (goes n ∷ cs) w)
    → v.beat ≤ 8 → Line g chain.0 cs w chain.2 → Line g v (goes n ∷ cs) w chain
behind_sent g v n cs w chain most l =
    let first : chain.0.first ≡ drop n v.first = ap (λ (x : StreamView _). x.first) chain.1.1 in
    let left : frames chain.0 ≡ drop (n - length v.first) (frames v) =
    ap (λ (x : StreamView _). frames x) chain.1.1 ∙ sym (drop_frames (n - length v.first) v most) in
    let still : is_done chain.0.opening.phase ≡ is_done v.opening.phase = ap (λ (x : StreamView _). is_done x.opening.phase) chain.1.1 in
    let es = joined (map sent l.es) in
    let parts = joined (map part_bytes l.parts) in
    record {
      es = l.es;
      parts = handed_out [] ∷ l.parts;
      are = ([], l.es, refl, tt, l.are);
      add = (handed_out [], l.parts, refl, refl, l.add);
      out = append_assoc (take n (waiting v)) (gone g chain.0 cs w chain.2) (waiting w)
          ∙ ap (λ (x : List ℕ). take n (waiting v) ++ x) l.out
          ∙ ap (λ (x : List ℕ). take n (waiting v) ++ line (is_done w.opening.phase) x (frames chain.0) es parts) first
          ∙ ap (λ (x : List ℕ). take n (waiting v) ++ line (is_done w.opening.phase) (drop n v.first) x es parts) left
          ∙ gone_line (is_done v.opening.phase) (is_done w.opening.phase) v es parts n chain.1.0
          (λ done. let b = l.stays (still ∙ done) in (ap (λ (x : List Entry). joined (map sent x)) b.0, b.1));
      stays = λ done. l.stays (still ∙ done);
    }

beat_left : (n b : ℕ) → b ≤ 8 → b - n ≤ 8
beat_left n b most = omega arith

each_line : {R : Type 0} (g : Relays R) (v : StreamView R) (cs : List (Call R)) (w : StreamView R) (chain : CallsEach g v cs w) → v.beat ≤ 8
    → Line g v cs w chain
each_line g v [] w chain most = record {
  es = [];
  parts = [];
  are = refl;
  add = refl;
  out = ap (λ (x : StreamView _). waiting x) chain ∙ as_it_was (is_done v.opening.phase) v
      ∙ ap (λ (x : StreamView _). line (is_done x.opening.phase) v.first (frames v) [] []) (sym chain);
  stays = λ done. (refl, ap (λ (x : StreamView _). is_done x.opening.phase) chain ∙ done);
}
each_line g v (goes n ∷ cs) w chain most =
    let least : chain.0.beat ≤ 8 = subst (λ (x : StreamView _). x.beat ≤ 8) (sym chain.1.1) (beat_left (n - length v.first) v.beat most) in
    behind_sent g v n cs w chain most (each_line g chain.0 cs w chain.2 least)
each_line g v (takes now input old s n m k new ∷ cs) w chain most =
    let o = unless_out (is_over v) g v now input old s n m k chain.0 new most chain.1.1 in
    behind g v (takes now input old s n m k new) cs w chain refl o (each_line g chain.0 cs w chain.2 o.least)
each_line g v (hears now ∷ cs) w chain most =
    let o = hears_out v now chain.0 most chain.1.1 in
    behind g v (hears now) cs w chain refl o (each_line g chain.0 cs w chain.2 o.least)
each_line g v (ticks now t ∷ cs) w chain most =
    let o = ticks_out (is_over v) g v now t chain.0 most chain.1.1 in
    behind g v (ticks now t) cs w chain refl o (each_line g chain.0 cs w chain.2 o.least)
each_line g v (logs c additional result ∷ cs) w chain most =
    let o = logs_out (is_over v) c additional v result chain.0 most chain.1 in
    behind g v (logs c additional result) cs w chain refl o (each_line g chain.0 cs w chain.2 o.least)
each_line g v (challenges c result ∷ cs) w chain most =
    let o = challenges_out (is_over v) c v result chain.0 most chain.1 in
    behind g v (challenges c result) cs w chain refl o (each_line g chain.0 cs w chain.2 o.least)
each_line g v (responds c result ∷ cs) w chain most =
    let o = responds_out (is_over v) c v result chain.0 most chain.1 in
    behind g v (responds c result) cs w chain refl o (each_line g chain.0 cs w chain.2 o.least)
each_line g v (asks i a ∷ cs) w chain most =
    let o = asks_out (is_over v) g v i a chain.0 most chain.1 in
    behind g v (asks i a) cs w chain refl o (each_line g chain.0 cs w chain.2 o.least)
each_line g v (posts heads bytes old s n used new ∷ cs) w chain most =
    let o = posts_out (is_over v) g v heads bytes old s n used chain.0 new most chain.1 in
    behind g v (posts heads bytes old s n used new) cs w chain refl o (each_line g chain.0 cs w chain.2 o.least)
each_line g v (disposes session role first last settled state answer ∷ cs) w chain most =
    let o = disposes_out (is_over v) g v session role first last settled state answer chain.0 most chain.1 in
    behind g v (disposes session role first last settled state answer) cs w chain refl o (each_line g chain.0 cs w chain.2 o.least)
each_line g v (begins frame number settings a ∷ cs) w chain most =
    let o = begins_out (is_over v) g v frame number settings a chain.0 most chain.1 in
    behind g v (begins frame number settings a) cs w chain refl o (each_line g chain.0 cs w chain.2 o.least)
each_line g v (ends n error a ∷ cs) w chain most =
    let o = ends_out (is_over v) g v n error a chain.0 most chain.1 in
    behind g v (ends n error a) cs w chain refl o (each_line g chain.0 cs w chain.2 o.least)
each_line g v (flushes ∷ cs) w chain most =
    let o = flushes_out g v chain.0 most chain.1 in
    behind g v flushes cs w chain refl o (each_line g chain.0 cs w chain.2 o.least)

-- a new stream has no frames
all_line : (is_open : Bool) (first : List ℕ) (es : List Entry) (parts : List Part)
    → line is_open first [] (joined (map sent es)) (joined (map part_bytes parts)) ≡ first ++ all_out is_open es parts
all_line true first es parts = refl
all_line false first es parts = ap (λ (x : List ℕ). first ++ x) (append-nil (joined (map sent es)))

pub sends_in_order : {R : Type 0} (g : Relays R) → SendsInOrder g
sends_in_order g opening start limit hash o v w cs b chain =
    let l = each_line g v cs w chain (subst (λ (x : StreamView _). x.beat ≤ 8) (sym b.1) (omega arith)) in
    let none : frames v ≡ [] = ap (λ (x : StreamView _). frames x) b.1 in (
      l.es,
      l.parts,
      l.are,
      l.add,
      l.out ∙ ap (λ (x : List ℕ). line (is_done w.opening.phase) v.first x (joined (map sent l.es)) (joined (map part_bytes l.parts))) none
          ∙ all_line (is_done w.opening.phase) v.first l.es l.parts,
    )
