-- A frame that was run: what was received of its entry, and what is told of it.
use Rattle.std.proofs.Common.{◌≡◌, ◌⊎◌, inl, inr, ℕ, List, [], ◌∷◌, Bool, if◌then◌else◌, true, false, Option, Some, None, IfSome, Result, Ok, Err, refl, ap, sym, subst, ◌∙◌}
use Rattle.amqp_memory.specs.Refusal.{SomeRefused}
use Rattle.amqp_session.specs.Relay.{Relays}
use Rattle.amqp_session.specs.History as session
use Rattle.amqp_session.specs.declared.numbers.OutputHandle.{OutputHandle}
use Rattle.amqp_frames.specs.declared.frame.Frame.{Frame}
use Rattle.amqp_frames.specs.declared.frame.FrameBody.{FrameBody}
use Rattle.amqp_frames.specs.declared.error.Error.{Error}
use Rattle.amqp_frames.specs.declared.error.Error.TheVariants as unread
use Rattle.amqp_frames.specs.Frame.{Decodes}
use Rattle.amqp_connection.specs.Connection.{ConnectionView, refusal_of}
use Rattle.amqp_engine.specs.declared.engine.input.Input.TheVariants as kind
use Rattle.amqp_engine.specs.declared.engine.refusal.Refusal.{Refusal}
use Rattle.amqp_engine.specs.declared.engine.step_error.StepError.{StepError}
use Rattle.amqp_engine.specs.EngineView.{EngineView}
use Rattle.amqp_engine.specs.Engine.{InputStep, Received, Step}
use Rattle.amqp_engine.specs.Entry.{Entry}
use Rattle.amqp_engine.specs.History.{Chain}
use Rattle.amqp_engine.specs.RunInto.{RanInto}
use Rattle.amqp_engine.specs.RunFrame.{AnswersRead, OfRead, RanFrame, ReadFrom, RunsFrame}
use Rattle.amqp_driver.specs.declared.record.Record.{Record}
use Rattle.amqp_driver.specs.declared.told.Told.{Told}
use Rattle.amqp_driver.specs.Driver.{DriverView, Runs, RunsRead, Tells, TellsRead, counted, is_passed_on, reached_by, route_by, told_as, told_of}
use Rattle.amqp_driver.specs.Record.{bare_record, frame_record, read_record}
use Rattle.amqp_driver.specs.Told.{begins_anew, begins_on, is_empty_body, is_silent, link_in, output_of, placed, record_of, session_at, told_by}
use Rattle.amqp_driver.proofs.RouteLemmas.{none_reached, reached_is}

-- ---- the entry of a run of one frame

-- What the engine did with the bytes, when nothing waited any more; its connection was as before.
pub record Did {R : Type 0} (g : Relays R) (v : EngineView R) (bytes : List ℕ) (e : Entry R) : Type 0 where
  pub from : EngineView R
  pub to : EngineView R
  pub same : from.connection ≡ v.connection
  pub step : Step g from e to
  pub input_is : e.input ≡ kind.Received bytes

did_chain : {R : Type 0} (g : Relays R) (v w : EngineView R) (bytes : List ℕ) (e : Entry R) → e.input ≡ kind.Received bytes → Chain g v (e ∷ []) w → Did g v bytes e
did_chain g v w bytes e i c = record { from = c.0; to = c.1; same = c.3.connection_is; step = c.4; input_is = i }

pub did : {R : Type 0} (g : Relays R) (v w : EngineView R) (bytes : List ℕ) (read : Result Frame Error) (refused : Option StepError) (out out' : List ℕ)
    (returned returned' : List Refusal) (r : RanFrame g v bytes read refused out returned w out' returned') → Did g v bytes r.one.entry
did g v w bytes read refused out out' returned returned' r =
    did_chain g v w bytes r.one.entry r.one.input_is (subst (λ (es : List (Entry _)). Chain g v es w) r.one.entry_is r.one.ran.steps)

by_received : {R : Type 0} (g : Relays R) (u m : EngineView R) (bytes : List ℕ) (received : Option Frame) (reached : Option ℕ)
    (calls : List (session.SessionCall R)) (refusal : Option StepError) (f : Frame) → Received g u bytes received reached calls refusal m → received ≡ Some f
    → reached ≡ reached_by refusal (route_by u.connection f.channel f.body)
by_received g u m bytes received reached calls refusal f (inl h) r = let k = h.1 in absurd cc
by_received g u m bytes received reached calls refusal f (inr h) r =
    let k = h.3 in let same : h.0 ≡ f = cc in
    reached_is g u m h.0.channel h.0.body reached calls refusal h.4
    ∙ ap (λ (x : Frame). reached_by refusal (route_by u.connection x.channel x.body)) same

by_none : {R : Type 0} (g : Relays R) (u m : EngineView R) (bytes : List ℕ) (received : Option Frame) (reached : Option ℕ)
    (calls : List (session.SessionCall R)) (refusal : Option StepError) → Received g u bytes received reached calls refusal m → received ≡ None → reached ≡ None
by_none g u m bytes received reached calls refusal (inl h) r = h.2.0.0
by_none g u m bytes received reached calls refusal (inr h) r = let k = h.3 in absurd cc

by_step : {R : Type 0} (g : Relays R) (u m : EngineView R) (bytes : List ℕ) (e : Entry R) (f : Frame) → e.input ≡ kind.Received bytes → Step g u e m
    → e.received ≡ Some f → e.reached ≡ reached_by e.refusal (route_by u.connection f.channel f.body)
by_step g u m bytes e f i (inl h) r = let k = h.2 in absurd cc
by_step g u m bytes e f i (inr h) r = by_received g u m bytes e.received e.reached e.calls e.refusal f
    (subst (λ j. InputStep g u j e.received e.reached e.calls e.refusal m) i h.2) r

by_no_step : {R : Type 0} (g : Relays R) (u m : EngineView R) (bytes : List ℕ) (e : Entry R) → e.input ≡ kind.Received bytes → Step g u e m
    → e.received ≡ None → e.reached ≡ None
by_no_step g u m bytes e i (inl h) r = h.3.0.0
by_no_step g u m bytes e i (inr h) r = by_none g u m bytes e.received e.reached e.calls e.refusal
    (subst (λ j. InputStep g u j e.received e.reached e.calls e.refusal m) i h.2) r

-- a frame that was read reached the session to which the connection passes it
reached_by_frame : {R : Type 0} (g : Relays R) (v : EngineView R) (bytes : List ℕ) (e : Entry R) (f : Frame) → Did g v bytes e → e.received ≡ Some f
    → e.reached ≡ reached_by e.refusal (route_by v.connection f.channel f.body)
reached_by_frame g v bytes e f d r =
    by_step g d.from d.to bytes e f d.input_is d.step r
    ∙ ap (λ (k : ConnectionView). reached_by e.refusal (route_by k f.channel f.body)) d.same

reached_unread : {R : Type 0} (g : Relays R) (v : EngineView R) (bytes : List ℕ) (e : Entry R) → Did g v bytes e → e.received ≡ None → e.reached ≡ None
reached_unread g v bytes e d r = by_no_step g d.from d.to bytes e d.input_is d.step r

-- ---- its record

link_reached : {R : Type 0} (v : EngineView R) (b : FrameBody) (refusal : Option StepError) (route : Option ℕ)
    → link_in b (session_at v (reached_by refusal route)) ≡ reached_by refusal (link_in b (session_at v route))
link_reached v b None route = refl
link_reached v b (Some e) route = by_test (is_passed_on e)
  where
    by_test : (passed : Bool) → link_in b (session_at v (if passed then route else None)) ≡ (if passed then link_in b (session_at v route) else None)
    by_test true = refl
    by_test false = refl

-- the record of an entry, by what was received of it and what it reached
record_is : {R : Type 0} (v : EngineView R) (at size : ℕ) (e : Entry R) (refusal : Option StepError) (received : Option Frame) (reached : Option ℕ)
    → e.refusal ≡ refusal → e.received ≡ received → e.reached ≡ reached
    → record_of v at size e ≡ told_by refusal (is_silent received) (begins_anew v received) (placed reached (output_of v reached received) (read_record at size received))
record_is v at size e refusal received reached r f n =
    ap (λ (x : Option StepError). told_by x (is_silent e.received) (begins_anew v e.received)
    (placed e.reached (output_of v e.reached e.received) (read_record at size e.received))) r
    ∙ ap (λ (x : Option Frame). told_by refusal (is_silent x) (begins_anew v x) (placed e.reached (output_of v e.reached x) (read_record at size x))) f
    ∙ ap (λ (x : Option ℕ). told_by refusal (is_silent received) (begins_anew v received) (placed x (output_of v x received) (read_record at size received))) n

told_frame : {R : Type 0} (g : Relays R) (v : EngineView R) (bytes : List ℕ) (at size : ℕ) (e : Entry R) (f : Frame) (refusal : Option StepError)
    → Did g v bytes e → e.refusal ≡ refusal → e.received ≡ Some f
    → record_of v at size e ≡ told_by refusal (is_empty_body f.body) (begins_on v.connection f.channel f.body)
    (placed (reached_by refusal (route_by v.connection f.channel f.body))
    (reached_by refusal (link_in f.body (session_at v (route_by v.connection f.channel f.body)))) (frame_record at size f))
told_frame g v bytes at size e f refusal d r is =
    let n : e.reached ≡ reached_by refusal (route_by v.connection f.channel f.body) = reached_by_frame g v bytes e f d is
    ∙ ap (λ (x : Option StepError). reached_by x (route_by v.connection f.channel f.body)) r in
    record_is v at size e refusal (Some f) (reached_by refusal (route_by v.connection f.channel f.body)) r is n
    ∙ ap (λ (x : Option OutputHandle). told_by refusal (is_empty_body f.body) (begins_on v.connection f.channel f.body)
    (placed (reached_by refusal (route_by v.connection f.channel f.body)) x (frame_record at size f)))
    (link_reached v f.body refusal (route_by v.connection f.channel f.body))

told_unread : {R : Type 0} (g : Relays R) (v : EngineView R) (bytes : List ℕ) (at size : ℕ) (e : Entry R) (refusal : Option StepError)
    → Did g v bytes e → e.refusal ≡ refusal → e.received ≡ None
    → record_of v at size e ≡ told_by refusal false false (placed (reached_by {X = ℕ} refusal None) (reached_by {X = OutputHandle} refusal None) (bare_record at size))
told_unread g v bytes at size e refusal d r is =
    record_is v at size e refusal None None r is (reached_unread g v bytes e d is)
    ∙ ap (λ (x : Option ℕ). told_by refusal false false (placed x None (bare_record at size))) (sym (none_reached refusal))
    ∙ ap (λ (x : Option OutputHandle). told_by refusal false false (placed (reached_by {X = ℕ} refusal None) x (bare_record at size))) (sym (none_reached refusal))

-- ---- what is told

told_by_record : {R : Type 0} (g : Relays R) (d d' : DriverView R) (bytes : List ℕ) (at size : ℕ) (e : Entry R) (q : Option Record)
    → Runs g d bytes e d' → record_of d.engine at size e ≡ q → Tells g d bytes at size (told_as q) d'
told_by_record g d d' bytes at size e None r is = (e, r, is)
told_by_record g d d' bytes at size e (Some x) r is = (e, r, is)

pub runs_of : {R : Type 0} (g : Relays R) (d d' : DriverView R) (bytes : List ℕ) (read : Result Frame Error) (refusal : Option StepError) (returned : List Refusal)
    → ReadFrom bytes read → (r : RanFrame g d.engine bytes read refusal d.to_send [] d'.engine d'.to_send returned) → d'.unfit ≡ counted d.unfit returned
    → OfRead g read refusal → Runs g d bytes r.one.entry d'
runs_of g d d' bytes read refusal returned from r u o = record {
  read = read;
  decoded = from;
  returned = returned;
  ran = record {
    one = record {
      answers = r.one.answers;
      ran = r.one.ran;
      entry = r.one.entry;
      entry_is = r.one.entry_is;
      input_is = r.one.input_is;
      refusal_is = refl;
      sent = r.one.sent;
      back = r.one.back;
    };
    received_is = r.received_is;
  };
  entry_is = refl;
  unfit_is = u;
  of_relay = subst (λ (y : Option StepError). OfRead g read y) (sym r.one.refusal_is) o;
}

pub tells_frame : {R : Type 0} (g : Relays R) (d d' : DriverView R) (f : Frame) (at size : ℕ) (answer : Option (Result (Unit {0}) StepError))
    → RunsRead g d (Ok f) answer d' → TellsRead g d (Ok f) at size (told_of answer (route_by d.engine.connection f.channel f.body)
    (link_in f.body (session_at d.engine (route_by d.engine.connection f.channel f.body))) (is_empty_body f.body)
    (begins_on d.engine.connection f.channel f.body) (frame_record at size f)) d'
tells_frame g d d' f at size None (inl was, sends) bytes from = (was, inr sends)
tells_frame g d d' f at size None (inr is, sends) bytes from = absurd cc
tells_frame g d d' f at size (Some a) r bytes from =
    let ran : RanFrame g d.engine bytes (Ok f) (refusal_of a) d.to_send [] d'.engine d'.to_send r.0 = r.2 bytes from in
    told_by_record g d d' bytes at size ran.one.entry _ (runs_of g d d' bytes (Ok f) (refusal_of a) r.0 from ran r.1 r.3)
    (told_frame g d.engine bytes at size ran.one.entry f (refusal_of a)
    (did g d.engine d'.engine bytes (Ok f) (refusal_of a) d.to_send d'.to_send [] r.0 ran) ran.one.refusal_is ran.received_is)

pub tells_unread : {R : Type 0} (g : Relays R) (d d' : DriverView R) (x : Error) (at size : ℕ) (answer : Option (Result (Unit {0}) StepError))
    → RunsRead g d (Err x) answer d' → TellsRead g d (Err x) at size (told_of answer None None false false (bare_record at size)) d'
tells_unread g d d' x at size None (inl was, sends) bytes from = (was, inr sends)
tells_unread g d d' x at size None (inr is, sends) bytes from = (refused_as_read bytes x (let e : ◌≡◌ {A = Result Frame Error} (Err x) (Err unread.OutOfMemory) = is in cc) from, inr sends)
  where
    refused_as_read : (bytes : List ℕ) (x : Error) → x ≡ unread.OutOfMemory → Decodes bytes (Err x) → SomeRefused
    refused_as_read bytes unread.OutOfMemory e d = d.2
    refused_as_read bytes y e d = absurd cc
tells_unread g d d' x at size (Some a) r bytes from =
    let ran : RanFrame g d.engine bytes (Err x) (refusal_of a) d.to_send [] d'.engine d'.to_send r.0 = r.2 bytes from in
    told_by_record g d d' bytes at size ran.one.entry _ (runs_of g d d' bytes (Err x) (refusal_of a) r.0 from ran r.1 r.3)
    (told_unread g d.engine bytes at size ran.one.entry (refusal_of a)
    (did g d.engine d'.engine bytes (Err x) (refusal_of a) d.to_send d'.to_send [] r.0 ran) ran.one.refusal_is ran.received_is)

-- of whatever bytes it was read from, it is told
pub told_of_bytes : {R : Type 0} (g : Relays R) (d d' : DriverView R) (read : Result Frame Error) (at size : ℕ) (t : Told) (bytes : List ℕ)
    → TellsRead g d read at size t d' → ReadFrom bytes read → Tells g d bytes at size t d'
told_of_bytes g d d' read at size t bytes h from = h bytes from

-- ---- what a run of what was read leaves

refused_read : {R : Type 0} (v' : EngineView R) (read : Result Frame Error) (L : Type 0) → AnswersRead v' read None
    → (v'.waiting ≡ []) ⊎ (L × SomeRefused) → SomeRefused ⊎ (read ≡ Err unread.OutOfMemory)
refused_read v' read L (inl waits) (inl none) = absurd (waits none)
refused_read v' read L (inl waits) (inr x) = inl x.1
refused_read v' (Ok f) L (inr x) left = inl x.1
refused_read v' (Err e) L (inr x) left = inr (ap (λ (y : Error). Err y) x)

pub runs_read : {R : Type 0} (g : Relays R) (v v' : EngineView R) (out out' : List ℕ) (before returned : List Refusal) (x x' : ℕ) (read : Result Frame Error)
    (answer : Option (Result (Unit {0}) StepError)) (L : Type 0) → before ≡ [] → RunsFrame g v read answer out before v' out' returned → AnswersRead v' read answer
    → (v'.waiting ≡ []) ⊎ (L × SomeRefused) → IfSome answer (λ a. OfRead g read (refusal_of a)) → x' ≡ counted x returned
    → RunsRead g (record { engine = v; to_send = out; unfit = x }) read answer (record { engine = v'; to_send = out'; unfit = x' })
runs_read g v v' out out' before returned x x' read None L e ran answers left o u =
    (refused_read v' read L answers left, (returned, subst (λ (b : List Refusal). RanInto g v [] out b v' [] out' returned) e ran, u))
runs_read g v v' out out' before returned x x' read (Some answer) L e ran answers left o u =
    (returned, u, λ bytes from. subst (λ (b : List Refusal). RanFrame g v bytes read (refusal_of answer) out b v' out' returned) e (ran bytes from), o)

-- what is told, by what the code found before
pub told_same : {R : Type 0} (d : DriverView R) (f : Frame) (at size : ℕ) (answer : Option (Result (Unit {0}) StepError)) (route : Option ℕ) (link : Option OutputHandle)
    (silent anew : Bool) (said : Record) → route ≡ route_by d.engine.connection f.channel f.body → link ≡ link_in f.body (session_at d.engine route)
    → silent ≡ is_empty_body f.body → anew ≡ begins_on d.engine.connection f.channel f.body → said ≡ frame_record at size f
    → told_of answer route link silent anew said ≡ told_of answer (route_by d.engine.connection f.channel f.body)
    (link_in f.body (session_at d.engine (route_by d.engine.connection f.channel f.body))) (is_empty_body f.body)
    (begins_on d.engine.connection f.channel f.body) (frame_record at size f)
told_same d f at size answer route link silent anew said r l s b t =
    ap (λ (x : Record). told_of answer route link silent anew x) t
    ∙ ap (λ (x : Bool). told_of answer route link silent x (frame_record at size f)) b
    ∙ ap (λ (x : Bool). told_of answer route link x (begins_on d.engine.connection f.channel f.body) (frame_record at size f)) s
    ∙ ap (λ (x : Option OutputHandle). told_of answer route x (is_empty_body f.body) (begins_on d.engine.connection f.channel f.body) (frame_record at size f)) l
    ∙ ap (λ (x : Option ℕ). told_of answer x (link_in f.body (session_at d.engine x)) (is_empty_body f.body)
    (begins_on d.engine.connection f.channel f.body) (frame_record at size f)) r
