-- A frame that was read runs as the bytes do that it was read from.
use Rattle.std.proofs.Common.{◌≡◌, ℕ, Bool, true, false, List, [], refl, ap, sym, subst, ◌∙◌, Option, Some, None, IfNone, Result, Ok, Err, inl, inr}
use Rattle.amqp_memory.specs.Refusal.{SomeRefused}
use Rattle.amqp_session.specs.Relay.{Relays}
use Rattle.amqp_frames.specs.declared.error.Error.{Error}
use Rattle.amqp_frames.specs.declared.frame.Frame.{Frame}
use Rattle.amqp_frames.specs.declared.frame.FrameBody.{FrameBody}
use Rattle.amqp_frames.specs.declared.frame.FrameBody.TheVariants as body
use Rattle.amqp_engine.specs.declared.engine.input.Input.TheVariants as given
use Rattle.amqp_engine.specs.declared.engine.answer.Answer.{Answer}
use Rattle.amqp_engine.specs.declared.engine.refusal.Refusal.{Refusal}
use Rattle.amqp_engine.specs.declared.engine.step_error.StepError.{StepError}
use Rattle.amqp_connection.specs.Connection.{refusal_of}
use Rattle.amqp_engine.specs.EngineView.{EngineView}
use Rattle.amqp_engine.specs.Engine.{NoneReceived, Steps}
use Rattle.amqp_engine.specs.History.{OnlyLeft}
use Rattle.amqp_engine.specs.Output.{PutOut}
use Rattle.amqp_engine.specs.RunInto.{Tells}
use Rattle.amqp_engine.specs.RunFrame.{LacksMemory, RanFrame, ReadFrom, frame_read}
use Rattle.amqp_engine.specs.Inner.Taken.{BodyStep, BodyKept, NothingDone, TakesBody, TakesRead, Tries, refusal_or}
use Rattle.amqp_engine.proofs.RunLemmas.{HeadlineLaw, StandsLaw}
use Rattle.amqp_engine.proofs.KeptStateLemmas.{frame_wishes}
use Rattle.amqp_engine.proofs.OneRunLemmas.{ran_one}

-- ---- a body

-- these bodies leave no outcome
abbrev IsUnkept : FrameBody → Type 0
IsUnkept (body.End e) = ⊥
IsUnkept (body.Close c) = ⊥
IsUnkept b = Unit {0}

-- what was done is a step, and where nothing was, all is as before
pub tries : {R : Type 0} (g : Relays R) (v w : EngineView R) (c : ℕ) (b : FrameBody) (done : Bool) (r : Option StepError) → (done ≡ true → BodyStep g v c b r w)
    → (done ≡ false → SomeRefused × (w ≡ v)) → Tries g v c b done r w
tries g v w c b true r f h = f refl
tries g v w c b false r f h = h refl

-- where there is no answer
pub where_none : {X : Type 0} {P Q : Type 0} (x : Option X) → (P → Q) → IfNone x P → IfNone x Q
where_none None f h = f h
where_none (Some y) f h = tt

pub body_kept : {R : Type 0} (g : Relays R) (v w : EngineView R) (c : ℕ) (b : FrameBody) (r : Option StepError) → IsUnkept b → BodyStep g v c b r w → BodyKept g v c b r w
body_kept g v w c (body.Attach p) r u s = (s.0, s.1, w, s.2, refl)
body_kept g v w c (body.Flow p) r u s = (s.0, s.1, w, s.2, refl)
body_kept g v w c (body.Transfer p payload) r u s = (s.0, s.1, w, s.2, refl)
body_kept g v w c (body.Disposition p) r u s = (s.0, s.1, w, s.2, refl)
body_kept g v w c (body.Detach p) r u s = (s.0, s.1, w, s.2, refl)
body_kept g v w c (body.Begin p) r u s = (s.0, s.1, w, s.2, refl)
body_kept g v w c (body.End p) r u s = absurd u
body_kept g v w c (body.Open p) r u s = (s.0, s.1, w, s.2, refl)
body_kept g v w c (body.Close p) r u s = absurd u
body_kept g v w c body.Empty r u s = (s.0, s.1, w, s.2, refl)

-- a body that may not be taken for want of memory
pub tried_kept : {R : Type 0} (g : Relays R) (v w : EngineView R) (c : ℕ) (b : FrameBody) (lacks : StepError) (answer : Option (Result (Unit {0}) StepError)) → IsUnkept b
    → BodyStep g v c b (refusal_or lacks answer) w → IfNone answer (NothingDone v b w) → TakesBody g v c b answer w
tried_kept g v w c b lacks None u s n = n
tried_kept g v w c b lacks (Some a) u s n = body_kept g v w c b (refusal_of a) u s

-- ---- a step

-- what was taken leaves what handles wish
pub taken_wishes : {R : Type 0} (g : Relays R) (v w : EngineView R) (read : Result Frame Error) (answer : Result (Unit {0}) StepError) → TakesRead g v read (Some answer) w
    → w.wishes ≡ v.wishes
taken_wishes g v w (Ok f) answer t = ap (λ (x : EngineView _). x.wishes) t.4 ∙ frame_wishes g v t.2 f.channel f.body t.0 t.1 (refusal_of answer) t.3
taken_wishes g v w (Err e) answer t = ap (λ (x : EngineView _). x.wishes) t.2

-- what was taken of what was read is a step with the bytes
pub taken_step : {R : Type 0} (g : Relays R) (v w : EngineView R) (read : Result Frame Error) (answer : Result (Unit {0}) StepError) (bytes : List ℕ)
    → ReadFrom bytes read → v.waiting ≡ [] → TakesRead g v read (Some answer) w
    → (step : Steps g v (given.Received bytes) (refusal_of answer) w) × (step.received ≡ frame_read read)
taken_step g v w (Ok f) answer bytes from idle t = (
  record {
    received = Some f;
    reached = t.0;
    calls = t.1;
    frames = t.2.waiting;
    done = t.2;
    step = inr (idle, refl, inr (f, from.0, from.1.0, refl, t.3));
    keeps = t.4;
  },
  refl,
)
taken_step g v w (Err e) answer bytes from idle t = (
  record {
    received = None;
    reached = None;
    calls = [];
    frames = v.waiting;
    done = v;
    step = inr (idle, refl, inl (subst (λ x. NoneReceived bytes x) (sym (ap refusal_of t.0)) from, refl, ((refl, refl), refl)));
    keeps = t.2;
  },
  refl,
)

-- what was not taken changed nothing, and memory was refused for it
pub untaken : {R : Type 0} (g : Relays R) (v w : EngineView R) (read : Result Frame Error) → TakesRead g v read None w → LacksMemory read × (w ≡ v)
untaken g v w (Ok f) t = ((t.0, t.1), t.2)
untaken g v w (Err e) t = (t.0, t.1)

-- ---- the run

-- what waited is sent, the frame is a step, and what it hands out is sent
pub ran_frame : {R : Type 0} (g : Relays R) (v u m w : EngineView R) (bytes : List ℕ) (read : Result Frame Error) (r : Option StepError) (out out1 out2 : List ℕ) (refs refs1 refs2 : List Refusal)
    (outs more : List Answer) → HeadlineLaw g → StandsLaw g → OnlyLeft v u → PutOut v.limit v.waiting u.waiting outs → Tells None outs out refs out1 refs1 → u.waiting ≡ []
    → (step : (s : Steps g u (given.Received bytes) r m) × (s.received ≡ frame_read read))
    → OnlyLeft m w → PutOut m.limit m.waiting w.waiting more → Tells (Some 0) more out1 refs1 out2 refs2 → RanFrame g v bytes read r out refs w out2 refs2
ran_frame g v u m w bytes read r out out1 out2 refs refs1 refs2 outs more law views t put told idle step t2 put2 told2 =
    let o = ran_one g v u m w (given.Received bytes) r out out1 out2 refs refs1 refs2 outs more law views t put told idle step.0 t2 put2 told2 in
    record { one = o.0; received_is = o.1 ∙ step.1 }
