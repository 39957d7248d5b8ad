-- What has been run so far, and what is said of it at the end.
use Rattle.std.proofs.Common.{◌≡◌, ◌+◌, List, [], ◌∷◌, ◌++◌, length, refl, ap, sym, subst, ◌∙◌, arith, append_assoc, length-append, Option, Some, None, Result, Ok, Err, inl, inr}
use Rattle.std.proofs.lemmas.List.Elements.{All-nil, All-push}
use Rattle.amqp_types.specs.declared.states.ConnectionState.{ConnectionState}
use Rattle.amqp_types.specs.Open.{OpenModel}
use Rattle.amqp_frames.specs.declared.frame.Frame.{Frame}
use Rattle.amqp_engine.specs.declared.engine.input.Input.{Input}
use Rattle.amqp_engine.specs.declared.engine.answer.Answer.{Answer}
use Rattle.amqp_engine.specs.declared.engine.step_error.StepError.{StepError}
use Rattle.amqp_session.specs.declared.keys.KeyHash.{KeyHash}
use Rattle.amqp_session.specs.Relay.{Relays}
use Rattle.amqp_engine.specs.EngineView.{EngineView, new_engine}
use Rattle.amqp_engine.specs.Engine.{CarriedStep, Steps}
use Rattle.amqp_engine.specs.Entry.{Entry}
use Rattle.amqp_engine.specs.Kept.{outcomes_after}
use Rattle.amqp_engine.specs.History.{OutputTaken, OnlyLeft, Chain}
use Rattle.amqp_engine.specs.Legal.{Legal}
use Rattle.amqp_engine.specs.Inner.Running.{Running}
use Rattle.amqp_engine.specs.Event.{event}
use Rattle.amqp_engine.specs.ByHistory.{limit_by, limit_after}
use Rattle.amqp_engine.specs.Output.{PutOut, OutputOf, NextOutput, answer_of}
use Rattle.amqp_engine.specs.Promise.{IsTaken, inputs_of}
use Rattle.amqp_engine.specs.Ran.{Ran}
use Rattle.amqp_engine.specs.Stepped.{Stepped, Stays}
use Rattle.amqp_engine.specs.Stepped as one
use Rattle.amqp_frames.specs.Piece.{PieceParts}
use Rattle.amqp_engine.specs.declared.engine.answer.OutputError.{OutputError}
use Rattle.amqp_engine.specs.declared.engine.answer.OutputError.TheVariants as output
use Rattle.amqp_engine.proofs.OutputLemmas.{OutputTaken-none, OutputTaken-more, speaks_more, limit_more}
use Rattle.amqp_engine.proofs.RunLemmas.{Chain-append, inputs_of-append, outcomes_from-append, HeadlineLaw, StandsLaw, legal_more, running_ran}
use Rattle.amqp_engine.proofs.StepChainLemmas.{passage, taken}
use Rattle.amqp_engine.proofs.KeptStateLemmas.{step_outcomes, step_wishes}

pub empty : {X : Type 0} → (xs : List X) → length xs ≡ 0 → xs ≡ []
empty [] e = refl
empty (x ∷ xs) e = absurd (omega arith)

pub Running-start : {R : Type 0} (gives : Relays R) (v v' : EngineView R) (answers answers' out : List Answer) → OnlyLeft v v' → answers' ≡ answers ++ out → PutOut v.limit v.waiting v'.waiting out →
    Running gives v [] answers v' answers'
Running-start gives v v' answers answers' out t a p = record {
  all_taken = All-nil IsTaken;
  chain = t.taken;
  limit_is = t.taken.limit_is;
  outcomes_are = t.outcomes_stay;
  out = out;
  appended = a;
  said = p;
}

-- the entry of a step
abbrev pub entry_of : {R : Type 0} (gives : Relays R) (v : EngineView R) (input : Input R) (r : Option StepError) (w : EngineView R) → Steps gives v input r w → Entry R
entry_of gives v input r w step = record { input = input; received = step.received; reached = step.reached; calls = step.calls; refusal = r; frames = step.frames }

pub Running-more : {R : Type 0} (gives : Relays R) (v v1 v2 v3 : EngineView R) (entries : List (Entry R)) (answers answers1 answers2 answers3 out : List Answer) (input : Input R) (r : Option StepError) →
    Running gives v entries answers v1 answers1 → v1.waiting ≡ [] →
    (step : Steps gives v1 input r v2) → answers2 ≡ answers1 ++ answer_of r ∷ [] →
    OnlyLeft v2 v3 → answers3 ≡ answers2 ++ out → PutOut v2.limit v2.waiting v3.waiting out →
    Running gives v (entries ++ entry_of gives v1 input r v2 step ∷ []) answers v3 answers3
Running-more gives v v1 v2 v3 entries answers answers1 answers2 answers3 out input r g idle step pushed t appended put =
    let e = entry_of gives v1 input r v2 step in
    let now = taken gives v1 step.done e idle step.step in
    let frames : e.frames ≡ v2.waiting = now.1 ∙ sym (ap (λ (x : EngineView _). x.waiting) step.keeps) in
    let limit2 : v2.limit ≡ limit_by (limit_after v.limit entries) (event e) =
    ap (λ (x : EngineView _). x.limit) step.keeps ∙ (passage gives v1 step.done e step.step).limit_is ∙ ap (λ k. limit_by k (event e)) g.limit_is in
    let put2 : PutOut (limit_by (limit_after v.limit entries) (event e)) e.frames v3.waiting out =
    subst (λ k. PutOut k e.frames v3.waiting out) limit2 (subst (λ (fs : List Frame). PutOut v2.limit fs v3.waiting out) (sym frames) put) in
    let before : OutputOf v.limit v.waiting entries [] g.out = subst (λ (fs : List Frame). OutputOf v.limit v.waiting entries fs g.out) idle g.said in
    record {
      all_taken = All-push IsTaken entries e g.all_taken now.0;
      chain = Chain-append gives entries (e ∷ []) v v1 v3 g.chain (v1, step.done, v2, OutputTaken-none v1, step.step, step.keeps, t.taken);
      limit_is = t.taken.limit_is ∙ limit2 ∙ sym (limit_more v.limit entries e);
      outcomes_are = t.outcomes_stay ∙ ap (λ (x : EngineView _). x.outcomes) step.keeps
          ∙ ap (λ o. outcomes_after e.input e.received e.reached e.refusal o) (step_outcomes gives v1 step.done e step.step ∙ g.outcomes_are) ∙ sym (outcomes_from-append v.outcomes entries (e ∷ []));
      out = g.out ++ answer_of r ∷ out;
      appended = appended ∙ ap (λ (xs : List Answer). xs ++ out) (pushed ∙ ap (λ (xs : List Answer). xs ++ answer_of r ∷ []) g.appended)
          ∙ append_assoc (answers ++ g.out) (answer_of r ∷ []) out ∙ append_assoc answers g.out (answer_of r ∷ out);
      said = speaks_more v.limit v.waiting entries g.out e v3.waiting out before put2;
    }

-- the inputs that have been run so far
pub record Taking {R : Type 0} (gives : Relays R) (v : EngineView R) (inputs : List (Input R)) (answers : List Answer) (v' : EngineView R) (inputs' : List (Input R)) (answers' : List Answer) : Type 0 where
  pub entries : List (Entry R)
  pub taken : inputs ≡ inputs_of entries ++ inputs'
  pub counted : length inputs ≡ length entries + length inputs'
  pub running : Running gives v entries answers v' answers'
  pub wishes_stay : v'.wishes ≡ v.wishes

pub Taking-start : {R : Type 0} (gives : Relays R) (v v' : EngineView R) (inputs : List (Input R)) (answers answers' out : List Answer) → OnlyLeft v v' → answers' ≡ answers ++ out → PutOut v.limit v.waiting v'.waiting out →
    Taking gives v inputs answers v' inputs answers'
Taking-start gives v v' inputs answers answers' out t a p = record {
  entries = [];
  taken = refl;
  counted = omega arith;
  running = Running-start gives v v' answers answers' out t a p;
  wishes_stay = t.wishes_stay;
}

pub Taking-more : {R : Type 0} (gives : Relays R) (v v1 v2 v3 : EngineView R) (inputs inputs1 inputs2 : List (Input R)) (answers answers1 answers2 answers3 out : List Answer) (input : Input R) (r : Option StepError) →
    Taking gives v inputs answers v1 inputs1 answers1 → v1.waiting ≡ [] → inputs1 ≡ input ∷ inputs2 →
    Steps gives v1 input r v2 → answers2 ≡ answers1 ++ answer_of r ∷ [] →
    OnlyLeft v2 v3 → answers3 ≡ answers2 ++ out → PutOut v2.limit v2.waiting v3.waiting out →
    Taking gives v inputs answers v3 inputs2 answers3
Taking-more gives v v1 v2 v3 inputs inputs1 inputs2 answers answers1 answers2 answers3 out input r g idle popped step pushed t appended put =
    let e = entry_of gives v1 input r v2 step in
    record {
      entries = g.entries ++ e ∷ [];
      taken = g.taken ∙ ap (λ (xs : List (Input _)). inputs_of g.entries ++ xs) popped ∙ sym (append_assoc (inputs_of g.entries) (input ∷ []) inputs2) ∙ ap (λ (xs : List (Input _)). xs ++ inputs2) (sym (inputs_of-append g.entries (e ∷ [])));
      counted = omega (arith, g.counted, length-append g.entries (e ∷ []), ap length popped);
      running = Running-more gives v v1 v2 v3 g.entries answers answers1 answers2 answers3 out input r g.running idle step pushed t appended put;
      wishes_stay = t.wishes_stay ∙ ap (λ (x : EngineView _). x.wishes) step.keeps ∙ step_wishes gives v1 step.done e step.step ∙ g.wishes_stay;
    }

-- ---- what is said of it at the end

-- frames left, or handles took outcomes
pub Chain-end : {R : Type 0} (gives : Relays R) (es : List (Entry R)) (v u w : EngineView R) → Chain gives v es u → OutputTaken u w → Chain gives v es w
Chain-end gives [] v u w c t = OutputTaken-more v u w c t
Chain-end gives (e ∷ es) v u w c t = (c.0, c.1, c.2, c.3, c.4, c.5, Chain-end gives es c.2 u w c.6 t)

pub legal_left : {R : Type 0} (gives : Relays R) (v w : EngineView R) → OutputTaken v w → Stays gives v w
unfolding Legal
legal_left gives v w t = λ state o H l. (l.0, Chain-end gives H (new_engine l.0 state o) v w l.1 t)

front : {R : Type 0} (v : EngineView R) (f : Frame) (fs : List Frame) → v.waiting ≡ f ∷ fs → OutputTaken v (record v { waiting = fs })
front v f fs e = record { gone = f ∷ []; left = e; connection_is = refl; sessions_is = refl; forgotten_is = refl; limit_is = refl; outcomes_are = record { close = inl refl; ends = λ n. inl refl } }

pub next_left : {R X : Type 0} (v : EngineView R) (result : Result (Option X) OutputError) (view : X → List PieceParts) (w : EngineView R) → NextOutput view v result w → OutputTaken v w
next_left v (Ok None) view w n = subst (λ (x : EngineView _). OutputTaken v x) (sym n.1) (OutputTaken-none v)
next_left v (Ok (Some x)) view w n = subst (λ (y : EngineView _). OutputTaken v y) (sym n.6) (front v n.0 n.1 n.2)
next_left v (Err (output.TooLarge f)) view w n = subst (λ (y : EngineView _). OutputTaken v y) (sym n.3) (front v f n.0 n.1)
next_left v (Err output.Memory) view w n = subst (λ (x : EngineView _). OutputTaken v x) (sym n.1) (OutputTaken-none v)

-- a step, and how the history goes on by it
pub stepped : {R : Type 0} (gives : Relays R) → HeadlineLaw gives → (v : EngineView R) (i : Input R) (r : Option StepError) (w : EngineView R) → Steps gives v i r w → Stepped gives v i r w
stepped gives law v i r w step =
    let e = one.entry_of step in
    let chain : Chain gives v (e ∷ []) w = (v, step.done, w, OutputTaken-none v, step.step, step.keeps, OutputTaken-none w) in
    record { step = step; goes_on = λ state o H l. let all = legal_more gives state o H (e ∷ []) v w l chain in (all, law state o (H ++ e ∷ []) w all) }

-- what is carried out where nothing waits is a step
pub carried : {R : Type 0} (gives : Relays R) (v w : EngineView R) (i : Input R) (r : Option StepError) → v.waiting ≡ [] → CarriedStep gives v i r w → Steps gives v i r w
carried gives v w i r idle c = record {
  received = c.0;
  reached = c.1;
  calls = c.2;
  frames = c.3.waiting;
  done = c.3;
  step = inr (idle, refl, c.4);
  keeps = c.5;
}

-- the history of a new engine
pub legal_new : {R : Type 0} (gives : Relays R) (hash : KeyHash) (state : ConnectionState) (o : OpenModel) (v : EngineView R) → v ≡ new_engine hash state o → Legal gives state o [] v
unfolding Legal
legal_new gives hash state o v e = (hash, subst (λ (x : EngineView _). OutputTaken (new_engine hash state o) x) (sym e) (OutputTaken-none (new_engine hash state o)))

pub Taking-Ran : {R : Type 0} (gives : Relays R) (v v' : EngineView R) (inputs inputs' : List (Input R)) (answers answers' : List Answer) → HeadlineLaw gives → StandsLaw gives →
    Taking gives v inputs answers v' inputs' answers' → Ran gives [] v inputs answers v' inputs' answers'
Taking-Ran gives v v' inputs inputs' answers answers' law views g = running_ran gives v v' [] g.entries inputs inputs' answers answers' law views g.taken g.running
