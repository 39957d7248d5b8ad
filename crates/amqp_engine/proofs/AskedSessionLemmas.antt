-- A session is asked, among those of an engine: what it hands out waits. Or there is no such session.
use Rattle.std.proofs.Common.{◌≡◌, ℕ, List, [], Option, Some, None, Result, Ok, Err, refl, ap, subst, ◌∙◌, inl, inr, nat_eq}
use Rattle.std.specs.Map.{lookup, set_value}
use Rattle.amqp_frames.specs.declared.frame.Frame.{Frame}
use Rattle.amqp_session.specs.Relay.{Relays}
use Rattle.amqp_session.specs.Session.{SessionModel}
use Rattle.amqp_session.specs.History as session
use Rattle.amqp_connection.specs.declared.error.ConnectionInnerError.{ConnectionInnerError}
use Rattle.amqp_engine.specs.declared.engine.step_error.StepError.{StepError}
use Rattle.amqp_engine.specs.declared.engine.step_error.StepError.TheVariants.{NoSession, Connection}
use Rattle.amqp_connection.specs.Connection.{ConnectionView}
use Rattle.amqp_numbers.specs.Ranges.{Numbers}
use Rattle.amqp_engine.specs.Kept.{Outcomes, Wishes}
use Rattle.amqp_engine.specs.EngineView.{EngineView, views_of}
use Rattle.amqp_engine.specs.Calls.{Calls}
use Rattle.amqp_engine.specs.Sessions.{Answered, Called, Unknown, Does, Reaches}
use Rattle.amqp_engine.proofs.SameEngineLemmas.{parts, same_engine, one_called}

-- session n took the call
pub took : {R : Type 0} {p : Numbers} {o : Outcomes} {q : Wishes} (g : Relays R) (asks : Calls R) (v : EngineView R) (k : ConnectionView) (es es' : List (ℕ × SessionModel R)) (limit n : ℕ) (fs waiting frames : List Frame) (before after : SessionModel R) (refusal : Option StepError) →
    parts p o q k es limit fs ≡ v → lookup (nat_eq n) (views_of es) ≡ Some before.view → (a : Answered g before.view asks refusal frames after.view) → waiting ≡ frames → es' ≡ set_value (nat_eq n) es after →
    Called g v n asks a.calls refusal (parts p o q k es' limit waiting)
took {R = R} {p = p} {o = o} {q = q} g asks v k es es' limit n fs waiting frames before after refusal same known a out set =
    subst (λ (x : EngineView R). Called g x n asks a.calls refusal (parts p o q k es' limit waiting)) same (record {
      before = before.view;
      after = after.view;
      walk = after.last_walk;
      known = known;
      asked = a.asked;
      steps = a.steps;
      put = one_called k es es' limit n after waiting _ set (out ∙ a.handed_out);
    })

-- there is no session n
pub no_session : {R : Type 0} {p : Numbers} {o : Outcomes} {q : Wishes} (v : EngineView R) (k : ConnectionView) (es es' : List (ℕ × SessionModel R)) (limit n : ℕ) (fs : List Frame) →
    parts p o q k es limit fs ≡ v → lookup (nat_eq n) (views_of es) ≡ None → es' ≡ es → Unknown v n [] (Some NoSession) (parts p o q k es' limit fs)
no_session {R = R} {p = p} {o = o} {q = q} v k es es' limit n fs same none stays =
    subst (λ (x : EngineView R). Unknown x n [] (Some NoSession) (parts p o q k es' limit fs)) same
    (record { unknown = none; no_calls = refl; refused = refl; same = same_engine k k es' es limit fs fs refl stays refl })

-- ---- by a request

abbrev pub Did : {R : Type 0} → Relays R → EngineView R → ℕ → Calls R → Option StepError → EngineView R → Type 0
Did g v n asks refusal w = (reached : Option ℕ) × (calls : List (session.SessionCall _)) × Does g v n asks reached calls refusal w

pub did : {R : Type 0} {p : Numbers} {o : Outcomes} {q : Wishes} (g : Relays R) (asks : Calls R) (v : EngineView R) (k : ConnectionView) (es es' : List (ℕ × SessionModel R)) (limit n : ℕ) (fs waiting frames : List Frame) (before after : SessionModel R) (refusal : Option StepError) →
    parts p o q k es limit fs ≡ v → lookup (nat_eq n) (views_of es) ≡ Some before.view → Answered g before.view asks refusal frames after.view → waiting ≡ frames → es' ≡ set_value (nat_eq n) es after →
    Did g v n asks refusal (parts p o q k es' limit waiting)
did g asks v k es es' limit n fs waiting frames before after refusal same known a out set =
    (Some n, a.calls, inl (refl, took g asks v k es es' limit n fs waiting frames before after refusal same known a out set))

pub did_not : {R : Type 0} {p : Numbers} {o : Outcomes} {q : Wishes} (g : Relays R) (asks : Calls R) (v : EngineView R) (k : ConnectionView) (es es' : List (ℕ × SessionModel R)) (limit n : ℕ) (fs : List Frame) →
    parts p o q k es limit fs ≡ v → lookup (nat_eq n) (views_of es) ≡ None → es' ≡ es → Did g v n asks (Some NoSession) (parts p o q k es' limit fs)
did_not g asks v k es es' limit n fs same none stays = (None, [], inr (refl, no_session v k es es' limit n fs same none stays))

-- ---- by a frame, for which the connection moved from j to k

pub reaches : {R : Type 0} {p : Numbers} {o : Outcomes} {q : Wishes} (g : Relays R) (finds : Result ℕ ConnectionInnerError → ConnectionView → Type 0) (asks : Calls R) (v : EngineView R) (j k : ConnectionView) (es es' : List (ℕ × SessionModel R)) (limit n : ℕ) (fs waiting frames : List Frame) (before after : SessionModel R) (refusal : Option StepError) →
    parts p o q j es limit fs ≡ v → finds (Ok n) k → lookup (nat_eq n) (views_of es) ≡ Some before.view → (a : Answered g before.view asks refusal frames after.view) → waiting ≡ frames → es' ≡ set_value (nat_eq n) es after →
    Reaches g finds v asks (Some n) a.calls refusal (parts p o q k es' limit waiting)
reaches {R = R} g finds asks v j k es es' limit n fs waiting frames before after refusal same found known a out set =
    inr (n, k, found, refl, inl (took g asks (record v { connection = k }) k es es' limit n fs waiting frames before after refusal (ap (λ (x : EngineView R). record x { connection = k }) same) known a out set))

pub reaches_unknown : {R : Type 0} {p : Numbers} {o : Outcomes} {q : Wishes} (g : Relays R) (finds : Result ℕ ConnectionInnerError → ConnectionView → Type 0) (asks : Calls R) (v : EngineView R) (j k : ConnectionView) (es es' : List (ℕ × SessionModel R)) (limit n : ℕ) (fs : List Frame) →
    parts p o q j es limit fs ≡ v → finds (Ok n) k → lookup (nat_eq n) (views_of es) ≡ None → es' ≡ es → Reaches g finds v asks (Some n) [] (Some NoSession) (parts p o q k es' limit fs)
reaches_unknown {R = R} g finds asks v j k es es' limit n fs same found none stays =
    inr (n, k, found, refl, inr (no_session (record v { connection = k }) k es es' limit n fs (ap (λ (x : EngineView R). record x { connection = k }) same) none stays))

pub reaches_none : {R : Type 0} (g : Relays R) (finds : Result ℕ ConnectionInnerError → ConnectionView → Type 0) (asks : Calls R) (u v : EngineView R) (k : ConnectionView) (e : ConnectionInnerError) (refusal : Option StepError) →
    u ≡ v → finds (Err e) k → refusal ≡ Some (Connection e) → Reaches g finds v asks None [] refusal (record u { connection = k })
reaches_none {R = R} g finds asks u v k e refusal same found refused = inl (e, k, found, refl, refl, refused, ap (λ (x : EngineView R). record x { connection = k }) same)
