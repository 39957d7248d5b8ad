-- Which session a frame reaches: the one to which the connection passes it, unless it passes it on to none.
use Rattle.std.proofs.Common.{◌≡◌, inl, inr, ℕ, List, if◌then◌else◌, Bool, true, false, Option, Some, None, Result, Ok, Err, refl, ap, sym, ◌∙◌}
use Rattle.amqp_types.specs.declared.states.SessionState.{SessionState}
use Rattle.amqp_session.specs.Relay.{Relays}
use Rattle.amqp_session.specs.History as session
use Rattle.amqp_session.specs.declared.error.SessionStateError.{SessionStateError}
use Rattle.amqp_session.specs.declared.error.SessionInnerError.{SessionInnerError}
use Rattle.amqp_frames.specs.declared.frame.FrameBody.{FrameBody}
use Rattle.amqp_frames.specs.declared.frame.FrameBody.TheVariants as body
use Rattle.amqp_connection.specs.Connection.{ConnectionView}
use Rattle.amqp_engine.specs.declared.engine.step_error.StepError.{StepError}
use Rattle.amqp_engine.specs.Calls.{received_calls, session_refusal, state_refusal}
use Rattle.amqp_engine.specs.EngineView.{EngineView}
use Rattle.amqp_engine.specs.Engine.{Finds, ReceivedFrame}
use Rattle.amqp_engine.specs.Sessions.{Reaches}
use Rattle.amqp_driver.specs.Driver.{held_by, is_passed_on, reached_by, route_by}

-- ---- what a session refuses was passed on to it

abbrev pub is_passed : Option StepError → Bool
is_passed None = true
is_passed (Some e) = is_passed_on e

state_passed : {X : Type 0} (a : Result X SessionStateError) → is_passed (state_refusal a) ≡ true
state_passed (Ok x) = refl
state_passed (Err e) = refl

session_passed : {X : Type 0} (a : Result X SessionInnerError) → is_passed (session_refusal a) ≡ true
session_passed (Ok x) = refl
session_passed (Err e) = refl

asks_passed : {R : Type 0} (c : ℕ) (b : FrameBody) (s : SessionState) (calls : List (session.SessionCall R)) (refusal : Option StepError)
    → received_calls c b s calls refusal → is_passed refusal ≡ true
asks_passed c (body.Begin p) s calls refusal x = ap is_passed x.2 ∙ state_passed x.0
asks_passed c (body.End p) s calls refusal x = ap is_passed x.2 ∙ state_passed x.0
asks_passed c (body.Attach p) s calls refusal x = ap is_passed x.3 ∙ session_passed x.1
asks_passed c (body.Detach p) s calls refusal x = ap is_passed x.4 ∙ session_passed x.1
asks_passed c (body.Flow p) s calls refusal x = ap is_passed x.3 ∙ session_passed x.1
asks_passed c (body.Transfer p payload) s calls refusal x = ap is_passed x.4 ∙ session_passed x.1
asks_passed c (body.Disposition p) s calls refusal x = ap is_passed x.5 ∙ session_passed x.1
asks_passed c (body.Open p) s calls refusal x = absurd x
asks_passed c (body.Close p) s calls refusal x = absurd x
asks_passed c body.Empty s calls refusal x = absurd x

passed_stays : {X : Type 0} (refusal : Option StepError) (x : Option X) → is_passed refusal ≡ true → reached_by refusal x ≡ x
passed_stays None x p = refl
passed_stays (Some e) x p = by_test (is_passed_on e) x p
  where
    by_test : {X : Type 0} (b : Bool) (x : Option X) → b ≡ true → (if b then x else None) ≡ x
    by_test true x p = refl
    by_test false x p = absurd cc

either_same : {X : Type 0} (b : Bool) (x : Option X) → (if b then x else x) ≡ x
either_same true x = refl
either_same false x = refl

pub none_reached : {X : Type 0} (refusal : Option StepError) → reached_by {X = X} refusal None ≡ None
none_reached None = refl
none_reached (Some e) = either_same (is_passed_on e) None

-- ---- the route

along : {R : Type 0} (g : Relays R) (v m : EngineView R) (c : ℕ) (b : FrameBody) (route reached : Option ℕ) (calls : List (session.SessionCall R))
    (refusal : Option StepError) → ((n : ℕ) (k : ConnectionView) → Finds v.connection c b (Ok n) k → route ≡ Some n)
    → Reaches g (Finds v.connection c b) v (received_calls c b) reached calls refusal m → reached ≡ reached_by refusal route
along g v m c b route reached calls refusal find (inl x) = x.3 ∙ sym (ap (λ (r : Option StepError). reached_by r route) x.5)
along g v m c b route reached calls refusal find (inr (n, k, found, is, inl y)) =
    is ∙ sym (find n k found) ∙ sym (passed_stays refusal route (asks_passed c b y.before.state calls refusal y.asked))
along g v m c b route reached calls refusal find (inr (n, k, found, is, inr y)) =
    is ∙ sym (find n k found) ∙ sym (passed_stays refusal route (ap is_passed y.refused))

-- what a received frame reached
pub reached_is : {R : Type 0} (g : Relays R) (v m : EngineView R) (c : ℕ) (b : FrameBody) (reached : Option ℕ) (calls : List (session.SessionCall R))
    (refusal : Option StepError) → ReceivedFrame g v c b reached calls refusal m → reached ≡ reached_by refusal (route_by v.connection c b)
reached_is g v m c body.Empty reached calls refusal x = x.0.0.0 ∙ sym (none_reached refusal)
reached_is g v m c (body.Open p) reached calls refusal x = x.0.0 ∙ sym (none_reached refusal)
reached_is g v m c (body.Close p) reached calls refusal x = x.0.0 ∙ sym (none_reached refusal)
reached_is g v m c (body.Begin p) reached calls refusal x =
    along g v m c (body.Begin p) (route_by v.connection c (body.Begin p)) reached calls refusal
    (λ n k f. ap (λ (o : Option ℕ). held_by v.connection o) f.1.1 ∙ f.1.2) x
reached_is g v m c (body.End p) reached calls refusal x =
    along g v m c (body.End p) (route_by v.connection c (body.End p)) reached calls refusal (λ n k f. f.1) x
reached_is g v m c (body.Attach p) reached calls refusal x =
    along g v m c (body.Attach p) (route_by v.connection c (body.Attach p)) reached calls refusal (λ n k f. f.0) x
reached_is g v m c (body.Detach p) reached calls refusal x =
    along g v m c (body.Detach p) (route_by v.connection c (body.Detach p)) reached calls refusal (λ n k f. f.0) x
reached_is g v m c (body.Flow p) reached calls refusal x =
    along g v m c (body.Flow p) (route_by v.connection c (body.Flow p)) reached calls refusal (λ n k f. f.0) x
reached_is g v m c (body.Transfer p payload) reached calls refusal x =
    along g v m c (body.Transfer p payload) (route_by v.connection c (body.Transfer p payload)) reached calls refusal (λ n k f. f.0) x
reached_is g v m c (body.Disposition p) reached calls refusal x =
    along g v m c (body.Disposition p) (route_by v.connection c (body.Disposition p)) reached calls refusal (λ n k f. f.0) x
