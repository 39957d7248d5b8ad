-- A wish that is refused changes nothing. (The counts of a walk are not followed.)
use Rattle.std.proofs.Common.{◌≡◌, ℕ, List, [], ◌∷◌, Option, Some, None, Result, Ok, Err, Bool, true, false, cond, refl, ap, sym, subst, ◌∙◌, inl, inr, nat_eq}
use Rattle.std.specs.Map.{lookup, set_value}
use Rattle.amqp_types.specs.Error.{ErrorModel}
use Rattle.amqp_frames.specs.declared.frame.Frame.{Frame}
use Rattle.amqp_session.specs.declared.frame.SessionFrame.{SessionFrame}
use Rattle.amqp_session.specs.declared.error.SessionStateError.{SessionStateError}
use Rattle.amqp_session.specs.declared.error.SessionStateError.TheVariants as unended
use Rattle.amqp_session.specs.Relay.{Relays}
use Rattle.amqp_session.specs.Session.{SessionView}
use Rattle.amqp_session.specs.Step.{SendEndStep}
use Rattle.amqp_session.specs.OutgoingFrames.{calls_frames}
use Rattle.amqp_session.specs.History as session
use Rattle.amqp_connection.specs.declared.error.ConnectionStateError.{ConnectionStateError}
use Rattle.amqp_connection.specs.declared.error.ConnectionStateError.TheVariants as state
use Rattle.amqp_engine.specs.declared.engine.input.Input.{Input}
use Rattle.amqp_engine.specs.declared.engine.input.Input.TheVariants as input
use Rattle.amqp_engine.specs.declared.engine.step_error.StepError.{StepError}
use Rattle.amqp_engine.specs.declared.engine.step_error.StepError.TheVariants as no
use Rattle.amqp_connection.specs.Connection.{ConnectionView, SendCloseStep}
use Rattle.amqp_engine.specs.Waits.{sent}
use Rattle.amqp_engine.specs.EngineView.{EngineView}
use Rattle.amqp_engine.specs.Calls.{state_refusal, recorded_end}
use Rattle.amqp_engine.specs.Inner.Calls.{EndCalls}
use Rattle.amqp_engine.specs.Sessions.{Called, Does}
use Rattle.amqp_engine.specs.Engine.{Step, Steps, InputStep, CloseRequest, kept, left}
use Rattle.amqp_engine.specs.Entry.{Entry}
use Rattle.amqp_engine.specs.Inner.Flushing.{IsWish}

same_some : {X : Type 0} (x y : X) → Some x ≡ Some y → x ≡ y
same_some x y e = cc

-- what stands is written over itself
set_same : {X : Type 0} (es : List (ℕ × X)) (n : ℕ) (x : X) → lookup (nat_eq n) es ≡ Some x → set_value (nat_eq n) es x ≡ es
set_same [] n x is = refl
set_same (e ∷ es) n x is = by (λ h. set_same es n x h) (nat_eq n e.0) refl is
  where
    by : (lookup (nat_eq n) es ≡ Some x → set_value (nat_eq n) es x ≡ es) → (b : Bool) → nat_eq n e.0 ≡ b → lookup (nat_eq n) (e ∷ es) ≡ Some x → set_value (nat_eq n) (e ∷ es) x ≡ e ∷ es
    by rest true t h =
        let here : e.1 ≡ x = same_some e.1 x (sym (ap (λ b. cond b (Some e.1) (lookup (nat_eq n) es)) t) ∙ h) in
        rw t (ap (λ y. (e.0, y) ∷ es) (sym here))
    by rest false t h =
        let later : lookup (nat_eq n) es ≡ Some x = sym (ap (λ b. cond b (Some e.1) (lookup (nat_eq n) es)) t) ∙ h in
        rw t (ap (λ ys. e ∷ ys) (rest later))

-- the same engine, whatever its sessions' latest walks
abbrev pub Still : {R : Type 0} → EngineView R → EngineView R → Type 0
Still v w = w ≡ record v { walks = w.walks }

still : {R : Type 0} (v w : EngineView R) → w ≡ v → Still v w
still v w e = e ∙ ap (λ x. record v { walks = x }) (sym (ap (λ (x : EngineView _). x.walks) e))

unsent : {R : Type 0} (v w : SessionView R) (error : Option ErrorModel) (e : SessionStateError) → SendEndStep v error (Err e) w → w ≡ v
unsent v w error unended.IllegalState s = s.1
unsent v w error e s = absurd s

called_end : {R : Type 0} (g : Relays R) (v w : EngineView R) (n : ℕ) (error : Option ErrorModel) (calls : List (session.SessionCall R)) (r : StepError) → v.waiting ≡ [] → Called g v n (EndCalls error) calls (Some r) w → Still v w
called_end {R} g v w n error calls r idle c = by c.asked.0 c.asked.1 c.asked.2
  where
    by : (result : Result SessionFrame SessionStateError) → calls ≡ session.SendsEnd error result ∷ recorded_end error result → Some r ≡ state_refusal result → Still v w
    by (Ok f) is refused = absurd cc
    by (Err e) is refused =
        let steps = subst (λ (cs : List (session.SessionCall R)). session.SessionChain g c.before cs c.after) is c.steps in
        let after : c.after ≡ c.before = steps.2 ∙ unsent c.before steps.0 error e steps.1 in
        let walks = set_value (nat_eq n) v.walks c.walk in
        c.put ∙ ap (λ (s : SessionView R). record v { sessions = set_value (nat_eq n) v.sessions s; walks = walks; waiting = sent (calls_frames calls) }) after
        ∙ ap (λ es. record v { sessions = es; walks = walks; waiting = sent (calls_frames calls) }) (set_same v.sessions n c.before c.known)
        ∙ ap (λ (cs : List (session.SessionCall R)). record v { walks = walks; waiting = sent (calls_frames cs) }) is
        ∙ ap (λ (fs : List Frame). record v { walks = walks; waiting = fs }) (sym idle)
        ∙ ap (λ x. record v { walks = x }) (sym (ap (λ (x : EngineView R). x.walks) c.put))

refused_end : {R : Type 0} (g : Relays R) (v w : EngineView R) (n : ℕ) (error : Option ErrorModel) (reached : Option ℕ) (calls : List (session.SessionCall R)) (r : StepError) → v.waiting ≡ [] → Does g v n (EndCalls error) reached calls (Some r) w → Still v w
refused_end g v w n error reached calls r idle (inl s) = called_end g v w n error calls r idle s.1
refused_end g v w n error reached calls r idle (inr s) = still v w s.1.same

unclosed : (v k : ConnectionView) (error : Option ErrorModel) (e : ConnectionStateError) → SendCloseStep v error (Err e) k → k ≡ v
unclosed v k error state.IllegalState s = s.1
unclosed v k error e s = absurd s

refused_close : {R : Type 0} (v w : EngineView R) (error : Option ErrorModel) (r : StepError) → CloseRequest v error (Some r) w → Still v w
refused_close v w error (no.ConnectionState e) s = still v w (s.2 ∙ ap (λ (k : ConnectionView). record v { connection = k }) (unclosed v.connection s.0 error e s.1))
refused_close v w error e s = absurd s

abbrev SameStep : {R : Type 0} → EngineView R → EngineView R → Option Frame → Type 0
SameStep v w received = (received ≡ None) × Still v w

carried : {R : Type 0} (g : Relays R) (v w : EngineView R) (i : Input R) (received : Option Frame) (reached : Option ℕ) (calls : List (session.SessionCall R)) (r : StepError) →
    IsWish i → v.waiting ≡ [] → InputStep g v i received reached calls (Some r) w → SameStep v w received
carried g v w (input.End n error) received reached calls r is idle s = (s.0, refused_end g v w n.0 error reached calls r idle s.1)
carried g v w (input.Close error) received reached calls r is idle s = (s.0, refused_close v w error r s.2)
carried g v w i received reached calls r is idle s = absurd is

stepped : {R : Type 0} (g : Relays R) (v w : EngineView R) (e : Entry R) (r : StepError) → e.refusal ≡ Some r → IsWish e.input → v.waiting ≡ [] → Step g v e w → SameStep v w e.received
stepped g v w e r refused is idle (inl s) = absurd (s.0 idle)
stepped g v w e r refused is idle (inr s) =
    carried g v w e.input e.received e.reached e.calls r is idle (subst (λ x. InputStep g v e.input e.received e.reached e.calls x w) refused s.2)

-- what is refused lets nothing go
pub not_left : {R : Type 0} (i : Input R) (r : StepError) (m : EngineView R) → left i (Some r) m ≡ m
not_left (input.Forget n) r m = refl
not_left i r m = refl

pub refused_same : {R : Type 0} (g : Relays R) (v w : EngineView R) (i : Input R) (r : StepError) → IsWish i → v.waiting ≡ [] → Steps g v i (Some r) w → Still v w
refused_same g v w i r is idle s =
    let same = stepped g v s.done _ r refl is idle s.step in
    let done : w ≡ s.done = s.keeps ∙ not_left i r _ ∙ ap (λ f. kept f s.reached (Some r) s.done) same.0 in
    done ∙ same.1 ∙ ap (λ x. record v { walks = x }) (sym (ap (λ (x : EngineView _). x.walks) done))
