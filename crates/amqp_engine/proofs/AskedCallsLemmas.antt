-- An entry's calls are what its input asks of the session in its state, and its frames are theirs.
use Rattle.std.proofs.Common.{◌≡◌, ◌⊎◌, ◌++◌, ℕ, List, [], ◌∷◌, Option, Some, None, refl, ap, sym, subst, ◌∙◌, inl, inr, nat_eq, is_some, cond, Bool, true, false}
use Rattle.std.specs.Map.{lookup}
use Rattle.std.specs.FinMap as map
use Rattle.amqp_types.specs.declared.states.ConnectionState.{ConnectionState}
use Rattle.amqp_types.specs.declared.states.SessionState.{SessionState}
use Rattle.amqp_types.specs.declared.states.SessionState.TheVariants.{Unmapped}
use Rattle.amqp_types.specs.Open.{OpenModel}
use Rattle.amqp_session.specs.Relay.{Relays}
use Rattle.amqp_session.specs.Session.{SessionView}
use Rattle.amqp_session.specs.OutgoingFrames.{calls_frames}
use Rattle.amqp_session.specs.History as session
use Rattle.amqp_session.specs.Headline as single
use Rattle.amqp_frames.specs.declared.frame.Frame.{Frame}
use Rattle.amqp_frames.specs.declared.frame.FrameBody.{FrameBody}
use Rattle.amqp_engine.specs.declared.engine.input.Input.{Input}
use Rattle.amqp_engine.specs.declared.engine.input.Input.TheVariants as input
use Rattle.amqp_engine.specs.declared.engine.step_error.StepError.{StepError}
use Rattle.amqp_engine.specs.declared.engine.step_error.StepError.TheVariants as no
use Rattle.amqp_connection.specs.Connection.{ConnectionView, new_connection}
use Rattle.amqp_numbers.specs.Ranges.{Numbers}
use Rattle.amqp_engine.specs.EngineView.{EngineView, new_engine}
use Rattle.amqp_engine.specs.Waits.{sent}
use Rattle.amqp_engine.specs.Entry.{Entry}
use Rattle.amqp_engine.specs.Event.{Quiet, event, event_by, received_event}
use Rattle.amqp_engine.proofs.BareHistoryLemmas.{Chain, LeadsTo}
use Rattle.amqp_engine.specs.ByHistory.{of_session, is_forgotten, session_state}
use Rattle.amqp_engine.specs.Headline.{Asked, OutOfMemoryIsInert, asked_calls, own_frames}
use Rattle.amqp_engine.specs.Inner.Headline.{AllAsked, FramesAre}
use Rattle.amqp_engine.proofs.BegunSessionLemmas.{some_none}
use Rattle.amqp_engine.proofs.StepEffectLemmas.{IsPlain, Effect, Stays, Changes}
use Rattle.amqp_engine.proofs.StepChainLemmas.{Passage, passage, chain_split, open_law}
use Rattle.amqp_engine.proofs.SessionProjectionLemmas.{Legal, legal, numbers_are, same_some}

abbrev pub ViewsLaw : {R : Type 0} → Relays R → Type 0
ViewsLaw g = (m : session.Made) (h : List (session.SessionCall _)) (v : SessionView _) → session.LeadsTo g m h v → single.Stands m h v

same_value : (a b : ℕ) → Some a ≡ Some b → a ≡ b
same_value a b e = cc

still_there : {X : Type 0} (b : Bool) (x y : X) (o : Option X) → o ≡ cond b None (Some x) → o ≡ Some y → x ≡ y
still_there true x y o e f = absurd (some_none (sym f ∙ e))
still_there false x y o e f = same_some x y o e f

-- the state of a session that is there is what the history says
there_state : {R : Type 0} (g : Relays R) → ViewsLaw g → (n : ℕ) (k : ConnectionView) (before : List (Entry R)) (m : EngineView R) (s : SessionView R) → Legal g n k before m → lookup (nat_eq n) m.sessions ≡ Some s → s.state ≡ session_state n before
there_state g law n k before m s (inl a) there = absurd (some_none (sym there ∙ a.unknown))
there_state g law n k before m s (inr p) there =
    let same : p.last ≡ s = still_there (is_forgotten n before) p.last s (lookup (nat_eq n) m.sessions) p.there there in
    sym (ap (λ (x : SessionView _). x.state) same) ∙ (law p.made (of_session n before) p.last p.legal).state_is ∙ ap (λ x. single.state_from x (of_session n before)) p.unmapped

-- that of one that was never there is the first one
absent_state : {R : Type 0} (g : Relays R) (n : ℕ) (k : ConnectionView) (before : List (Entry R)) (m : EngineView R) → Legal g n k before m → lookup (nat_eq n) m.sessions ≡ None → is_forgotten n before ≡ false → Unmapped ≡ session_state n before
absent_state g n k before m (inl a) none stays = sym (ap (λ (cs : List (session.SessionCall _)). single.state_from Unmapped cs) a.no_calls)
absent_state g n k before m (inr p) none stays = absurd (some_none (sym (p.there ∙ ap (λ b. cond b None (Some p.last)) stays) ∙ none))

abbrev Is : {R : Type 0} → Entry R → SessionState → Type 0
Is e s = asked_calls e.input e.received s e.calls e.refusal

none_asked : {R : Type 0} (before : List (Entry R)) (e : Entry R) (o : Option ℕ) → e.reached ≡ o → e.calls ≡ [] → ((e.reached ≡ None) ⊎ (e.refusal ≡ Some no.NoSession)) → Asked before o e
none_asked before e None is none why = none
none_asked before e (Some n) is none why = λ known. by known why
  where
    by : ¬ (e.refusal ≡ Some no.NoSession) → (e.reached ≡ None) ⊎ (e.refusal ≡ Some no.NoSession) → asked_calls e.input e.received (session_state n before) e.calls e.refusal
    by known (inl r) = absurd (some_none (sym is ∙ r))
    by known (inr r) = absurd (known r)

some_asked : {R : Type 0} (before : List (Entry R)) (e : Entry R) (n : ℕ) (o : Option ℕ) → e.reached ≡ o → e.reached ≡ Some n → Is e (session_state n before) → Asked before o e
some_asked before e n None is r a = absurd (some_none (sym r ∙ is))
some_asked before e n (Some k) is r a = λ known. subst (λ x. Is e (session_state x before)) (same_value n k (sym r ∙ is)) a

pub all_asked : {R : Type 0} (g : Relays R) → ViewsLaw g → (made : ConnectionState) (o : OpenModel) (H : List (Entry R)) (w : EngineView R) → LeadsTo g made o H w → AllAsked H
all_asked g law made o H w l before after e is =
    let r = chain_split g before (e ∷ after) (new_engine l.0 made o) w (subst (λ (es : List (Entry _)). Chain g (new_engine l.0 made o) es w) is l.1) in
    by r.0 r.2.0 r.2.1 (λ n. legal g before n (new_engine l.0 made o) r.0 r.1 refl) (λ n. ap (lookup (nat_eq n)) r.2.2.sessions_is)
    (λ n. ap (λ (x : Numbers). is_some (map.get x n)) r.2.2.forgotten_is ∙ numbers_are g n made o before r.0 (l.0, r.1)) (passage g r.2.0 r.2.1 e r.2.3).effect
  where
    by : (m u t : EngineView _) → ((n : ℕ) → Legal g n (new_connection l.0 made o) before m) → ((n : ℕ) → lookup (nat_eq n) u.sessions ≡ lookup (nat_eq n) m.sessions) → ((n : ℕ) → is_some (map.get u.forgotten n) ≡ is_forgotten n before) → Effect g u e t → Asked before e.reached e
    by m u t legal same used (inl x) = stay x.1
      where
        stay : Stays u e t ⊎ Changes g u e t → Asked before e.reached e
        stay (inl y) = none_asked before e e.reached refl y.no_calls y.none_reached
        stay (inr y) = some_asked before e y.number e.reached refl y.reached_is
            (subst (Is e) (there_state g law y.number (new_connection l.0 made o) before m y.before (legal y.number) (sym (same y.number) ∙ y.known)) y.asked)
    by m u t legal same used (inr (inr x)) = none_asked before e e.reached refl x.no_calls (inl x.unreached)
    by m u t legal same used (inr (inl x)) = some_asked before e x.number e.reached refl x.reached_is
        (subst (Is e) (absent_state g x.number (new_connection l.0 made o) before m (legal x.number) (sym (same x.number) ∙ x.absent) (sym (used x.number) ∙ ap is_some x.unused)) x.asked)

pub frames_are : {R : Type 0} (g : Relays R) (made : ConnectionState) (o : OpenModel) (H : List (Entry R)) (w : EngineView R) → LeadsTo g made o H w → FramesAre o H
frames_are g made o H w l before after e is =
    let r = chain_split g before (e ∷ after) (new_engine l.0 made o) w (subst (λ (es : List (Entry _)). Chain g (new_engine l.0 made o) es w) is l.1) in
    let own : r.2.0.connection.local_open ≡ o = ap (λ (k : ConnectionView). k.local_open) r.2.2.connection_is ∙ open_law g before (new_engine l.0 made o) r.0 r.1 in
    (passage g r.2.0 r.2.1 e r.2.3).frames_are ∙ ap (λ x. own_frames x (event e) ++ sent (calls_frames e.calls)) own

-- ---- where memory was refused before

short_frame : (c : ℕ) (b : FrameBody) (reached : Option ℕ) → received_event c b reached (Some no.OutOfMemory) ≡ Quiet
short_frame c b reached = refl

short_event : {R : Type 0} (i : Input R) (received : Option Frame) (reached : Option ℕ) (frames : List Frame) → event_by i received reached (Some no.OutOfMemory) frames ≡ Quiet
short_event (input.Received bytes) (Some f) reached frames = short_frame f.channel f.body reached
short_event (input.Received bytes) None reached frames = refl
short_event i received reached frames = refl

plain_not_short : (r : Option StepError) → IsPlain r → ¬ (r ≡ Some no.OutOfMemory)
plain_not_short None p x = cc
plain_not_short (Some (no.SessionState y)) p x = cc
plain_not_short (Some (no.Session y)) p x = cc
plain_not_short (Some (no.AllocLink y)) p x = cc
plain_not_short (Some y) p x = absurd p

pub ran_short : {R : Type 0} (g : Relays R) (made : ConnectionState) (o : OpenModel) (H : List (Entry R)) (w : EngineView R) → LeadsTo g made o H w → OutOfMemoryIsInert H
ran_short g made o H w l before after e is short =
    let r = chain_split g before (e ∷ after) (new_engine l.0 made o) w (subst (λ (es : List (Entry _)). Chain g (new_engine l.0 made o) es w) is l.1) in
    by r.2.0 r.2.1 (passage g r.2.0 r.2.1 e r.2.3)
  where
    quiet : event e ≡ Quiet
    quiet = ap (λ x. event_by e.input e.received e.reached x e.frames) short ∙ short_event e.input e.received e.reached e.frames

    none : (u t : EngineView _) → Passage g u e t → e.calls ≡ [] → e.frames ≡ []
    none u t p c = p.frames_are ∙ ap (λ x. own_frames u.connection.local_open x ++ sent (calls_frames e.calls)) quiet ∙ ap (λ (cs : List (session.SessionCall _)). sent (calls_frames cs)) c

    by : (u t : EngineView _) → Passage g u e t → (e.reached ≡ None) × (e.frames ≡ [])
    by u t p = effects p.effect
      where
        unreached : (e.reached ≡ None) ⊎ (e.refusal ≡ Some no.NoSession) → e.reached ≡ None
        unreached (inl x) = x
        unreached (inr x) = absurd (apart (sym x ∙ short))
          where
            apart : ¬ (Some no.NoSession ≡ Some no.OutOfMemory)
            apart y = cc

        stay : Stays u e t ⊎ Changes g u e t → (e.reached ≡ None) × (e.frames ≡ [])
        stay (inl y) = (unreached y.none_reached, none u t p y.no_calls)
        stay (inr y) = absurd (plain_not_short e.refusal y.plain short)

        effects : Effect g u e t → (e.reached ≡ None) × (e.frames ≡ [])
        effects (inl x) = stay x.1
        effects (inr (inl x)) = absurd (some_none (sym short ∙ x.accepted))
        effects (inr (inr x)) = absurd (some_none (sym short ∙ x.accepted))
