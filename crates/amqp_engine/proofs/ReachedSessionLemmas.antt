-- What was received is what the bytes hold, and it reaches the session of its channel's route.
use Rattle.std.proofs.Common.{◌≡◌, ◌⊎◌, ℕ, List, ◌∷◌, Option, Some, None, Result, Ok, Err, ap, sym, subst, ◌∙◌, inl, inr}
use Rattle.std.specs.Option.{option_map}
use Rattle.std.specs.FinMap as map
use Rattle.amqp_types.specs.declared.states.ConnectionState.{ConnectionState}
use Rattle.amqp_types.specs.declared.states.ConnectionState.TheVariants as at
use Rattle.amqp_types.specs.Open.{OpenModel}
use Rattle.amqp_types.specs.Begin.{BeginModel}
use Rattle.amqp_session.specs.Relay.{Relays}
use Rattle.amqp_session.specs.History as session
use Rattle.amqp_frames.specs.declared.frame.Frame.{Frame}
use Rattle.amqp_frames.specs.declared.frame.FrameBody.{FrameBody}
use Rattle.amqp_frames.specs.declared.frame.FrameBody.TheVariants as body
use Rattle.amqp_connection.specs.declared.error.ConnectionStateError.{ConnectionStateError}
use Rattle.amqp_connection.specs.declared.error.ConnectionInnerError.{ConnectionInnerError}
use Rattle.amqp_connection.specs.declared.error.ConnectionInnerError.TheVariants as inner
use Rattle.amqp_engine.specs.declared.engine.input.Input.{Input}
use Rattle.amqp_engine.specs.declared.engine.input.Input.TheVariants as input
use Rattle.amqp_engine.specs.declared.engine.step_error.StepError.{StepError}
use Rattle.amqp_engine.specs.declared.engine.step_error.StepError.TheVariants as no
use Rattle.amqp_connection.specs.Connection.{ConnectionView, EndRouteStep, RouteStep, not_found}
use Rattle.amqp_engine.specs.EngineView.{EngineView, new_engine}
use Rattle.amqp_engine.specs.Calls.{Calls}
use Rattle.amqp_engine.specs.Sessions.{Called, Unknown, Reaches}
use Rattle.amqp_engine.specs.Engine.{Step, NoneReceived, InputStep, ReceivedFrame, ReceivedOpen, Finds}
use Rattle.amqp_engine.specs.Entry.{Entry}
use Rattle.amqp_engine.proofs.BareHistoryLemmas.{Chain, LeadsTo}
use Rattle.amqp_engine.specs.ByHistory.{state_from, route}
use Rattle.amqp_engine.specs.Headline.{HasReceived, Receives, GoesAlong, Passes, FramesReach, RoutesFollow}
use Rattle.amqp_engine.specs.Inner.Headline.{AllReceived, AllKnown}
use Rattle.amqp_engine.proofs.BegunSessionLemmas.{some_none}
use Rattle.amqp_engine.proofs.StepEffectLemmas.{IsPlain, Plain, received_plain}
use Rattle.amqp_engine.proofs.StepChainLemmas.{state_law, chain_split}
use Rattle.amqp_engine.proofs.ChannelHistoryLemmas.{IsThere, Kept, kept, kept_taken, kept_new, holds, routes}

-- ---- what was received

received_none : (bytes : List ℕ) (received : Option Frame) (r : Option StepError) → received ≡ None → HasReceived bytes None r → HasReceived bytes received r
received_none bytes received r is h = subst (λ x. HasReceived bytes x r) (sym is) h

has_none : (bytes : List ℕ) (r : Option StepError) → NoneReceived bytes r → HasReceived bytes None r
has_none bytes (Some (no.Frame e)) n = n
has_none bytes (Some no.OutOfMemory) n = n.4
has_none bytes r n = absurd n

input_receives : {R : Type 0} (g : Relays R) (v w : EngineView R) (i : Input R) (e : Entry R) → InputStep g v i e.received e.reached e.calls e.refusal w → Receives i e
input_receives g v w (input.Received bytes) e (inl s) = received_none bytes e.received e.refusal s.1 (has_none bytes e.refusal s.0)
input_receives g v w (input.Received bytes) e (inr s) = subst (λ x. HasReceived bytes x e.refusal) (sym s.3) (s.1, s.2)
input_receives g v w i e s = s.0

waiting_receives : {R : Type 0} (i : Input R) (e : Entry R) → e.received ≡ None → e.refusal ≡ Some no.OutputWaiting → Receives i e
waiting_receives (input.Received bytes) e is late = received_none bytes e.received e.refusal is (subst (λ r. HasReceived bytes None r) (sym late) tt)
waiting_receives i e is late = is

step_receives : {R : Type 0} (g : Relays R) (v w : EngineView R) (e : Entry R) → Step g v e w → Receives e.input e
step_receives g v w e (inl s) = waiting_receives e.input e s.2 s.1
step_receives g v w e (inr s) = input_receives g v w e.input e s.2

pub all_received : {R : Type 0} (g : Relays R) (made : ConnectionState) (o : OpenModel) (H : List (Entry R)) (w : EngineView R) → LeadsTo g made o H w → AllReceived H
all_received g made o H w l before after e is =
    let r = chain_split g before (e ∷ after) (new_engine l.0 made o) w (subst (λ (es : List (Entry _)). Chain g (new_engine l.0 made o) es w) is l.1) in
    step_receives g r.2.0 r.2.1 e r.2.3

same_frame : (f h : Frame) → Some f ≡ Some h → f ≡ h
same_frame f h e = cc

-- the frame that was received, was received so
received_frame : {R : Type 0} (g : Relays R) (v w : EngineView R) (e : Entry R) (f : Frame) → e.received ≡ Some f → Step g v e w → ReceivedFrame g v f.channel f.body e.reached e.calls e.refusal w
received_frame g v w e f is (inl s) = absurd (some_none (sym is ∙ s.2))
received_frame g v w e f is (inr s) = by e.input s.2
  where
    by : (i : Input _) → InputStep g v i e.received e.reached e.calls e.refusal w → ReceivedFrame g v f.channel f.body e.reached e.calls e.refusal w
    by (input.Received bytes) (inl x) = absurd (some_none (sym is ∙ x.1))
    by (input.Received bytes) (inr x) = subst (λ (h : Frame). ReceivedFrame g v h.channel h.body e.reached e.calls e.refusal w) (same_frame x.0 f (sym x.3 ∙ is)) x.4
    by i x = absurd (some_none (sym is ∙ x.0))

-- ---- frames go along

plain_found : (r : Option StepError) → IsPlain r → ¬ (r ≡ Some (no.Connection not_found))
plain_found None p x = cc
plain_found (Some (no.SessionState y)) p x = cc
plain_found (Some (no.Session y)) p x = cc
plain_found (Some (no.AllocLink y)) p x = cc
plain_found (Some y) p x = absurd p

reached_one : {R : Type 0} (g : Relays R) (v w : EngineView R) (n : ℕ) (asks : Calls R) (e : Entry R) → Plain asks → e.reached ≡ Some n → Called g v n asks e.calls e.refusal w ⊎ Unknown v n e.calls e.refusal w → GoesAlong (Some n) e
reached_one g v w n asks e plain reached (inl c) = (reached, plain_found e.refusal (plain c.before.state e.calls e.refusal c.asked))
reached_one g v w n asks e plain reached (inr u) = (reached, λ x. let y = sym u.refused ∙ x in cc)

no_route : (v k : ConnectionView) (c : ℕ) (e : ConnectionInnerError) → RouteStep v c (Err e) k → (map.get v.session_by_incoming_channel c ≡ None) × (e ≡ not_found)
no_route v k c (inner.NotFound t) s = (s.0, ap (λ x. inner.NotFound x) s.1)
no_route v k c e s = absurd s

along : {R : Type 0} (g : Relays R) (v w : EngineView R) (c : ℕ) (asks : Calls R) (e : Entry R) → Plain asks → Reaches g (RouteStep v.connection c) v asks e.reached e.calls e.refusal w → GoesAlong (map.get v.connection.session_by_incoming_channel c) e
along g v w c asks e plain (inl s) = let n = no_route v.connection s.1 c s.0 s.2 in subst (λ o. GoesAlong o e) (sym n.0) (s.3, s.5 ∙ ap (λ x. Some (no.Connection x)) n.1)
along g v w c asks e plain (inr s) = subst (λ o. GoesAlong o e) (sym s.2.0) (reached_one g (record v { connection = s.1 }) w s.0 asks e plain s.3 s.4)

abbrev EndGoes : {R : Type 0} → ConnectionState → Option ℕ → Entry R → Type 0
EndGoes s route e = (s ≡ at.Opened → GoesAlong route e) × (¬ (s ≡ at.Opened) → (e.reached ≡ None) × (e.refusal ≡ Some (no.Connection inner.IllegalState)))

end_stopped : {R : Type 0} (v k : ConnectionView) (c : ℕ) (x : ConnectionInnerError) (e : Entry R) → EndRouteStep v c (Err x) k → e.reached ≡ None → e.refusal ≡ Some (no.Connection x) → EndGoes v.state (map.get v.session_by_incoming_channel c) e
end_stopped v k c inner.IllegalState e s a b = (λ o. absurd (s.0 o), λ n. (a, b))
end_stopped v k c (inner.NotFound t) e s a b = (λ o. subst (λ z. GoesAlong z e) (sym s.1) (a, b ∙ ap (λ y. Some (no.Connection (inner.NotFound y))) s.2), λ n. absurd (n s.0))
end_stopped v k c x e s a b = absurd s

end_along : {R : Type 0} (g : Relays R) (v w : EngineView R) (c : ℕ) (asks : Calls R) (e : Entry R) → Plain asks → Reaches g (EndRouteStep v.connection c) v asks e.reached e.calls e.refusal w → EndGoes v.connection.state (map.get v.connection.session_by_incoming_channel c) e
end_along g v w c asks e plain (inl s) = end_stopped v.connection s.1 c s.0 e s.2 s.3 s.5
end_along g v w c asks e plain (inr s) = (λ o. subst (λ z. GoesAlong z e) (sym s.2.1) (reached_one g (record v { connection = s.1 }) w s.0 asks e plain s.3 s.4), λ n. absurd (n s.2.0))

passes : {R : Type 0} (g : Relays R) (v w : EngineView R) (c : ℕ) (b : FrameBody) (e : Entry R) → ReceivedFrame g v c b e.reached e.calls e.refusal w → Passes b v.connection.state (map.get v.connection.session_by_incoming_channel c) e
passes g v w c (body.Attach p) e s = along g v w c _ e (received_plain c (body.Attach p)) s
passes g v w c (body.Detach p) e s = along g v w c _ e (received_plain c (body.Detach p)) s
passes g v w c (body.Disposition p) e s = along g v w c _ e (received_plain c (body.Disposition p)) s
passes g v w c (body.Flow p) e s = along g v w c _ e (received_plain c (body.Flow p)) s
passes g v w c (body.Transfer p payload) e s = along g v w c _ e (received_plain c (body.Transfer p payload)) s
passes g v w c (body.End p) e s = end_along g v w c _ e (received_plain c (body.End p)) s
passes g v w c b e s = tt

pub frames_reach : {R : Type 0} (g : Relays R) (made : ConnectionState) (o : OpenModel) (H : List (Entry R)) (w : EngineView R) → LeadsTo g made o H w → FramesReach made H
frames_reach g made o H w l before after e is f received short =
    let r = chain_split g before (e ∷ after) (new_engine l.0 made o) w (subst (λ (es : List (Entry _)). Chain g (new_engine l.0 made o) es w) is l.1) in
    let state : r.2.0.connection.state ≡ state_from made before = ap (λ (k : ConnectionView). k.state) r.2.2.connection_is ∙ state_law g before (new_engine l.0 made o) r.0 r.1 in
    let routed : map.get r.2.0.connection.session_by_incoming_channel f.channel ≡ route f.channel before = ap (λ (k : ConnectionView). map.get k.session_by_incoming_channel f.channel) r.2.2.connection_is ∙ routes g f.channel made o before r.0 (l.0, r.1) in
    subst (λ s. Passes f.body s (route f.channel before) e) state
    (subst (λ x. Passes f.body r.2.0.connection.state x e) routed (passes g r.2.0 r.2.1 f.channel f.body e (received_frame g r.2.0 r.2.1 e f received r.2.3)))

-- ---- a Begin of the peer's

same_value : (a b : ℕ) → Some a ≡ Some b → a ≡ b
same_value a b e = cc

begin_found : {R : Type 0} (g : Relays R) (v w : EngineView R) (c : ℕ) (b : BeginModel) (n : ℕ) (reached : Option ℕ) (calls : List (session.SessionCall R)) (r : Option StepError) → reached ≡ Some n → ReceivedFrame g v c (body.Begin b) reached calls r w →
    (d : ℕ) × (b.remote_channel ≡ Some d) × (map.get v.connection.session_by_outgoing_channel d ≡ Some n)
begin_found g v w c b n reached calls r is (inl s) = absurd (some_none (sym is ∙ s.3))
begin_found g v w c b n reached calls r is (inr s) = (s.2.1.0, s.2.1.1, s.2.1.2 ∙ ap (λ x. Some x) (same_value s.0 n (sym s.3 ∙ is)))

found_then : (d n : ℕ) (held : Option ℕ) (k k' : ConnectionView) → held ≡ map.get k.session_by_outgoing_channel d → k' ≡ k
    → map.get k'.session_by_outgoing_channel d ≡ Some n → held ≡ Some n
found_then d n held k k' is same found = is ∙ ap (λ (y : ConnectionView). map.get y.session_by_outgoing_channel d) (sym same) ∙ found

pub routes_follow : {R : Type 0} (g : Relays R) (made : ConnectionState) (o : OpenModel) (H : List (Entry R)) (w : EngineView R) → LeadsTo g made o H w → RoutesFollow H
routes_follow g made o H w l before after e is c b received n reached =
    let r = chain_split g before (e ∷ after) (new_engine l.0 made o) w (subst (λ (es : List (Entry _)). Chain g (new_engine l.0 made o) es w) is l.1) in
    let x = begin_found g r.2.0 r.2.1 c b n e.reached e.calls e.refusal reached (received_frame g r.2.0 r.2.1 e _ received r.2.3) in
    (x.0, x.1, found_then x.0 n _ r.0.connection r.2.0.connection (sym (holds g x.0 made o before r.0 (l.0, r.1))) r.2.2.connection_is x.2)

-- ---- what a frame reaches is there

pub plain_known : (r : Option StepError) → IsPlain r → ¬ (r ≡ Some no.NoSession)
plain_known None p x = cc
plain_known (Some (no.SessionState y)) p x = cc
plain_known (Some (no.Session y)) p x = cc
plain_known (Some (no.AllocLink y)) p x = cc
plain_known (Some y) p x = absurd p

reaches_known : {R : Type 0} (g : Relays R) (finds : Result ℕ ConnectionInnerError → ConnectionView → Type 0) (v w : EngineView R) (asks : Calls R) (reached : Option ℕ) (calls : List (session.SessionCall R)) (r : Option StepError) →
    Plain asks → ((n : ℕ) (k : ConnectionView) → finds (Ok n) k → IsThere v n) → Reaches g finds v asks reached calls r w → ¬ (r ≡ Some no.NoSession)
reaches_known g finds v w asks reached calls r plain there (inl s) = λ e. let x = sym s.5 ∙ e in cc
reaches_known g finds v w asks reached calls r plain there (inr s) = by s.4
  where
    by : Called g (record v { connection = s.1 }) s.0 asks calls r w ⊎ Unknown (record v { connection = s.1 }) s.0 calls r w → ¬ (r ≡ Some no.NoSession)
    by (inl c) = plain_known r (plain c.before.state calls r c.asked)
    by (inr u) = let t = there s.0 s.1 s.2 in absurd (some_none (sym t.1 ∙ u.unknown))

open_known : {R : Type 0} (v w : EngineView R) (o : OpenModel) (r : Option StepError) → ReceivedOpen v o r w → ¬ (r ≡ Some no.NoSession)
open_known v w o None s = λ e. cc
open_known v w o (Some (no.ConnectionState e)) s = λ y. cc
open_known v w o (Some e) s = absurd s

close_known : (told : Option ConnectionStateError) (r : Option StepError) → r ≡ option_map (λ e. no.ConnectionState e) told → ¬ (r ≡ Some no.NoSession)
close_known None r e = λ x. let y = sym e ∙ x in cc
close_known (Some t) r e = λ x. let y = sym e ∙ x in cc

frame_known : {R : Type 0} (g : Relays R) (v w : EngineView R) (c : ℕ) (b : FrameBody) (reached : Option ℕ) (calls : List (session.SessionCall R)) (r : Option StepError) → Kept v → ReceivedFrame g v c b reached calls r w → ¬ (r ≡ Some no.NoSession)
frame_known g v w c body.Empty reached calls r k s = λ e. let x = sym s.1 ∙ e in cc
frame_known g v w c (body.Open o) reached calls r k s = open_known v w o r s.1
frame_known g v w c (body.Close p) reached calls r k s = close_known s.1.0 r s.1.3
frame_known g v w c (body.Begin p) reached calls r k s = reaches_known g (Finds v.connection c (body.Begin p)) v w _ reached calls r (received_plain c (body.Begin p)) (λ n u f. let on = k.known f.1.0 n f.1.2 in (on.0, on.1)) s
frame_known g v w c (body.End p) reached calls r k s = reaches_known g (Finds v.connection c (body.End p)) v w _ reached calls r (received_plain c (body.End p)) (λ n u f. k.routed c n f.1) s
frame_known g v w c (body.Attach p) reached calls r k s = reaches_known g (Finds v.connection c (body.Attach p)) v w _ reached calls r (received_plain c (body.Attach p)) (λ n u f. k.routed c n f.0) s
frame_known g v w c (body.Detach p) reached calls r k s = reaches_known g (Finds v.connection c (body.Detach p)) v w _ reached calls r (received_plain c (body.Detach p)) (λ n u f. k.routed c n f.0) s
frame_known g v w c (body.Disposition p) reached calls r k s = reaches_known g (Finds v.connection c (body.Disposition p)) v w _ reached calls r (received_plain c (body.Disposition p)) (λ n u f. k.routed c n f.0) s
frame_known g v w c (body.Flow p) reached calls r k s = reaches_known g (Finds v.connection c (body.Flow p)) v w _ reached calls r (received_plain c (body.Flow p)) (λ n u f. k.routed c n f.0) s
frame_known g v w c (body.Transfer p payload) reached calls r k s = reaches_known g (Finds v.connection c (body.Transfer p payload)) v w _ reached calls r (received_plain c (body.Transfer p payload)) (λ n u f. k.routed c n f.0) s

pub all_known : {R : Type 0} (g : Relays R) (made : ConnectionState) (o : OpenModel) (H : List (Entry R)) (w : EngineView R) → LeadsTo g made o H w → AllKnown H
all_known g made o H w l before after e is f received =
    let r = chain_split g before (e ∷ after) (new_engine l.0 made o) w (subst (λ (es : List (Entry _)). Chain g (new_engine l.0 made o) es w) is l.1) in
    frame_known g r.2.0 r.2.1 f.channel f.body e.reached e.calls e.refusal (kept_taken r.0 r.2.0 r.2.2 (kept g before (new_engine l.0 made o) r.0 r.1 (kept_new l.0 made o))) (received_frame g r.2.0 r.2.1 e f received r.2.3)
