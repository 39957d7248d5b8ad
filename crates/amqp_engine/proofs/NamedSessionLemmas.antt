-- Requests reach the session that they name.
use Rattle.std.proofs.Common.{◌≡◌, ◌⊎◌, ℕ, List, ◌∷◌, Some, None, refl, ap, sym, subst, ◌∙◌, inl, inr, nat_eq}
use Rattle.std.specs.Map.{lookup}
use Rattle.amqp_types.specs.declared.states.ConnectionState.{ConnectionState}
use Rattle.amqp_types.specs.Open.{OpenModel}
use Rattle.amqp_session.specs.Relay.{Relays}
use Rattle.amqp_engine.specs.declared.engine.input.Input.{Input}
use Rattle.amqp_engine.specs.declared.engine.input.Input.TheVariants as input
use Rattle.amqp_engine.specs.declared.engine.step_error.StepError.TheVariants as no
use Rattle.amqp_engine.specs.EngineView.{EngineView, new_engine}
use Rattle.amqp_engine.specs.Calls.{Calls}
use Rattle.amqp_engine.specs.Sessions.{Does}
use Rattle.amqp_engine.specs.Engine.{Step, InputStep}
use Rattle.amqp_engine.specs.Entry.{Entry}
use Rattle.amqp_engine.proofs.BareHistoryLemmas.{Chain, LeadsTo}
use Rattle.amqp_engine.specs.ByHistory.{live}
use Rattle.amqp_engine.specs.Headline.{RequestsReach, ReachesNamed}
use Rattle.amqp_engine.specs.Calls.{names}
use Rattle.amqp_engine.proofs.BegunSessionLemmas.{some_none}
use Rattle.amqp_engine.proofs.StepEffectLemmas.{Plain, request_plain}
use Rattle.amqp_engine.proofs.StepChainLemmas.{chain_split}
use Rattle.amqp_engine.proofs.SessionProjectionLemmas.{Lives, legal, lives}
use Rattle.amqp_engine.proofs.ReachedSessionLemmas.{plain_known}
use Rattle.amqp_engine.proofs.ChannelHistoryLemmas.{IsThere}

same_value : (a b : ℕ) → Some a ≡ Some b → a ≡ b
same_value a b e = cc

-- a request reaches the session, which is there; or there is none
abbrev Says : {R : Type 0} → EngineView R → ℕ → Entry R → Type 0
Says v n e = (IsThere v n × (e.reached ≡ Some n) × ¬ (e.refusal ≡ Some no.NoSession))
    ⊎ ((lookup (nat_eq n) v.sessions ≡ None) × (e.reached ≡ None) × (e.refusal ≡ Some no.NoSession))

does : {R : Type 0} (g : Relays R) (v w : EngineView R) (k n : ℕ) (asks : Calls R) (e : Entry R) → Some k ≡ Some n → Plain asks → Does g v k asks e.reached e.calls e.refusal w → Says v n e
does g v w k n asks e is plain s = subst (λ x. Says v x e) (same_value k n is) (by s)
  where
    by : Does g v k asks e.reached e.calls e.refusal w → Says v k e
    by (inl c) = inl ((c.1.before, c.1.known), c.0, plain_known e.refusal (plain c.1.before.state e.calls e.refusal c.1.asked))
    by (inr u) = inr (u.1.unknown, u.0, u.1.refused)

carries : {R : Type 0} (g : Relays R) (v w : EngineView R) (n : ℕ) (i : Input R) (e : Entry R) → names i ≡ Some n → InputStep g v i e.received e.reached e.calls e.refusal w → Says v n e
carries g v w n (input.End k error) e is s = does g v w k.0 n _ e is (request_plain (input.End k error)) s.1
carries g v w n (input.AllocateLink k name relay) e is s = does g v w k.0 n _ e is (request_plain (input.AllocateLink k name relay)) s.1
carries g v w n (input.AllocateIncomingLink k name relay h) e is s = does g v w k.0 n _ e is (request_plain (input.AllocateIncomingLink k name relay h)) s.1
carries g v w n (input.Attach k a) e is s = does g v w k.0 n _ e is (request_plain (input.Attach k a)) s.1
carries g v w n (input.Detach k d expects_echo) e is s = does g v w k.0 n _ e is (request_plain (input.Detach k d expects_echo)) s.1
carries g v w n (input.Flow k l) e is s = does g v w k.0 n _ e is (request_plain (input.Flow k l)) s.1
carries g v w n (input.Transfer k h t payload first) e is s = does g v w k.0 n _ e is (request_plain (input.Transfer k h t payload first)) s.1
carries g v w n (input.Disposition k d) e is s = does g v w k.0 n _ e is (request_plain (input.Disposition k d)) s.1
carries g v w n (input.Settle k role first last) e is s = does g v w k.0 n _ e is (request_plain (input.Settle k role first last)) s.1
carries g v w n (input.Stop k reason) e is s = does g v w k.0 n _ e is (request_plain (input.Stop k reason)) s.1
carries g v w n i e is s = absurd (some_none (sym is))

step_says : {R : Type 0} (g : Relays R) (v w : EngineView R) (n : ℕ) (e : Entry R) → names e.input ≡ Some n → ¬ (e.refusal ≡ Some no.OutputWaiting) → Step g v e w → Says v n e
step_says g v w n e is late (inl s) = absurd (late s.1)
step_says g v w n e is late (inr s) = carries g v w n e.input e is s.2

pub requests_reach : {R : Type 0} (g : Relays R) (made : ConnectionState) (o : OpenModel) (H : List (Entry R)) (w : EngineView R) → LeadsTo g made o H w → RequestsReach made H
requests_reach g made o H w l before after e is n named late short =
    let r = chain_split g before (e ∷ after) (new_engine l.0 made o) w (subst (λ (es : List (Entry _)). Chain g (new_engine l.0 made o) es w) is l.1) in
    let same : lookup (nat_eq n) r.2.0.sessions ≡ lookup (nat_eq n) r.0.sessions = ap (lookup (nat_eq n)) r.2.2.sessions_is in
    by r.0 r.2.0 (lives g l.0 made o n before r.0 (legal g before n (new_engine l.0 made o) r.0 r.1 refl)) same (step_says g r.2.0 r.2.1 n e named late r.2.3)
  where
    by : (m u : EngineView _) → Lives g made n before m → lookup (nat_eq n) u.sessions ≡ lookup (nat_eq n) m.sessions → Says u n e → ReachesNamed (live made n before) n e
    by m u (inl a) same (inl s) = absurd (some_none (sym s.0.1 ∙ same ∙ a.1))
    by m u (inl a) same (inr s) = subst (λ x. ReachesNamed x n e) (sym a.0) (s.1, s.2)
    by m u (inr p) same (inl s) = subst (λ x. ReachesNamed x n e) (sym p.live_is) (s.1, s.2)
    by m u (inr p) same (inr s) = absurd (some_none (sym p.there ∙ sym same ∙ s.0))
