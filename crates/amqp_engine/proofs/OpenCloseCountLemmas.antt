-- How many Opens and Closes a history hands out, from what each state may still hand out.
use Rattle.std.proofs.Common.{◌≡◌, ◌≤◌, List, [], ◌∷◌, ◌++◌, Option, Some, None, refl, sym, ap, subst, arith}
use Rattle.amqp_types.specs.declared.states.ConnectionState.{ConnectionState}
use Rattle.amqp_types.specs.declared.states.ConnectionState.TheVariants as at
use Rattle.amqp_types.specs.Error.{ErrorModel}
use Rattle.amqp_types.specs.Open.{OpenModel}
use Rattle.amqp_session.specs.declared.frame.SessionFrame.{SessionFrame}
use Rattle.amqp_session.specs.declared.frame.SessionFrameBody.{SessionFrameBody}
use Rattle.amqp_session.specs.declared.frame.SessionFrameBody.TheVariants as said
use Rattle.amqp_session.specs.Relay.{Relays}
use Rattle.amqp_session.specs.OutgoingFrames.{calls_frames}
use Rattle.amqp_frames.specs.declared.frame.Frame.{Frame}
use Rattle.amqp_connection.specs.States.{takes_close}
use Rattle.amqp_connection.specs.Connection.{ConnectionView}
use Rattle.amqp_connection.specs.History as connection
use Rattle.amqp_connection.specs.ByHistory.{opens, closes, is_open, is_close, handed as connection_handed}
use Rattle.amqp_connection.proofs.OpenCloseCountLemmas.{Goes, spends_none, chain_goes, opens-append, closes-append}
use Rattle.amqp_engine.specs.Waits.{body_of, sent}
use Rattle.amqp_engine.specs.EngineView.{EngineView, new_engine}
use Rattle.amqp_engine.specs.Entry.{Entry}
use Rattle.amqp_engine.specs.Event.{Event, Quiet, SentOpen, SentClose, AcceptedOpen, CameClose, Began, Released, Forgot, Routed, Unrouted, event}
use Rattle.amqp_engine.proofs.BareHistoryLemmas.{Chain, LeadsTo}
use Rattle.amqp_engine.specs.Headline.{handed, own_frames}
use Rattle.amqp_engine.proofs.StepEffectLemmas.{Moved, stops}
use Rattle.amqp_engine.proofs.StepChainLemmas.{Passage, passage}
use Rattle.amqp_connection.proofs.StateTableLemmas.{open_left, close_left}

S : (v w : ConnectionView) → v ≡ w → v.state ≡ w.state
S v w e = ap (λ (k : ConnectionView). k.state) e

handed_by : (v w : ConnectionView) (cs ds : List connection.Entry) → cs ≡ ds → connection.Chain v cs w → Goes (connection_handed ds) v.state w.state
handed_by v w cs ds e c = subst (λ (x : List connection.Entry). Goes (connection_handed x) v.state w.state) e (chain_goes cs v w c)

stops_none : (next : Option ConnectionState) (error : Option ErrorModel) → connection_handed (stops next error) ≡ []
stops_none None error = refl
stops_none (Some at.CloseReceived) error = refl
stops_none (Some s) error = refl

event_goes : (v w : ConnectionView) (ev : Event) → Moved v ev w → Goes (own_frames v.local_open ev) v.state w.state
event_goes v w Quiet m = handed_by v w m.calls _ m.happens m.chain
event_goes v w SentOpen m = handed_by v w m.calls _ m.happens m.chain
event_goes v w (SentClose error) m = handed_by v w m.calls _ m.happens m.chain
event_goes v w (AcceptedOpen o) m = handed_by v w m.calls _ m.happens m.chain
event_goes v w (CameClose c) m = subst (λ (fs : List Frame). Goes fs v.state w.state) (stops_none (takes_close v.state) c.error) (handed_by v w m.calls _ m.happens m.chain)
event_goes v w (Began n settings c) m = handed_by v w m.calls _ m.happens m.chain
event_goes v w (Released n) m = handed_by v w m.calls _ m.happens.2 m.chain
event_goes v w (Forgot n) m = handed_by v w m.calls _ m.happens m.chain
event_goes v w (Routed c n) m = handed_by v w m.calls _ m.happens.2 m.chain
event_goes v w (Unrouted c) m = handed_by v w m.calls _ m.happens.1 m.chain

-- ---- what sessions hand out is neither an Open nor a Close

no_open : (b : SessionFrameBody) → is_open (body_of b) ≡ 0
no_open (said.Attach p) = refl
no_open b = refl

no_close : (b : SessionFrameBody) → is_close (body_of b) ≡ 0
no_close (said.Attach p) = refl
no_close b = refl

no_opens : (fs : List SessionFrame) → opens (sent fs) ≡ 0
no_opens [] = refl
no_opens (f ∷ fs) = omega (arith, no_open f.body, no_opens fs)

no_closes : (fs : List SessionFrame) → closes (sent fs) ≡ 0
no_closes [] = refl
no_closes (f ∷ fs) = omega (arith, no_close f.body, no_closes fs)

-- ---- a step, and a chain

more_spends : (own : List Frame) (fs : List SessionFrame) (s t : ConnectionState) → Goes own s t → Goes (own ++ sent fs) s t
more_spends own fs s t m = record {
  open_spent = omega (arith, m.open_spent, opens-append own (sent fs), no_opens fs);
  close_spent = omega (arith, m.close_spent, closes-append own (sent fs), no_closes fs);
}

step_spends : {R : Type 0} (g : Relays R) (v w : EngineView R) (e : Entry R) → Passage g v e w → Goes e.frames v.connection.state w.connection.state
step_spends g v w e p =
    subst (λ (fs : List Frame). Goes fs v.connection.state w.connection.state) (sym p.frames_are)
    (more_spends (own_frames v.connection.local_open (event e)) (calls_frames e.calls) v.connection.state w.connection.state (event_goes v.connection w.connection (event e) p.moved))

chain_spends : {R : Type 0} (g : Relays R) (H : List (Entry R)) (v w : EngineView R) → Chain g v H w → Goes (handed H) v.connection.state w.connection.state
chain_spends g [] v w c = spends_none v.connection.state w.connection.state (S w.connection v.connection c.connection_is)
chain_spends g (e ∷ H) v w c =
    let same : c.0.connection.state ≡ v.connection.state = S c.0.connection v.connection c.2.connection_is in
    let first : Goes e.frames c.0.connection.state c.1.connection.state = step_spends g c.0 c.1 e (passage g c.0 c.1 e c.3) in
    let rest : Goes (handed H) c.1.connection.state w.connection.state = chain_spends g H c.1 w c.4 in
    record {
      open_spent = omega (arith, first.open_spent, rest.open_spent, opens-append e.frames (handed H), ap open_left same);
      close_spent = omega (arith, first.close_spent, rest.close_spent, closes-append e.frames (handed H), ap close_left same);
    }

pub one_each : {R : Type 0} (g : Relays R) (start : ConnectionState) (o : OpenModel) (H : List (Entry R)) (w : EngineView R) → LeadsTo g start o H w → start ≡ at.HeaderExchange → (opens (handed H) ≤ 1) × (closes (handed H) ≤ 1)
one_each g start o H w l e =
    let all : Goes (handed H) start w.connection.state = chain_spends g H (new_engine l.0 start o) w l.1 in
    (omega (arith, all.open_spent, ap open_left e), omega (arith, all.close_spent, ap close_left e))
