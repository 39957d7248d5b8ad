-- The transfers that sessions accept are those that were requested: so they are short where those are.
use Rattle.std.proofs.Common.{◌≡◌, ◌++◌, ℕ, Bool, true, false, List, [], ◌∷◌, Option, Some, None, Result, Ok, Err, refl, ap, sym, subst, ◌∙◌, ◌⊎◌, inl, inr, append_assoc, cond}
use Rattle.amqp_types.specs.declared.states.SessionState.{SessionState}
use Rattle.amqp_types.specs.Disposition.{DispositionModel}
use Rattle.amqp_types.specs.Detach.{DetachModel}
use Rattle.amqp_types.specs.Error.{ErrorModel}
use Rattle.amqp_frames.specs.declared.frame.Frame.{Frame}
use Rattle.amqp_frames.specs.declared.frame.FrameBody.{FrameBody}
use Rattle.amqp_frames.specs.declared.frame.FrameBody.TheVariants as body
use Rattle.amqp_frames.specs.Split.{IsOnePiece}
use Rattle.amqp_session.specs.declared.error.SessionInnerError.{SessionInnerError}
use Rattle.amqp_session.specs.declared.error.SessionStateError.{SessionStateError}
use Rattle.amqp_session.specs.declared.frame.SessionFrame.{SessionFrame}
use Rattle.amqp_session.specs.declared.frame.SessionOutgoingItem.{SessionOutgoingItem}
use Rattle.amqp_session.specs.History as session
use Rattle.amqp_session.specs.Headline as single
use Rattle.amqp_session.specs.Relay.{Relays}
use Rattle.amqp_session.specs.Transfers.{RequestedTransfer}
use Rattle.amqp_engine.specs.declared.engine.input.Input.{Input}
use Rattle.amqp_engine.specs.declared.engine.input.Input.TheVariants as input
use Rattle.amqp_engine.specs.declared.engine.step_error.StepError.{StepError}
use Rattle.amqp_engine.specs.ByHistory.{calls_at, of_session}
use Rattle.amqp_engine.specs.Calls.{SentEach, answer_to, flow_after, received_calls, recorded_end, recorded_remote_end}
use Rattle.amqp_engine.specs.EngineView.{EngineView}
use Rattle.amqp_engine.specs.Entry.{Entry}
use Rattle.amqp_engine.specs.Event.{is_number}
use Rattle.amqp_engine.specs.Headline.{asked_calls}
use Rattle.amqp_engine.specs.OneFrame.{AllShort, IsShort}
use Rattle.amqp_engine.proofs.BareHistoryLemmas.{Chain}
use Rattle.amqp_engine.proofs.StepEffectLemmas.{Changes, Effect, Stays}
use Rattle.amqp_engine.proofs.RecordedStopLemmas.{is_end_received, recorded_as, recorded_if}
use Rattle.amqp_engine.proofs.StepChainLemmas.{passage}

abbrev pub EachOnePiece : ℕ → List RequestedTransfer → Type 0
EachOnePiece m [] = Unit {0}
EachOnePiece m (h ∷ hs) = IsOnePiece m h.is_first h.transfer h.payload × EachOnePiece m hs

abbrev OfCalls : {R : Type 0} → ℕ → List (session.SessionCall R) → Type 0
OfCalls m cs = EachOnePiece m (single.accepted cs)

-- ---- lists of calls

by_calls : {R : Type 0} (m : ℕ) (cs ds : List (session.SessionCall R)) → cs ≡ ds → OfCalls m ds → OfCalls m cs
by_calls m cs ds e s = subst (OfCalls m) (sym e) s

both_pieces : (m : ℕ) (xs ys : List RequestedTransfer) → EachOnePiece m xs → EachOnePiece m ys → EachOnePiece m (xs ++ ys)
both_pieces m [] ys s t = t
both_pieces m (h ∷ xs) ys s t = (s.0, both_pieces m xs ys s.1 t)

accepted_both : {R : Type 0} (xs ys : List (session.SessionCall R)) → single.accepted (xs ++ ys) ≡ single.accepted xs ++ single.accepted ys
accepted_both [] ys = refl
accepted_both (c ∷ xs) ys =
    ap (λ (hs : List RequestedTransfer). single.accepted_by c ++ hs) (accepted_both xs ys) ∙ sym (append_assoc (single.accepted_by c) (single.accepted xs) (single.accepted ys))

both_calls : {R : Type 0} (m : ℕ) (xs ys : List (session.SessionCall R)) → OfCalls m xs → OfCalls m ys → OfCalls m (xs ++ ys)
both_calls m xs ys s t = subst (EachOnePiece m) (sym (accepted_both xs ys)) (both_pieces m (single.accepted xs) (single.accepted ys) s t)

-- ---- what a request asks of a session

ended : (R : Type 0) (m : ℕ) (error : Option ErrorModel) (result : Result SessionFrame SessionStateError) → OfCalls {R = R} m (session.SendsEnd error result ∷ recorded_end error result)
ended R m error (Ok f) = tt
ended R m error (Err e) = tt

transferred : (R : Type 0) (m : ℕ) (h : RequestedTransfer) (result : Result (Option SessionOutgoingItem) SessionInnerError)
    → IsOnePiece m h.is_first h.transfer h.payload → OfCalls {R = R} m (session.SendsTransfer h result ∷ [])
transferred R m h (Ok item) s = (s, tt)
transferred R m h (Err e) s = tt

-- ---- what a received frame asks of it

remote_ended : (R : Type 0) (m : ℕ) (next : Option SessionState) (error : Option ErrorModel) → OfCalls {R = R} m (recorded_remote_end next error)
remote_ended R m next error = subst (OfCalls {R = R} m) (recorded_as R next error) (recorded_when (is_end_received next))
  where
    recorded_when : (b : Bool) → OfCalls {R = R} m (recorded_if b error)
    recorded_when true = tt
    recorded_when false = tt

detached : (R : Type 0) (m : ℕ) (result : Result (Option DetachModel) SessionInnerError) (sent : Result (Option SessionFrame) SessionInnerError) → OfCalls {R = R} m (answer_to result sent)
detached R m (Ok (Some d)) sent = tt
detached R m (Ok None) sent = tt
detached R m (Err e) sent = tt

flowed : (R : Type 0) (m : ℕ) (result : Result (Option DispositionModel) SessionInnerError) (item : Option SessionOutgoingItem) → OfCalls {R = R} m (flow_after result item)
flowed R m (Ok d) item = tt
flowed R m (Err e) item = tt

echoed : {R : Type 0} (m : ℕ) (ds : List DispositionModel) (cs : List (session.SessionCall R)) → SentEach ds cs → OfCalls m cs
echoed m [] cs s = by_calls m cs [] s tt
echoed m (d ∷ ds) cs s = by_calls m cs (session.SendsDisposition d s.0 s.1 ∷ s.2) s.3 (echoed m ds s.2 s.4)

received : {R : Type 0} (m c : ℕ) (b : FrameBody) (s : SessionState) (cs : List (session.SessionCall R)) (r : Option StepError) → received_calls c b s cs r → OfCalls m cs
received m c (body.Begin p) s cs r a = by_calls m cs _ a.1 tt
received m c (body.End p) s cs r a = by_calls m cs _ a.1 (remote_ended _ m _ p.error)
received m c (body.Attach p) s cs r a = by_calls m cs _ a.2 tt
received m c (body.Detach p) s cs r a = by_calls m cs _ a.3 (detached _ m a.1 a.2)
received m c (body.Flow p) s cs r a = by_calls m cs _ a.2 tt
received m c (body.Transfer p payload) s cs r a = by_calls m cs _ a.3 (flowed _ m a.1 a.2)
received m c (body.Disposition p) s cs r a = by_calls m cs _ a.4 (echoed m _ a.2 a.3)
received m c b s cs r a = absurd a

-- ---- an input's calls

asked : {R : Type 0} (m : ℕ) (i : Input R) (f : Option Frame) (s : SessionState) (cs : List (session.SessionCall R)) (r : Option StepError) → IsShort m i → asked_calls i f s cs r → OfCalls m cs
asked m (input.Received bytes) (Some f) s cs r short a = received m f.channel f.body s cs r a
asked m (input.Received bytes) None s cs r short a = absurd a
asked m (input.Begin n settings) f s cs r short a = by_calls m cs _ a.1 tt
asked m (input.End n error) f s cs r short a = by_calls m cs _ a.1 (ended _ m error a.0)
asked m (input.AllocateLink n name relay) f s cs r short a = by_calls m cs _ a.1 tt
asked m (input.AllocateIncomingLink n name relay h) f s cs r short a = by_calls m cs _ a.1 tt
asked m (input.Attach n p) f s cs r short a = by_calls m cs _ a.1 tt
asked m (input.Detach n d expects_echo) f s cs r short a = by_calls m cs _ a.1 tt
asked m (input.Flow n l) f s cs r short a = by_calls m cs _ a.1 tt
asked {R} m (input.Transfer n h t payload first) f s cs r short a = by_calls m cs _ a.1 (transferred R m (record { input_handle = h.0; transfer = t; payload = payload; is_first = first }) a.0 short)
asked m (input.Disposition n d) f s cs r short a = by_calls m cs _ a.2 tt
asked m (input.Settle n role first last) f s cs r short a = by_calls m cs _ a.1 tt
asked m (input.Stop n reason) f s cs r short a = by_calls m cs _ a.0 tt
asked m i f s cs r short a = absurd a

effected : {R : Type 0} (g : Relays R) (m : ℕ) (v w : EngineView R) (e : Entry R) → IsShort m e.input → Effect g v e w → OfCalls m e.calls
effected g m v w e short (inl x) = stays x.1
  where
    stays : Stays v e w ⊎ Changes g v e w → OfCalls m e.calls
    stays (inl y) = by_calls m e.calls [] y.no_calls tt
    stays (inr y) = asked m e.input e.received y.before.state e.calls e.refusal short y.asked
effected g m v w e short (inr (inl x)) = asked m e.input e.received _ e.calls e.refusal short x.asked
effected g m v w e short (inr (inr x)) = by_calls m e.calls [] x.no_calls tt

-- ---- a session's calls

here : {R : Type 0} (m n : ℕ) (e : Entry R) → OfCalls m e.calls → OfCalls m (calls_at n e)
here m n e s = go (is_number n e.reached)
  where
    go : (b : Bool) → OfCalls m (cond b e.calls [])
    go true = s
    go false = tt

pub keeps_short : {R : Type 0} (g : Relays R) (m n : ℕ) (es : List (Entry R)) (v w : EngineView R) → Chain g v es w → AllShort m es → EachOnePiece m (single.accepted (of_session n es))
keeps_short g m n [] v w c s = tt
keeps_short g m n (e ∷ es) v w c s =
    both_calls m (calls_at n e) (of_session n es) (here m n e (effected g m c.0 c.1 e s.0 (passage g c.0 c.1 e c.3).effect)) (keeps_short g m n es c.1 w c.4 s.1)
