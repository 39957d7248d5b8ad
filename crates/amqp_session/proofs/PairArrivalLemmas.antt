-- A frame that arrives keeps the tallies of both runs.
use Rattle.std.proofs.Common.{◌≡◌, ◌≤◌, ◌+◌, ◌%◌, ◌^◌, [], ◌∷◌, inl, inr, ℕ, List, refl, ap, arith, sym, subst, ◌∙◌, append-nil, true}
use Rattle.std.proofs.Common.{false, Option, Some, None, Result, Ok, Err, unwrap_or}
use Rattle.amqp_types.specs.Begin.{BeginModel}
use Rattle.amqp_types.specs.Disposition.{DispositionModel}
use Rattle.amqp_types.specs.Flow.{FlowModel}
use Rattle.amqp_types.specs.Transfer.{TransferModel}
use Rattle.amqp_session.specs.declared.error.SessionInnerError.{SessionInnerError}
use Rattle.amqp_session.specs.declared.error.SessionInnerError.TheVariants as Refused
use Rattle.amqp_session.specs.declared.error.SessionStateError.{SessionStateError}
use Rattle.amqp_session.specs.declared.error.SessionStateError.TheVariants as Begins
use Rattle.amqp_session.specs.declared.frame.SessionFrame.{SessionFrame}
use Rattle.amqp_session.specs.declared.frame.SessionFrameBody.{SessionFrameBody}
use Rattle.amqp_session.specs.declared.frame.SessionFrameBody.TheVariants as Body
use Rattle.amqp_session.specs.declared.frame.SessionOutgoingItem.{SessionOutgoingItem}
use Rattle.amqp_session.specs.declared.frame.SessionOutgoingItem.TheVariants.{SingleFrame, MultipleFrames}
use Rattle.amqp_session.specs.Relay.{Relays, TransferQuestion}
use Rattle.amqp_session.specs.OutgoingFrames.{inner_frames}
use Rattle.amqp_session.specs.Session.{SessionView, session_flow, session_flow_frame}
use Rattle.amqp_session.specs.History.{TakesBegin, SendsSessionFlow}
use Rattle.amqp_session.specs.Step.{flow_base, flow_moved, counted_by, asked_at, TransferAnswered, TransferUnasked, LinkTransferStep}
use Rattle.amqp_session.specs.Pair.{Makes, ArriveAt, TakesBody, FlowIsTaken, FlowFollows, TransferIsTaken}
use Rattle.amqp_session.specs.PairLedger.{has_received, Place, Moves, Leads, Core, core, Keeps, run_of, Ledger, Tallies}
use Rattle.amqp_session.proofs.PairRunLemmas.{leads_received, leads_begun, leads_sent, leads_offered, receives_is, receives_none, keeps_moved}
use Rattle.amqp_session.proofs.PairRunLemmas.{keeps_counted, keeps_opened}
use Rattle.amqp_session.proofs.PairStepLemmas.{puts_taken, puts_flow, acts, stays}

-- a frame is taken after which nothing goes out
took : (a b w : Core) (coming going rest : List SessionFrame) (put_a taken_a put_b taken_b taken' : Place) →
    Ledger a b coming going put_a taken_a put_b taken_b →
    w.settings ≡ a.settings → has_received w.state ≡ has_received a.state → Keeps w put_a taken' b.settings →
    Leads (run_of b a.settings) taken' rest put_b → Ledger w b rest going put_a taken' put_b taken_b
took a b w coming going rest put_a taken_a put_b taken_b taken' l es eh k lc = record {
  a_keeps = k;
  b_keeps = rw es l.b_keeps;
  a_comes = rw es lc;
  b_comes = rw (es, eh) l.b_comes;
  a_fits = rw es l.a_fits;
  b_fits = l.b_fits;
}

-- its own Begin went out before the peer sent anything but a Begin
own_begun : (a b : Core) (coming going : List SessionFrame) (put_a taken_a put_b taken_b : Place) →
    Ledger a b coming going put_a taken_a put_b taken_b → has_received b.state ≡ true → put_a.begun ≡ true
own_begun a b coming going put_a taken_a put_b taken_b l e =
    leads_begun (run_of a b.settings) taken_b put_a going (l.b_keeps.received_is ∙ e) l.b_comes

-- ---- a Begin

module _ {R : Type 0} (g : Relays R) where
  begin_comes : (a w : SessionView R) (b : Core) (f : SessionFrame) (channel : ℕ) (x : BeginModel) (rest going going' : List SessionFrame)
      (answer : Result (Unit {0}) SessionStateError) (st : Tallies (core a) b (f ∷ rest) going) →
      Moves (run_of b a.settings) st.taken_a (Body.Begin x) st.ledger.a_comes.0 → Makes g a going (TakesBegin channel x answer) w going' →
      Tallies (core w) b rest going'
  begin_comes a w b f channel x rest going going' (Ok u) st h s =
      let l = st.ledger in
      let d = receives_is a.state w.state s.0.0 in
      let taken : Place = record st.taken_a { begun = true } in
      let k = keeps_opened (core a) st.put_a st.taken_a b.settings x w.state l.a_keeps s.0.0 h.2 h.1 in
      let es : w.settings ≡ a.settings = ap (λ (v : SessionView R). v.settings) s.0.2 in
      rw (s.1, append-nil going) (record {
        put_a = st.put_a;
        taken_a = taken;
        put_b = st.put_b;
        taken_b = st.taken_b;
        ledger = record {
          a_keeps = subst (λ v. Keeps (core v) st.put_a taken b.settings) (sym s.0.2) k;
          b_keeps = rw es l.b_keeps;
          a_comes = rw (es, ← h.3) l.a_comes.2;
          b_comes = rw (es, d.1) (leads_received (run_of (core a) b.settings) st.taken_b st.put_a going l.b_comes);
          a_fits = rw es l.a_fits;
          b_fits = l.b_fits;
        };
      })
  begin_comes a w b f channel x rest going going' (Err Begins.IllegalState) st h s =
      let e : true ≡ false = sym (receives_none a.state s.0.0) ∙ sym st.ledger.a_keeps.received_is ∙ h.0 in
      absurd (cc)
  begin_comes a w b f channel x rest going going' (Err Begins.OutOfMemory) st h s = absurd s.0
  begin_comes a w b f channel x rest going going' (Err Begins.RemoteEnded) st h s = absurd s.0
  begin_comes a w b f channel x rest going going' (Err (Begins.RemoteEndedWithError e)) st h s = absurd s.0
  begin_comes a w b f channel x rest going going' (Err (Begins.ConnectionStopped r)) st h s = absurd s.0

  -- ---- a flow

  flow_read : (a : SessionView R) (b : Core) (f : SessionFrame) (x : FlowModel) (rest going : List SessionFrame)
      (st : Tallies (core a) b (f ∷ rest) going) (h : Moves (run_of b a.settings) st.taken_a (Body.Flow x) st.ledger.a_comes.0) →
      Ledger (core (flow_moved a x)) b rest going st.put_a (record st.taken_a { offered = h.0 }) st.put_b st.taken_b
  flow_read a b f x rest going st h =
      let l = st.ledger in
      let taken : Place = record st.taken_a { offered = h.0 } in
      let comes : Leads (run_of b a.settings) taken rest st.put_b = rw (← h.7) l.a_comes.2 in
      let up = leads_offered (run_of b a.settings) taken st.put_b rest comes in
      let on = leads_sent (run_of (core a) b.settings) st.taken_b st.put_a going l.b_comes in
      let below : h.0 ≤ st.put_a.sent = omega (arith, up, on, l.b_keeps.offers) in
      let base : flow_base a x ≡ (a.settings.next_outgoing_id + h.0) % 2 ^ 32 = ap (λ o. unwrap_or o a.settings.next_outgoing_id) h.4 in
      took (core a) b (core (flow_moved a x)) (f ∷ rest) going rest st.put_a st.taken_a st.put_b st.taken_b taken l refl refl
      (keeps_moved (core a) st.put_a st.taken_a b.settings x (flow_base a x) h.0 l.a_keeps h.2 l.b_fits.1 h.3 below base h.5 h.6) comes

  flow_comes : (a w : SessionView R) (b : Core) (f : SessionFrame) (x : FlowModel) (rest going going' : List SessionFrame)
      (result : Result (Unit {0}) SessionInnerError) (st : Tallies (core a) b (f ∷ rest) going) →
      Moves (run_of b a.settings) st.taken_a (Body.Flow x) st.ledger.a_comes.0 → FlowIsTaken g x a going result w going' →
      Tallies (core w) b rest going'
  flow_comes a w b f x rest going going' result st h s =
      let m = flow_read a b f x rest going st h in
      let taken : Place = record st.taken_a { offered = h.0 } in
      let eb = own_begun (core a) b (f ∷ rest) going st.put_a st.taken_a st.put_b st.taken_b st.ledger h.1 in
      let d = puts_taken g.flow_gives (flow_moved a x) w x x.handle s.asked s.item st.put_a taken b.settings s.makes.0.1 m.a_keeps h.2 eb
      in
      rw s.makes.1 (acts (core (flow_moved a x)) b (core w) rest going rest (inner_frames s.item) st.put_a taken st.put_b st.taken_b
      d.after taken m d.same.0 d.keeps m.a_comes d.leads m.b_comes (ap has_received d.same.1))

  -- ---- a transfer

  answered_core : (v w : SessionView R) (h : ℕ) (a : _) (reply : _) → TransferAnswered v h a reply w → core w ≡ core v
  answered_core v w h (Ok named) (Ok reply) t = ap (λ (x : SessionView R). core x) t.2
  answered_core v w h (Err e) (Err x) t = ap (λ (x : SessionView R). core x) t.1
  answered_core v w h (Ok named) (Err x) t = absurd t
  answered_core v w h (Err e) (Ok reply) t = absurd t

  unasked_core : (v w : SessionView R) (h : ℕ) (reply : _) → TransferUnasked v h reply w → core w ≡ core v
  unasked_core v w h (Ok reply) t = absurd t
  unasked_core v w h (Err Refused.UnattachedHandle) t = ap (λ (x : SessionView R). core x) t.1
  unasked_core v w h (Err Refused.OutOfMemory) t = ap (λ (x : SessionView R). core x) t.1
  unasked_core v w h (Err e) t = absurd t

  taken_core : (v w : SessionView R) (h : ℕ) (t : TransferModel) (payload : List ℕ) (asked : Option (TransferQuestion R)) (reply : _) →
      LinkTransferStep g.transfer_gives v h t payload asked reply w → core w ≡ core v
  taken_core v w h t payload None reply s = unasked_core v w h reply s
  taken_core v w h t payload (Some q) reply s = answered_core (asked_at v h q) w h q.answer reply s.2

  transfer_read : (a : SessionView R) (b c : Core) (f : SessionFrame) (t : TransferModel) (payload : List ℕ)
      (rest going : List SessionFrame) (st : Tallies (core a) b (f ∷ rest) going) →
      Moves (run_of b a.settings) st.taken_a (Body.Transfer t payload) st.ledger.a_comes.0 → c ≡ core (counted_by a) →
      Ledger c b rest going st.put_a (record st.taken_a { sent = st.taken_a.sent + 1 }) st.put_b st.taken_b
  transfer_read a b c f t payload rest going st h e =
      let l = st.ledger in
      let taken : Place = record st.taken_a { sent = st.taken_a.sent + 1 } in
      let comes : Leads (run_of b a.settings) taken rest st.put_b = rw (← h.2) l.a_comes.2 in
      rw e (took (core a) b (core (counted_by a)) (f ∷ rest) going rest st.put_a st.taken_a st.put_b st.taken_b taken l refl refl
      (keeps_counted (core a) st.put_a st.taken_a b.settings l.a_keeps h.1) comes)

  rests : (m w : SessionView R) (b : Core) (rest going going' : List SessionFrame) (put_a taken_a put_b taken_b : Place) →
      Ledger (core m) b rest going put_a taken_a put_b taken_b → w ≡ m → going' ≡ going → Tallies (core w) b rest going'
  rests m w b rest going going' put_a taken_a put_b taken_b l e eg =
      rw (e, eg) (record { put_a = put_a; taken_a = taken_a; put_b = put_b; taken_b = taken_b; ledger = l })

  flow_follows : (m w : SessionView R) (b : Core) (rest going going' : List SessionFrame) (flow : Option SessionOutgoingItem)
      (put_a taken_a put_b taken_b : Place) → Ledger (core m) b rest going put_a taken_a put_b taken_b →
      taken_a.begun ≡ true → put_a.begun ≡ true → Makes g m going (SendsSessionFlow flow) w going' → Tallies (core w) b rest going'
  flow_follows m w b rest going going' None put_a taken_a put_b taken_b l eh eb s =
      rests m w b rest going going' put_a taken_a put_b taken_b l s.0.1 (s.1 ∙ append-nil going)
  flow_follows m w b rest going going' (Some (SingleFrame f)) put_a taken_a put_b taken_b l eh eb s =
      let d = puts_flow (core m) put_a taken_a b.settings m.outgoing_channel 0 (session_flow m) l.a_keeps eh eb refl refl refl in
      rw (s.1, s.0.1, s.0.2) (acts (core m) b (record (core m) { count = 0 }) rest going rest (session_flow_frame m ∷ []) put_a taken_a
      put_b taken_b d.after taken_a l refl d.keeps l.a_comes d.leads l.b_comes refl)
  flow_follows m w b rest going going' (Some (MultipleFrames fs)) put_a taken_a put_b taken_b l eh eb s = absurd s.0

  follows : (m w : SessionView R) (b : Core) (rest going going' : List SessionFrame)
      (reply : Result (Option DispositionModel) SessionInnerError) (put_a taken_a put_b taken_b : Place) →
      Ledger (core m) b rest going put_a taken_a put_b taken_b →
      taken_a.begun ≡ true → put_a.begun ≡ true → FlowFollows g m going reply w going' → Tallies (core w) b rest going'
  follows m w b rest going going' (Ok reply) put_a taken_a put_b taken_b l eh eb s =
      flow_follows m w b rest going going' s.0 put_a taken_a put_b taken_b l eh eb s.1
  follows m w b rest going going' (Err e) put_a taken_a put_b taken_b l eh eb s =
      rests m w b rest going going' put_a taken_a put_b taken_b l s.0 s.1

  transfer_comes : (a w : SessionView R) (b : Core) (f : SessionFrame) (t : TransferModel) (payload : List ℕ)
      (rest going going' : List SessionFrame) (result : Result (Unit {0}) SessionInnerError) (st : Tallies (core a) b (f ∷ rest) going) →
      Moves (run_of b a.settings) st.taken_a (Body.Transfer t payload) st.ledger.a_comes.0 →
      TransferIsTaken g t payload a going result w going' → Tallies (core w) b rest going'
  transfer_comes a w b f t payload rest going going' result st h s =
      let same = taken_core (counted_by a) s.counted t.handle t payload s.asked s.reply s.takes in
      let m = transfer_read a b (core s.counted) f t payload rest going st h same in
      let taken : Place = record st.taken_a { sent = st.taken_a.sent + 1 } in
      let eb = own_begun (core a) b (f ∷ rest) going st.put_a st.taken_a st.put_b st.taken_b st.ledger h.0 in
      follows s.counted w b rest going going' s.reply st.put_a taken st.put_b st.taken_b m h.1 eb s.follows

  -- ---- any frame

  body_comes : (a w : SessionView R) (b : Core) (f : SessionFrame) (body : SessionFrameBody) (channel : ℕ)
      (rest going going' : List SessionFrame) (result : Result (Unit {0}) SessionInnerError) (st : Tallies (core a) b (f ∷ rest) going) →
      Moves (run_of b a.settings) st.taken_a body st.ledger.a_comes.0 → TakesBody g channel body a going result w going' →
      Tallies (core w) b rest going'
  body_comes a w b f (Body.Begin x) channel rest going going' result st h s =
      begin_comes a w b f channel x rest going going' s.answer st h s.makes
  body_comes a w b f (Body.Flow x) channel rest going going' result st h s = flow_comes a w b f x rest going going' result st h s
  body_comes a w b f (Body.Transfer t payload) channel rest going going' result st h s =
      transfer_comes a w b f t payload rest going going' result st h s
  body_comes a w b f (Body.Attach x) channel rest going going' result st h s =
      let l = st.ledger in
      let comes : Leads (run_of b a.settings) st.taken_a rest st.put_b = rw (← h.2) l.a_comes.2 in
      rw (s.makes.1, append-nil going, s.makes.0.1) (record {
        put_a = st.put_a;
        taken_a = st.taken_a;
        put_b = st.put_b;
        taken_b = st.taken_b;
        ledger = record {
          a_keeps = l.a_keeps;
          b_keeps = l.b_keeps;
          a_comes = comes;
          b_comes = l.b_comes;
          a_fits = l.a_fits;
          b_fits = l.b_fits;
        };
      })
  body_comes a w b f (Body.Disposition x) channel rest going going' result st h s = absurd s
  body_comes a w b f (Body.Detach x) channel rest going going' result st h s = absurd s
  body_comes a w b f (Body.End x) channel rest going going' result st h s = absurd s

  pub arrive_step : (a w : SessionView R) (b : Core) (coming going coming' going' : List SessionFrame)
      (result : Result (Unit {0}) SessionInnerError) → Tallies (core a) b coming going →
      ArriveAt g a coming going result w coming' going' → Tallies (core w) b coming' going'
  arrive_step a w b [] going coming' going' result st s = rw s.1 (stays a w b [] going going' st s.2.0 s.2.1)
  arrive_step a w b (f ∷ fs) going coming' going' result st s = elim s [
    | inl no_room ↦ rw no_room.0 (stays a w b (f ∷ fs) going going' st no_room.1.1.0 no_room.1.1.1)
    | inr taken ↦ rw taken.0 (body_comes a w b f f.body f.channel fs going going' result st st.ledger.a_comes.1 taken.1)
  ]
