-- Each call of a pair keeps the tallies of both runs.
use Rattle.std.proofs.Common.{◌≡◌, ◌+◌, ◌++◌, [], ◌∷◌, inl, inr, ℕ, List, length, length-take, take, refl, ap, sym, subst, ◌∙◌, min}
use Rattle.std.proofs.Common.{append-nil, cond, true, false, Option, Some, None, Result, Ok, Err}
use Rattle.std.specs.Option.{option_map}
use Rattle.amqp_types.specs.Attach.{AttachModel}
use Rattle.amqp_types.specs.Flow.{FlowModel}
use Rattle.amqp_session.specs.declared.error.LinkRelayError.{LinkRelayError}
use Rattle.amqp_session.specs.declared.error.SessionInnerError.{SessionInnerError}
use Rattle.amqp_session.specs.declared.error.SessionInnerError.TheVariants as Refused
use Rattle.amqp_session.specs.declared.error.SessionStateError.{SessionStateError}
use Rattle.amqp_session.specs.declared.error.SessionStateError.TheVariants as Begins
use Rattle.amqp_session.specs.declared.flow.LinkFlow.{LinkFlow}
use Rattle.amqp_session.specs.declared.frame.SessionFrame.{SessionFrame}
use Rattle.amqp_session.specs.declared.frame.SessionFrameBody.TheVariants as Body
use Rattle.amqp_session.specs.declared.frame.SessionOutgoingItem.{SessionOutgoingItem}
use Rattle.amqp_session.specs.Settings.{SettingsModel}
use Rattle.amqp_session.specs.States.{is_mapped}
use Rattle.amqp_session.specs.Transfers.{RequestedTransfer}
use Rattle.amqp_session.specs.Sending.{let_out, drained}
use Rattle.amqp_session.specs.Relay.{Relays, FlowGives, FlowQuestion}
use Rattle.amqp_session.specs.Items.{item_frames, first_frame, is_some_list}
use Rattle.amqp_session.specs.OutgoingFrames.{inner_frames}
use Rattle.amqp_session.specs.Session.{SessionView, begin_frame, flow_frame, lets, let_gone}
use Rattle.amqp_session.specs.Linking.{attach_frame}
use Rattle.amqp_session.specs.History.{SendsBegin, SendsAttach, SendsFlow, SendsTransfer}
use Rattle.amqp_session.specs.Step.{asked_at, waits, FlowGoes, FlowAnswered, FlowUnasked, FlowTaken}
use Rattle.amqp_session.specs.Pair.{Makes, BeginAt, FrameAt, TransferAt}
use Rattle.amqp_session.specs.PairLedger.{has_begun, has_received, Place, Leads, Core, core, Keeps, run_of, Ledger, Tallies}
use Rattle.amqp_session.proofs.SendingLemmas.{hands_frames}
use Rattle.amqp_session.proofs.PairRunLemmas.{leads_append, leads_numbered, begins_is, mapped_is, keeps_drained, keeps_offered, keeps_begun}

-- ---- what a session puts on its run

-- a session that is v hands out these frames and is then w
pub record Puts (v : Core) (put taken : Place) (o : SettingsModel) (frames : List SessionFrame) (w : Core) : Type 0 where
  pub after : Place
  pub keeps : Keeps w after taken o
  pub leads : Leads (run_of v o) put frames after
  pub begun : after.begun ≡ true
  pub same : (w.settings ≡ v.settings) × (w.state ≡ v.state)

puts_nothing : (v : Core) (put taken : Place) (o : SettingsModel) → Keeps v put taken o → put.begun ≡ true → Puts v put taken o [] v
puts_nothing v put taken o k eb = record { after = put; keeps = k; leads = refl; begun = eb; same = (refl, refl) }

-- a flow that says the session's numbers
pub puts_flow : (v : Core) (put taken : Place) (o : SettingsModel) (c n : ℕ) (x : FlowModel) → Keeps v put taken o → taken.begun ≡ true →
    put.begun ≡ true →
    x.next_incoming_id ≡ Some v.incoming → x.incoming_window ≡ v.settings.incoming_window → x.next_outgoing_id ≡ v.next →
    Puts v put taken o (record { channel = c; body = Body.Flow x } ∷ []) (record v { count = n })
puts_flow v put taken o c n x k eh eb e1 e2 e3 = record {
  after = record put { offered = taken.sent };
  keeps = keeps_offered v put taken o n k;
  leads = (
    record put { offered = taken.sent },
    (
      taken.sent,
      sym k.received_is ∙ eh,
      eb,
      k.offers,
      e1 ∙ ap (λ y. Some y) (k.incoming_is eh),
      e2,
      e3 ∙ k.next_is,
      refl,
    ),
    refl,
  );
  begun = eb;
  same = (refl, refl);
}

puts_attach : (v : Core) (put taken : Place) (o : SettingsModel) (c : ℕ) (a : AttachModel) → Keeps v put taken o → taken.begun ≡ true →
    put.begun ≡ true →
    Puts v put taken o (record { channel = c; body = Body.Attach a } ∷ []) v
puts_attach v put taken o c a k eh eb = record {
  after = put;
  keeps = k;
  leads = (put, (sym k.received_is ∙ eh, eb, refl), refl);
  begun = eb;
  same = (refl, refl);
}

-- what the window and the state let out
puts_gone : {R : Type 0} (v : SessionView R) (put taken : Place) (o : SettingsModel) → Keeps (core v) put taken o → taken.begun ≡ true →
    put.begun ≡ true → Puts (core v) put taken o (lets v) (core (let_gone v))
puts_gone {R} v put taken o k eh eb =
    elim (is_mapped v.state) as (λ d. Puts (core v) put taken o (cond d (let_out v.outgoing_channel v.sending) [])
    (core (let u : SessionView R = record v { sending = cond d (drained v.sending) v.sending } in u))) [
      | true ↦ record {
        after = record put { sent = put.sent + min v.sending.remote_incoming_window (length v.sending.held) };
        keeps = keeps_drained (core v) put taken o (length v.sending.held) k eh;
        leads = rw (← length-take v.sending.remote_incoming_window v.sending.held)
            (leads_numbered (run_of (core v) o) put v.outgoing_channel v.sending.next_delivery
            (take v.sending.remote_incoming_window v.sending.held) (sym k.received_is ∙ eh) eb);
        begun = eb;
        same = (refl, refl);
      }
      | false ↦ puts_nothing (core v) put taken o k eb
    ]

puts_echo : {R : Type 0} (v : SessionView R) (put taken : Place) (o : SettingsModel) (echo : Option LinkFlow) → Keeps (core v) put taken o →
    taken.begun ≡ true → put.begun ≡ true →
    Puts (core v) put taken o (first_frame (option_map (flow_frame v) echo)) (core v)
puts_echo v put taken o None k eh eb = puts_nothing (core v) put taken o k eb
puts_echo v put taken o (Some l) k eh eb = puts_flow (core v) put taken o v.outgoing_channel v.receiving.unreported _ k eh eb refl refl
    refl

-- what a flow lets out
puts_goes : {R : Type 0} (v w : SessionView R) (echo : Option LinkFlow) (item : Option SessionOutgoingItem) (put taken : Place)
    (o : SettingsModel) → FlowGoes v echo item w →
    Keeps (core v) put taken o → taken.begun ≡ true → put.begun ≡ true → Puts (core v) put taken o (item_frames item) (core w)
puts_goes v w echo item put taken o t k eh eb =
    let all = hands_frames (is_some_list (lets v)) (first_frame (option_map (flow_frame v) echo) ++ lets v) item t.0 in
    let e = puts_echo v put taken o echo k eh eb in
    let d = puts_gone v e.after taken o e.keeps eh e.begun in
    rw (all, t.1) record {
      after = d.after;
      keeps = d.keeps;
      leads = leads_append (run_of (core v) o) put e.after d.after (first_frame (option_map (flow_frame v) echo)) (lets v) e.leads d.leads;
      begun = d.begun;
      same = (refl, refl);
    }

puts_same : {R : Type 0} (v w : SessionView R) (put taken : Place) (o : SettingsModel) → w ≡ v → Keeps (core v) put taken o →
    put.begun ≡ true → Puts (core v) put taken o [] (core w)
puts_same v w put taken o e k eb = rw e (puts_nothing (core v) put taken o k eb)

puts_answered : {R : Type 0} (v w : SessionView R) (a : Result (Option LinkFlow) LinkRelayError)
    (item : Result (Option SessionOutgoingItem) SessionInnerError) (put taken : Place) (o : SettingsModel) → FlowAnswered v a item w →
    Keeps (core v) put taken o → taken.begun ≡ true → put.begun ≡ true → Puts (core v) put taken o (inner_frames item) (core w)
puts_answered v w (Ok echo) (Ok item) put taken o t k eh eb = puts_goes v w echo item put taken o t k eh eb
puts_answered v w (Err e) (Err x) put taken o t k eh eb = puts_same v w put taken o t.1 k eb
puts_answered v w (Ok echo) (Err x) put taken o t k eh eb = absurd t
puts_answered v w (Err e) (Ok item) put taken o t k eh eb = absurd t

puts_unasked : {R : Type 0} (v w : SessionView R) (h : Option ℕ) (item : Result (Option SessionOutgoingItem) SessionInnerError)
    (put taken : Place) (o : SettingsModel) → FlowUnasked v h item w →
    Keeps (core v) put taken o → taken.begun ≡ true → put.begun ≡ true → Puts (core v) put taken o (inner_frames item) (core w)
puts_unasked v w h (Ok item) put taken o t k eh eb = puts_goes v w None item put taken o t.1 k eh eb
puts_unasked v w None (Err Refused.UnattachedHandle) put taken o t k eh eb = absurd t
puts_unasked v w (Some h) (Err Refused.UnattachedHandle) put taken o t k eh eb = puts_same v w put taken o t.1 k eb
puts_unasked v w h (Err Refused.OutOfMemory) put taken o t k eh eb = puts_same v w put taken o t.1 k eb
puts_unasked v w None (Err e) put taken o t k eh eb = absurd t
puts_unasked v w (Some h) (Err e) put taken o t k eh eb = absurd t

pub puts_taken : {R : Type 0} (gives : FlowGives R) (v w : SessionView R) (f : FlowModel) (h : Option ℕ) (asked : Option (FlowQuestion R))
    (item : Result (Option SessionOutgoingItem) SessionInnerError) (put taken : Place) (o : SettingsModel) →
    FlowTaken gives v f h asked item w → Keeps (core v) put taken o → taken.begun ≡ true → put.begun ≡ true →
    Puts (core v) put taken o (inner_frames item) (core w)
puts_taken gives v w f None None item put taken o t k eh eb = puts_unasked v w None item put taken o t k eh eb
puts_taken gives v w f None (Some q) item put taken o t k eh eb = absurd t
puts_taken gives v w f (Some h) None item put taken o t k eh eb = puts_unasked v w (Some h) item put taken o t k eh eb
puts_taken gives v w f (Some h) (Some q) item put taken o t k eh eb =
    let r = puts_answered (asked_at v h q) w q.answer item put taken o t.2 k eh eb in
    record { after = r.after; keeps = r.keeps; leads = r.leads; begun = r.begun; same = r.same }

-- ---- one session acts

-- what it took, and what it put out
pub acts : (a b w : Core) (coming going rest frames : List SessionFrame) (put_a taken_a put_b taken_b put' taken' : Place) →
    Ledger a b coming going put_a taken_a put_b taken_b →
    w.settings ≡ a.settings → Keeps w put' taken' b.settings → Leads (run_of b a.settings) taken' rest put_b →
    Leads (run_of a b.settings) put_a frames put' →
    Leads (run_of a b.settings) taken_b going put_a → has_received w.state ≡ has_received a.state → Tallies w b rest (going ++ frames)
acts a b w coming going rest frames put_a taken_a put_b taken_b put' taken' l es k lc lf lg eh = record {
  put_a = put';
  taken_a = taken';
  put_b = put_b;
  taken_b = taken_b;
  ledger = record {
    a_keeps = k;
    b_keeps = rw es l.b_keeps;
    a_comes = rw es lc;
    b_comes = rw (es, eh) (leads_append (run_of a b.settings) taken_b put_a put' going frames lg lf);
    a_fits = rw es l.a_fits;
    b_fits = l.b_fits;
  };
}

-- nothing changes
pub stays : {R : Type 0} (a w : SessionView R) (b : Core) (coming going going' : List SessionFrame) → Tallies (core a) b coming going →
    w ≡ a → going' ≡ going → Tallies (core w) b coming going'
stays a w b coming going going' st e eg = rw (e, eg) st

-- nothing goes out
still : {R : Type 0} (a w : SessionView R) (b : Core) (coming going going' : List SessionFrame) → Tallies (core a) b coming going → w ≡ a →
    going' ≡ going ++ [] → Tallies (core w) b coming going'
still a w b coming going going' st e eg = stays a w b coming going going' st e (eg ∙ append-nil going)

-- a mapped session hands out frames
puts : (a b w : Core) (coming going going' frames : List SessionFrame) → Tallies a b coming going → is_mapped a.state ≡ true →
    w.settings ≡ a.settings → has_received w.state ≡ has_received a.state →
    ((put taken : Place) (o : SettingsModel) → Keeps a put taken o → taken.begun ≡ true → put.begun ≡ true → Puts a put taken o frames w) →
    going' ≡ going ++ frames → Tallies w b coming going'
puts a b w coming going going' frames st mapped es eh f eg =
    let l = st.ledger in
    let m = mapped_is a.state mapped in
    let taken_begun : st.taken_a.begun ≡ true = l.a_keeps.received_is ∙ ap has_received m in
    let put_begun : st.put_a.begun ≡ true = l.a_keeps.begun_is ∙ ap has_begun m in
    let r = f st.put_a st.taken_a b.settings l.a_keeps taken_begun put_begun in
    rw eg (acts a b w coming going coming frames st.put_a st.taken_a st.put_b st.taken_b r.after st.taken_a l es r.keeps l.a_comes r.leads
    l.b_comes eh)

module _ {R : Type 0} (g : Relays R) where
  begin_by : (a w : SessionView R) (b : Core) (coming going going' : List SessionFrame) (frame : Result SessionFrame SessionStateError) →
      Tallies (core a) b coming going → Makes g a going (SendsBegin frame) w going' → Tallies (core w) b coming going'
  begin_by a w b coming going going' (Ok f) st s =
      let l = st.ledger in
      let d = begins_is a.state w.state s.0.0 in
      let k = keeps_begun (core a) st.put_a st.taken_a b.settings w.state l.a_keeps s.0.0 in
      let put : Place = record st.put_a { begun = true } in
      rw (s.1, s.0.1) (acts (core a) b (core w) coming going coming (begin_frame a ∷ []) st.put_a st.taken_a st.put_b st.taken_b put
      st.taken_a l
      (ap (λ (x : SessionView R). x.settings) s.0.2) (subst (λ x. Keeps (core x) put st.taken_a b.settings) (sym s.0.2) k) l.a_comes
      (put, (l.a_keeps.begun_is ∙ d.0, l.a_keeps.next_is, refl, refl), refl) l.b_comes d.2)
  begin_by a w b coming going going' (Err Begins.IllegalState) st s = still a w b coming going going' st s.0.1 s.1
  begin_by a w b coming going going' (Err Begins.OutOfMemory) st s = still a w b coming going going' st s.0.1 s.1
  begin_by a w b coming going going' (Err Begins.RemoteEnded) st s = absurd s.0
  begin_by a w b coming going going' (Err (Begins.RemoteEndedWithError e)) st s = absurd s.0
  begin_by a w b coming going going' (Err (Begins.ConnectionStopped r)) st s = absurd s.0

  pub begin_step : (a w : SessionView R) (b : Core) (coming going going' : List SessionFrame)
      (result : Result (Unit {0}) SessionInnerError) → Tallies (core a) b coming going → BeginAt g a going result w going' →
      Tallies (core w) b coming going'
  begin_step a w b coming going going' result st s = elim s [
    | inl no_room ↦ stays a w b coming going going' st no_room.1.1.0 no_room.1.1.1
    | inr sent ↦ begin_by a w b coming going going' sent.frame st sent.makes
  ]

  pub attach_step : (a w : SessionView R) (b : Core) (x : AttachModel) (coming going going' : List SessionFrame)
      (result : Result (Unit {0}) SessionInnerError) → Tallies (core a) b coming going →
      FrameAt g (SendsAttach x (attach_frame a x)) a going result w going' → Tallies (core w) b coming going'
  attach_step a w b x coming going going' (Ok u) st s =
      rw s.1.0.1 (puts (core a) b (core a) coming going going' (attach_frame a x ∷ []) st s.0 refl refl
      (λ put taken o k eh eb. puts_attach (core a) put taken o a.outgoing_channel x k eh eb) s.1.1)
  attach_step a w b x coming going going' (Err Refused.IllegalState) st s = stays a w b coming going going' st s.1.0 s.1.1
  attach_step a w b x coming going going' (Err Refused.OutOfMemory) st s = stays a w b coming going going' st s.1.0 s.1.1
  attach_step a w b x coming going going' (Err e) st s = absurd s

  pub flow_step : (a w : SessionView R) (b : Core) (x : LinkFlow) (coming going going' : List SessionFrame)
      (result : Result (Unit {0}) SessionInnerError) → Tallies (core a) b coming going →
      FrameAt g (SendsFlow x (flow_frame a x)) a going result w going' → Tallies (core w) b coming going'
  flow_step a w b x coming going going' (Ok u) st s =
      rw s.1.0.1 (puts (core a) b (core a) coming going going' (flow_frame a x ∷ []) st s.0 refl refl
      (λ put taken o k eh eb. puts_flow (core a) put taken o a.outgoing_channel a.receiving.unreported _ k eh eb refl refl refl) s.1.1)
  flow_step a w b x coming going going' (Err Refused.IllegalState) st s = stays a w b coming going going' st s.1.0 s.1.1
  flow_step a w b x coming going going' (Err Refused.OutOfMemory) st s = stays a w b coming going going' st s.1.0 s.1.1
  flow_step a w b x coming going going' (Err e) st s = absurd s

  transfer_by : (a w : SessionView R) (b : Core) (h : RequestedTransfer) (coming going going' : List SessionFrame)
      (item : Result (Option SessionOutgoingItem) SessionInnerError) → Tallies (core a) b coming going →
      Makes g a going (SendsTransfer h item) w going' → Tallies (core w) b coming going'
  transfer_by a w b h coming going going' (Ok item) st s =
      let all = hands_frames _ (lets (waits a h)) item s.0.2 in
      rw s.0.3 (puts (core a) b (core (let_gone (waits a h))) coming going going' (lets (waits a h)) st s.0.0 refl refl
      (λ put taken o k eh eb. let r = puts_gone (waits a h) put taken o k eh eb in
      record { after = r.after; keeps = r.keeps; leads = r.leads; begun = r.begun; same = r.same })
      (s.1 ∙ ap (λ (fs : List SessionFrame). going ++ fs) all))
  transfer_by a w b h coming going going' (Err Refused.IllegalState) st s = still a w b coming going going' st s.0.1 s.1
  transfer_by a w b h coming going going' (Err Refused.OutOfMemory) st s = still a w b coming going going' st s.0.2 s.1
  transfer_by a w b h coming going going' (Err e) st s = absurd s.0

  pub transfer_step : (a w : SessionView R) (b : Core) (h : RequestedTransfer) (coming going going' : List SessionFrame)
      (result : Result (Unit {0}) SessionInnerError) → Tallies (core a) b coming going →
      TransferAt g h a going result w going' → Tallies (core w) b coming going'
  transfer_step a w b h coming going going' result st s = elim s [
    | inl no_room ↦ stays a w b coming going going' st no_room.2.1.0 no_room.2.1.1
    | inr sent ↦ transfer_by a w b h coming going going' sent.item st sent.makes
  ]
