-- Each call of a pair is a move of one side, and moves keep the frames in order.
use Rattle.std.proofs.Common.{◌≡◌, ◌++◌, [], ◌∷◌, inl, inr, ℕ, List, refl, ap, sym, subst, ◌∙◌, append-nil, append_assoc}
use Rattle.std.proofs.Common.{Option, Result, Ok, Err}
use Rattle.amqp_types.specs.Attach.{AttachModel}
use Rattle.amqp_types.specs.Disposition.{DispositionModel}
use Rattle.amqp_session.specs.declared.error.AllocLinkError.{AllocLinkError}
use Rattle.amqp_session.specs.declared.error.SessionInnerError.{SessionInnerError}
use Rattle.amqp_session.specs.declared.error.SessionInnerError.TheVariants as Refused
use Rattle.amqp_session.specs.declared.flow.LinkFlow.{LinkFlow}
use Rattle.amqp_session.specs.declared.frame.SessionFrame.{SessionFrame}
use Rattle.amqp_session.specs.declared.frame.SessionFrameBody.{SessionFrameBody}
use Rattle.amqp_session.specs.declared.frame.SessionFrameBody.TheVariants as Body
use Rattle.amqp_session.specs.declared.keys.KeyHash.TheVariants.{Fixed}
use Rattle.amqp_session.specs.declared.numbers.OutputHandle.{OutputHandle}
use Rattle.amqp_session.specs.declared.pair.Side.{Side}
use Rattle.amqp_session.specs.declared.pair.Side.TheVariants.{A, B}
use Rattle.amqp_session.specs.Settings.{SettingsModel}
use Rattle.amqp_session.specs.Relay.{Relays}
use Rattle.amqp_session.specs.Transfers.{RequestedTransfer}
use Rattle.amqp_session.specs.Session.{SessionView, flow_frame}
use Rattle.amqp_session.specs.Linking.{attach_frame}
use Rattle.amqp_session.specs.OutgoingFrames.{call_frames, calls_frames}
use Rattle.amqp_session.specs.History.{SessionCall, SessionStep, SessionChain, AllocatesLink, SendsBegin, SendsAttach, SendsFlow, SendsTransfer}
use Rattle.amqp_session.specs.History.{SendsSessionFlow, TakesBegin, TakesAttach, TakesFlow, TakesTransfer}
use Rattle.amqp_session.specs.Pair.{PairView, new_pair, Said, Makes, BeginAt, FrameAt, TransferAt, ArriveAt, TakesBody, FlowFollows}
use Rattle.amqp_session.specs.Pair.{AllocateLinkStep, BeginStep, AttachStep, FlowStep, TransferStep, ArriveStep}
use Rattle.amqp_session.specs.PairOrder.{bodies, received_by, received, MovesAt, PairMoves, IsMove, PairCall, PairChain, calls_by}
use Rattle.amqp_session.specs.PairOrder.{ArrivesInOrder}
use Rattle.amqp_session.specs.PairOrder.{AreHistories}
use Rattle.amqp_session.specs.PairLedger.{FitsSettings}

-- ---- what one session does

-- It takes these frames, of which it leaves some.
record Did {R : Type 0} (g : Relays R) (v : SessionView R) (taken : List SessionFrameBody) (going : List SessionFrame)
    (w : SessionView R) (going' : List SessionFrame) : Type 0 where
  pub calls : List (SessionCall R)
  pub chain : SessionChain g v calls w
  pub takes : received calls ≡ taken
  pub puts : going' ≡ going ++ calls_frames calls

module _ {R : Type 0} (g : Relays R) where
  nothing : (v w : SessionView R) (going going' : List SessionFrame) → w ≡ v → going' ≡ going → Did g v [] going w going'
  nothing v w going going' e eg = record { calls = []; chain = e; takes = refl; puts = eg ∙ sym (append-nil going) }

  one : (e : SessionCall R) (v w : SessionView R) (going going' : List SessionFrame) → Makes g v going e w going' →
      Did g v (received_by e) going w going'
  one e v w going going' m = record {
    calls = e ∷ [];
    chain = (w, m.0, refl);
    takes = append-nil (received_by e);
    puts = m.1 ∙ ap (λ (fs : List SessionFrame). going ++ fs) (sym (append-nil (call_frames e)));
  }

  begin_did : (v w : SessionView R) (going going' : List SessionFrame) (result : Said) → BeginAt g v going result w going' →
      Did g v [] going w going'
  begin_did v w going going' result s = elim s [
    | inl no_room ↦ nothing v w going going' no_room.1.1.0 no_room.1.1.1
    | inr sent ↦ one (SendsBegin sent.frame) v w going going' sent.makes
  ]

  frame_did : (e : SessionCall R) (v w : SessionView R) (going going' : List SessionFrame) (result : Said) → received_by e ≡ [] →
      FrameAt g e v going result w going' → Did g v [] going w going'
  frame_did e v w going going' (Ok u) none s = subst (λ taken. Did g v taken going w going') none (one e v w going going' s.1)
  frame_did e v w going going' (Err Refused.IllegalState) none s = nothing v w going going' s.1.0 s.1.1
  frame_did e v w going going' (Err Refused.OutOfMemory) none s = nothing v w going going' s.1.0 s.1.1
  frame_did e v w going going' (Err x) none s = absurd s

  transfer_did : (h : RequestedTransfer) (v w : SessionView R) (going going' : List SessionFrame) (result : Said) →
      TransferAt g h v going result w going' → Did g v [] going w going'
  transfer_did h v w going going' result s = elim s [
    | inl no_room ↦ nothing v w going going' no_room.2.1.0 no_room.2.1.1
    | inr sent ↦ one (SendsTransfer h sent.item) v w going going' sent.makes
  ]

  -- after a call that hands out nothing
  then : (e : SessionCall R) (v m w : SessionView R) (taken : List SessionFrameBody) (going going' : List SessionFrame) → SessionStep g v e m →
      call_frames e ≡ [] → Did g m taken going w going' → Did g v (received_by e ++ taken) going w going'
  then e v m w taken going going' s none d = record {
    calls = e ∷ d.calls;
    chain = (m, s, d.chain);
    takes = ap (λ (bs : List SessionFrameBody). received_by e ++ bs) d.takes;
    puts = d.puts ∙ ap (λ (fs : List SessionFrame). going ++ (fs ++ calls_frames d.calls)) (sym none);
  }

  follows_did : (v w : SessionView R) (going going' : List SessionFrame) (reply : Result (Option DispositionModel) SessionInnerError) →
      FlowFollows g v going reply w going' → Did g v [] going w going'
  follows_did v w going going' (Ok reply) s = one (SendsSessionFlow s.0) v w going going' s.1
  follows_did v w going going' (Err e) s = nothing v w going going' s.0 s.1

  takes_did : (channel : ℕ) (body : SessionFrameBody) (v w : SessionView R) (going going' : List SessionFrame) (result : Said) →
      TakesBody g channel body v going result w going' → Did g v (body ∷ []) going w going'
  takes_did channel (Body.Begin b) v w going going' result s = one (TakesBegin channel b s.answer) v w going going' s.makes
  takes_did channel (Body.Attach a) v w going going' result s = one (TakesAttach a s.asked result) v w going going' s.makes
  takes_did channel (Body.Flow f) v w going going' result s = one (TakesFlow f s.asked s.item) v w going going' s.makes
  takes_did channel (Body.Transfer t payload) v w going going' result s =
      then (TakesTransfer t payload s.asked s.reply) v s.counted w [] going going' s.takes refl
      (follows_did s.counted w going going' s.reply s.follows)
  takes_did channel (Body.Disposition d) v w going going' result s = absurd s
  takes_did channel (Body.Detach d) v w going going' result s = absurd s
  takes_did channel (Body.End e) v w going going' result s = absurd s

  -- ---- the calls of a pair

  -- a call that takes nothing off the way
  quiet : (v w : SessionView R) (coming coming' going going' : List SessionFrame) → Did g v [] going w going' → coming' ≡ coming →
      (calls : List (SessionCall R)) × MovesAt g calls v coming going w coming' going'
  quiet v w coming coming' going going' d e =
      (d.calls, (d.chain, ap bodies (sym e) ∙ ap (λ (bs : List SessionFrameBody). bs ++ bodies coming') (sym d.takes), d.puts))

  arrive_moves : (v w : SessionView R) (coming coming' going going' : List SessionFrame) (result : Said) →
      ArriveAt g v coming going result w coming' going' → (calls : List (SessionCall R)) × MovesAt g calls v coming going w coming' going'
  arrive_moves v w [] coming' going going' result s = quiet v w [] coming' going going' (nothing v w going going' s.2.0 s.2.1) s.1
  arrive_moves v w (f ∷ fs) coming' going going' result s = elim s [
    | inl no_room ↦
        quiet v w (f ∷ fs) coming' going going' (nothing v w going going' no_room.1.1.0 no_room.1.1.1) no_room.0
    | inr taken ↦
        let d = takes_did f.channel f.body v w going going' result taken.1 in (
          d.calls,
          (
            d.chain,
            ap (λ (L : List SessionFrame). f.body ∷ bodies L) (sym taken.0)
                ∙ ap (λ (bs : List SessionFrameBody). bs ++ bodies coming') (sym d.takes),
            d.puts,
          ),
        )
  ]

  pub begin_move : (side : Side) (result : Said) (p q : PairView R) → BeginStep g side result p q → IsMove g side p q
  begin_move A result p q s =
      let m = quiet p.a q.a p.to_a q.to_a p.to_b q.to_b (begin_did p.a q.a p.to_b q.to_b result s.0) s.2 in (m.0, (m.1, s.1))
  begin_move B result p q s =
      let m = quiet p.b q.b p.to_b q.to_b p.to_a q.to_a (begin_did p.b q.b p.to_a q.to_a result s.0) s.2 in (m.0, (m.1, s.1))

  pub attach_move : (side : Side) (a : AttachModel) (result : Said) (p q : PairView R) → AttachStep g side a result p q → IsMove g side p q
  attach_move A a result p q s =
      let d = frame_did (SendsAttach a (attach_frame p.a a)) p.a q.a p.to_b q.to_b result refl s.0 in
      let m = quiet p.a q.a p.to_a q.to_a p.to_b q.to_b d s.2 in (m.0, (m.1, s.1))
  attach_move B a result p q s =
      let d = frame_did (SendsAttach a (attach_frame p.b a)) p.b q.b p.to_a q.to_a result refl s.0 in
      let m = quiet p.b q.b p.to_b q.to_b p.to_a q.to_a d s.2 in (m.0, (m.1, s.1))

  pub flow_move : (side : Side) (l : LinkFlow) (result : Said) (p q : PairView R) → FlowStep g side l result p q → IsMove g side p q
  flow_move A l result p q s =
      let d = frame_did (SendsFlow l (flow_frame p.a l)) p.a q.a p.to_b q.to_b result refl s.0 in
      let m = quiet p.a q.a p.to_a q.to_a p.to_b q.to_b d s.2 in (m.0, (m.1, s.1))
  flow_move B l result p q s =
      let d = frame_did (SendsFlow l (flow_frame p.b l)) p.b q.b p.to_a q.to_a result refl s.0 in
      let m = quiet p.b q.b p.to_b q.to_b p.to_a q.to_a d s.2 in (m.0, (m.1, s.1))

  pub transfer_move : (side : Side) (h : RequestedTransfer) (result : Said) (p q : PairView R) → TransferStep g side h result p q →
      IsMove g side p q
  transfer_move A h result p q s =
      let m = quiet p.a q.a p.to_a q.to_a p.to_b q.to_b (transfer_did h p.a q.a p.to_b q.to_b result s.0) s.2 in (m.0, (m.1, s.1))
  transfer_move B h result p q s =
      let m = quiet p.b q.b p.to_b q.to_b p.to_a q.to_a (transfer_did h p.b q.b p.to_a q.to_a result s.0) s.2 in (m.0, (m.1, s.1))

  pub allocate_move : (side : Side) (name : List ℕ) (relay : Option R) (handle : Result OutputHandle AllocLinkError) (p q : PairView R) →
      AllocateLinkStep g side name relay handle p q → IsMove g side p q
  allocate_move A name relay handle p q s =
      let d = one (AllocatesLink name relay handle) p.a q.a p.to_b q.to_b (s.0, s.1 ∙ sym (append-nil p.to_b)) in
      let m = quiet p.a q.a p.to_a q.to_a p.to_b q.to_b d s.3 in (m.0, (m.1, s.2))
  allocate_move B name relay handle p q s =
      let d = one (AllocatesLink name relay handle) p.b q.b p.to_a q.to_a (s.0, s.1 ∙ sym (append-nil p.to_a)) in
      let m = quiet p.b q.b p.to_b q.to_b p.to_a q.to_a d s.3 in (m.0, (m.1, s.2))

  pub arrive_move : (side : Side) (result : Said) (p q : PairView R) → ArriveStep g side result p q → IsMove g side p q
  arrive_move A result p q s = let m = arrive_moves p.a q.a p.to_a q.to_a p.to_b q.to_b result s.0 in (m.0, (m.1, s.1))
  arrive_move B result p q s = let m = arrive_moves p.b q.b p.to_b q.to_b p.to_a q.to_a result s.0 in (m.0, (m.1, s.1))

-- ---- all calls, in order

bodies_append : (L M : List SessionFrame) → bodies (L ++ M) ≡ bodies L ++ bodies M
bodies_append [] M = refl
bodies_append (f ∷ L) M = ap (λ (bs : List SessionFrameBody). f.body ∷ bs) (bodies_append L M)

frames_append : {R : Type 0} (c d : List (SessionCall R)) → calls_frames (c ++ d) ≡ calls_frames c ++ calls_frames d
frames_append [] d = refl
frames_append (e ∷ c) d =
    ap (λ (fs : List SessionFrame). call_frames e ++ fs) (frames_append c d)
    ∙ sym (append_assoc (call_frames e) (calls_frames c) (calls_frames d))

received_append : {R : Type 0} (c d : List (SessionCall R)) → received (c ++ d) ≡ received c ++ received d
received_append [] d = refl
received_append (e ∷ c) d =
    ap (λ (bs : List SessionFrameBody). received_by e ++ bs) (received_append c d)
    ∙ sym (append_assoc (received_by e) (received c) (received d))

chain_append : {R : Type 0} (g : Relays R) (c d : List (SessionCall R)) (u v w : SessionView R) → SessionChain g u c v → SessionChain g v d w →
    SessionChain g u (c ++ d) w
chain_append g [] d u v w h k = subst (λ x. SessionChain g x d w) h k
chain_append g (e ∷ c) d u v w h k = (h.0, h.1, chain_append g c d h.0 v w h.2 k)

-- the sender of a run moves, and then all that follows keeps it in order
sent_on : {R : Type 0} (calls sends takes : List (SessionCall R)) (way way' on : List SessionFrame) → way' ≡ way ++ calls_frames calls →
    bodies way' ++ bodies (calls_frames sends) ≡ received takes ++ bodies on →
    bodies way ++ bodies (calls_frames (calls ++ sends)) ≡ received takes ++ bodies on
sent_on calls sends takes way way' on e h =
    ap (λ (L : List SessionFrame). bodies way ++ bodies L) (frames_append calls sends)
    ∙ ap (λ (bs : List SessionFrameBody). bodies way ++ bs) (bodies_append (calls_frames calls) (calls_frames sends))
    ∙ sym (append_assoc (bodies way) (bodies (calls_frames calls)) (bodies (calls_frames sends)))
    ∙ ap (λ (bs : List SessionFrameBody). bs ++ bodies (calls_frames sends)) (sym (ap bodies e ∙ bodies_append way (calls_frames calls)))
    ∙ h

-- its taker moves
taken_on : {R : Type 0} (calls sends takes : List (SessionCall R)) (way way' on : List SessionFrame) →
    bodies way ≡ received calls ++ bodies way' →
    bodies way' ++ bodies (calls_frames sends) ≡ received takes ++ bodies on →
    bodies way ++ bodies (calls_frames sends) ≡ received (calls ++ takes) ++ bodies on
taken_on calls sends takes way way' on e h =
    ap (λ (bs : List SessionFrameBody). bs ++ bodies (calls_frames sends)) e
    ∙ append_assoc (received calls) (bodies way') (bodies (calls_frames sends))
    ∙ ap (λ (bs : List SessionFrameBody). received calls ++ bs) h
    ∙ sym (append_assoc (received calls) (received takes) (bodies on))
    ∙ ap (λ (bs : List SessionFrameBody). bs ++ bodies on) (sym (received_append calls takes))

record Keeps {R : Type 0} (g : Relays R) (H : List (PairCall R)) (p q : PairView R) : Type 0 where
  pub a_goes : SessionChain g p.a (calls_by A H) q.a
  pub b_goes : SessionChain g p.b (calls_by B H) q.b
  pub to_b : bodies p.to_b ++ bodies (calls_frames (calls_by A H)) ≡ received (calls_by B H) ++ bodies q.to_b
  pub to_a : bodies p.to_a ++ bodies (calls_frames (calls_by B H)) ≡ received (calls_by A H) ++ bodies q.to_a

moved : {R : Type 0} (g : Relays R) (side : Side) (calls : List (SessionCall R)) (H : List (PairCall R)) (p m q : PairView R) →
    PairMoves g side calls p m → Keeps g H m q → Keeps g (record { side = side; calls = calls } ∷ H) p q
moved g A calls H p m q s k = record {
  a_goes = chain_append g calls (calls_by A H) p.a m.a q.a s.0.0 k.a_goes;
  b_goes = subst (λ v. SessionChain g v (calls_by B H) q.b) s.1 k.b_goes;
  to_b = sent_on calls (calls_by A H) (calls_by B H) p.to_b m.to_b q.to_b s.0.2 k.to_b;
  to_a = taken_on calls (calls_by B H) (calls_by A H) p.to_a m.to_a q.to_a s.0.1 k.to_a;
}
moved g B calls H p m q s k = record {
  a_goes = subst (λ v. SessionChain g v (calls_by A H) q.a) s.1 k.a_goes;
  b_goes = chain_append g calls (calls_by B H) p.b m.b q.b s.0.0 k.b_goes;
  to_b = taken_on calls (calls_by A H) (calls_by B H) p.to_b m.to_b q.to_b s.0.1 k.to_b;
  to_a = sent_on calls (calls_by B H) (calls_by A H) p.to_a m.to_a q.to_a s.0.2 k.to_a;
}

keeps : {R : Type 0} (g : Relays R) (H : List (PairCall R)) (p q : PairView R) → PairChain g p H q → Keeps g H p q
keeps g [] p q h = record {
  a_goes = ap (λ (v : PairView _). v.a) h;
  b_goes = ap (λ (v : PairView _). v.b) h;
  to_b = append-nil (bodies p.to_b) ∙ ap (λ (v : PairView _). bodies v.to_b) (sym h);
  to_a = append-nil (bodies p.to_a) ∙ ap (λ (v : PairView _). bodies v.to_a) (sym h);
}
keeps g (e ∷ H) p q h = moved g e.side e.calls H p h.0 q h.1 (keeps g H h.0 q h.2)

pub in_order : {R : Type 0} (g : Relays R) (s t : SettingsModel) (H : List (PairCall R)) (p : PairView R) → PairChain g (new_pair s t) H p →
    ArrivesInOrder H p
in_order g s t H p h = let k = keeps g H (new_pair s t) p h in record { to_b = k.to_b; to_a = k.to_a }

pub histories : {R : Type 0} (g : Relays R) (s t : SettingsModel) (H : List (PairCall R)) (p : PairView R) → FitsSettings s →
    FitsSettings t →
    PairChain g (new_pair s t) H p → AreHistories g s t H p
histories g s t H p hs ht h = let k = keeps g H (new_pair s t) p h in ((Fixed, hs.0, k.a_goes), (Fixed, ht.0, k.b_goes))
