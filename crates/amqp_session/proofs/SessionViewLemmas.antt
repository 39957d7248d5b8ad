-- The law of views, by induction over the calls of a session.
use Rattle.std.proofs.Common.{◌≡◌, ℕ, ◌<◌, ◌+◌, ◌%◌, ◌^◌, ◌++◌, [], ◌∷◌, List, length, take, refl, ap, arith, sym, subst, ◌∙◌, append_assoc, append-nil, length-append, length-take, Bool, true, false, cond, min, Option, Some, None, slice_get, Result, Ok, Err, unwrap_or, ◌⊎◌, inl, inr}
use Rattle.std.proofs.lemmas.List.{drop_all, take_min, take-append-le, drop-append-le}
use Rattle.std.proofs.lemmas.Bool.{cases_lt}
use Rattle.amqp_types.specs.declared.states.SessionState.{SessionState}
use Rattle.amqp_session.specs.declared.frame.SessionFrame.{SessionFrame}
use Rattle.amqp_session.specs.declared.frame.SessionOutgoingItem.{SessionOutgoingItem}
use Rattle.amqp_session.specs.declared.error.SessionInnerError.{SessionInnerError}
use Rattle.amqp_session.specs.declared.error.SessionInnerError.TheVariants as Refused
use Rattle.amqp_session.specs.Serial.{In, remaining}
use Rattle.amqp_session.specs.declared.deliveries.Delivery.{Delivery}
use Rattle.amqp_session.specs.declared.keys.KeyHash.{KeyHash}
use Rattle.amqp_session.specs.declared.session.receiving.Receiving.{Receiving}
use Rattle.amqp_session.specs.Transfers.{RequestedTransfer, firsts, opened}
use Rattle.amqp_session.specs.Sending.{SendingView, moved, let_out, opened_by, drained}
use Rattle.amqp_session.specs.Settings.{SettingsModel}
use Rattle.amqp_session.specs.OutgoingFrames.{call_frames}
use Rattle.amqp_session.specs.Received.{named_with, takes_away, channel_by}
use Rattle.amqp_session.specs.Relay.{Relays}
use Rattle.amqp_session.specs.Session.{SessionView, new_session}
use Rattle.amqp_session.specs.Step.{flow_base, SendTransferStep}
use Rattle.amqp_session.specs.History.{SessionCall, TakesBegin, TakesFlow, SendsTransfer, Made, SessionStep, SessionChain, LeadsTo}
use Rattle.amqp_session.specs.Headline.{transfers_in, accepted_by, handed, accepted, waiting, number, window_by, window_from, window, state_by, state_from, Answers, LetsOut, Headline, SendingMatches, begun_in, sent_with, open_at, Receives, Opens, Stands}
use Rattle.amqp_session.specs.Deliveries.{of_role}
use Rattle.amqp_types.specs.declared.definitions.Role.{Role}
use Rattle.amqp_types.specs.declared.definitions.Role.TheVariants.{Sender, Receiver}
use Rattle.amqp_session.proofs.TableRecordLemmas.{opened_each, with_record_each}
use Rattle.amqp_session.proofs.SendingLemmas.{inside_at, used_up, length-numbered, numbered_first, SendingMatches-joined, SendingMatches-moved, SendingMatches-begun, Goes, SendingMatches-goes}
use Rattle.amqp_session.proofs.HandedOutLemmas.{opened_same}
use Rattle.amqp_session.proofs.CallEffectLemmas.{Rest, stops, sending_by, lets_by, WordFits, Does, does}
use Rattle.amqp_session.proofs.SettledTableLemmas.{keeps, keeps_each}
use Rattle.amqp_session.proofs.LaterCallLemmas.{receives_more, channel_more, stop_more, open_more, taken_more, live_more, input_more}
use Rattle.amqp_session.specs.Linked.{taken_by, live_by, input_by}
use Rattle.std.specs.Ordering.{nat_cmp}
use Rattle.std.specs.Cmp.Lexicographic.{slice_cmp}
use Rattle.std.specs.FinMap.{get-empty}
use Rattle.amqp_session.proofs.LinkNameLemmas.{Agree, agree_new}
use Rattle.amqp_session.proofs.LinkEffectLemmas.{links_by}

-- ---- the deliveries that go out

-- what goes out opens what its frames number
rows_go : (b : Bool) (c : ℕ) (v u : SendingView) (out : List SessionFrame) (rows rows' : List Delivery) (W : List RequestedTransfer) (n : ℕ) → Goes b c v out u → rows' ≡ cond b (opened_by v rows) rows → W ≡ v.held → v.next_delivery ≡ n % 2 ^ 32 →
    rows' ≡ opened n (take (length out) W) rows
rows_go true c v u out rows rows' W n g e same d =
    let len = ap length g.0 ∙ length-numbered c v.next_delivery (take v.remote_incoming_window v.held) ∙ length-take v.remote_incoming_window v.held in
    let gone = ap (λ k. take k W) len ∙ ap (λ hs. take (min v.remote_incoming_window (length v.held)) hs) same ∙ take_min v.remote_incoming_window v.held in
    let number : v.next_delivery % 2 ^ 32 ≡ n % 2 ^ 32 = omega (arith, d) in
    e ∙ opened_same (take v.remote_incoming_window v.held) v.next_delivery n rows number ∙ ap (λ hs. opened n hs rows) (sym gone)
rows_go false c v u out rows rows' W n g e same d = e ∙ sym (ap (λ (ts : List SessionFrame). opened n (take (length ts) W) rows) g.0)

module _ {R : Type 0} (g : Relays R) where
  -- the books once a call is taken, before anything goes out
  SendingMatches-before : (m : Made) (A : List RequestedTransfer) (F : List SessionFrame) (n : ℕ × ℕ) (v : SessionView R) (e : SessionCall R) → v.settings ≡ m.settings → WordFits v e → SendingMatches m.channel m.settings.next_outgoing_id A F n v.sending →
      SendingMatches m.channel m.settings.next_outgoing_id (A ++ accepted_by e) F (window_by m (m.settings.next_outgoing_id + length F) n e) (sending_by v e)
  SendingMatches-before m A F n v (TakesBegin channel begin (Ok u)) same fits b = rw (append-nil A) (SendingMatches-begun _ _ A F n v.sending begin.incoming_window fits.incoming_window b)
  SendingMatches-before m A F n v (TakesFlow f asked result) same fits b =
      let base : flow_base v f ≡ unwrap_or f.next_incoming_id m.settings.next_outgoing_id = ap (λ (x : SettingsModel). unwrap_or f.next_incoming_id x.next_outgoing_id) same in
      rw (append-nil A) (subst (λ k. SendingMatches m.channel m.settings.next_outgoing_id A F (k, f.incoming_window) (moved v.sending (flow_base v f) f.incoming_window)) base (SendingMatches-moved _ _ A F n v.sending (flow_base v f) f.incoming_window fits.incoming_window fits.base b))
  SendingMatches-before m A F n v (SendsTransfer h (Ok item)) same fits b = SendingMatches-joined _ _ A F n v.sending h b
  SendingMatches-before m A F n v e same fits b = rw (append-nil A) b

  -- a call, by its effect
  goes_on : (m : Made) (v w : SessionView R) (e : SessionCall R) → v.outgoing_channel ≡ m.channel → Does g v e w → Goes (lets_by v e) m.channel (sending_by v e) (transfers_in (call_frames e)) w.sending
  goes_on m v w e on d = subst (λ c. Goes (lets_by v e) c (sending_by v e) (transfers_in (call_frames e)) w.sending) on d.goes

  before_is : (m : Made) (H : List (SessionCall R)) (v w : SessionView R) (e : SessionCall R) → Stands m H v → Does g v e w →
      SendingMatches m.channel m.settings.next_outgoing_id (accepted H ++ accepted_by e) (handed H) (window_by m (m.settings.next_outgoing_id + length (handed H)) (window m H) e) (sending_by v e)
  before_is m H v w e b d = SendingMatches-before m (accepted H) (handed H) (window m H) v e b.settings_is d.word_fits b.sending_is

  -- a call opens the deliveries whose first frames go out with it
  sent_step : (m : Made) (H : List (SessionCall R)) (v w : SessionView R) (e : SessionCall R) → Stands m H v → Does g v e w → w.deliveries.receiver ≡ opened (begun_in H) (sent_with H e) (keeps Receiver e v.deliveries.receiver)
  sent_step m H v w e b d =
      let k = before_is m H v w e b d in
      let waits = sym (drop-append-le (length (handed H)) (accepted H) (accepted_by e) b.sending_is.no_more) ∙ sym k.held_is in
      let delivery = k.delivery_is ∙ ap (λ hs. firsts hs % 2 ^ 32) (take-append-le (length (handed H)) (accepted H) (accepted_by e) b.sending_is.no_more) in
      rows_go (lets_by v e) m.channel (sending_by v e) w.sending _ _ _ (waiting H ++ accepted_by e) (begun_in H) (goes_on m v w e b.outgoing_channel_is d) d.opens waits delivery

  -- ---- histories

  handed-append : (G H : List (SessionCall R)) → handed (G ++ H) ≡ handed G ++ handed H
  handed-append [] H = refl
  handed-append (e ∷ G) H = ap (λ ts. transfers_in (call_frames e) ++ ts) (handed-append G H) ∙ sym (append_assoc (transfers_in (call_frames e)) (handed G) (handed H))

  accepted-append : (G H : List (SessionCall R)) → accepted (G ++ H) ≡ accepted G ++ accepted H
  accepted-append [] H = refl
  accepted-append (e ∷ G) H = ap (λ hs. accepted_by e ++ hs) (accepted-append G H) ∙ sym (append_assoc (accepted_by e) (accepted G) (accepted H))

  state_from-append : (s : SessionState) (G H : List (SessionCall R)) → state_from s (G ++ H) ≡ state_from (state_from s G) H
  state_from-append s [] H = refl
  state_from-append s (e ∷ G) H = state_from-append (state_by s e) G H

  window_from-append : (m : Made) (n : ℕ) (w : ℕ × ℕ) (G H : List (SessionCall R)) → window_from m n w (G ++ H) ≡ window_from m (n + length (handed G)) (window_from m n w G) H
  window_from-append m n w [] H = ap (λ k. window_from m k w H) (omega arith)
  window_from-append m n w (e ∷ G) H =
      let out : List SessionFrame = transfers_in (call_frames e) in
      let same : (n + length out) + length (handed G) ≡ n + length (out ++ handed G) = omega (arith, length-append out (handed G)) in
      window_from-append m (n + length out) (window_by m n w e) G H ∙ ap (λ k. window_from m k (window_from m (n + length out) (window_by m n w e) G) H) same

  -- and the record of each number is the newest one
  opens_more : (m : Made) (H : List (SessionCall R)) (e : SessionCall R) (v u : SessionView R) → Stands m H v → Does g v e u → (role : Role) → Opens role (H ++ e ∷ []) (of_role role u.deliveries)
  opens_more m H e v u b d Receiver =
      let kept = keeps_each Receiver e v.deliveries.receiver (λ n. open_at Receiver n H) ((b.open_are Receiver).table, (b.open_are Receiver).each) in
      let o = opened_each (begun_in H) (sent_with H e) (keeps Receiver e v.deliveries.receiver) u.deliveries.receiver (λ n. cond (takes_away Receiver e n) None (open_at Receiver n H)) (sent_step m H v u e b d) kept in
      record { table = o.0; each = λ n. o.1 n ∙ sym (open_more Receiver n [] None H e) }
  opens_more m H e v u b d Sender =
      let kept = keeps_each Sender e v.deliveries.sender (λ n. open_at Sender n H) ((b.open_are Sender).table, (b.open_are Sender).each) in
      let o = with_record_each (named_with e) (keeps Sender e v.deliveries.sender) u.deliveries.sender (λ n. cond (takes_away Sender e n) None (open_at Sender n H)) (ap (λ (x : Rest). x.named) d.rest_is) d.named_fits kept in
      record { table = o.0; each = λ n. o.1 n ∙ sym (open_more Sender n [] None H e) }

  opens_new : (role : Role) → Opens {R = R} role [] (of_role role (record { receiver = []; sender = [] }))
  opens_new Receiver = record { table = (tt, tt); each = λ n. refl }
  opens_new Sender = record { table = (tt, tt); each = λ n. refl }

  pub stands-more : (m : Made) (H : List (SessionCall R)) (e : SessionCall R) (v u : SessionView R) → Stands m H v → Agree v.links → SessionStep g v e u → Stands m (H ++ e ∷ []) u
  stands-more m H e v u b a s = let d = does g v u e s in let l = links_by g v u e a s in let r = d.rest_is in record {
    receiving_is = subst (λ (x : Receiving). Receives (H ++ e ∷ []) x) (sym (ap (λ (x : Rest). x.receiving) r)) (receives_more H v v.receiving e d.word_fits b.receiving_is);
    open_are = λ role. opens_more m H e v u b d role;
    incoming_channel_is = ap (λ (x : Rest). x.incoming_channel) r ∙ ap (λ c. channel_by c e) b.incoming_channel_is ∙ sym (channel_more None H e);
    session_stop_is = ap (λ (x : Rest). x.session_stop) r ∙ ap (λ x. stops x e) b.session_stop_is ∙ sym (stop_more H e);
    settings_is = ap (λ (x : Rest). x.settings) r ∙ b.settings_is;
    outgoing_channel_is = ap (λ (x : Rest). x.outgoing_channel) r ∙ b.outgoing_channel_is;
    connection_stop_is = ap (λ (x : Rest). x.connection_stop) r ∙ b.connection_stop_is;
    handles_are = λ k. d.handles_are k ∙ ap (λ o. taken_by k o e) (b.handles_are k) ∙ sym (taken_more k None H e);
    names_are = λ name. l.names_are name ∙ ap (λ o. live_by name o e) (b.names_are name) ∙ sym (live_more name None H e);
    inputs_are = λ h. l.inputs_are h ∙ ap (λ o. input_by h o e) (b.inputs_are h) ∙ sym (input_more h None H e);
    sending_is =
        rw (accepted-append H (e ∷ []), handed-append H (e ∷ []), window_from-append m m.settings.next_outgoing_id (0, 0) H (e ∷ []), append-nil (accepted_by e), append-nil (transfers_in (call_frames e)))
        (SendingMatches-goes (lets_by v e) _ _ (accepted H ++ accepted_by e) (handed H) _ _ _ _ (goes_on m v u e b.outgoing_channel_is d) (before_is m H v u e b d));
    state_is = ap (λ (x : Rest). x.state) r ∙ ap (λ x. state_by x e) b.state_is ∙ sym (state_from-append m.state H (e ∷ []));
  }

  stands-chain : (m : Made) (G H : List (SessionCall R)) (v u : SessionView R) → Stands m G v → Agree v.links → SessionChain g v H u → Stands m (G ++ H) u
  stands-chain m G [] v u b a c = rw (append-nil G, c) b
  stands-chain m G (e ∷ H) v u b a c =
      subst (λ K. Stands m K u) (append_assoc G (e ∷ []) H) (stands-chain m (G ++ e ∷ []) H c.0 u (stands-more m G e v c.0 b a c.1) (links_by g v c.0 e a c.1).agree c.2)

  pub stands-new : (hash : KeyHash) (m : Made) → m.settings.next_outgoing_id < 2 ^ 32 → Stands {R = R} m [] (new_session hash m.settings m.channel m.state m.stop)
  stands-new hash m h = record {
    sending_is = record {
      next_is = omega arith;
      delivery_is = refl;
      held_is = refl;
      window_is = omega arith;
      base_fits = omega arith;
      width_fits = omega arith;
      handed_out = refl;
      no_more = omega arith;
    };
    state_is = refl;
    receiving_is = record { next_is = refl; window_is = refl; count_is = refl };
    open_are = λ role. opens_new role;
    incoming_channel_is = refl;
    session_stop_is = refl;
    settings_is = refl;
    outgoing_channel_is = refl;
    connection_stop_is = refl;
    handles_are = λ k. get-empty nat_cmp k;
    names_are = λ name. get-empty (slice_cmp nat_cmp) name;
    inputs_are = λ h. get-empty nat_cmp h;
  }

  -- the law of views
  pub stands_law : (m : Made) (H : List (SessionCall R)) (v : SessionView R) → LeadsTo g m H v → Stands m H v
  stands_law m H v l = stands-chain m [] H (new_session l.0 m.settings m.channel m.state m.stop) v (stands-new l.0 m l.1) (agree_new R l.0) l.2

  -- in every history names and output handles agree
  pub agree_chain : (H : List (SessionCall R)) (v u : SessionView R) → Agree v.links → SessionChain g v H u → Agree u.links
  agree_chain [] v u a c = subst (λ (x : SessionView R). Agree x.links) (sym c) a
  agree_chain (e ∷ H) v u a c = agree_chain H c.0 u (links_by g v c.0 e a c.1).agree c.2

  pub agree_law : (m : Made) (H : List (SessionCall R)) (v : SessionView R) → LeadsTo g m H v → Agree v.links
  agree_law m H v l = agree_chain H (new_session l.0 m.settings m.channel m.state m.stop) v (agree_new R l.0) l.2

  pub chain-split : (xs ys : List (SessionCall R)) (v u : SessionView R) → SessionChain g v (xs ++ ys) u → (m : SessionView R) × SessionChain g v xs m × SessionChain g m ys u
  chain-split [] ys v u c = (v, refl, c)
  chain-split (e ∷ xs) ys v u c = let r = chain-split xs ys c.0 u c.2 in (r.0, (c.0, c.1, r.1), r.2)

  -- ---- the headline

  let_out_inside : (c i : ℕ) (A : List RequestedTransfer) (F : List SessionFrame) (w : ℕ × ℕ) (v : SendingView) (k : ℕ) → SendingMatches c i A F w v → k < length (let_out c v) → In (((i + length F) % 2 ^ 32 + k) % 2 ^ 32) w
  let_out_inside c i A F w v k b h =
      let len = length-numbered c v.next_delivery (take v.remote_incoming_window v.held) ∙ length-take v.remote_incoming_window v.held in
      let next_fits : v.next_outgoing_id < 2 ^ 32 = omega (arith, b.next_is) in
      let below : k < remaining v.next_outgoing_id w = omega (arith, len, b.window_is) in
      subst (λ n. In ((n + k) % 2 ^ 32) w) b.next_is (inside_at v.next_outgoing_id w.0 w.1 k next_fits b.base_fits b.width_fits below)

  goes_inside : (b : Bool) (c i : ℕ) (A : List RequestedTransfer) (F out : List SessionFrame) (w : ℕ × ℕ) (v u : SendingView) (k : ℕ) → Goes b c v out u → SendingMatches c i A F w v → k < length out → In (((i + length F) % 2 ^ 32 + k) % 2 ^ 32) w
  goes_inside true c i A F out w v u k g' b h = let_out_inside c i A F w v k b (subst (λ (ts : List SessionFrame). k < length ts) g'.0 h)
  goes_inside false c i A F out w v u k g' b h = absurd (omega (arith, h, ap length g'.0))

  drained_waits : (v : SendingView) → ((drained v).held ≡ []) ⊎ ((drained v).remote_incoming_window ≡ 0)
  drained_waits v = elim (cases_lt v.remote_incoming_window (length v.held)) [ inl h ↦ inr (omega arith) | inr h ↦ inl (drop_all v.remote_incoming_window v.held h) ]

  goes_waits : (b : Bool) (c : ℕ) (v : SendingView) (out : List SessionFrame) (u : SendingView) → b ≡ true → Goes b c v out u → (u.held ≡ []) ⊎ (u.remote_incoming_window ≡ 0)
  goes_waits true c v out u e g' = rw g'.1 (drained_waits v)
  goes_waits false c v out u e g' = absurd (cc)

  does_wait : (v w : SessionView R) (e : SessionCall R) → Does g v e w → lets_by v e ≡ true → (w.sending.held ≡ []) ⊎ (w.sending.remote_incoming_window ≡ 0)
  does_wait v w e d l = goes_waits (lets_by v e) v.outgoing_channel (sending_by v e) (transfers_in (call_frames e)) w.sending l d.goes

  call_waits : (v w : SessionView R) (e : SessionCall R) → SessionStep g v e w → LetsOut v.state e → (w.sending.held ≡ []) ⊎ (w.sending.remote_incoming_window ≡ 0)
  call_waits v w (TakesFlow f asked (Ok item)) s l = does_wait v w (TakesFlow f asked (Ok item)) (does g v w (TakesFlow f asked (Ok item)) s) l
  call_waits v w (SendsTransfer h (Ok item)) s l = does_wait v w (SendsTransfer h (Ok item)) (does g v w (SendsTransfer h (Ok item)) s) s.0
  call_waits v w (TakesFlow f asked (Err e)) s l = absurd l
  call_waits v w (SendsTransfer h (Err e)) s l = absurd l
  call_waits v w e s l = absurd l

  answers : (v w : SessionView R) (h : RequestedTransfer) (result : Result (Option SessionOutgoingItem) SessionInnerError) → SendTransferStep v h result w → Answers v.state h result
  answers v w h (Ok item) s = (s.0, s.1)
  answers v w h (Err Refused.IllegalState) s = s.0
  answers v w h (Err Refused.OutOfMemory) s = (s.0, s.1)
  answers v w h (Err e) s = absurd s

  waits_by : (m : Made) (H : List (SessionCall R)) (v : SessionView R) → Stands m H v → (v.sending.held ≡ []) ⊎ (v.sending.remote_incoming_window ≡ 0) → (waiting H ≡ []) ⊎ ¬ (In (number m H) (window m H))
  waits_by m H v b (inl none) = inl (sym b.sending_is.held_is ∙ none)
  waits_by m H v b (inr used) =
      let left : remaining (number m H) (window m H) ≡ 0 = ap (λ n. remaining n (window m H)) (sym b.sending_is.next_is) ∙ sym b.sending_is.window_is ∙ used in
      inr (λ inside. let z = used_up (number m H) (window m H).0 (window m H).1 left inside in absurd (omega (arith, z)))

  pub headline_law : (m : Made) (H : List (SessionCall R)) (v : SessionView R) → LeadsTo g m H v → Headline m H
  headline_law m H v l = record {
    accounts = let b = stands_law m H v l in record { handed_out = b.sending_is.handed_out; no_more = b.sending_is.no_more };
    first_alone = λ k h f asked out.
        let b = stands_law m H v l in
        numbered_first m.channel 0 (length (handed H)) k (accepted H) h f asked (subst (λ (fs : List SessionFrame). slice_get fs k ≡ Some f) b.sending_is.handed_out out);
    all_answered = λ before after h result is.
        let r = chain-split before (SendsTransfer h result ∷ after) (new_session l.0 m.settings m.channel m.state m.stop) v (subst (λ K. SessionChain g (new_session l.0 m.settings m.channel m.state m.stop) K v) is l.2) in
        let b = stands_law m before r.0 (l.0, l.1, r.1) in
        subst (λ s. Answers s h result) b.state_is (answers r.0 r.2.0 h result r.2.1);
    inside = λ before after e is k h.
        let r = chain-split before (e ∷ after) (new_session l.0 m.settings m.channel m.state m.stop) v (subst (λ K. SessionChain g (new_session l.0 m.settings m.channel m.state m.stop) K v) is l.2) in
        let b = stands_law m before r.0 (l.0, l.1, r.1) in
        let d = does g r.0 r.2.0 e r.2.1 in
        rw (window_from-append m m.settings.next_outgoing_id (0, 0) before (e ∷ [])) (goes_inside (lets_by r.0 e) _ _ (accepted before ++ accepted_by e) (handed before) _ _ _ _ k (goes_on m r.0 r.2.0 e b.outgoing_channel_is d) (before_is m before r.0 r.2.0 e b d) h);
    waits_only = λ before after e is lets.
        let r = chain-split before (e ∷ after) (new_session l.0 m.settings m.channel m.state m.stop) v (subst (λ K. SessionChain g (new_session l.0 m.settings m.channel m.state m.stop) K v) is l.2) in
        let b = stands_law m before r.0 (l.0, l.1, r.1) in
        let ends = call_waits r.0 r.2.0 e r.2.1 (subst (λ s. LetsOut s e) (sym b.state_is) lets) in
        waits_by m (before ++ e ∷ []) r.2.0 (stands-more m before e r.0 r.2.0 b (agree_law m before r.0 (l.0, l.1, r.1)) r.2.1) ends;
  }
