-- How runs of frames go on, and how a session's numbers go with them.
use Rattle.std.proofs.Common.{◌≡◌, ◌<◌, ◌≤◌, ◌-◌, ◌+◌, ◌%◌, ◌^◌, ◌++◌, [], ◌∷◌, ℕ, suc, List, length, length-append, refl, ap, arith, sym}
use Rattle.std.proofs.Common.{subst, ◌∙◌, min, true, false, Some, None}
use Rattle.amqp_types.specs.Begin.{BeginModel}
use Rattle.amqp_types.specs.Flow.{FlowModel}
use Rattle.amqp_types.specs.declared.states.SessionState.{SessionState}
use Rattle.amqp_types.specs.declared.states.SessionState.TheVariants.{Unmapped, BeginSent, BeginReceived, Mapped, EndSent, EndReceived}
use Rattle.amqp_types.specs.declared.states.SessionState.TheVariants.{Discarding}
use Rattle.amqp_session.specs.declared.frame.SessionFrame.{SessionFrame}
use Rattle.amqp_session.specs.declared.frame.SessionFrameBody.{SessionFrameBody}
use Rattle.amqp_session.specs.declared.frame.SessionFrameBody.TheVariants as Body
use Rattle.amqp_session.specs.Settings.{SettingsModel}
use Rattle.amqp_session.specs.Serial.{remaining}
use Rattle.amqp_session.specs.States.{is_mapped, sends_begin, takes_begin}
use Rattle.amqp_session.specs.Transfers.{RequestedTransfer, numbered, first_of}
use Rattle.amqp_session.specs.Headline.{transfers_in, transfer_in}
use Rattle.amqp_session.specs.Pair.{IsOfPair, AreOfPair}
use Rattle.amqp_session.specs.PairLedger.{has_begun, has_received, Place, RunOf, Moves, Leads, Core, Keeps}

-- ---- one frame

moves_received : (s : RunOf) (p q : Place) (f : SessionFrameBody) → Moves s p f q → Moves (record s { received_begin = true }) p f q
moves_received s p q (Body.Begin b) h = h
moves_received s p q (Body.Flow f) h = (h.0, refl, h.2, h.3, h.4, h.5, h.6, h.7)
moves_received s p q (Body.Transfer t x) h = (refl, h.1, h.2)
moves_received s p q (Body.Attach a) h = (refl, h.1, h.2)
moves_received s p q (Body.Disposition d) h = absurd h
moves_received s p q (Body.Detach d) h = absurd h
moves_received s p q (Body.End d) h = absurd h

moves_begun : (s : RunOf) (p q : Place) (f : SessionFrameBody) → p.begun ≡ true → Moves s p f q → q.begun ≡ true
moves_begun s p q (Body.Begin b) e h = ap (λ (x : Place). x.begun) h.3
moves_begun s p q (Body.Flow f) e h = ap (λ (x : Place). x.begun) h.7 ∙ e
moves_begun s p q (Body.Transfer t x) e h = ap (λ (x : Place). x.begun) h.2 ∙ e
moves_begun s p q (Body.Attach a) e h = ap (λ (x : Place). x.begun) h.2 ∙ e
moves_begun s p q (Body.Disposition d) e h = absurd h
moves_begun s p q (Body.Detach d) e h = absurd h
moves_begun s p q (Body.End d) e h = absurd h

moves_sent : (s : RunOf) (p q : Place) (f : SessionFrameBody) (x : SessionFrame) → Moves s p f q →
    q.sent ≡ p.sent + length (transfer_in f x)
moves_sent s p q (Body.Begin b) x h = let e : q.sent ≡ p.sent = ap (λ (y : Place). y.sent) h.3 in omega (arith, e)
moves_sent s p q (Body.Flow f) x h = let e : q.sent ≡ p.sent = ap (λ (y : Place). y.sent) h.7 in omega (arith, e)
moves_sent s p q (Body.Transfer t l) x h = ap (λ (y : Place). y.sent) h.2
moves_sent s p q (Body.Attach a) x h = let e : q.sent ≡ p.sent = ap (λ (y : Place). y.sent) h.2 in omega (arith, e)
moves_sent s p q (Body.Disposition d) x h = absurd h
moves_sent s p q (Body.Detach d) x h = absurd h
moves_sent s p q (Body.End d) x h = absurd h

moves_offered : (s : RunOf) (p q : Place) (f : SessionFrameBody) → Moves s p f q → p.offered ≤ q.offered
moves_offered s p q (Body.Begin b) h = let e : q.offered ≡ p.offered = ap (λ (y : Place). y.offered) h.3 in omega (arith, e)
moves_offered s p q (Body.Flow f) h = let e : q.offered ≡ h.0 = ap (λ (y : Place). y.offered) h.7 in omega (arith, e, h.3)
moves_offered s p q (Body.Transfer t l) h = let e : q.offered ≡ p.offered = ap (λ (y : Place). y.offered) h.2 in omega (arith, e)
moves_offered s p q (Body.Attach a) h = let e : q.offered ≡ p.offered = ap (λ (y : Place). y.offered) h.2 in omega (arith, e)
moves_offered s p q (Body.Disposition d) h = absurd h
moves_offered s p q (Body.Detach d) h = absurd h
moves_offered s p q (Body.End d) h = absurd h

moves_known : (s : RunOf) (p q : Place) (f : SessionFrameBody) → Moves s p f q → IsOfPair f
moves_known s p q (Body.Begin b) h = tt
moves_known s p q (Body.Flow f) h = tt
moves_known s p q (Body.Transfer t l) h = tt
moves_known s p q (Body.Attach a) h = tt
moves_known s p q (Body.Disposition d) h = absurd h
moves_known s p q (Body.Detach d) h = absurd h
moves_known s p q (Body.End d) h = absurd h

-- ---- frames in order

-- one run after another
pub leads_append : (s : RunOf) (p m q : Place) (L M : List SessionFrame) → Leads s p L m → Leads s m M q → Leads s p (L ++ M) q
leads_append s p m q [] M h k = subst (λ x. Leads s x M q) (sym h) k
leads_append s p m q (f ∷ L) M h k = (h.0, h.1, leads_append s h.0 m q L M h.2 k)

-- what was sent before stays right when the sender receives a Begin
pub leads_received : (s : RunOf) (p q : Place) (L : List SessionFrame) → Leads s p L q → Leads (record s { received_begin = true }) p L q
leads_received s p q [] h = h
leads_received s p q (f ∷ L) h = (h.0, moves_received s p h.0 f.body h.1, leads_received s h.0 q L h.2)

pub leads_begun : (s : RunOf) (p q : Place) (L : List SessionFrame) → p.begun ≡ true → Leads s p L q → q.begun ≡ true
leads_begun s p q [] e h = ap (λ (x : Place). x.begun) (sym h) ∙ e
leads_begun s p q (f ∷ L) e h = leads_begun s h.0 q L (moves_begun s p h.0 f.body e h.1) h.2

pub leads_sent : (s : RunOf) (p q : Place) (L : List SessionFrame) → Leads s p L q → q.sent ≡ p.sent + length (transfers_in L)
leads_sent s p q [] h = let e : p.sent ≡ q.sent = ap (λ (x : Place). x.sent) h in omega (arith, e)
leads_sent s p q (f ∷ L) h =
    let one = moves_sent s p h.0 f.body f h.1 in
    let more = leads_sent s h.0 q L h.2 in
    let all = length-append (transfer_in f.body f) (transfers_in L) in
    omega (arith, one, more, all)

pub leads_offered : (s : RunOf) (p q : Place) (L : List SessionFrame) → Leads s p L q → p.offered ≤ q.offered
leads_offered s p q [] h = let e : p.offered ≡ q.offered = ap (λ (x : Place). x.offered) h in omega (arith, e)
leads_offered s p q (f ∷ L) h =
    let one = moves_offered s p h.0 f.body h.1 in
    let more = leads_offered s h.0 q L h.2 in
    omega (arith, one, more)

pub leads_known : (s : RunOf) (p q : Place) (L : List SessionFrame) → Leads s p L q → AreOfPair L
leads_known s p q [] h = tt
leads_known s p q (f ∷ L) h = (moves_known s p h.0 f.body h.1, leads_known s h.0 q L h.2)

-- transfers that are handed out
pub leads_numbered : (s : RunOf) (p : Place) (c n : ℕ) (hs : List RequestedTransfer) → s.received_begin ≡ true → p.begun ≡ true →
    Leads s p (numbered c n hs) (record p { sent = p.sent + length hs })
leads_numbered s p c n [] eh eb = let e : p.sent ≡ p.sent + 0 = omega arith in ap (λ k. let x : Place = record p { sent = k } in x) e
leads_numbered s p c n (h ∷ hs) eh eb =
    let r = leads_numbered s (record p { sent = p.sent + 1 }) c (n + first_of h) hs eh eb in
    let e : (p.sent + 1) + length hs ≡ p.sent + suc (length hs) = omega arith in (
      record p { sent = p.sent + 1 },
      (eh, eb, refl),
      subst (λ k. Leads s (record p { sent = p.sent + 1 }) (numbered c (n + first_of h) hs) (record p { sent = k })) e r,
    )

-- ---- states

pub begins_is : (s t : SessionState) → sends_begin s ≡ Some t →
    (has_begun s ≡ false) × (has_begun t ≡ true) × (has_received t ≡ has_received s)
begins_is Unmapped t e = let d : BeginSent ≡ t = cc in
    subst (λ x. (has_begun Unmapped ≡ false) × (has_begun x ≡ true) × (has_received x ≡ has_received Unmapped)) d (refl, refl, refl)
begins_is BeginReceived t e = let d : Mapped ≡ t = cc in
    subst (λ x. (has_begun BeginReceived ≡ false) × (has_begun x ≡ true) × (has_received x ≡ has_received BeginReceived)) d
    (refl, refl, refl)
begins_is BeginSent t e = absurd (cc)
begins_is Mapped t e = absurd (cc)
begins_is EndSent t e = absurd (cc)
begins_is EndReceived t e = absurd (cc)
begins_is Discarding t e = absurd (cc)

pub receives_is : (s t : SessionState) → takes_begin s ≡ Some t →
    (has_received s ≡ false) × (has_received t ≡ true) × (has_begun t ≡ has_begun s)
receives_is Unmapped t e = let d : BeginReceived ≡ t = cc in
    subst (λ x. (has_received Unmapped ≡ false) × (has_received x ≡ true) × (has_begun x ≡ has_begun Unmapped)) d (refl, refl, refl)
receives_is BeginSent t e = let d : Mapped ≡ t = cc in
    subst (λ x. (has_received BeginSent ≡ false) × (has_received x ≡ true) × (has_begun x ≡ has_begun BeginSent)) d (refl, refl, refl)
receives_is BeginReceived t e = absurd (cc)
receives_is Mapped t e = absurd (cc)
receives_is EndSent t e = absurd (cc)
receives_is EndReceived t e = absurd (cc)
receives_is Discarding t e = absurd (cc)

pub receives_none : (s : SessionState) → takes_begin s ≡ None → has_received s ≡ true
receives_none Unmapped e = absurd (cc)
receives_none BeginSent e = absurd (cc)
receives_none BeginReceived e = refl
receives_none Mapped e = refl
receives_none EndSent e = refl
receives_none EndReceived e = refl
receives_none Discarding e = refl

pub mapped_is : (s : SessionState) → is_mapped s ≡ true → s ≡ Mapped
mapped_is Unmapped e = absurd (cc)
mapped_is BeginSent e = absurd (cc)
mapped_is BeginReceived e = absurd (cc)
mapped_is Mapped e = refl
mapped_is EndSent e = absurd (cc)
mapped_is EndReceived e = absurd (cc)
mapped_is Discarding e = absurd (cc)

-- ---- numbers

-- the sender is s past its first number, and the flow says k
left_by_flow : (i s k width old offered : ℕ) → width < 2 ^ 32 → offered ≤ k → k ≤ s → s + old ≡ offered + width →
    s + remaining ((i + s) % 2 ^ 32) ((i + k) % 2 ^ 32, width) ≡ k + width
left_by_flow i s k width old offered hw ho hk e = omega arith

next_number : (i s n : ℕ) → ((i + s) % 2 ^ 32 + n) % 2 ^ 32 ≡ (i + (s + n)) % 2 ^ 32
next_number i s n = omega arith

-- some transfers are handed out: n, of which no more waited
pub keeps_drained : (v : Core) (put taken : Place) (o : SettingsModel) (n : ℕ) → Keeps v put taken o → taken.begun ≡ true →
    Keeps (record v { next = (v.next + min v.window n) % 2 ^ 32; window = v.window - n }) (record put { sent = put.sent + min v.window n })
    taken o
keeps_drained v put taken o n k h = record {
  begun_is = k.begun_is;
  received_is = k.received_is;
  next_is = ap (λ x. (x + min v.window n) % 2 ^ 32) k.next_is ∙ next_number v.settings.next_outgoing_id put.sent (min v.window n);
  incoming_is = k.incoming_is;
  window_is = λ e. let w = k.window_is e in omega (arith, w);
  early = λ e. absurd (let d : true ≡ false = sym h ∙ e in cc);
  offers = k.offers;
  count_is = k.count_is;
}

-- a flow of its own goes out, and the count is what it was, or 0
pub keeps_offered : (v : Core) (put taken : Place) (o : SettingsModel) (n : ℕ) → Keeps v put taken o →
    Keeps (record v { count = n }) (record put { offered = taken.sent }) taken o
keeps_offered v put taken o n k = record {
  begun_is = k.begun_is;
  received_is = k.received_is;
  next_is = k.next_is;
  incoming_is = k.incoming_is;
  window_is = k.window_is;
  early = k.early;
  offers = omega arith;
  count_is = omega arith;
}

-- a flow comes that says this number and this window
pub keeps_moved : (v : Core) (put taken : Place) (o : SettingsModel) (f : FlowModel) (base received : ℕ) → Keeps v put taken o →
    taken.begun ≡ true → o.incoming_window < 2 ^ 32 →
    taken.offered ≤ received → received ≤ put.sent → base ≡ (v.settings.next_outgoing_id + received) % 2 ^ 32 →
    f.incoming_window ≡ o.incoming_window →
    f.next_outgoing_id ≡ (o.next_outgoing_id + taken.sent) % 2 ^ 32 →
    Keeps (record v { window = remaining v.next (base, f.incoming_window); incoming = f.next_outgoing_id }) put
    (record taken { offered = received }) o
keeps_moved v put taken o f base received k h hw h1 h2 e1 e2 e3 = record {
  begun_is = k.begun_is;
  received_is = k.received_is;
  next_is = k.next_is;
  incoming_is = λ _. e3;
  window_is =
      λ e. rw (e1, e2, k.next_is) (left_by_flow v.settings.next_outgoing_id put.sent received o.incoming_window v.window taken.offered hw
      h1 h2 (k.window_is e));
  early = λ e. absurd (let d : true ≡ false = sym h ∙ e in cc);
  offers = k.offers;
  count_is = k.count_is;
}

-- a transfer comes
pub keeps_counted : (v : Core) (put taken : Place) (o : SettingsModel) → Keeps v put taken o → taken.begun ≡ true →
    Keeps (record v { incoming = (v.incoming + 1) % 2 ^ 32; count = min (v.count + 1) 4294967295 }) put
    (record taken { sent = taken.sent + 1 }) o
keeps_counted v put taken o k h = record {
  begun_is = k.begun_is;
  received_is = k.received_is;
  next_is = k.next_is;
  incoming_is = λ e. ap (λ n. (n + 1) % 2 ^ 32) (k.incoming_is e) ∙ next_number o.next_outgoing_id taken.sent 1;
  window_is = k.window_is;
  early = λ e. absurd (let d : true ≡ false = sym h ∙ e in cc);
  offers = let x = k.offers in omega (arith, x);
  count_is = let x = k.count_is in omega (arith, x);
}

-- a Begin comes
pub keeps_opened : (v : Core) (put taken : Place) (o : SettingsModel) (b : BeginModel) (s : SessionState) → Keeps v put taken o →
    takes_begin v.state ≡ Some s →
    b.incoming_window ≡ o.incoming_window → b.next_outgoing_id ≡ (o.next_outgoing_id + taken.sent) % 2 ^ 32 →
    Keeps (record v { state = s; window = b.incoming_window; incoming = b.next_outgoing_id }) put (record taken { begun = true }) o
keeps_opened v put taken o b s k eh e2 e3 =
    let st = receives_is v.state s eh in
    let early = k.early (k.received_is ∙ st.0) in
    record {
      begun_is = k.begun_is ∙ sym st.2;
      received_is = sym st.1;
      next_is = k.next_is;
      incoming_is = λ _. e3;
      window_is = λ _. omega (arith, e2, early.0, early.1);
      early = λ e. absurd (let d : true ≡ false = e in cc);
      offers = k.offers;
      count_is = k.count_is;
    }

-- a Begin of its own goes out
pub keeps_begun : (v : Core) (put taken : Place) (o : SettingsModel) (s : SessionState) → Keeps v put taken o →
    sends_begin v.state ≡ Some s → Keeps (record v { state = s }) (record put { begun = true }) taken o
keeps_begun v put taken o s k e =
    let st = begins_is v.state s e in
    record {
      begun_is = sym st.1;
      received_is = k.received_is ∙ sym st.2;
      next_is = k.next_is;
      incoming_is = k.incoming_is;
      window_is = k.window_is;
      early = k.early;
      offers = k.offers;
      count_is = k.count_is;
    }
