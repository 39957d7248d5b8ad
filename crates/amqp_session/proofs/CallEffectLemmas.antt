-- What each call does to a session, by one table over the calls and their answers: all that follows is read off it.
use Rattle.std.proofs.Common.{◌≡◌, ◌⊎◌, inl, inr, ℕ, ◌+◌, List, [], ◌∷◌, ◌++◌, refl, ap, subst, sym, ◌∙◌, Bool, true, false, cond, Option, Some, None, Result, Ok, Err, is_some, unwrap_or, take}
use Rattle.std.specs.Option.{option_map}
use Rattle.amqp_types.specs.Flow.{FlowModel}
use Rattle.amqp_types.specs.declared.states.SessionState.{SessionState}
use Rattle.amqp_session.specs.declared.link.LiveLink.{LiveLink}
use Rattle.amqp_session.specs.declared.deliveries.Delivery.{Delivery}
use Rattle.amqp_session.specs.declared.flow.LinkFlow.{LinkFlow}
use Rattle.amqp_session.specs.declared.frame.SessionFrame.{SessionFrame}
use Rattle.amqp_session.specs.declared.frame.SessionOutgoingItem.{SessionOutgoingItem}
use Rattle.amqp_session.specs.declared.frame.SessionOutgoingItem.TheVariants.{SingleFrame, MultipleFrames}
use Rattle.amqp_session.specs.declared.session.receiving.Receiving.{Receiving}
use Rattle.amqp_session.specs.declared.stop.ConnectionStopReason.{ConnectionStopReason}
use Rattle.amqp_session.specs.declared.stop.SessionStopReason.{SessionStopReason}
use Rattle.amqp_session.specs.declared.error.SessionInnerError.{SessionInnerError}
use Rattle.amqp_session.specs.declared.error.SessionInnerError.TheVariants as Refused
use Rattle.amqp_session.specs.declared.error.SessionStateError.TheVariants as Begins
use Rattle.amqp_session.specs.declared.error.LinkRelayError.{LinkRelayError}
use Rattle.amqp_session.specs.Settings.{SettingsModel}
use Rattle.amqp_session.specs.States.{is_mapped, sends_begin, takes_begin, sends_end, takes_end}
use Rattle.amqp_session.specs.Receiving.{numbered_anew, counted, reported}
use Rattle.amqp_session.specs.Links.{LinksView}
use Rattle.amqp_session.specs.Relay.{DispositionGives, DispositionQuestion, Relays, AttachQuestion, FlowQuestion}
use Rattle.amqp_session.specs.Transfers.{RequestedTransfer, numbered, first_of}
use Rattle.amqp_session.specs.Sending.{SendingView, joined, begun, moved, let_out, opened_by}
use Rattle.amqp_session.specs.Items.{HandsOut, item_frames, first_frame, is_some_list}
use Rattle.amqp_session.specs.Session.{SessionView, flow_frame, lets, let_gone}
use Rattle.amqp_types.specs.Disposition.{DispositionModel}
use Rattle.amqp_types.specs.declared.definitions.Role.TheVariants.{Sender, Receiver}
use Rattle.amqp_session.specs.Deliveries.{with_record, RecordFits, OpenView, peer_role}
use Rattle.amqp_session.specs.Disposing.{widened, num_messages, rows_of, meant, AsksAt, AsksEach, SaysStateAgain, HasAsked}
use Rattle.amqp_session.proofs.SettledTableLemmas.{keeps, role_keeps}
use Rattle.amqp_session.specs.Step.{BeginFits, begun_by, FlowFits, FlowGoes, named_delivery, waits, flow_base, flow_moved, counted_by, asked_at, FlowAnswered, FlowUnasked, FlowTaken, TransferAnswered, TransferUnasked}
use Rattle.amqp_session.specs.Linking.{AttachAnswered, Attaches}
use Rattle.amqp_session.specs.Linked.{taken_by}
use Rattle.amqp_session.proofs.OutputHandleLemmas.{at_insert, taken_release, taken_leave, taken_drop}
use Rattle.amqp_types.specs.Attach.{AttachModel}
use Rattle.std.specs.FinMap as map
use Rattle.amqp_session.specs.History.{SessionCall, AllocatesLink, AllocatesIncomingLink, DeallocatesLink, TakesAttach, TakesDetach, SendsAttach, SendsDetach, SendsBegin, SendsEnd, TakesBegin, TakesEnd, TakesFlow, TakesTransfer, TakesDisposition, SendsDisposition, SendsFlow, SendsTransfer, SendsSessionFlow, RecordsStop, Settles, SessionStep}
use Rattle.amqp_session.specs.OutgoingFrames.{inner_frames, call_frames, OnChannel}
use Rattle.amqp_session.specs.Received.{named_of, named_with, channel_by}
use Rattle.amqp_session.specs.Headline.{transfers_in, state_by}
use Rattle.amqp_session.proofs.SendingLemmas.{Goes, goes_by, transfers_in-append, hands_frames}

-- ---- the parts that a call changes by what it says alone

pub record Rest : Type 0 where
  pub state : SessionState
  pub settings : SettingsModel
  pub outgoing_channel : ℕ
  pub incoming_channel : Option ℕ
  pub connection_stop : Option ConnectionStopReason
  pub session_stop : Option SessionStopReason
  pub receiving : Receiving
  pub named : List Delivery

abbrev pub rest : {R : Type 0} → SessionView R → Rest
rest v = record {
  state = v.state;
  settings = v.settings;
  outgoing_channel = v.outgoing_channel;
  incoming_channel = v.incoming_channel;
  connection_stop = v.connection_stop;
  session_stop = v.session_stop;
  receiving = v.receiving;
  named = v.deliveries.sender;
}

-- the numbers of what the peer sends, after a call
abbrev pub receives : {R : Type 0} → Receiving → SessionCall R → Receiving
receives r (TakesBegin channel b (Ok u)) = numbered_anew b.next_outgoing_id b.outgoing_window r
receives r (TakesFlow f asked result) = numbered_anew f.next_outgoing_id f.outgoing_window r
receives r (TakesTransfer t payload asked result) = counted r
receives r (SendsSessionFlow (Some item)) = reported r
receives r (SendsDisposition d true frame) = widened (num_messages d.first d.last) r
receives r e = r

-- the stop reason, after a call
abbrev pub stops : {R : Type 0} → Option SessionStopReason → SessionCall R → Option SessionStopReason
stops old (RecordsStop reason) = Some (unwrap_or old reason)
stops old e = old

abbrev pub rest_by : {R : Type 0} → Rest → SessionCall R → Rest
rest_by r e = record r {
  state = state_by r.state e;
  incoming_channel = channel_by r.incoming_channel e;
  session_stop = stops r.session_stop e;
  receiving = receives r.receiving e;
  named = with_record (named_with e) (keeps Sender e r.named);
}

-- ---- the sending half before anything goes out, and whether anything may

abbrev pub sending_by : {R : Type 0} → SessionView R → SessionCall R → SendingView
sending_by v (TakesBegin channel b (Ok u)) = begun v.sending b.incoming_window
sending_by v (TakesFlow f asked result) = moved v.sending (flow_base v f) f.incoming_window
sending_by v (SendsTransfer h (Ok item)) = joined v.sending h
sending_by v e = v.sending

abbrev pub may_let : {R : Type 0} → SessionView R → Result (Option SessionOutgoingItem) SessionInnerError → Bool
may_let v (Ok item) = is_mapped v.state
may_let v (Err e) = false

abbrev pub lets_by : {R : Type 0} → SessionView R → SessionCall R → Bool
lets_by v (TakesFlow f asked result) = may_let v result
lets_by v (SendsTransfer h result) = may_let v result
lets_by v e = false

-- the numbers that a call says are of four bytes
abbrev pub WordFits : {R : Type 0} → SessionView R → SessionCall R → Type 0
WordFits v (TakesBegin channel b (Ok u)) = BeginFits b
WordFits v (TakesFlow f asked result) = FlowFits v f
WordFits v e = Unit {0}

-- ---- frames on a channel

pub on_both : (c : ℕ) (xs ys : List SessionFrame) → OnChannel c xs → OnChannel c ys → OnChannel c (xs ++ ys)
on_both c [] ys a b = b
on_both c (f ∷ xs) ys a b = (a.0, on_both c xs ys a.1 b)

numbered_on : (c n : ℕ) (hs : List RequestedTransfer) → OnChannel c (numbered c n hs)
numbered_on c n [] = tt
numbered_on c n (h ∷ hs) = (refl, numbered_on c (n + first_of h) hs)

lets_on : (b : Bool) (c : ℕ) (v : SendingView) → OnChannel c (cond b (let_out c v) [])
lets_on true c v = numbered_on c v.next_delivery (take v.remote_incoming_window v.held)
lets_on false c v = tt

one_on : (c : ℕ) (f g : SessionFrame) → f ≡ g → g.channel ≡ c → OnChannel c (f ∷ [])
one_on c f g e a = (ap (λ (x : SessionFrame). x.channel) e ∙ a, tt)

-- ---- what goes out

-- These frames go out, where they may, and nothing else changes.
abbrev pub Out : {R : Type 0} → Bool → SessionView R → List SessionFrame → SessionView R → Type 0
Out b v frames w =
    Goes b v.outgoing_channel v.sending (transfers_in frames) w.sending
    × (w.deliveries.receiver ≡ cond b (opened_by v.sending v.deliveries.receiver) v.deliveries.receiver)
    × (rest w ≡ rest v)
    × OnChannel v.outgoing_channel frames
    × (w.links.handles ≡ v.links.handles)

nothing_out : {R : Type 0} → (v w : SessionView R) → w ≡ v → Out false v [] w
nothing_out v w e = ((refl, ap (λ (x : SessionView _). x.sending) e), ap (λ (x : SessionView _). x.deliveries.receiver) e, ap rest e, tt, ap (λ (x : SessionView _). x.links.handles) e)

gone_out : {R : Type 0} → (v w : SessionView R) (first : List SessionFrame) (b : Bool) (item : Option SessionOutgoingItem) → transfers_in first ≡ [] → OnChannel v.outgoing_channel first →
    HandsOut b (first ++ lets v) item → w ≡ let_gone v → Out (is_mapped v.state) v (item_frames item) w
gone_out v w first b item none on h e =
    let all = hands_frames b (first ++ lets v) item h in
    let out = ap transfers_in all ∙ transfers_in-append first (lets v) ∙ ap (λ ts. ts ++ transfers_in (lets v)) none in (
      goes_by (is_mapped v.state) v.outgoing_channel v.sending w.sending (transfers_in (item_frames item)) out (ap (λ (x : SessionView _). x.sending) e),
      ap (λ (x : SessionView _). x.deliveries.receiver) e,
      ap rest e,
      subst (λ (fs : List SessionFrame). OnChannel v.outgoing_channel fs) (sym all) (on_both v.outgoing_channel first (lets v) on (lets_on (is_mapped v.state) v.outgoing_channel v.sending)),
      ap (λ (x : SessionView _). x.links.handles) e,
    )

echo_is : {R : Type 0} → (v : SessionView R) (echo : Option LinkFlow) → (transfers_in (first_frame (option_map (flow_frame v) echo)) ≡ []) × OnChannel v.outgoing_channel (first_frame (option_map (flow_frame v) echo))
echo_is v None = (refl, tt)
echo_is v (Some l) = (refl, (refl, tt))

flow_out : {R : Type 0} → (v w : SessionView R) (echo : Option LinkFlow) (item : Option SessionOutgoingItem) → FlowGoes v echo item w → Out (is_mapped v.state) v (item_frames item) w
flow_out v w echo item t = let e = echo_is v echo in gone_out v w (first_frame (option_map (flow_frame v) echo)) (is_some_list (lets v)) item e.0 e.1 t.0 t.1

module _ {R : Type 0} (g : Relays R) where
  answered_out : (v w : SessionView R) (a : Result (Option LinkFlow) LinkRelayError) (result : Result (Option SessionOutgoingItem) SessionInnerError) → FlowAnswered v a result w → Out (may_let v result) v (inner_frames result) w
  answered_out v w (Ok echo) (Ok item) t = flow_out v w echo item t
  answered_out v w (Err e) (Err x) t = nothing_out v w t.1
  answered_out v w (Ok echo) (Err x) t = absurd t
  answered_out v w (Err e) (Ok item) t = absurd t

  unasked_out : (v w : SessionView R) (h : Option ℕ) (result : Result (Option SessionOutgoingItem) SessionInnerError) → FlowUnasked v h result w → Out (may_let v result) v (inner_frames result) w
  unasked_out v w h (Ok item) t = flow_out v w None item t.1
  unasked_out v w None (Err Refused.UnattachedHandle) t = absurd t
  unasked_out v w (Some h) (Err Refused.UnattachedHandle) t = nothing_out v w t.1
  unasked_out v w h (Err Refused.OutOfMemory) t = nothing_out v w t.1
  unasked_out v w None (Err e) t = absurd t
  unasked_out v w (Some h) (Err e) t = absurd t

  taken_out : (v w : SessionView R) (f : FlowModel) (h : Option ℕ) (asked : Option (FlowQuestion R)) (result : Result (Option SessionOutgoingItem) SessionInnerError) → FlowTaken g.flow_gives v f h asked result w → Out (may_let v result) v (inner_frames result) w
  taken_out v w f None None result t = unasked_out v w None result t
  taken_out v w f None (Some q) result t = absurd t
  taken_out v w f (Some h) None result t = unasked_out v w (Some h) result t
  taken_out v w f (Some h) (Some q) result t =
      let o = answered_out (asked_at v h q) w q.answer result t.2 in
      (o.0, o.1, o.2, o.3, o.4)

  -- ---- what a transfer of the peer changes

  abbrev HandleUse : SessionView R → Option Delivery → SessionView R → Type 0
  HandleUse v named w =
      (w.sending ≡ v.sending) × (w.deliveries.receiver ≡ v.deliveries.receiver)
      × (rest w ≡ record (rest v) { named = with_record named v.deliveries.sender })
      × RecordFits named
      × (w.links.handles ≡ v.links.handles)

  takes : (v u w : SessionView R) (named : Option Delivery) → u.sending ≡ v.sending → u.deliveries.receiver ≡ v.deliveries.receiver → rest u ≡ record (rest v) { named = with_record named v.deliveries.sender } → u.links ≡ v.links → RecordFits named → w ≡ u → HandleUse v named w
  takes v u w named a b c d f e = rw e (a, b, c, f, ap (λ (l : LinksView _). l.handles) d)

  answered_takes : (v w : SessionView R) (h : ℕ) (a : _) (result : _) → TransferAnswered v h a result w → HandleUse v (named_delivery h (named_of a)) w
  answered_takes v w h (Ok named) (Ok reply) t = takes v _ w (named_delivery h named) refl refl refl refl t.0 t.2
  answered_takes v w h (Err e) (Err x) t = takes v v w None refl refl refl refl tt t.1
  answered_takes v w h (Ok named) (Err x) t = absurd t
  answered_takes v w h (Err e) (Ok reply) t = absurd t

  unasked_takes : (v w : SessionView R) (h : ℕ) (result : _) → TransferUnasked v h result w → HandleUse v None w
  unasked_takes v w h (Ok reply) t = absurd t
  unasked_takes v w h (Err Refused.UnattachedHandle) t = takes v v w None refl refl refl refl tt t.1
  unasked_takes v w h (Err Refused.OutOfMemory) t = takes v v w None refl refl refl refl tt t.1
  unasked_takes v w h (Err e) t = absurd t

  -- ---- the table

  pub record Does (v : SessionView R) (e : SessionCall R) (w : SessionView R) : Type 0 where
    pub goes : Goes (lets_by v e) v.outgoing_channel (sending_by v e) (transfers_in (call_frames e)) w.sending
    pub opens : w.deliveries.receiver ≡ cond (lets_by v e) (opened_by (sending_by v e) (keeps Receiver e v.deliveries.receiver)) (keeps Receiver e v.deliveries.receiver)
    pub rest_is : rest w ≡ rest_by (rest v) e
    pub on_channel : OnChannel v.outgoing_channel (call_frames e)
    pub word_fits : WordFits v e
    pub named_fits : RecordFits (named_with e)
    pub handles_are : (k : ℕ) → map.get w.links.handles k ≡ taken_by k (map.get v.links.handles k) e

  -- a call leaves every handle as it is taken
  abbrev Places : SessionCall R → Type 0
  Places e = (k : ℕ) (o : Option (Option (List ℕ))) → o ≡ taken_by k o e

  -- a call that lets nothing out
  stills : (v u w : SessionView R) (e : SessionCall R) → w ≡ u → lets_by v e ≡ false → transfers_in (call_frames e) ≡ [] → u.sending ≡ sending_by v e → u.deliveries.receiver ≡ keeps Receiver e v.deliveries.receiver → rest u ≡ rest_by (rest v) e →
      OnChannel v.outgoing_channel (call_frames e) → u.links ≡ v.links → WordFits v e → RecordFits (named_with e) → Places e → Does v e w
  stills v u w e same quiet none sending rows others on links fits named_is places = rw same record {
    goes = rw quiet (none, sending);
    opens = rw quiet rows;
    rest_is = others;
    on_channel = on;
    word_fits = fits;
    named_fits = named_is;
    handles_are = λ k. ap (λ (l : LinksView _). map.get l.handles k) links ∙ places k (map.get v.links.handles k);
  }

  -- a call that is refused
  unmoved : (v w : SessionView R) (e : SessionCall R) → w ≡ v → v.deliveries.receiver ≡ keeps Receiver e v.deliveries.receiver → lets_by v e ≡ false → call_frames e ≡ [] → sending_by v e ≡ v.sending → rest v ≡ rest_by (rest v) e → WordFits v e → RecordFits (named_with e) → Places e → Does v e w
  unmoved v w e same kept quiet none sending others fits named_is places = stills v v w e same quiet (ap transfers_in none) (sym sending) kept others (rw none tt) refl fits named_is places

  -- a call that hands out one frame, which is no transfer
  says : (v u w : SessionView R) (e : SessionCall R) (f h : SessionFrame) → w ≡ u → f ≡ h → call_frames e ≡ f ∷ [] → lets_by v e ≡ false → transfers_in (h ∷ []) ≡ [] → u.sending ≡ sending_by v e → u.deliveries.receiver ≡ keeps Receiver e v.deliveries.receiver →
      rest u ≡ rest_by (rest v) e → h.channel ≡ v.outgoing_channel → u.links ≡ v.links → WordFits v e → RecordFits (named_with e) → Places e → Does v e w
  says v u w e f h same is one quiet none sending rows others on links fits named_is places =
      stills v u w e same quiet (ap transfers_in one ∙ ap (λ (x : SessionFrame). transfers_in (x ∷ [])) is ∙ none) sending rows others (rw one (one_on v.outgoing_channel f h is on)) links fits named_is places

  -- the rest, with another state
  in_state : (r : Rest) (s : SessionState) (o : Option SessionState) → o ≡ Some s → record r { state = s } ≡ record r { state = unwrap_or o r.state }
  in_state r s o e = ap (λ x. record r { state = x }) (sym (ap (λ y. unwrap_or y r.state) e))

  out_does : (v u w : SessionView R) (e : SessionCall R) (b : Bool) → Out b u (call_frames e) w → lets_by v e ≡ b → u.sending ≡ sending_by v e → u.deliveries.receiver ≡ keeps Receiver e v.deliveries.receiver → u.outgoing_channel ≡ v.outgoing_channel →
      rest u ≡ rest_by (rest v) e → u.links ≡ v.links → WordFits v e → RecordFits (named_with e) → Places e → Does v e w
  out_does v u w e b o is sending rows channel others links fits named_is places = record {
    goes = rw (is, ← sending, ← channel) o.0;
    opens = rw (is, ← sending, ← rows) o.1;
    rest_is = o.2 ∙ others;
    on_channel = rw (← channel) o.3;
    word_fits = fits;
    named_fits = named_is;
    handles_are = λ k. ap (λ m. map.get m k) o.4 ∙ ap (λ (l : LinksView _). map.get l.handles k) links ∙ places k (map.get v.links.handles k);
  }

  taken_does : (v w : SessionView R) (e : SessionCall R) → HandleUse (counted_by v) (named_with e) w → v.deliveries.receiver ≡ keeps Receiver e v.deliveries.receiver → lets_by v e ≡ false → call_frames e ≡ [] → sending_by v e ≡ v.sending →
      record (rest (counted_by v)) { named = with_record (named_with e) v.deliveries.sender } ≡ rest_by (rest v) e → WordFits v e → Places e → Does v e w
  taken_does v w e t kept quiet none sending others fits places = record {
    goes = rw (quiet, none, sending) (refl, t.0);
    opens = rw quiet (t.1 ∙ kept);
    rest_is = t.2 ∙ others;
    on_channel = rw none tt;
    word_fits = fits;
    named_fits = t.3;
    handles_are = λ k. ap (λ m. map.get m k) t.4 ∙ places k (map.get v.links.handles k);
  }

  -- a call that changes links alone
  link_does : (v w : SessionView R) (l : LinksView R) (e : SessionCall R) → w ≡ record v { links = l } → v.deliveries.receiver ≡ keeps Receiver e v.deliveries.receiver → lets_by v e ≡ false → transfers_in (call_frames e) ≡ [] → sending_by v e ≡ v.sending → rest v ≡ rest_by (rest v) e →
      OnChannel v.outgoing_channel (call_frames e) → WordFits v e → RecordFits (named_with e) → ((k : ℕ) → map.get l.handles k ≡ taken_by k (map.get v.links.handles k) e) → Does v e w
  link_does v w l e same kept quiet none sending others on fits named_is places = rw same record {
    goes = rw (quiet, sending) (none, refl);
    opens = rw quiet kept;
    rest_is = others;
    on_channel = on;
    word_fits = fits;
    named_fits = named_is;
    handles_are = places;
  }

  attached_keeps : (l new : LinksView R) (a : AttachModel) (n : LiveLink R) (q : AttachQuestion R) (answer : _) (result : _) → AttachAnswered l a n q answer result new → new.handles ≡ l.handles
  attached_keeps l new a n q (Ok u) (Ok r) t = ap (λ (x : LinksView _). x.handles) t
  attached_keeps l new a n q (Err e) (Err x) t = ap (λ (y : LinksView _). y.handles) t.1
  attached_keeps l new a n q (Ok u) (Err x) t = absurd t
  attached_keeps l new a n q (Err e) (Ok r) t = absurd t

  pub attach_keeps : (l new : LinksView R) (a : AttachModel) (asked : Option (AttachQuestion R)) (result : _) → Attaches g.attach_gives l a asked result new → new.handles ≡ l.handles
  attach_keeps l new a None (Ok u) t = absurd t
  attach_keeps l new a None (Err e) t = ap (λ (x : LinksView _). x.handles) t.1
  attach_keeps l new a (Some q) result t = attached_keeps l new a t.1.link q q.answer result t.3

  -- relays that are asked of dispositions alone change
  asks_keep : (gives : DispositionGives R) (d : DispositionModel) (rows : List Delivery) (asked : List (DispositionQuestion R)) (l new : LinksView R) →
      AsksEach gives d rows asked l new → new.handles ≡ l.handles
  asks_keep gives d [] asked l new a = ap (λ (x : LinksView _). x.handles) a.1
  asks_keep gives d (r ∷ rs) asked l new a = asks_keep gives d rs a.1 a.2 new a.4 ∙ ask_keeps a.0 a.3
    where
      ask_keeps : (one : Option (DispositionQuestion R)) → AsksAt gives d r one l a.2 → a.2.handles ≡ l.handles
      ask_keeps None b = ap (λ (z : LinksView _). z.handles) b.1
      ask_keeps (Some q) b = ap (λ (z : LinksView _). z.handles) b.2

  -- a call that asks relays, and may take deliveries away
  asked_does : (v w : SessionView R) (l : LinksView R) (o : OpenView) (e : SessionCall R) → w ≡ record v { links = l; deliveries = o } → l.handles ≡ v.links.handles → o.receiver ≡ keeps Receiver e v.deliveries.receiver →
      lets_by v e ≡ false → call_frames e ≡ [] → sending_by v e ≡ v.sending → record (rest v) { named = o.sender } ≡ rest_by (rest v) e → WordFits v e → RecordFits (named_with e) → Places e → Does v e w
  asked_does v w l o e same links kept quiet none sending others fits named_is places = rw same record {
    goes = rw (quiet, none, sending) (refl, refl);
    opens = rw quiet kept;
    rest_is = others;
    on_channel = rw none tt;
    word_fits = fits;
    named_fits = named_is;
    handles_are = λ k. ap (λ m. map.get m k) links ∙ places k (map.get v.links.handles k);
  }

  refused_does : (v w : SessionView R) (d : DispositionModel) (asked : List (DispositionQuestion R)) → ((asked ≡ []) × (w ≡ v)) ⊎ (SaysStateAgain d asked × HasAsked g.disposition_gives v d asked w) → Does v (TakesDisposition d asked (Err Refused.OutOfMemory)) w
  refused_does v w d asked (inl s) = unmoved v w _ s.1 refl refl refl refl refl tt tt (λ k o. refl)
  refused_does v w d asked (inr s) = asked_does v w w.links v.deliveries _ s.1.1 (asks_keep g.disposition_gives d (meant d (rows_of d v)) asked v.links w.links s.1.0) refl refl refl refl refl tt tt (λ k o. refl)

  pub does : (v w : SessionView R) (e : SessionCall R) → SessionStep g v e w → Does v e w
  does v w (SendsBegin (Ok f)) s = says v _ w _ f _ s.2 s.1 refl refl refl refl refl (in_state (rest v) w.state (sends_begin v.state) s.0) refl refl tt tt (λ k o. refl)
  does v w (SendsBegin (Err Begins.IllegalState)) s = unmoved v w _ s.1 refl refl refl refl refl tt tt (λ k o. refl)
  does v w (SendsBegin (Err Begins.OutOfMemory)) s = unmoved v w _ s.1 refl refl refl refl refl tt tt (λ k o. refl)
  does v w (SendsBegin (Err e)) s = absurd s
  does v w (SendsEnd error (Ok f)) s = says v _ w _ f _ s.2 s.1 refl refl refl refl refl (in_state (rest v) w.state (sends_end (is_some error) v.state) s.0) refl refl tt tt (λ k o. refl)
  does v w (SendsEnd error (Err Begins.IllegalState)) s = unmoved v w _ s.1 refl refl refl refl refl tt tt (λ k o. refl)
  does v w (SendsEnd error (Err e)) s = absurd s
  does v w (TakesBegin channel b (Ok u)) s = stills v _ w _ s.2 refl refl refl refl (in_state (rest (begun_by v channel b)) w.state (takes_begin v.state) s.0) tt refl s.1 tt (λ k o. refl)
  does v w (TakesBegin channel b (Err Begins.IllegalState)) s = unmoved v w _ s.1 refl refl refl refl refl tt tt (λ k o. refl)
  does v w (TakesBegin channel b (Err e)) s = absurd s
  does v w (TakesEnd channel e (Ok u)) s = stills v _ w _ s.3 refl refl refl refl (in_state (rest v) w.state (takes_end v.state) s.0) tt refl tt tt (λ k o. refl)
  does v w (TakesEnd channel e (Err Begins.RemoteEnded)) s = stills v _ w _ s.3 refl refl refl refl (in_state (rest v) w.state (takes_end v.state) s.0) tt refl tt tt (λ k o. refl)
  does v w (TakesEnd channel e (Err (Begins.RemoteEndedWithError x))) s = stills v _ w _ s.2 refl refl refl refl (in_state (rest v) w.state (takes_end v.state) s.0) tt refl tt tt (λ k o. refl)
  does v w (TakesEnd channel e (Err Begins.IllegalState)) s = unmoved v w _ s.1 refl refl refl refl (ap (λ o. record (rest v) { state = unwrap_or o v.state }) (sym s.0)) tt tt (λ k o. refl)
  does v w (TakesEnd channel e (Err x)) s = absurd s
  does v w (TakesFlow f asked (Ok item)) s = out_does v (flow_moved v f) w _ _ (taken_out (flow_moved v f) w f f.handle asked (Ok item) s.1) refl refl refl refl refl refl s.0 tt (λ k o. refl)
  does v w (TakesFlow f asked (Err e)) s = out_does v (flow_moved v f) w _ _ (taken_out (flow_moved v f) w f f.handle asked (Err e) s.1) refl refl refl refl refl refl s.0 tt (λ k o. refl)
  does v w (TakesTransfer t payload None result) s = taken_does v w _ (unasked_takes (counted_by v) w t.handle result s) refl refl refl refl refl tt (λ k o. refl)
  does v w (TakesTransfer t payload (Some q) result) s =
      let a = answered_takes (asked_at (counted_by v) t.handle q) w t.handle q.answer result s.2 in
      taken_does v w _ (a.0, a.1, a.2, a.3, a.4) refl refl refl refl refl tt (λ k o. refl)
  does v w (SendsFlow l f) s = says v v w _ f _ s.1 s.0 refl refl refl refl refl refl refl refl tt tt (λ k o. refl)
  does v w (SendsTransfer h (Ok item)) s = out_does v (waits v h) w _ _ (gone_out (waits v h) w [] _ item refl tt s.2 s.3) refl refl refl refl refl refl tt tt (λ k o. refl)
  does v w (SendsTransfer h (Err Refused.IllegalState)) s = unmoved v w _ s.1 refl refl refl refl refl tt tt (λ k o. refl)
  does v w (SendsTransfer h (Err Refused.OutOfMemory)) s = unmoved v w _ s.2 refl refl refl refl refl tt tt (λ k o. refl)
  does v w (SendsTransfer h (Err e)) s = absurd s
  does v w (SendsSessionFlow None) s = unmoved v w _ s.1 refl refl refl refl refl tt tt (λ k o. refl)
  does v w (SendsSessionFlow (Some (SingleFrame f))) s = says v _ w _ f _ s.2 s.1 refl refl refl refl refl refl refl refl tt tt (λ k o. refl)
  does v w (SendsSessionFlow (Some (MultipleFrames fs))) s = absurd s
  does v w (RecordsStop reason) s = stills v _ w _ s refl refl refl refl refl tt refl tt tt (λ k o. refl)
  does v w (AllocatesLink name relay (Ok h)) s = link_does v w _ _ s.3 refl refl refl refl refl tt tt tt (λ k. at_insert v.links.handles h.0 k (Some name))
  does v w (AllocatesLink name relay (Err e)) s = link_does v w v.links _ s.1 refl refl refl refl refl tt tt tt (λ k. refl)
  does v w (AllocatesIncomingLink name relay input (Ok h)) s = link_does v w _ _ s.3 refl refl refl refl refl tt tt tt (λ k. at_insert v.links.handles h.0 k (Some name))
  does v w (AllocatesIncomingLink name relay input (Err e)) s = link_does v w v.links _ s.1 refl refl refl refl refl tt tt tt (λ k. refl)
  does v w (DeallocatesLink handle was) s = link_does v w w.links _ s.1 refl refl refl refl refl tt tt tt (λ k. taken_release v.links w.links handle.0 k was s.0)
  does v w (TakesAttach a asked result) s = link_does v w w.links _ s.1 refl refl refl refl refl tt tt tt (λ k. ap (λ m. map.get m k) (attach_keeps v.links w.links a asked result s.0))
  does v w (TakesDetach d None (Ok answer)) s = link_does v w w.links _ s.1 refl refl refl refl refl tt tt tt (λ k. ap (λ (l : LinksView _). map.get l.handles k) s.0.2)
  does v w (TakesDetach d (Some q) (Ok answer)) s =
      link_does v w w.links _ s.1 refl refl refl refl refl tt tt tt (λ k. ap (λ (l : LinksView _). map.get l.handles k) s.0.3 ∙ taken_drop v.links d.handle q.handle.0 k)
  does v w (TakesDetach d asked (Err e)) s = absurd s
  does v w (SendsAttach a f) s = says v v w _ f _ s.1 s.0 refl refl refl refl refl refl refl refl tt tt (λ k o. refl)
  does v w (SendsDetach d expects_echo (Ok (Some f))) s =
      link_does v w w.links _ s.2 refl refl (ap (λ (x : SessionFrame). transfers_in (x ∷ [])) s.0) refl refl (one_on v.outgoing_channel f _ s.0 refl) tt tt (λ k. taken_leave v.links w.links d.handle k expects_echo true s.1)
  does v w (SendsDetach d expects_echo (Ok None)) s = link_does v w w.links _ s.1 refl refl refl refl refl tt tt tt (λ k. taken_leave v.links w.links d.handle k expects_echo false s.0)
  does v w (SendsDetach d expects_echo (Err e)) s = absurd s
  does v w (SendsDisposition d true f) s = says v _ w _ f _ s.2 s.1 refl refl refl refl refl refl refl refl tt tt (λ k o. refl)
  does v w (SendsDisposition d false f) s = says v _ w _ f _ s.2 s.1 refl refl refl refl refl refl refl refl tt tt (λ k o. refl)
  does v w (TakesDisposition d asked (Ok None)) s =
      let kept = role_keeps d.role d.first d.last v.deliveries in
      asked_does v w w.links _ _ s.2 (asks_keep g.disposition_gives d (meant d (rows_of d v)) asked v.links w.links s.1) kept.0 refl refl refl (ap (λ n. record (rest v) { named = n }) kept.1) tt tt (λ k o. refl)
  does v w (TakesDisposition d asked (Ok (Some echoes))) s = asked_does v w w.links v.deliveries _ s.1.1 (asks_keep g.disposition_gives d (meant d (rows_of d v)) asked v.links w.links s.1.0) refl refl refl refl refl tt tt (λ k o. refl)
  does v w (TakesDisposition d asked (Err Refused.OutOfMemory)) s = refused_does v w d asked s.2
  does v w (TakesDisposition d asked (Err e)) s = absurd s
  does v w (Settles role first last count) s =
      let kept = role_keeps (peer_role role) first last v.deliveries in
      asked_does v w v.links _ _ s.1 refl kept.0 refl refl refl (ap (λ n. record (rest v) { named = n }) kept.1) tt tt (λ k o. refl)
