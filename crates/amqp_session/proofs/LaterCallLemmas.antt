-- What a history says, with one call more.
use Rattle.std.proofs.Common.{◌≡◌, ℕ, ◌+◌, ◌-◌, ◌%◌, ◌^◌, ◌++◌, [], ◌∷◌, List, refl, ap, arith, sym, ◌∙◌, append_assoc, append-nil, min, Bool, true, false, cond, Option, Some, None, Ok}
use Rattle.amqp_session.specs.declared.deliveries.Delivery.{Delivery}
use Rattle.amqp_session.specs.declared.session.receiving.Receiving.{Receiving}
use Rattle.amqp_session.specs.declared.stop.SessionStopReason.{SessionStopReason}
use Rattle.amqp_session.specs.History.{SessionCall, TakesBegin, TakesFlow, TakesTransfer, SendsDisposition, SendsSessionFlow, RecordsStop}
use Rattle.amqp_session.specs.Received.{has_kind, since, says_numbers, is_session_flow, received_by, received_count, announced_by, announced, next_incoming, window_left_by, window_left, peer_window, unreported, channel_by, stop_reason}
use Rattle.amqp_session.specs.Inner.Histories.{announced_from, channel_from}
use Rattle.amqp_session.specs.Headline.{open_by, open_from, Receives}
use Rattle.amqp_types.specs.declared.definitions.Role.{Role}
use Rattle.amqp_session.specs.Session.{SessionView}
use Rattle.amqp_session.specs.declared.link.LiveLink.{LiveLink}
use Rattle.amqp_session.specs.declared.link.AttachedLink.{AttachedLink}
use Rattle.amqp_session.specs.Linked.{HandleUse, taken_by, live_by, input_by}
use Rattle.amqp_session.specs.Inner.Histories.{taken_from, live_from, input_from}
use Rattle.amqp_session.specs.Disposing.{num_messages}
use Rattle.amqp_session.proofs.CallEffectLemmas.{receives, stops, WordFits}

-- ---- the calls since the last one of a kind

either : (a b c : Bool) → cond a true (cond b true c) ≡ cond b true (cond a true c)
either true true c = refl
either true false c = refl
either false true c = refl
either false false c = refl

has_more : {R : Type 0} → (kind : SessionCall R → Bool) (H : List (SessionCall R)) (e : SessionCall R) → has_kind kind (H ++ e ∷ []) ≡ cond (kind e) true (has_kind kind H)
has_more kind [] e = refl
has_more kind (x ∷ H) e = ap (λ b. cond (kind x) true b) (has_more kind H e) ∙ either (kind x) (kind e) (has_kind kind H)

since_cases : {R : Type 0} → (b h k : Bool) (S H : List (SessionCall R)) (x e : SessionCall R) →
    cond (cond b true h) (cond b [] (S ++ e ∷ [])) (cond k (H ++ e ∷ []) (x ∷ (H ++ e ∷ []))) ≡ cond b [] (cond h S (cond k H (x ∷ H)) ++ e ∷ [])
since_cases true h k S H x e = refl
since_cases false true k S H x e = refl
since_cases false false true S H x e = refl
since_cases false false false S H x e = refl

since_more : {R : Type 0} → (kind : SessionCall R → Bool) (H : List (SessionCall R)) (e : SessionCall R) → since kind (H ++ e ∷ []) ≡ cond (kind e) [] (since kind H ++ e ∷ [])
since_more kind [] e = refl
since_more kind (x ∷ H) e =
    ap (λ b. cond b (since kind (H ++ e ∷ [])) (cond (kind x) (H ++ e ∷ []) (x ∷ (H ++ e ∷ [])))) (has_more kind H e)
    ∙ ap (λ es. cond (cond (kind e) true (has_kind kind H)) es (cond (kind x) (H ++ e ∷ []) (x ∷ (H ++ e ∷ [])))) (since_more kind H e)
    ∙ since_cases (kind e) (has_kind kind H) (kind x) (since kind H) H x e

-- ---- numbers of the peer

came_more : {R : Type 0} → (S : List (SessionCall R)) (e : SessionCall R) → received_count (S ++ e ∷ []) ≡ received_count S + received_by e
came_more [] e = omega arith
came_more (x ∷ S) e = omega (arith, came_more S e)

left_more : {R : Type 0} → (w : ℕ) (S : List (SessionCall R)) (e : SessionCall R) → window_left w (S ++ e ∷ []) ≡ window_left_by (window_left w S) e
left_more w [] e = refl
left_more w (x ∷ S) e = left_more (window_left_by w x) S e

word_more : {R : Type 0} → (o : ℕ × ℕ) (H : List (SessionCall R)) (e : SessionCall R) → announced_from o (H ++ e ∷ []) ≡ announced_by (announced_from o H) e
word_more o [] e = refl
word_more o (x ∷ H) e = word_more (announced_by o x) H e

next_more : {R : Type 0} → (H : List (SessionCall R)) (e : SessionCall R) → next_incoming (H ++ e ∷ []) ≡ ((announced_by (announced H) e).0 + received_count (cond (says_numbers e) [] (since says_numbers H ++ e ∷ []))) % 2 ^ 32
next_more H e = rw (word_more (0, 0) H e, since_more says_numbers H e) refl

peer_window_more : {R : Type 0} → (H : List (SessionCall R)) (e : SessionCall R) → peer_window (H ++ e ∷ []) ≡ window_left (announced_by (announced H) e).1 (cond (says_numbers e) [] (since says_numbers H ++ e ∷ []))
peer_window_more H e = rw (word_more (0, 0) H e, since_more says_numbers H e) refl

unreported_more : {R : Type 0} → (H : List (SessionCall R)) (e : SessionCall R) → unreported (H ++ e ∷ []) ≡ min (received_count (cond (is_session_flow e) [] (since is_session_flow H ++ e ∷ []))) 4294967295
unreported_more H e = ap (λ es. min (received_count es) 4294967295) (since_more is_session_flow H e)

-- a call that says nothing of them
still : {R : Type 0} → (H : List (SessionCall R)) (e : SessionCall R) (r : Receiving) → announced_by (announced H) e ≡ announced H → says_numbers e ≡ false → is_session_flow e ≡ false → received_by e ≡ 0 →
    window_left_by (window_left (announced H).1 (since says_numbers H)) e ≡ window_left (announced H).1 (since says_numbers H) → Receives H r → Receives (H ++ e ∷ []) r
still H e r w s f c l h = record {
  next_is = rw (next_more H e, w, s, came_more (since says_numbers H) e, c) (omega (arith, h.next_is));
  window_is = rw (peer_window_more H e, w, s, left_more (announced H).1 (since says_numbers H) e, l) h.window_is;
  count_is = rw (unreported_more H e, f, came_more (since is_session_flow H) e, c) (omega (arith, h.count_is));
}

pub receives_more : {R : Type 0} → (H : List (SessionCall R)) (v : SessionView R) (r : Receiving) (e : SessionCall R) → WordFits v e → Receives H r → Receives (H ++ e ∷ []) (receives r e)
receives_more H v r (TakesBegin channel b (Ok u)) fits h = let e : SessionCall _ = TakesBegin channel b (Ok u) in record {
  next_is = rw (next_more H e) (omega (arith, fits.next_outgoing_id));
  window_is = rw (peer_window_more H e) refl;
  count_is = rw (unreported_more H e, came_more (since is_session_flow H) e) (omega (arith, h.count_is));
}
receives_more H v r (TakesFlow f asked result) fits h = let e : SessionCall _ = TakesFlow f asked result in record {
  next_is = rw (next_more H e) (omega (arith, fits.next_outgoing_id));
  window_is = rw (peer_window_more H e) refl;
  count_is = rw (unreported_more H e, came_more (since is_session_flow H) e) (omega (arith, h.count_is));
}
receives_more H v r (TakesTransfer t payload asked result) fits h = let e : SessionCall _ = TakesTransfer t payload asked result in record {
  next_is = rw (next_more H e, came_more (since says_numbers H) e) (omega (arith, h.next_is));
  window_is = rw (peer_window_more H e, left_more (announced H).1 (since says_numbers H) e) (ap (λ n. n - 1) h.window_is);
  count_is = rw (unreported_more H e, came_more (since is_session_flow H) e) (omega (arith, h.count_is));
}
receives_more H v r (SendsSessionFlow (Some item)) fits h = let e : SessionCall _ = SendsSessionFlow (Some item) in record {
  next_is = rw (next_more H e, came_more (since says_numbers H) e) (omega (arith, h.next_is));
  window_is = rw (peer_window_more H e, left_more (announced H).1 (since says_numbers H) e) h.window_is;
  count_is = rw (unreported_more H e) refl;
}
receives_more H v r (SendsDisposition d true frame) fits h = let e : SessionCall _ = SendsDisposition d true frame in record {
  next_is = rw (next_more H e, came_more (since says_numbers H) e) (omega (arith, h.next_is));
  window_is = rw (peer_window_more H e, left_more (announced H).1 (since says_numbers H) e) (ap (λ n. min (n + num_messages d.first d.last) 4294967295) h.window_is);
  count_is = rw (unreported_more H e, came_more (since is_session_flow H) e) (omega (arith, h.count_is));
}
receives_more H v r (SendsDisposition d false frame) fits h = still H (SendsDisposition d false frame) r refl refl refl refl refl h
receives_more H v r e fits h = still H e r refl refl refl refl refl h

-- ---- channel, stop reason and open deliveries

pub channel_more : {R : Type 0} → (o : Option ℕ) (H : List (SessionCall R)) (e : SessionCall R) → channel_from o (H ++ e ∷ []) ≡ channel_by (channel_from o H) e
channel_more o [] e = refl
channel_more o (x ∷ H) e = channel_more (channel_by o x) H e

stop_stays : {R : Type 0} → (reason : SessionStopReason) (e : SessionCall R) → Some reason ≡ stops (Some reason) e
stop_stays reason (RecordsStop other) = refl
stop_stays reason e = refl

first_stop : {R : Type 0} → (e : SessionCall R) → stop_reason (e ∷ []) ≡ stops None e
first_stop (RecordsStop reason) = refl
first_stop e = refl

pub stop_more : {R : Type 0} → (H : List (SessionCall R)) (e : SessionCall R) → stop_reason (H ++ e ∷ []) ≡ stops (stop_reason H) e
stop_more [] e = first_stop e
stop_more (RecordsStop reason ∷ H) e = stop_stays reason e
stop_more (x ∷ H) e = stop_more H e

pub open_more : {R : Type 0} → (role : Role) (n : ℕ) (before : List (SessionCall R)) (old : Option Delivery) (H : List (SessionCall R)) (e : SessionCall R) →
    open_from role n before old (H ++ e ∷ []) ≡ open_by role n (before ++ H) (open_from role n before old H) e
open_more role n before old [] e = ap (λ b. open_by role n b old e) (sym (append-nil before))
open_more role n before old (x ∷ H) e =
    let more : Option Delivery = open_by role n before old x in
    open_more role n (before ++ x ∷ []) more H e
    ∙ ap (λ b. open_by role n b (open_from role n (before ++ x ∷ []) more H) e) (append_assoc before (x ∷ []) H)

pub taken_more : {R : Type 0} → (k : ℕ) (o : HandleUse) (H : List (SessionCall R)) (e : SessionCall R) → taken_from k o (H ++ e ∷ []) ≡ taken_by k (taken_from k o H) e
taken_more k o [] e = refl
taken_more k o (x ∷ H) e = taken_more k (taken_by k o x) H e

pub live_more : {R : Type 0} → (name : List ℕ) (o : Option (LiveLink R)) (H : List (SessionCall R)) (e : SessionCall R) →
    live_from name o (H ++ e ∷ []) ≡ live_by name (live_from name o H) e
live_more name o [] e = refl
live_more name o (x ∷ H) e = live_more name (live_by name o x) H e

pub input_more : {R : Type 0} → (h : ℕ) (o : Option (AttachedLink R)) (H : List (SessionCall R)) (e : SessionCall R) →
    input_from h o (H ++ e ∷ []) ≡ input_by h (input_from h o H) e
input_more h o [] e = refl
input_more h o (x ∷ H) e = input_more h (input_by h o x) H e
