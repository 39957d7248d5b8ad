-- A connection after a call is a function of the call and its answer; so what it shows after a history is what that gives.
use Rattle.std.proofs.Common.{◌≡◌, ℕ, List, [], ◌∷◌, ◌++◌, Bool, true, false, Option, Some, None, Result, Ok, Err, refl, ap, sym, subst, ◌∙◌, cond, nat_eq, unwrap_or}
use Rattle.std.specs.Cmp.{nat_cmp_total}
use Rattle.std.specs.FinMap as map
use Rattle.std.specs.FinMap.{get-empty, get-insert, get-remove}
use Rattle.std.specs.Ordering.{nat_cmp}
use Rattle.amqp_types.specs.declared.states.ConnectionState.{ConnectionState}
use Rattle.amqp_types.specs.Error.{ErrorModel}
use Rattle.amqp_types.specs.Open.{OpenModel}
use Rattle.amqp_types.specs.Close.{CloseModel}
use Rattle.amqp_frames.specs.declared.frame.Frame.{Frame}
use Rattle.amqp_connection.specs.declared.error.ConnectionStateError.{ConnectionStateError}
use Rattle.amqp_connection.specs.declared.error.ConnectionStateError.TheVariants as state
use Rattle.amqp_connection.specs.declared.error.ConnectionInnerError.{ConnectionInnerError}
use Rattle.amqp_connection.specs.declared.error.ConnectionInnerError.TheVariants as inner
use Rattle.amqp_connection.specs.declared.error.AllocSessionError.{AllocSessionError}
use Rattle.amqp_connection.specs.declared.error.AllocSessionError.TheVariants as full
use Rattle.amqp_connection.specs.Channels.{ChannelTable}
use Rattle.amqp_connection.specs.States.{takes_close}
use Rattle.amqp_connection.specs.Connection.{ConnectionView, new_connection, SendOpenStep, SendCloseStep, IncomingOpenStep, IncomingCloseStep}
use Rattle.amqp_connection.specs.Connection.{AllocateStep, DeallocateStep, BeginRouteStep, EndRouteStep}
use Rattle.amqp_connection.specs.History.{Entry, SendOpen, SendClose, IncomingOpen, IncomingClose, Stop, Allocate, Deallocate, IncomingBegin}
use Rattle.amqp_connection.specs.History.{IncomingEnd, OutgoingBegin, OutgoingEnd, Step, Chain, LeadsTo}
use Rattle.amqp_connection.specs.ByHistory.{state_by, state_from, reason_by, reason_from, remote_open_by, remote_open_from, channel_max_by, channel_max_from, held_by, held_from, route_by, route_from, Stands}
use Rattle.amqp_session.proofs.FiniteMapLemmas.{same_test}

-- ---- after a call

abbrev pub held_after : Entry → ChannelTable → ChannelTable
held_after (Allocate n (Ok c)) m = map.insert m c n
held_after (Deallocate c true) m = map.remove m c
held_after e m = m

abbrev pub routes_after : Entry → ChannelTable → ChannelTable
routes_after (IncomingBegin c remote (Ok n)) m = map.insert m c n
routes_after (IncomingEnd c (Ok n)) m = map.remove m c
routes_after e m = m

abbrev pub after : ConnectionView → Entry → ConnectionView
after v e = record {
  state = state_by v.state e;
  stop_reason = reason_by e v.stop_reason;
  local_open = v.local_open;
  remote_open = remote_open_by e v.remote_open;
  agreed_channel_max = channel_max_by v.local_open e v.agreed_channel_max;
  hash = v.hash;
  session_by_outgoing_channel = held_after e v.session_by_outgoing_channel;
  session_by_incoming_channel = routes_after e v.session_by_incoming_channel;
}

sent_open : (v w : ConnectionView) (r : Result Frame ConnectionStateError) → SendOpenStep v r w → w ≡ after v (SendOpen r)
sent_open v w (Ok f) s = s.3 ∙ ap (λ x. record v { state = unwrap_or x v.state }) (sym s.1)
sent_open v w (Err state.IllegalState) s = s.1
sent_open v w (Err state.OutOfMemory) s = s.1
sent_open v w (Err e) s = absurd s

sent_close : (v w : ConnectionView) (error : Option ErrorModel) (r : Result Frame ConnectionStateError) → SendCloseStep v error r w → w ≡ after v (SendClose error r)
sent_close v w error (Ok f) s = s.3 ∙ ap (λ x. record v { state = unwrap_or x v.state }) (sym s.1)
sent_close v w error (Err state.IllegalState) s = s.1
sent_close v w error (Err e) s = absurd s

came_open : (v w : ConnectionView) (o : OpenModel) (r : Option ConnectionStateError) → IncomingOpenStep v o r w → w ≡ after v (IncomingOpen o r)
came_open v w o None s = s.2 ∙ ap (λ x. record v { state = unwrap_or x v.state; remote_open = Some o; agreed_channel_max = channel_max_by v.local_open (IncomingOpen o None) v.agreed_channel_max }) (sym s.1)
came_open v w o (Some state.IllegalState) s = s.1
came_open v w o (Some e) s = absurd s

taken_close : (v w : ConnectionView) (x : Option ConnectionState) → takes_close v.state ≡ x → w ≡ record v { state = unwrap_or x v.state } → w ≡ record v { state = unwrap_or (takes_close v.state) v.state }
taken_close v w x e f = f ∙ ap (λ y. record v { state = unwrap_or y v.state }) (sym e)

came_close : (v w : ConnectionView) (c : CloseModel) (r : Option ConnectionStateError) → IncomingCloseStep v c r w → w ≡ after v (IncomingClose c r)
came_close v w c (Some state.IllegalState) s = taken_close v w None s.0 s.1
came_close v w c r s = taken_close v w (Some s.0) s.1 s.3

allotted : (v w : ConnectionView) (n : ℕ) (r : Result ℕ AllocSessionError) → AllocateStep v n r w → w ≡ after v (Allocate n r)
allotted v w n (Ok c) s = s.3
allotted v w n (Err full.ConnectionNotOpened) s = s.1
allotted v w n (Err (full.ConnectionStopped reason)) s = s.2
allotted v w n (Err full.ChannelMaxReached) s = s.2
allotted v w n (Err full.OutOfMemory) s = s.2

given : (v w : ConnectionView) (c : ℕ) (b : Bool) → DeallocateStep v c b w → w ≡ after v (Deallocate c b)
given v w c true s = s.1
given v w c false s = s.1

routed : (v w : ConnectionView) (c : ℕ) (remote : Option ℕ) (r : Result ℕ ConnectionInnerError) → BeginRouteStep v c remote r w → w ≡ after v (IncomingBegin c remote r)
routed v w c remote (Ok n) s = s.2
routed v w c remote (Err inner.IllegalState) s = s.1
routed v w c remote (Err (inner.NotImplemented text)) s = s.3
routed v w c remote (Err (inner.NotFound text)) s = s.3
routed v w c remote (Err inner.OutOfMemory) s = s.2
routed v w c remote (Err e) s = absurd s

unrouted : (v w : ConnectionView) (c : ℕ) (r : Result ℕ ConnectionInnerError) → EndRouteStep v c r w → w ≡ after v (IncomingEnd c r)
unrouted v w c (Ok n) s = s.2
unrouted v w c (Err inner.IllegalState) s = s.1
unrouted v w c (Err (inner.NotFound text)) s = s.3
unrouted v w c (Err e) s = absurd s

pub after_is : (v w : ConnectionView) (e : Entry) → Step v e w → w ≡ after v e
after_is v w (SendOpen r) s = sent_open v w r s
after_is v w (SendClose error r) s = sent_close v w error r s
after_is v w (IncomingOpen o r) s = came_open v w o r s
after_is v w (IncomingClose c r) s = came_close v w c r s
after_is v w (Stop r) s = s
after_is v w (Allocate n r) s = allotted v w n r s
after_is v w (Deallocate c b) s = given v w c b s
after_is v w (IncomingBegin c remote r) s = routed v w c remote r s
after_is v w (IncomingEnd c r) s = unrouted v w c r s
after_is v w (OutgoingBegin c b) s = s
after_is v w (OutgoingEnd c e) s = s

-- no call changes the hash
pub hash_stays : (v w : ConnectionView) (e : Entry) → Step v e w → w.hash ≡ v.hash
hash_stays v w e s = ap (λ (x : ConnectionView). x.hash) (after_is v w e s)

-- ---- after a history

abbrev pub after_all : ConnectionView → List Entry → ConnectionView
after_all v [] = v
after_all v (e ∷ es) = after_all (after v e) es

pub chain_after : (H : List Entry) (v w : ConnectionView) → Chain v H w → w ≡ after_all v H
chain_after [] v w c = c
chain_after (e ∷ H) v w c = chain_after H c.0 w c.2 ∙ ap (λ x. after_all x H) (after_is v c.0 e c.1)

-- by the calls that they are
pub went : (v w : ConnectionView) (cs ds : List Entry) → cs ≡ ds → Chain v cs w → w ≡ after_all v ds
went v w cs ds e c = chain_after cs v w c ∙ ap (after_all v) e

pub Chain-append : (xs ys : List Entry) (u v w : ConnectionView) → Chain u xs v → Chain v ys w → Chain u (xs ++ ys) w
Chain-append [] ys u v w c d = subst (λ (x : ConnectionView). Chain x ys w) c d
Chain-append (e ∷ xs) ys u v w c d = (c.0, c.1, Chain-append xs ys c.0 v w c.2 d)

all_state : (H : List Entry) (v : ConnectionView) → (after_all v H).state ≡ state_from v.state H
all_state [] v = refl
all_state (e ∷ H) v = all_state H (after v e)

all_reason : (H : List Entry) (v : ConnectionView) → (after_all v H).stop_reason ≡ reason_from v.stop_reason H
all_reason [] v = refl
all_reason (e ∷ H) v = all_reason H (after v e)

all_open : (H : List Entry) (v : ConnectionView) → (after_all v H).local_open ≡ v.local_open
all_open [] v = refl
all_open (e ∷ H) v = all_open H (after v e)

all_remote : (H : List Entry) (v : ConnectionView) → (after_all v H).remote_open ≡ remote_open_from v.remote_open H
all_remote [] v = refl
all_remote (e ∷ H) v = all_remote H (after v e)

all_max : (H : List Entry) (v : ConnectionView) → (after_all v H).agreed_channel_max ≡ channel_max_from v.local_open v.agreed_channel_max H
all_max [] v = refl
all_max (e ∷ H) v = all_max H (after v e)

pub inserted_at : (m : ChannelTable) (c n q : ℕ) → map.get (map.insert m c n) q ≡ cond (nat_eq q c) (Some n) (map.get m q)
inserted_at m c n q = get-insert nat_cmp_total m c n q ∙ ap (λ b. cond b (Some n) (map.get m q)) (same_test q c)

pub removed_at : (m : ChannelTable) (c q : ℕ) → map.get (map.remove m c) q ≡ cond (nat_eq q c) None (map.get m q)
removed_at m c q = get-remove nat_cmp_total m c q ∙ ap (λ b. cond b None (map.get m q)) (same_test q c)

held_is : (c : ℕ) (e : Entry) (m : ChannelTable) → map.get (held_after e m) c ≡ held_by c e (map.get m c)
held_is c (Allocate n (Ok d)) m = inserted_at m d n c
held_is c (Deallocate d true) m = removed_at m d c
held_is c e m = refl

route_is : (c : ℕ) (e : Entry) (m : ChannelTable) → map.get (routes_after e m) c ≡ route_by c e (map.get m c)
route_is c (IncomingBegin d remote (Ok n)) m = inserted_at m d n c
route_is c (IncomingEnd d (Ok n)) m = removed_at m d c
route_is c e m = refl

all_held : (c : ℕ) (H : List Entry) (v : ConnectionView) → map.get (after_all v H).session_by_outgoing_channel c ≡ held_from c (map.get v.session_by_outgoing_channel c) H
all_held c [] v = refl
all_held c (e ∷ H) v = all_held c H (after v e) ∙ ap (λ x. held_from c x H) (held_is c e v.session_by_outgoing_channel)

all_routes : (c : ℕ) (H : List Entry) (v : ConnectionView) → map.get (after_all v H).session_by_incoming_channel c ≡ route_from c (map.get v.session_by_incoming_channel c) H
all_routes c [] v = refl
all_routes c (e ∷ H) v = all_routes c H (after v e) ∙ ap (λ x. route_from c x H) (route_is c e v.session_by_incoming_channel)

pub stands : (s : ConnectionState) (o : OpenModel) (H : List Entry) (v : ConnectionView) → LeadsTo s o H v → Stands s o H v
stands s o H v l =
    let new = new_connection l.0 s o in
    let is : v ≡ after_all new H = chain_after H new v l.1 in
    record {
      state_is = ap (λ (x : ConnectionView). x.state) is ∙ all_state H new;
      stop_reason_is = ap (λ (x : ConnectionView). x.stop_reason) is ∙ all_reason H new;
      local_open_is = ap (λ (x : ConnectionView). x.local_open) is ∙ all_open H new;
      remote_open_is = ap (λ (x : ConnectionView). x.remote_open) is ∙ all_remote H new;
      channel_max_is = ap (λ (x : ConnectionView). x.agreed_channel_max) is ∙ all_max H new;
      held_is = λ c. ap (λ (x : ConnectionView). map.get x.session_by_outgoing_channel c) is ∙ all_held c H new ∙ ap (λ x. held_from c x H) (get-empty nat_cmp c);
      routes_are = λ c. ap (λ (x : ConnectionView). map.get x.session_by_incoming_channel c) is ∙ all_routes c H new ∙ ap (λ x. route_from c x H) (get-empty nat_cmp c);
    }
