-- A run of a relay over a queue: its events come after what the queue held.
use Rattle.std.proofs.Common.{◌≡◌, ◌⊎◌, inl, inr, ℕ, suc, List, [], ◌∷◌, ◌++◌, Option, Result, Ok, Err, refl, ap, sym, ◌∙◌, subst}
use Rattle.std.proofs.lemmas.List.{append_assoc, append-nil}
use Rattle.amqp_memory.specs.Refusal.{SomeRefused}
use Rattle.amqp_types.specs.declared.definitions.Role.{Role}
use Rattle.amqp_types.specs.declared.definitions.Role.TheVariants.{Sender, Receiver}
use Rattle.amqp_types.specs.declared.definitions.DeliveryTag.{DeliveryTag}
use Rattle.amqp_types.specs.Transfer.{TransferModel}
use Rattle.amqp_session.specs.Relay.{Relays}
use Rattle.amqp_session.specs.declared.error.LinkRelayError.{LinkRelayError}
use Rattle.amqp_events.specs.declared.event.Event.{Event}
use Rattle.amqp_events.specs.Event.{attached, flowed, transferred, disposed, detached}
use Rattle.amqp_events.specs.Queue.{QueueView, Pushes, Misses}
use Rattle.amqp_events.specs.Telling.{outcome, Tells, Notes, AttachTold, FlowTold, TransferTold, TransferToldAt, DispositionTold, DetachTold}
use Rattle.amqp_events.specs.Runs.{Told, ToldAttach, ToldFlow, ToldTransfer, ToldDisposition, ToldDetach, Queued, Run, IfTaken, IfHeard, AreEventsOf, missed_after, queue_after, RunGives}

-- ---- one event before the others

after : (q m w : QueueView) (e : Event) (es : List Event) (n : ℕ) → m ≡ record q { events = q.events ++ e ∷ [] } → w ≡ queue_after m es n → w ≡ queue_after q (e ∷ es) n
after q m w e es n h k =
    k ∙ ap (λ (v : QueueView). queue_after v es n) h ∙ ap (λ (l : List Event). record q { events = l; missed = missed_after q.missed n }) (append_assoc q.events (e ∷ []) es)

unmoved : (q m w : QueueView) (es : List Event) (n : ℕ) → m ≡ q → w ≡ queue_after m es n → w ≡ queue_after q es n
unmoved q m w es n h k = k ∙ ap (λ (v : QueueView). queue_after v es n) h

one_missed : (q m w : QueueView) (es : List Event) (n : ℕ) → Misses q m → w ≡ queue_after m es n → w ≡ queue_after q es (suc n)
one_missed q m w es n h k = k ∙ ap (λ (v : QueueView). queue_after v es n) h

-- ---- one call before the others

-- a call that may be refused
if_taken : {A : Type 0} (result : Result A LinkRelayError) (old m new : Queued) (e : Event) (ts : List Told) → Tells Pushes old e (outcome result) m → (r : RunGives m ts new)
    → (es : List Event) × IfTaken result old.link e es (λ l rest. AreEventsOf ts l rest r.missed) × (new.sink ≡ queue_after old.sink es r.missed)
if_taken (Ok answer) old m new e ts h r =
    (e ∷ r.events, (r.events, refl, subst (λ l. AreEventsOf ts l r.events r.missed) h.1 r.are_of), after old.sink m.sink new.sink e r.events r.missed h.0.1 r.queue)
if_taken (Err why) old m new e ts h r =
    (r.events, subst (λ l. AreEventsOf ts l r.events r.missed) h.1 r.are_of, unmoved old.sink m.sink new.sink r.events r.missed h.0.2 r.queue)

-- a call that may not
pub record Heard (old new : Queued) (e : Event) (ts : List Told) : Type 0 where
  pub events : List Event
  pub missed : ℕ
  pub are_of : IfHeard e events missed (λ rest others. AreEventsOf ts old.link rest others)
  pub queue : new.sink ≡ queue_after old.sink events missed

heard_one : (old m new : Queued) (e : Event) (ts : List Told) → m.link ≡ old.link → Pushes old.sink e (Ok tt) m.sink → RunGives m ts new → Heard old new e ts
heard_one old m new e ts l h r = record {
  events = e ∷ r.events;
  missed = r.missed;
  are_of = inl (r.events, refl, subst (λ l. AreEventsOf ts l r.events r.missed) l r.are_of);
  queue = after old.sink m.sink new.sink e r.events r.missed h.1 r.queue;
}

heard_none : (old m new : Queued) (e : Event) (ts : List Told) → m.link ≡ old.link → Misses old.sink m.sink → RunGives m ts new → Heard old new e ts
heard_none old m new e ts l h r = record {
  events = r.events;
  missed = suc r.missed;
  are_of = inr (r.missed, refl, subst (λ l. AreEventsOf ts l r.events r.missed) l r.are_of);
  queue = one_missed old.sink m.sink new.sink r.events r.missed h r.queue;
}

heard : (old m new : Queued) (e : Event) (ts : List Told) → m.link ≡ old.link → Notes Pushes Misses old.sink e m.sink → RunGives m ts new → Heard old new e ts
heard old m new e ts l (inl h) r = heard_one old m new e ts l h r
heard old m new e ts l (inr h) r = heard_none old m new e ts l (subst (λ q. Misses q m.sink) h.2.2 h.3) r

-- ---- each call

-- an attach answers nothing else
told_alone : (result : Result (Unit {0}) LinkRelayError) (old m : Queued) (e : Event) → Tells Pushes old e result m → Tells Pushes old e (outcome result) m
told_alone (Ok answer) old m e h = h
told_alone (Err why) old m e h = h

-- a call that was refused, and left the relay as it was
if_refused : {A : Type 0} (result : Result A LinkRelayError) (why : LinkRelayError) (old m new : Queued) (e : Event) (ts : List Told) → result ≡ Err why → m ≡ old → (r : RunGives m ts new)
    → (es : List Event) × IfTaken result old.link e es (λ l rest. AreEventsOf ts l rest r.missed) × (new.sink ≡ queue_after old.sink es r.missed)
if_refused result why old m new e ts h l r =
    let are_of : AreEventsOf ts old.link r.events r.missed = subst (λ (q : Queued). AreEventsOf ts q.link r.events r.missed) l r.are_of in
    let queue = unmoved old.sink m.sink new.sink r.events r.missed (ap (λ (q : Queued). q.sink) l) r.queue in
    (r.events, subst (λ x. IfTaken x old.link e r.events (λ l rest. AreEventsOf ts l rest r.missed)) (sym h) are_of, queue)

transfer_next : (role : Role) (old m new : Queued) (t : TransferModel) (payload : List ℕ) (result : Result (Option (ℕ × DeliveryTag)) LinkRelayError) (ts : List Told)
    → TransferToldAt role Pushes old t payload result m → (r : RunGives m ts new)
    → (es : List Event) × IfTaken result old.link (transferred old.link t payload) es (λ l rest. AreEventsOf ts l rest r.missed) × (new.sink ≡ queue_after old.sink es r.missed)
transfer_next Sender old m new t payload result ts h r = if_refused result _ old m new (transferred old.link t payload) ts h.0 h.1 r
transfer_next Receiver old m new t payload result ts (inl h) r = if_taken result old m new (transferred old.link t payload) ts h.0 r
transfer_next Receiver old m new t payload result ts (inr h) r = if_refused result _ old m new (transferred old.link t payload) ts h.1 h.2 r

disposition_next : (old m new : Queued) (e : Event) (ts : List Told) → m.link ≡ old.link → Notes Pushes Misses old.sink e m.sink ⊎ Misses old.sink m.sink → RunGives m ts new → Heard old new e ts
disposition_next old m new e ts l (inl h) r = heard old m new e ts l h r
disposition_next old m new e ts l (inr h) r = heard_none old m new e ts l h r

-- ---- a run

-- the relations of a relay over a queue
abbrev pub gives_queued : Relays Queued
gives_queued = record {
  attach_gives = λ old attach result new. AttachTold Pushes old attach result new;
  flow_gives = λ old handle flow result new. FlowTold Pushes old handle flow result new;
  transfer_gives = λ old transfer payload result new. TransferTold Pushes old transfer payload result new;
  disposition_gives = λ old role settled state tag result new. DispositionTold Pushes Misses old role settled state tag result new;
  detach_gives = λ old handle detach remote_initiated result new. DetachTold Pushes Misses old handle detach remote_initiated result new;
}

-- it was missed, whatever the cause
uncaused : {A B : Type 0} → A ⊎ (B × SomeRefused) → A ⊎ B
uncaused (inl a) = inl a
uncaused (inr b) = inr b.0

pub run_gives : (old new : Queued) (ts : List Told) → Run gives_queued old ts new → RunGives old ts new
run_gives old new [] h = record { events = []; missed = 0; are_of = (refl, refl); queue = ap (λ (q : Queued). q.sink) h ∙ ap (λ es. record old.sink { events = es }) (sym (append-nil old.sink.events)) }
run_gives old new (ToldAttach a result ∷ ts) (m, h, run) =
    let r = run_gives m new ts run in
    let g = if_taken result old m new (attached old.link a) ts (told_alone result old m (attached old.link a) h) r in
    record { events = g.0; missed = r.missed; are_of = g.1; queue = g.2 }
run_gives old new (ToldFlow output f result ∷ ts) (m, h, run) =
    let r = run_gives m new ts run in
    let g = if_taken result old m new (flowed old.link output f) ts h.0 r in
    record { events = g.0; missed = r.missed; are_of = g.1; queue = g.2 }
run_gives old new (ToldTransfer t payload result ∷ ts) (m, h, run) =
    let r = run_gives m new ts run in
    let g = transfer_next old.policy.role old m new t payload result ts h r in
    record { events = g.0; missed = r.missed; are_of = g.1; queue = g.2 }
run_gives old new (ToldDisposition role settled state tag answer ∷ ts) (m, h, run) =
    let g = disposition_next old m new (disposed old.link role settled state tag) ts h.1.0 (uncaused h.2) (run_gives m new ts run) in
    record { events = g.events; missed = g.missed; are_of = g.are_of; queue = g.queue }
run_gives old new (ToldDetach output d remote_initiated answer ∷ ts) (m, h, run) =
    let g = heard old m new (detached old.link output d remote_initiated) ts h.1.0 h.2 (run_gives m new ts run) in
    record { events = g.events; missed = g.missed; are_of = g.are_of; queue = g.queue }
