-- Part: other calls.
-- What a session's history tells the relay of a link, from the peer's attach to its detach.
use Rattle.std.specs.Prelude.{◌≡◌, ℕ, Bool, true, not, nat_eq, if◌then◌else◌, List, [], ◌∷◌, ◌++◌, All, Option, Some, Result, Ok}
use Rattle.amqp_types.specs.Attach.{AttachModel}
use Rattle.amqp_types.specs.Detach.{DetachModel}
use Rattle.amqp_session.specs.declared.link.AttachedLink.{AttachedLink}
use Rattle.amqp_session.specs.declared.error.SessionInnerError.{SessionInnerError}
use Rattle.amqp_session.specs.Relay.{Relays, AttachQuestion, DispositionQuestion, DetachQuestion}
use Rattle.amqp_session.specs.Session.{SessionView}
use Rattle.amqp_session.specs.History.{SessionCall, Made, LeadsTo, AllocatesIncomingLink, TakesAttach, TakesFlow, TakesTransfer, TakesDisposition, TakesDetach}
use Rattle.amqp_session.specs.Linked.{live_at, input_at, speaks_of}
use Rattle.amqp_session.specs.Linking.{WaitsFor}
use Rattle.amqp_events.specs.Runs.{Told, ToldAttach, ToldFlow, ToldTransfer, ToldDisposition, ToldDetach, Queued, RunGives}

-- ---- what the relay under an input handle is told

-- the questions of a disposition that are of deliveries under the handle
abbrev pub told_of : ℕ → List (DispositionQuestion Queued) → List Told
told_of h [] = []
told_of h (q ∷ qs) =
    (if nat_eq h q.asked.delivery.input_handle.0
    then ToldDisposition q.asked.role q.asked.settled q.asked.state q.asked.delivery.tag q.answer ∷ [] else [])
    ++ told_of h qs

abbrev pub told_by : ℕ → SessionCall Queued → List Told
told_by h (TakesFlow f (Some q) result) = if speaks_of h f.handle then ToldFlow q.handle q.asked q.answer ∷ [] else []
told_by h (TakesTransfer t payload (Some q) result) = if nat_eq h t.handle then ToldTransfer q.asked.0 q.asked.1 q.answer ∷ [] else []
told_by h (TakesDisposition d asked result) = told_of h asked
told_by h e = []

abbrev pub told_in : ℕ → List (SessionCall Queued) → List Told
told_in h [] = []
told_in h (e ∷ es) = told_by h e ++ told_in h es

-- ---- while one relay stands there

-- no other one is put there, and no detach of the peer's takes it away
abbrev pub stays_under : ℕ → SessionCall Queued → Bool
stays_under h (AllocatesIncomingLink name relay input (Ok k)) = not (nat_eq h input.0)
stays_under h (TakesAttach a (Some q) (Ok u)) = not (nat_eq h a.handle)
stays_under h (TakesDetach d (Some q) result) = not (nat_eq h d.handle)
stays_under h e = true

abbrev pub StaysUnder : ℕ → SessionCall Queued → Type 0
StaysUnder h e = stays_under h e ≡ true

-- it stands there afterwards too, and its queue holds what it held, and after that the events of what it was told meanwhile
pub record HearsAll (h : ℕ) (H : List (SessionCall Queued)) (link : AttachedLink Queued) (told : List Told) : Type 0 where
  pub after : Queued
  pub stands : input_at h H ≡ Some (record link { relay = after })
  pub events : RunGives link.relay told after

-- ---- the law, of every history of a session

abbrev pub Hears : Relays Queued → Type 0
Hears g = (m : Made) (w : SessionView Queued) (before es : List (SessionCall Queued)) (h : ℕ) (link : AttachedLink Queued)
    → LeadsTo g m (before ++ es) w → input_at h before ≡ Some link → All (StaysUnder h) es → HearsAll h (before ++ es) link (told_in h es)

-- the relay that waits under the name is told the peer's attach
abbrev pub HearsAttach : Relays Queued → Type 0
HearsAttach g = (m : Made) (w : SessionView Queued) (before after : List (SessionCall Queued)) (a : AttachModel) (q : AttachQuestion Queued)
    (result : Result (Unit {0}) SessionInnerError) → LeadsTo g m (before ++ TakesAttach a (Some q) result ∷ after) w
    → WaitsFor (live_at a.name before) q.handle q.before
    × RunGives q.before (ToldAttach a q.answer ∷ []) q.after

-- the one that stands under the handle is told the peer's detach
abbrev pub HearsDetach : Relays Queued → Type 0
HearsDetach g = (m : Made) (w : SessionView Queued) (before after : List (SessionCall Queued)) (d : DetachModel) (q : DetachQuestion Queued)
    (result : Result (Option DetachModel) SessionInnerError) → LeadsTo g m (before ++ TakesDetach d (Some q) result ∷ after) w
    → (input_at d.handle before ≡ Some (record { handle = q.handle; relay = q.before }))
    × RunGives q.before (ToldDetach q.handle d q.asked.1 q.answer ∷ []) q.after
