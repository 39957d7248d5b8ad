-- The history of a call.
use Rattle.std.proofs.Common.{◌≡◌, ◌⊎◌, inl, inr, ℕ, List, [], ◌∷◌, ◌++◌, Bool, true, if◌then◌else◌, Option, Some, None, refl, ap, sym, subst, ◌∙◌, append_assoc}
use Rattle.std.proofs.lemmas.List.{append-nil}
use Rattle.amqp_types.specs.declared.states.ConnectionState.{ConnectionState}
use Rattle.amqp_types.specs.Open.{OpenModel}
use Rattle.amqp_session.specs.Numbers.{number_after}
use Rattle.amqp_session.specs.Relay.{Relays}
use Rattle.amqp_session.specs.Sending.{number_shown}
use Rattle.amqp_session.specs.Session.{SessionView}
use Rattle.amqp_engine.specs.declared.engine.input.Input.{Input}
use Rattle.amqp_engine.specs.declared.engine.refusal.Refusal.{Refusal}
use Rattle.amqp_engine.specs.declared.engine.step_error.StepError.{StepError}
use Rattle.amqp_engine.specs.ByHistory.{of_session}
use Rattle.amqp_engine.specs.EngineView.{EngineView}
use Rattle.amqp_engine.specs.Entry.{Entry}
use Rattle.amqp_engine.specs.Legal.{Legal}
use Rattle.amqp_engine.specs.Numbers.{EngineShows}
use Rattle.amqp_engine.specs.Promise.{inputs_of}
use Rattle.amqp_driver.specs.Driver.{DriverView, NotRun, Runs, SendsOnly}
use Rattle.amqp_driver.specs.declared.head.Broken.{Broken}
use Rattle.amqp_driver.specs.declared.head.Sent.{Sent}
use Rattle.amqp_driver.specs.declared.head.TransferHead.{TransferHead}
use Rattle.amqp_driver.specs.Heads.{has, input_of, number_in, sent_by, sent_of}
use Rattle.amqp_driver.specs.Laws.{NumbersAreTold, asked_entries, entries_of}
use Rattle.amqp_driver.specs.Requests.{RunsInput}
use Rattle.amqp_driver.specs.Sending.{Handled, HandlesBy, HandlesEach, left_behind}
use Rattle.amqp_driver.specs.Taking.{Answered, RunsEach, listed}
use Rattle.amqp_driver.specs.Told.{session_at}

-- the entry of one frame goes on
pub one_goes_on : {R : Type 0} (g : Relays R) (d d' : DriverView R) (frame : List ℕ) (e : Entry R) → Runs g d frame e d'
    → (s : ConnectionState) (o : OpenModel) (H : List (Entry R)) → Legal g s o H d.engine → Legal g s o (H ++ e ∷ []) d'.engine
one_goes_on g d d' frame e r s o H l =
    let x : Legal g s o (H ++ r.ran.one.ran.entries) d'.engine = (r.ran.one.ran.promise.goes_on s o H l).0 in
    let y : Legal g s o (H ++ r.ran.one.entry ∷ []) d'.engine = subst (λ (es : List (Entry _)). Legal g s o (H ++ es) d'.engine) r.ran.one.entry_is x in
    subst (λ (z : Entry _). Legal g s o (H ++ z ∷ []) d'.engine) r.entry_is y

pub each_goes_on : {R : Type 0} (g : Relays R) (limit : ℕ) (d d' : DriverView R) (rs : List (Answered R)) → RunsEach g limit d rs d'
    → (s : ConnectionState) (o : OpenModel) (H : List (Entry R)) → Legal g s o H d.engine → Legal g s o (H ++ entries_of rs) d'.engine
each_goes_on g limit d d' [] r s o H l =
    subst (λ (es : List (Entry _)). Legal g s o es d'.engine) (sym (append-nil H)) (subst (λ (x : DriverView _). Legal g s o H x.engine) (sym r) l)
each_goes_on g limit d d' (a ∷ rest) r s o H l =
    let y : Legal g s o (H ++ a.entry ∷ []) r.0.engine = one_goes_on g d r.0 _ a.entry r.4 s o H l in
    subst (λ (es : List (Entry _)). Legal g s o es d'.engine) (append_assoc H (a.entry ∷ []) (entries_of rest))
    (each_goes_on g limit r.0 d' rest r.5 s o (H ++ a.entry ∷ []) y)

-- a run of no input has no entry
pub no_entries : {R : Type 0} (es : List (Entry R)) → [] ≡ inputs_of es ++ [] → es ≡ []
no_entries [] e = refl
no_entries (x ∷ es) e = let k : [] ≡ x.input ∷ (inputs_of es ++ []) = e in absurd cc

-- where only what waited was sent, the history stays
pub sends_stays : {R : Type 0} (g : Relays R) (d d' : DriverView R) → SendsOnly g d d'
    → (s : ConnectionState) (o : OpenModel) (H : List (Entry R)) → Legal g s o H d.engine → Legal g s o H d'.engine
sends_stays g d d' x s o H l =
    let ran = x.1.1 in
    let y : Legal g s o (H ++ ran.entries) d'.engine = (ran.promise.goes_on s o H l).0 in
    subst (λ (es : List (Entry _)). Legal g s o es d'.engine) (append-nil H)
    (subst (λ (es : List (Entry _)). Legal g s o (H ++ es) d'.engine) (no_entries ran.entries ran.promise.taken) y)

pub rest_stays : {R : Type 0} (g : Relays R) (k d' : DriverView R) → (d' ≡ k) ⊎ NotRun g k d'
    → (s : ConnectionState) (o : OpenModel) (H : List (Entry R)) → Legal g s o H k.engine → Legal g s o H d'.engine
rest_stays g k d' (inl e) s o H l = subst (λ (x : DriverView _). Legal g s o H x.engine) (sym e) l
rest_stays g k d' (inr (was, inl e)) s o H l = subst (λ (x : DriverView _). Legal g s o H x.engine) (sym e) l
rest_stays g k d' (inr (was, inr x)) s o H l = sends_stays g k d' x s o H l

-- ---- transfers

-- the entry of one input goes on
pub input_goes_on : {R : Type 0} (g : Relays R) (d d' : DriverView R) (i : Input R) (e : Entry R) (returned : List Refusal) → RunsInput g d i e returned d'
    → (s : ConnectionState) (o : OpenModel) (H : List (Entry R)) → Legal g s o H d.engine → Legal g s o (H ++ e ∷ []) d'.engine
input_goes_on g d d' i e returned r s o H l =
    let x : Legal g s o (H ++ r.ran.ran.entries) d'.engine = (r.ran.ran.promise.goes_on s o H l).0 in
    let y : Legal g s o (H ++ r.ran.entry ∷ []) d'.engine = subst (λ (es : List (Entry _)). Legal g s o (H ++ es) d'.engine) r.ran.entry_is x in
    subst (λ (z : Entry _). Legal g s o (H ++ z ∷ []) d'.engine) r.entry_is y

-- those of one head
head_goes_on : {R : Type 0} (g : Relays R) (d d' : DriverView R) (b : Option Broken) (h : TransferHead) (bytes : List ℕ) (e : Option (Entry R)) (sent : Sent)
    → HandlesBy g d b h bytes e sent d' → (s : ConnectionState) (o : OpenModel) (H : List (Entry R)) → Legal g s o H d.engine
    → Legal g s o (H ++ listed e) d'.engine
head_goes_on g d d' b h bytes None sent x s o H l =
    subst (λ (es : List (Entry _)). Legal g s o es d'.engine) (sym (append-nil H)) (subst (λ (y : DriverView _). Legal g s o H y.engine) (sym x.3) l)
head_goes_on g d d' b h bytes (Some e) sent x s o H l = input_goes_on g d d' (input_of d.engine h bytes) e x.0 x.2 s o H l

pub heads_go_on : {R : Type 0} (g : Relays R) (d d' : DriverView R) (b : Option Broken) (xs : List (Handled R)) → HandlesEach g d b xs d'
    → (s : ConnectionState) (o : OpenModel) (H : List (Entry R)) → Legal g s o H d.engine → Legal g s o (H ++ asked_entries xs) d'.engine
heads_go_on g d d' b [] x s o H l =
    subst (λ (es : List (Entry _)). Legal g s o es d'.engine) (sym (append-nil H)) (subst (λ (y : DriverView _). Legal g s o H y.engine) (sym x) l)
heads_go_on g d d' b (a ∷ rest) x s o H l =
    let y : Legal g s o (H ++ listed a.entry) x.0.engine = head_goes_on g d x.0 b a.head a.bytes a.entry a.sent x.3 s o H l in
    subst (λ (es : List (Entry _)). Legal g s o es d'.engine) (append_assoc H (listed a.entry) (asked_entries rest))
    (heads_go_on g x.0 d' (left_behind b a.head a.sent) rest x.4 s o (H ++ listed a.entry) y)

-- ---- the number that is told

-- the driver before a head, and what was done with it
met : {R : Type 0} (g : Relays R) (d k : DriverView R) (left : Option Broken) (before after : List (Handled R)) (x : Handled R) → HandlesEach g d left (before ++ x ∷ after) k
    → (m n : DriverView R) × (b : Option Broken) × HandlesEach g d left before m × HandlesBy g m b x.head x.bytes x.entry x.sent n
met g d k left [] after x h = (d, h.0, left, refl, h.3)
met g d k left (a ∷ before) after x h =
    let r = met g h.0 k (left_behind left a.head a.sent) before after x h.4 in (r.0, r.1, r.2, (h.0, h.1, h.2, h.3, r.3), r.4)

-- a session that is there shows the number that it tells of a first transfer
told_number : {R : Type 0} (v : EngineView R) (h : TransferHead) (t : SessionView R) (n : ℕ) → session_at v (Some h.session) ≡ Some t → number_shown t.sending ≡ n
    → has h.flags 1 ≡ true → sent_of v h None ≡ record { number = n; refusal = 0 }
told_number v h t n at is first =
    ap (λ (y : Option (SessionView _)). sent_by None (number_in y (has h.flags 1))) at
    ∙ ap (λ (b : Bool). sent_by None (if b then number_shown t.sending else 0)) first
    ∙ ap (λ (m : ℕ). sent_by None m) is

pub numbers_are_told : {R : Type 0} (g : Relays R) → EngineShows g → NumbersAreTold g
numbers_are_told g shows d k before after x e h entry accepted first s o H l m there =
    let r = met g d k None before after x h in
    let there_now : Legal g s o (H ++ asked_entries before) r.0.engine = heads_go_on g d r.0 None before r.3 s o H l in
    let t = shows s o (H ++ asked_entries before) r.0.engine there_now x.head.session m there in
    let run : HandlesBy g r.0 r.2 x.head x.bytes (Some e) x.sent r.1 = subst (λ (y : Option (Entry _)). HandlesBy g r.0 r.2 x.head x.bytes y x.sent r.1) entry r.4 in
    run.3 ∙ ap (λ (y : Option StepError). sent_of r.0.engine x.head y) accepted
    ∙ told_number r.0.engine x.head t.0 (number_after (of_session x.head.session (H ++ asked_entries before))) t.1 t.2 first
