-- The history of an answer to a Begin of the peer's, or to an End.
use Rattle.std.proofs.Common.{◌≡◌, ◌⊎◌, ◌≤◌, ◌^◌, inl, inr, ℕ, List, [], ◌∷◌, ◌++◌, Option, sym, subst, append_assoc}
use Rattle.std.proofs.lemmas.List.{append-nil}
use Rattle.amqp_types.specs.declared.states.ConnectionState.{ConnectionState}
use Rattle.amqp_types.specs.Open.{OpenModel}
use Rattle.amqp_session.specs.Relay.{Relays}
use Rattle.amqp_session.specs.Settings.{SettingsModel}
use Rattle.amqp_connection.specs.declared.numbers.SessionNo.{SessionNo}
use Rattle.amqp_engine.specs.EngineView.{EngineView}
use Rattle.amqp_engine.specs.Entry.{Entry}
use Rattle.amqp_engine.specs.Legal.{Legal}
use Rattle.amqp_engine.specs.Stepped.{entry_of}
use Rattle.amqp_driver.specs.declared.answered.BeginAnswer.{BeginAnswer}
use Rattle.amqp_driver.specs.declared.answered.BeginAnswer.TheVariants as answer
use Rattle.amqp_types.specs.Error.{ErrorModel}
use Rattle.amqp_engine.specs.declared.engine.input.Input.{Input}
use Rattle.amqp_engine.specs.declared.engine.input.Input.TheVariants as input
use Rattle.amqp_driver.specs.declared.answered.EndAnswer.{EndAnswer}
use Rattle.amqp_driver.specs.declared.answered.EndAnswer.TheVariants as end
use Rattle.amqp_driver.specs.declared.asked.Asked.{Asked}
use Rattle.amqp_driver.specs.declared.asked.Asked.TheVariants as asked
use Rattle.amqp_driver.specs.Ending.{AnswersEnd, Forgets, LetsGo, asked_entry, end_entries, forget_entries, let_go_entries}
use Rattle.amqp_driver.specs.Requests.{Requests}
use Rattle.amqp_driver.specs.Answering.{AnswersBegin, Offers, TakesOut, begin_entries, text_size}
use Rattle.amqp_driver.specs.Driver.{DriverView, NotTaken}
use Rattle.amqp_driver.specs.Turn.{answering}
use Rattle.amqp_driver.proofs.LawLemmas.{input_goes_on, one_goes_on, rest_stays, sends_stays}

-- what frames that wait, or one that is thrown away, leave
taken_stays : {R : Type 0} (g : Relays R) (v w : EngineView R) → (w ≡ v) ⊎ TakesOut g v w
    → (s : ConnectionState) (o : OpenModel) (H : List (Entry R)) → Legal g s o H v → Legal g s o H w
taken_stays g v w (inl e) s o H l = subst (λ (x : EngineView _). Legal g s o H x) (sym e) l
taken_stays g v w (inr x) s o H l = x.1 s o H l

-- what goes on by one step
offer_goes_on : {R : Type 0} (g : Relays R) (d d' : DriverView R) (remote : ℕ) (number : SessionNo) (settings : SettingsModel) (channel : ℕ)
    (x : Offers g d remote number settings channel d') (s : ConnectionState) (o : OpenModel) (H : List (Entry R)) → Legal g s o H d.engine
    → Legal g s o (H ++ entry_of x.begins.stepped.step ∷ []) d'.engine
offer_goes_on g d d' remote number settings channel x s o H l =
    taken_stays g x.begun d'.engine (inr x.taken) s o (H ++ entry_of x.begins.stepped.step ∷ [])
    (x.begins.stepped.goes_on s o H (sends_stays g d x.first x.sent.sent s o H l)).0

nothing_more : {R : Type 0} (g : Relays R) (v : EngineView R) (s : ConnectionState) (o : OpenModel) (H : List (Entry R)) → Legal g s o H v → Legal g s o (H ++ []) v
nothing_more g v s o H l = subst (λ (es : List (Entry _)). Legal g s o es v) (sym (append-nil H)) l

pub begins_go_on : {R : Type 0} (g : Relays R) (d d' : DriverView R) (frame : List ℕ) (number : SessionNo) (settings : SettingsModel) (a : BeginAnswer)
    (x : AnswersBegin g d frame number settings a d') (s : ConnectionState) (o : OpenModel) (H : List (Entry R)) → Legal g s o H d.engine
    → Legal g s o (H ++ begin_entries g d frame number settings a d' x) d'.engine
begins_go_on g d d' frame number settings answer.Done x s o H l =
    let y = offer_goes_on g d x.between x.remote number settings x.channel x.offers s o H l in
    subst (λ (es : List (Entry _)). Legal g s o es d'.engine) (append_assoc H (entry_of x.offers.begins.stepped.step ∷ []) (x.takes.entry ∷ []))
    (one_goes_on g x.between d' x.takes.bytes x.takes.entry x.takes.runs s o (H ++ entry_of x.offers.begins.stepped.step ∷ []) y)
begins_go_on g d d' frame number settings (answer.Unread e) x s o H l =
    nothing_more g d'.engine s o H (subst (λ (y : DriverView _). Legal g s o H y.engine) (sym x.1) l)
begins_go_on g d d' frame number settings answer.NotOpened x s o H l =
    nothing_more g d'.engine s o H (subst (λ (y : DriverView _). Legal g s o H y.engine) (sym x.3) l)
begins_go_on g d d' frame number settings answer.ChannelInUse x s o H l =
    nothing_more g d'.engine s o H (subst (λ (y : DriverView _). Legal g s o H y.engine) (sym x.4) l)
begins_go_on g d d' frame number settings answer.TooLarge x s o H l =
    nothing_more g d'.engine s o H (subst (λ (y : DriverView _). Legal g s o H y.engine) (sym x.4) l)
begins_go_on g d d' frame number settings answer.NoMemory x s o H l = nothing_more g d'.engine s o H (rest_stays g d d' (inr x) s o H l)
begins_go_on g d d' frame number settings (answer.Refused e) x s o H l =
    (x.3.stepped.goes_on s o H (sends_stays g d x.3.first x.3.sent.sent s o H l)).0
begins_go_on g d d' frame number settings answer.Lost x s o H l =
    taken_stays g x.3.begun d'.engine x.3.left s o (H ++ entry_of x.3.begins.stepped.step ∷ [])
    (x.3.begins.stepped.goes_on s o H (sends_stays g d x.3.first x.3.sent.sent s o H l)).0
begins_go_on g d d' frame number settings answer.Broken x s o H l =
    broken x.why (offer_goes_on g d x.between x.remote number settings x.channel x.offers s o H l)
  where
    broken : NotTaken g x.between d' ⊎ ((2 ^ 32 ≤ text_size (answering x.channel x.theirs)) × (d' ≡ x.between))
        → Legal g s o (H ++ entry_of x.offers.begins.stepped.step ∷ []) x.between.engine
        → Legal g s o (H ++ entry_of x.offers.begins.stepped.step ∷ []) d'.engine
    broken (inl y) k = sends_stays g x.between d' y.1 s o (H ++ entry_of x.offers.begins.stepped.step ∷ []) k
    broken (inr y) k = subst (λ (z : DriverView _). Legal g s o (H ++ entry_of x.offers.begins.stepped.step ∷ []) z.engine) (sym y.1) k

-- ---- the answer to an End

asked_goes_on : {R : Type 0} (g : Relays R) (d d' : DriverView R) (i : Input R) (a : Asked) (x : Requests g d i a d')
    (s : ConnectionState) (o : OpenModel) (H : List (Entry R)) → Legal g s o H d.engine → Legal g s o (H ++ asked_entry g d i a d' x) d'.engine
asked_goes_on g d d' i asked.NoMemory x s o H l = nothing_more g d'.engine s o H (sends_stays g d d' x.1 s o H l)
asked_goes_on g d d' i asked.Over x s o H l = absurd x
asked_goes_on g d d' i asked.Done x s o H l = input_goes_on g d d' i x.0 x.1 x.2 s o H l
asked_goes_on g d d' i asked.TooLarge x s o H l = input_goes_on g d d' i x.0 x.1 x.2 s o H l
asked_goes_on g d d' i (asked.Refused e) x s o H l = input_goes_on g d d' i x.0 x.1 x.2 s o H l

-- one more step behind those of a request
then_goes_on : {R : Type 0} (g : Relays R) (v : EngineView R) (s : ConnectionState) (o : OpenModel) (H es fs : List (Entry R))
    → Legal g s o ((H ++ es) ++ fs) v → Legal g s o (H ++ (es ++ fs)) v
then_goes_on g v s o H es fs l = subst (λ (xs : List (Entry _)). Legal g s o xs v) (append_assoc H es fs) l

forget_goes_on : {R : Type 0} (g : Relays R) (d d' : DriverView R) (n : SessionNo) (a : EndAnswer) (x : Forgets g d n a d')
    (s : ConnectionState) (o : OpenModel) (H : List (Entry R)) → Legal g s o H d.engine → Legal g s o (H ++ forget_entries g d n a d' x) d'.engine
forget_goes_on g d d' n end.Done x s o H l = asked_goes_on g d d' (input.Forget n) asked.Done x s o H l
forget_goes_on g d d' n (end.NotForgotten a) x s o H l = asked_goes_on g d d' (input.Forget n) a x.0 s o H l
forget_goes_on g d d' n end.NotEnded x s o H l = absurd x
forget_goes_on g d d' n (end.Unsent a) x s o H l = absurd x
forget_goes_on g d d' n (end.NotReleased a) x s o H l = absurd x

let_go_on : {R : Type 0} (g : Relays R) (d d' : DriverView R) (n : SessionNo) (a : EndAnswer) (x : LetsGo g d n a d')
    (s : ConnectionState) (o : OpenModel) (H : List (Entry R)) → Legal g s o H d.engine → Legal g s o (H ++ let_go_entries g d n a d' x) d'.engine
let_go_on g d d' n (end.NotReleased a) x s o H l = asked_goes_on g d d' (input.Release n) a x.0 s o H l
let_go_on g d d' n end.Done x s o H l =
    then_goes_on g d'.engine s o H (asked_entry g d (input.Release n) asked.Done x.0 x.1) (forget_entries g x.0 n end.Done d' x.2)
    (forget_goes_on g x.0 d' n end.Done x.2 s o (H ++ asked_entry g d (input.Release n) asked.Done x.0 x.1)
    (asked_goes_on g d x.0 (input.Release n) asked.Done x.1 s o H l))
let_go_on g d d' n (end.NotForgotten a) x s o H l =
    then_goes_on g d'.engine s o H (asked_entry g d (input.Release n) asked.Done x.0 x.1) (forget_entries g x.0 n (end.NotForgotten a) d' x.2)
    (forget_goes_on g x.0 d' n (end.NotForgotten a) x.2 s o (H ++ asked_entry g d (input.Release n) asked.Done x.0 x.1)
    (asked_goes_on g d x.0 (input.Release n) asked.Done x.1 s o H l))
let_go_on g d d' n end.NotEnded x s o H l = absurd x.2
let_go_on g d d' n (end.Unsent a) x s o H l = absurd x.2

-- this side's End, and then the session is let go
both_go_on : {R : Type 0} (g : Relays R) (d k d' : DriverView R) (n : SessionNo) (error : Option ErrorModel) (a : EndAnswer)
    (r : Requests g d (input.End n error) asked.Done k) (x : LetsGo g k n a d') (s : ConnectionState) (o : OpenModel) (H : List (Entry R))
    → Legal g s o H d.engine
    → Legal g s o (H ++ (asked_entry g d (input.End n error) asked.Done k r ++ let_go_entries g k n a d' x)) d'.engine
both_go_on g d k d' n error a r x s o H l =
    then_goes_on g d'.engine s o H (asked_entry g d (input.End n error) asked.Done k r) (let_go_entries g k n a d' x)
    (let_go_on g k d' n a x s o (H ++ asked_entry g d (input.End n error) asked.Done k r)
    (asked_goes_on g d k (input.End n error) asked.Done r s o H l))

pub ends_go_on : {R : Type 0} (g : Relays R) (d d' : DriverView R) (n : SessionNo) (error : Option ErrorModel) (a : EndAnswer)
    (x : AnswersEnd g d n error a d') (s : ConnectionState) (o : OpenModel) (H : List (Entry R)) → Legal g s o H d.engine
    → Legal g s o (H ++ end_entries g d n error a d' x) d'.engine
ends_go_on g d d' n error end.NotEnded x s o H l =
    nothing_more g d'.engine s o H (subst (λ (y : DriverView _). Legal g s o H y.engine) (sym x.1) l)
ends_go_on g d d' n error (end.Unsent a) x s o H l = asked_goes_on g d d' (input.End n error) a x.1.0 s o H l
ends_go_on g d d' n error end.Done x s o H l = both_go_on g d x.0 d' n error end.Done x.2 x.3 s o H l
ends_go_on g d d' n error (end.NotReleased a) x s o H l = both_go_on g d x.0 d' n error (end.NotReleased a) x.2 x.3 s o H l
ends_go_on g d d' n error (end.NotForgotten a) x s o H l = both_go_on g d x.0 d' n error (end.NotForgotten a) x.2 x.3 s o H l
