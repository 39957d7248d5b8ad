-- What a stream has to send, as it is sent.
use Rattle.std.proofs.Common.{◌≡◌, ◌==◌, ℕ, ◌+◌, ◌-◌, ◌≤◌, List, [], ◌∷◌, ◌++◌, drop, length, Bool, true, false, Option, Some, None, refl, sym, ap, ◌∙◌, inl, inr, append_assoc, arith}
use Rattle.std.proofs.lemmas.Bool.{cases_lt, eqb-true}
use Rattle.std.proofs.lemmas.List.{append-nil, drop-append-le, drop-drop, drop_all, length-drop}
use Rattle.std.proofs.Math.Seq.{drop-append-add}
use Rattle.amqp_types.specs.declared.definitions.Role.{Role}
use Rattle.amqp_types.specs.Error.{ErrorModel}
use Rattle.amqp_session.specs.Relay.{Relays}
use Rattle.amqp_session.specs.Settings.{SettingsModel}
use Rattle.amqp_connection.specs.declared.numbers.SessionNo.{SessionNo}
use Rattle.amqp_engine.specs.declared.engine.input.Input.{Input}
use Rattle.amqp_engine.specs.declared.engine.refusal.Refusal.{Refusal}
use Rattle.amqp_engine.specs.Entry.{Entry}
use Rattle.amqp_sasl.specs.Opening.{is_done}
use Rattle.amqp_driver.specs.declared.answered.BeginAnswer.{BeginAnswer}
use Rattle.amqp_driver.specs.declared.answered.BeginAnswer.TheVariants as answer
use Rattle.amqp_driver.specs.declared.answered.EndAnswer.{EndAnswer}
use Rattle.amqp_driver.specs.declared.answered.EndAnswer.TheVariants as end
use Rattle.amqp_driver.specs.declared.asked.Asked.{Asked}
use Rattle.amqp_driver.specs.declared.asked.Asked.TheVariants as asked
use Rattle.amqp_driver.specs.declared.head.Broken.{Broken}
use Rattle.amqp_driver.specs.declared.head.Sent.{Sent}
use Rattle.amqp_driver.specs.declared.head.TransferHead.{TransferHead}
use Rattle.amqp_driver.specs.declared.record.Record.{Record}
use Rattle.amqp_driver.specs.declared.status.Status.{Status}
use Rattle.amqp_driver.specs.declared.status.Status.TheVariants as status
use Rattle.amqp_driver.specs.Answering.{AnswersBegin, Offers}
use Rattle.amqp_driver.specs.Driver.{DriverView, NotRun, SendsOnly}
use Rattle.amqp_driver.specs.Ending.{AnswersEnd, Forgets, LetsGo}
use Rattle.amqp_driver.specs.Heads.{input_of}
use Rattle.amqp_driver.specs.Requests.{Requests, RunsInput}
use Rattle.amqp_driver.specs.Sending.{Handled, HandlesBy, HandlesEach, Sends, left_behind}
use Rattle.amqp_driver.specs.Settling.{Disposes}
use Rattle.amqp_driver.specs.Taking.{Answered, RunsEach, Takes}
use Rattle.amqp_driver.specs.Stream.{StreamView, beat_bytes, empty_frame, frames_if, having_sent, waiting}
use Rattle.amqp_driver.specs.StreamTaking.{ClosesFor, ClosesIf}

-- what is dropped of two lists, one after the other
pub drop_both : (n : ℕ) (xs ys : List ℕ) → drop n (xs ++ ys) ≡ drop n xs ++ drop (n - length xs) ys
drop_both n xs ys =
    elim (cases_lt (length xs) n) [
      | inl past ↦
          let split : n ≡ length xs + (n - length xs) = omega arith in
          ap (λ (k : ℕ). drop k (xs ++ ys)) split ∙ drop-append-add xs ys (n - length xs)
          ∙ ap (λ (zs : List ℕ). zs ++ drop (n - length xs) ys) (sym (drop_all n xs (omega arith)))
      | inr within ↦
          let none : 0 ≡ n - length xs = omega arith in
          drop-append-le n xs ys within ∙ ap (λ (k : ℕ). drop n xs ++ drop k ys) none
    ]

pub length_beat : (b : ℕ) → b ≤ 8 → length (beat_bytes b) ≡ b
length_beat b most = length-drop (8 - b) empty_frame ∙ omega arith

pub drop_beat : (k b : ℕ) → b ≤ 8 → drop k (beat_bytes b) ≡ beat_bytes (b - k)
drop_beat k b most =
    drop-drop k (8 - b) empty_frame ∙ elim (cases_lt b k) [
      | inl past ↦ drop_all (8 - b + k) empty_frame (omega arith) ∙ sym (drop_all (8 - (b - k)) empty_frame (omega arith))
      | inr within ↦ let same : 8 - b + k ≡ 8 - (b - k) = omega arith in ap (λ (n : ℕ). drop n empty_frame) same
    ]

pub drop_frames : {R : Type 0} (n : ℕ) (v : StreamView R) → v.beat ≤ 8
    → drop n (beat_bytes v.beat ++ v.driver.to_send) ≡ beat_bytes (v.beat - n) ++ drop (n - v.beat) v.driver.to_send
drop_frames n v most =
    drop_both n (beat_bytes v.beat) v.driver.to_send
    ∙ ap (λ (xs : List ℕ). xs ++ drop (n - length (beat_bytes v.beat)) v.driver.to_send) (drop_beat n v.beat most)
    ∙ ap (λ (k : ℕ). beat_bytes (v.beat - n) ++ drop (n - k) v.driver.to_send) (length_beat v.beat most)

drop_where : {R : Type 0} (is_open : Bool) (n : ℕ) (v : StreamView R) → v.beat ≤ 8
    → drop n v.first ++ frames_if is_open (having_sent n v) ≡ drop n (v.first ++ frames_if is_open v)
drop_where false n v most = append-nil (drop n v.first) ∙ ap (λ (xs : List ℕ). drop n xs) (sym (append-nil v.first))
drop_where true n v most =
    ap (λ (xs : List ℕ). drop n v.first ++ xs) (sym (drop_frames (n - length v.first) v most))
    ∙ sym (drop_both n v.first (beat_bytes v.beat ++ v.driver.to_send))

-- what waits after some went out is what is left of what waited
pub sent_waits : {R : Type 0} (n : ℕ) (v : StreamView R) → v.beat ≤ 8 → waiting (having_sent n v) ≡ drop n (waiting v)
sent_waits n v most = drop_where (is_done v.opening.phase) n v most

-- ---- what the driver appends to what it has to send

abbrev pub More : {R : Type 0} → DriverView R → DriverView R → Type 0
More d d' = (more : List ℕ) × (d'.to_send ≡ d.to_send ++ more)

pub no_more : {R : Type 0} (d d' : DriverView R) → d' ≡ d → More d d'
no_more d d' same = ([], ap (λ (x : DriverView _). x.to_send) same ∙ sym (append-nil d.to_send))

pub more_still : {R : Type 0} (d k d' : DriverView R) → More d k → More k d' → More d d'
more_still d k d' a b = (a.0 ++ b.0, b.1 ∙ ap (λ (x : List ℕ). x ++ b.0) a.1 ∙ append_assoc d.to_send a.0 b.0)

pub sends_more : {R : Type 0} (g : Relays R) (d d' : DriverView R) → SendsOnly g d d' → More d d'
sends_more g d d' x = (_, x.1.2)

not_run_more : {R : Type 0} (g : Relays R) (d d' : DriverView R) → NotRun g d d' → More d d'
not_run_more g d d' (was, inl same) = no_more d d' same
not_run_more g d d' (was, inr sent) = sends_more g d d' sent

input_more : {R : Type 0} (g : Relays R) (d d' : DriverView R) (i : Input R) (e : Entry R) (returned : List Refusal) → RunsInput g d i e returned d' → More d d'
input_more g d d' i e returned r = (_, r.ran.sent)

pub requests_more : {R : Type 0} (g : Relays R) (d : DriverView R) (i : Input R) (a : Asked) (d' : DriverView R) → Requests g d i a d' → More d d'
requests_more g d i asked.NoMemory d' x = sends_more g d d' x.1
requests_more g d i asked.Over d' x = absurd x
requests_more g d i asked.Done d' x = input_more g d d' i x.0 x.1 x.2
requests_more g d i asked.TooLarge d' x = input_more g d d' i x.0 x.1 x.2
requests_more g d i (asked.Refused e) d' x = input_more g d d' i x.0 x.1 x.2

pub closes_more : {R : Type 0} (g : Relays R) (condition : List ℕ) (d d' : DriverView R) → ClosesFor g condition d d' → More d d'
closes_more g condition d d' (inl x) = requests_more g d _ x.0 d' x.1
closes_more g condition d d' (inr x) = no_more d d' x.0

pub closes_if_more : {R : Type 0} (g : Relays R) (s : Status) (d d' : DriverView R) → ClosesIf g s d d' → More d d'
closes_if_more g status.BadSize d d' x = closes_more g _ d d' x
closes_if_more g status.Done d d' x = no_more d d' x
closes_if_more g status.Full d d' x = no_more d d' x
closes_if_more g status.NoMemory d d' x = no_more d d' x
closes_if_more g status.Short d d' x = no_more d d' x
closes_if_more g status.Again d d' x = no_more d d' x
closes_if_more g status.Waits d d' x = no_more d d' x
closes_if_more g status.Over d d' x = no_more d d' x
closes_if_more g status.TooLarge d d' x = no_more d d' x

each_more : {R : Type 0} (g : Relays R) (limit : ℕ) (d d' : DriverView R) (rs : List (Answered R)) → RunsEach g limit d rs d' → More d d'
each_more g limit d d' [] x = no_more d d' x
each_more g limit d d' (a ∷ rest) x =
    more_still d x.0 d' (_, x.4.ran.one.sent) (each_more g limit x.0 d' rest x.5)

pub takes_more : {R : Type 0} (g : Relays R) (limit : ℕ) (d : DriverView R) (input : List ℕ) (old : List Record) (s : Status) (n m k : ℕ) (d' : DriverView R)
    (new : List Record) → Takes g limit d input old s n m k d' new → More d d'
takes_more g limit d input old status.Done n m k d' new x = each_more g limit d d' x.0.answered x.0.runs
takes_more g limit d input old status.Full n m k d' new x = each_more g limit d d' x.0.answered x.0.runs
takes_more g limit d input old status.BadSize n m k d' new x = each_more g limit d d' x.0.answered x.0.runs
takes_more g limit d input old status.NoMemory n m k d' new x =
    more_still d x.0 d' (each_more g limit d x.0 x.1.answered x.1.runs) (not_run_more g x.0 d' x.5)
takes_more g limit d input old status.Short n m k d' new x = absurd x
takes_more g limit d input old status.Again n m k d' new x = each_more g limit d d' x.0.answered x.0.runs
takes_more g limit d input old status.Waits n m k d' new x = absurd x
takes_more g limit d input old status.Over n m k d' new x = each_more g limit d d' x.0.answered x.0.runs
takes_more g limit d input old status.TooLarge n m k d' new x = absurd x

head_more : {R : Type 0} (g : Relays R) (d d' : DriverView R) (b : Option Broken) (h : TransferHead) (bytes : List ℕ) (e : Option (Entry R)) (sent : Sent)
    → HandlesBy g d b h bytes e sent d' → More d d'
head_more g d d' b h bytes None sent x = no_more d d' x.3
head_more g d d' b h bytes (Some e) sent x = input_more g d d' (input_of d.engine h bytes) e x.0 x.2

heads_more : {R : Type 0} (g : Relays R) (d d' : DriverView R) (b : Option Broken) (xs : List (Handled R)) → HandlesEach g d b xs d' → More d d'
heads_more g d d' b [] x = no_more d d' x
heads_more g d d' b (a ∷ rest) x =
    more_still d x.0 d' (head_more g d x.0 b a.head a.bytes a.entry a.sent x.3) (heads_more g x.0 d' (left_behind b a.head a.sent) rest x.4)

pub posts_more : {R : Type 0} (g : Relays R) (d : DriverView R) (heads : List TransferHead) (bytes : List ℕ) (old : List Sent) (s : Status) (n used : ℕ)
    (d' : DriverView R) (new : List Sent) → Sends g d heads bytes old s n used d' new → More d d'
posts_more g d heads bytes old status.Done n used d' new x = heads_more g d d' None x.0.handled x.0.each
posts_more g d heads bytes old status.Full n used d' new x = heads_more g d d' None x.0.handled x.0.each
posts_more g d heads bytes old status.Short n used d' new x = heads_more g d d' None x.1.handled x.1.each
posts_more g d heads bytes old status.NoMemory n used d' new x =
    more_still d x.1 d' (heads_more g d x.1 None x.2.handled x.2.each) (not_run_more g x.1 d' x.6)
posts_more g d heads bytes old status.BadSize n used d' new x = absurd x
posts_more g d heads bytes old status.Again n used d' new x = absurd x
posts_more g d heads bytes old status.Waits n used d' new x = absurd x
posts_more g d heads bytes old status.Over n used d' new x = absurd x
posts_more g d heads bytes old status.TooLarge n used d' new x = absurd x

pub disposes_more : {R : Type 0} (g : Relays R) (d : DriverView R) (session : ℕ) (role : Role) (first last : ℕ) (settled : Bool)
    (state : Option (Option (List ℕ))) (answer : Option Asked) (d' : DriverView R) → Disposes g d session role first last settled state answer d' → More d d'
disposes_more g d session role first last settled None answer d' x = no_more d d' x.1
disposes_more g d session role first last settled (Some state) answer d' x = requests_more g d _ x.0 d' x.2

sent_more : {R : Type 0} (g : Relays R) (d k d' : DriverView R) → SendsOnly g d k → d'.to_send ≡ k.to_send → More d d'
sent_more g d k d' sent same = let m = sends_more g d k sent in (m.0, same ∙ m.1)

offers_more : {R : Type 0} (g : Relays R) (d : DriverView R) (remote : ℕ) (number : SessionNo) (settings : SettingsModel) (channel : ℕ)
    (d' : DriverView R) → Offers g d remote number settings channel d' → More d d'
offers_more g d remote number settings channel d' x = more_still d x.first d' (sends_more g d x.first x.sent.sent) (_, x.to_send)

pub begins_more : {R : Type 0} (g : Relays R) (d : DriverView R) (frame : List ℕ) (number : SessionNo) (settings : SettingsModel) (a : BeginAnswer)
    (d' : DriverView R) → AnswersBegin g d frame number settings a d' → More d d'
begins_more g d frame number settings answer.Done d' x =
    more_still d x.between d' (offers_more g d x.remote number settings x.channel x.between x.offers) (_, x.takes.runs.ran.one.sent)
begins_more g d frame number settings (answer.Unread e) d' x = no_more d d' x.1
begins_more g d frame number settings answer.NotOpened d' x = no_more d d' x.3
begins_more g d frame number settings answer.ChannelInUse d' x = no_more d d' x.4
begins_more g d frame number settings answer.TooLarge d' x = no_more d d' x.4
begins_more g d frame number settings answer.NoMemory d' x = not_run_more g d d' x
begins_more g d frame number settings (answer.Refused e) d' x = sent_more g d x.3.first d' x.3.sent.sent x.3.to_send
begins_more g d frame number settings answer.Lost d' x = sent_more g d x.3.first d' x.3.sent.sent x.3.to_send
begins_more g d frame number settings answer.Broken d' x =
    elim x.why [
      | inl y ↦ more_still d x.between d' (offers_more g d x.remote number settings x.channel x.between x.offers) (sends_more g x.between d' y.1)
      | inr y ↦ more_still d x.between d' (offers_more g d x.remote number settings x.channel x.between x.offers) (no_more x.between d' y.1)
    ]

forgets_more : {R : Type 0} (g : Relays R) (d : DriverView R) (n : SessionNo) (a : EndAnswer) (d' : DriverView R) → Forgets g d n a d' → More d d'
forgets_more g d n end.Done d' x = requests_more g d _ asked.Done d' x
forgets_more g d n (end.NotForgotten a) d' x = requests_more g d _ a d' x.0
forgets_more g d n end.NotEnded d' x = absurd x
forgets_more g d n (end.Unsent a) d' x = absurd x
forgets_more g d n (end.NotReleased a) d' x = absurd x

lets_go_more : {R : Type 0} (g : Relays R) (d : DriverView R) (n : SessionNo) (a : EndAnswer) (d' : DriverView R) → LetsGo g d n a d' → More d d'
lets_go_more g d n (end.NotReleased a) d' x = requests_more g d _ a d' x.0
lets_go_more g d n end.Done d' x = more_still d x.0 d' (requests_more g d _ asked.Done x.0 x.1) (forgets_more g x.0 n end.Done d' x.2)
lets_go_more g d n (end.NotForgotten a) d' x =
    more_still d x.0 d' (requests_more g d _ asked.Done x.0 x.1) (forgets_more g x.0 n (end.NotForgotten a) d' x.2)
lets_go_more g d n end.NotEnded d' x = more_still d x.0 d' (requests_more g d _ asked.Done x.0 x.1) (forgets_more g x.0 n end.NotEnded d' x.2)
lets_go_more g d n (end.Unsent a) d' x =
    more_still d x.0 d' (requests_more g d _ asked.Done x.0 x.1) (forgets_more g x.0 n (end.Unsent a) d' x.2)

pub ends_more : {R : Type 0} (g : Relays R) (d : DriverView R) (n : SessionNo) (error : Option ErrorModel) (a : EndAnswer) (d' : DriverView R)
    → AnswersEnd g d n error a d' → More d d'
ends_more g d n error end.NotEnded d' x = no_more d d' x.1
ends_more g d n error (end.Unsent a) d' x = requests_more g d _ a d' x.1.0
ends_more g d n error end.Done d' x = more_still d x.0 d' (requests_more g d _ asked.Done x.0 x.2) (lets_go_more g x.0 n end.Done d' x.3)
ends_more g d n error (end.NotReleased a) d' x =
    more_still d x.0 d' (requests_more g d _ asked.Done x.0 x.2) (lets_go_more g x.0 n (end.NotReleased a) d' x.3)
ends_more g d n error (end.NotForgotten a) d' x =
    more_still d x.0 d' (requests_more g d _ asked.Done x.0 x.2) (lets_go_more g x.0 n (end.NotForgotten a) d' x.3)

-- an empty frame stands first, where no header waits
pub beat_first : {R : Type 0} (v : StreamView R) (bytes : List ℕ) → v.first ≡ [] → is_done v.opening.phase ≡ true → bytes ≡ beat_bytes v.beat
    → waiting v ≡ bytes ++ v.driver.to_send
beat_first v bytes none is_open same =
    ap (λ (x : List ℕ). x ++ frames_if (is_done v.opening.phase) v) none ∙ ap (λ (b : Bool). frames_if b v) is_open
    ∙ ap (λ (x : List ℕ). x ++ v.driver.to_send) (sym same)

-- where no bytes are counted there are none
pub no_items : (xs : List ℕ) → length xs == 0 ≡ true → xs ≡ []
no_items [] none = refl
no_items (x ∷ xs) none = let same : length (x ∷ xs) ≡ 0 = eqb-true (length (x ∷ xs)) 0 none in absurd (omega arith)
