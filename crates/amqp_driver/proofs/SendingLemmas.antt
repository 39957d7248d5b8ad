-- Requests, and transfers that are to be sent.
use Rattle.std.proofs.Common.{◌≡◌, ◌≤◌, ◌<◌, ◌+◌, ◌-◌, ◌||◌, inr, ℕ, List, [], ◌∷◌, ◌++◌, Bool, true, false, nat_lt, Option, Some, None, IfSome, Result, Ok, Err, length, take, drop, get_or, set, map, refl, ap, sym, subst, ◌∙◌, append_assoc, arith}
use Rattle.std.proofs.lemmas.List.{append-nil, drop_more, drop-drop, length-append, length-drop, length-map, length-set, length-take-le, map-append, take_more, take-take}
use Rattle.std.proofs.lemmas.Option.{slice_get-get_or}
use Rattle.std.proofs.Math.ListN.{drop_of_length-le}
use Rattle.std.proofs.Math.Seq.{take-add}
use Rattle.std.specs.List.{slice_range}
use Rattle.bytes.proofs.Ranges.{drop-take_less}
use Rattle.amqp_values.specs.Reading.{joined}
use Rattle.amqp_types.specs.Transfer.{TransferModel, widest}
use Rattle.amqp_session.specs.Relay.{Relays}
use Rattle.amqp_frames.specs.Cut.{room_beside}
use Rattle.amqp_connection.specs.Connection.{refusal_of}
use Rattle.amqp_engine.specs.declared.engine.input.Input.{Input}
use Rattle.amqp_engine.specs.declared.engine.input.Input.TheVariants as input
use Rattle.amqp_engine.specs.declared.engine.refusal.Refusal.{Refusal}
use Rattle.amqp_engine.specs.declared.engine.step_error.StepError.{StepError}
use Rattle.amqp_engine.specs.EngineView.{EngineView}
use Rattle.amqp_engine.specs.Entry.{Entry}
use Rattle.amqp_engine.specs.RunInto.{RanInto}
use Rattle.amqp_engine.specs.RunOne.{LacksNoMemory, RanOne, RunsOne, RunsTransfer}
use Rattle.amqp_session.specs.declared.numbers.InputHandle.{InputHandle}
use Rattle.amqp_driver.specs.declared.asked.Asked.{Asked}
use Rattle.amqp_driver.specs.declared.asked.Asked.TheVariants as asked
use Rattle.amqp_driver.specs.declared.head.Broken.{Broken}
use Rattle.amqp_driver.specs.declared.head.TransferHead.{TransferHead}
use Rattle.amqp_driver.specs.declared.head.Sent.{Sent}
use Rattle.amqp_driver.specs.declared.status.Posted.{Posted}
use Rattle.amqp_driver.specs.declared.status.Status.TheVariants as status
use Rattle.amqp_driver.specs.Driver.{DriverView, NotRun, counted}
use Rattle.amqp_driver.specs.Heads.{FindsInput, handle_in, has, has_room, input_of, is_unattached, number_in, refused_as, sent_by, sent_of, tag_in, transfer_in, transfer_of, unsendable}
use Rattle.amqp_driver.specs.Refusals.{refusal_number}
use Rattle.amqp_driver.specs.Requests.{AskedWell, Requests, RunsInput, asked_by, asked_of, has_own, is_own}
use Rattle.amqp_driver.specs.Sending.{Handled, Handles, HandlesBy, HandlesEach, Posts, PostsSo, Sends, SendsTransfer, left_behind, left_by, refused_behind, size_of, unsent, why_or}
use Rattle.amqp_driver.specs.Told.{session_at}
use Rattle.amqp_driver.proofs.TakingLemmas.{put_next}

-- ---- what was handed back

pub own_first : (rs : List Refusal) (i : ℕ) (x : Refusal) → i < length rs → x ≡ get_or rs i x → has_own (drop i rs) ≡ is_own x || has_own (drop (i + 1) rs)
own_first rs i x h e = ap has_own (drop_more rs i x h) ∙ ap (λ (y : Refusal). is_own y || has_own (drop (i + 1) rs)) (sym e)

pub own_last : (rs : List Refusal) (i : ℕ) → length rs ≤ i → has_own (drop i rs) ≡ false
own_last rs i h = ap has_own (drop_of_length-le rs h)

-- ---- a request

runs_input : {R : Type 0} (g : Relays R) (d d' : DriverView R) (i : Input R) (refusal : Option StepError) (returned : List Refusal)
    → (r : RanOne g d.engine i refusal d.to_send [] d'.engine d'.to_send returned) → d'.unfit ≡ counted d.unfit returned → RunsInput g d i r.entry returned d'
runs_input g d d' i refusal returned r u = record {
  ran = record {
    answers = r.answers;
    ran = r.ran;
    entry = r.entry;
    entry_is = r.entry_is;
    input_is = r.input_is;
    refusal_is = refl;
    sent = r.sent;
    back = r.back;
  };
  entry_is = refl;
  unfit_is = u;
}

asks : {R : Type 0} (g : Relays R) (d d' : DriverView R) (i : Input R) (returned : List Refusal) (refusal : Option StepError) (own : Bool)
    → RanOne g d.engine i refusal d.to_send [] d'.engine d'.to_send returned → d'.unfit ≡ counted d.unfit returned → own ≡ has_own returned
    → Requests g d i (asked_by refusal own) d'
asks g d d' i returned (Some e) own r u o =
    (r.entry, returned, runs_input g d d' i (Some e) returned r u, sym (ap (λ (y : Option StepError). asked_by y (has_own returned)) r.refusal_is))
asks g d d' i returned None true r u o =
    (r.entry, returned, runs_input g d d' i None returned r u, ap (λ (y : Bool). asked_by None y) o ∙ sym (ap (λ (y : Option StepError). asked_by y (has_own returned)) r.refusal_is))
asks g d d' i returned None false r u o =
    (r.entry, returned, runs_input g d d' i None returned r u, ap (λ (y : Bool). asked_by None y) o ∙ sym (ap (λ (y : Option StepError). asked_by y (has_own returned)) r.refusal_is))

by_answer : {R : Type 0} (g : Relays R) (v v' : EngineView R) (i : Input R) (out out' : List ℕ) (before returned : List Refusal) (x x' : ℕ)
    (answer : Option (Result (Unit {0}) StepError)) (own : Bool) → before ≡ [] → RunsOne g v i answer out before v' out' returned → x' ≡ counted x returned
    → own ≡ has_own returned
    → Requests g (record { engine = v; to_send = out; unfit = x }) i (asked_of answer own) (record { engine = v'; to_send = out'; unfit = x' })
by_answer g v v' i out out' before returned x x' None own e ran u o =
    (ran.2, (returned, subst (λ (b : List Refusal). RanInto g v [] out b v' [] out' returned) e ran.0, u))
by_answer g v v' i out out' before returned x x' (Some a) own e ran u o =
    asks g (record { engine = v; to_send = out; unfit = x }) (record { engine = v'; to_send = out'; unfit = x' }) i returned (refusal_of a) own
    (subst (λ (b : List Refusal). RanOne g v i (refusal_of a) out b v' out' returned) e ran) u o

pub requests : {R : Type 0} (g : Relays R) (v v' : EngineView R) (i : Input R) (out out' : List ℕ) (before returned : List Refusal) (x x' : ℕ)
    (answer : Option (Result (Unit {0}) StepError)) (own : Bool) (a : Asked) → before ≡ [] → RunsOne g v i answer out before v' out' returned
    → x' ≡ counted x returned → own ≡ has_own returned → a ≡ asked_of answer own
    → Requests g (record { engine = v; to_send = out; unfit = x }) i a (record { engine = v'; to_send = out'; unfit = x' })
requests g v v' i out out' before returned x x' answer own a e ran u o is =
    subst (λ (y : Asked). Requests g (record { engine = v; to_send = out; unfit = x }) i y (record { engine = v'; to_send = out'; unfit = x' })) (sym is)
    (by_answer g v v' i out out' before returned x x' answer own e ran u o)

-- the same of a transfer
by_transfer : {R : Type 0} (g : Relays R) (v v' : EngineView R) (i : Input R) (out out' : List ℕ) (before returned : List Refusal) (x x' : ℕ)
    (answer : Option (Result (Unit {0}) StepError)) (own : Bool) → before ≡ [] → RunsTransfer g v i answer out before v' out' returned → x' ≡ counted x returned
    → own ≡ has_own returned
    → Requests g (record { engine = v; to_send = out; unfit = x }) i (asked_of answer own) (record { engine = v'; to_send = out'; unfit = x' })
by_transfer g v v' i out out' before returned x x' None own e ran u o =
    (ran.1, (returned, subst (λ (b : List Refusal). RanInto g v [] out b v' [] out' returned) e ran.0, u))
by_transfer g v v' i out out' before returned x x' (Some a) own e ran u o =
    asks g (record { engine = v; to_send = out; unfit = x }) (record { engine = v'; to_send = out'; unfit = x' }) i returned (refusal_of a) own
    (subst (λ (b : List Refusal). RanOne g v i (refusal_of a) out b v' out' returned) e ran) u o

pub requests_transfer : {R : Type 0} (g : Relays R) (v v' : EngineView R) (i : Input R) (out out' : List ℕ) (before returned : List Refusal) (x x' : ℕ)
    (answer : Option (Result (Unit {0}) StepError)) (own : Bool) (a : Asked) → before ≡ [] → RunsTransfer g v i answer out before v' out' returned
    → x' ≡ counted x returned → own ≡ has_own returned → a ≡ asked_of answer own
    → Requests g (record { engine = v; to_send = out; unfit = x }) i a (record { engine = v'; to_send = out'; unfit = x' })
requests_transfer g v v' i out out' before returned x x' answer own a e ran u o is =
    subst (λ (y : Asked). Requests g (record { engine = v; to_send = out; unfit = x }) i y (record { engine = v'; to_send = out'; unfit = x' })) (sym is)
    (by_transfer g v v' i out out' before returned x x' answer own e ran u o)

asks_well : (answer : Option (Result (Unit {0}) StepError)) (own : Bool) → IfSome answer (λ a. LacksNoMemory (refusal_of a)) → AskedWell (asked_of answer own)
asks_well None own h = tt
asks_well (Some (Err e)) own h = h
asks_well (Some (Ok u)) true h = tt
asks_well (Some (Ok u)) false h = tt

pub asked_well : (answer : Option (Result (Unit {0}) StepError)) (own : Bool) (a : Asked) → IfSome answer (λ x. LacksNoMemory (refusal_of x)) → a ≡ asked_of answer own
    → AskedWell a
asked_well answer own a h e = subst AskedWell (sym e) (asks_well answer own h)

done_means : (refusal : Option StepError) (own : Bool) → asked.Done ≡ asked_by refusal own → refusal ≡ None
done_means None own e = refl
done_means (Some x) own e = absurd cc

large_means : (refusal : Option StepError) (own : Bool) → asked.TooLarge ≡ asked_by refusal own → refusal ≡ None
large_means None own e = refl
large_means (Some x) own e = absurd cc

refused_means : (refusal : Option StepError) (own : Bool) (x : StepError) → asked.Refused x ≡ asked_by refusal own → refusal ≡ Some x
refused_means None true x e = absurd cc
refused_means None false x e = absurd cc
refused_means (Some y) own x e = ap (λ (z : StepError). Some z) (let same : y ≡ x = let k : asked.Refused x ≡ asked.Refused y = e in cc in same)

-- ---- the parts of a transfer

tag_part : (xs : List ℕ) (at tag size : ℕ) → tag ≤ size → slice_range xs at (at + tag) ≡ take tag (take size (drop at xs))
tag_part xs at tag size h = ap (λ n. take n (drop at xs)) (let e : at + tag - at ≡ tag = omega arith in e) ∙ sym (take-take tag size (drop at xs) h)

pub untagged : (h : TransferHead) (bytes : List ℕ) → has h.flags 16384 ≡ false → None ≡ tag_in h bytes
untagged h bytes e = rw e refl

pub tagged : (h : TransferHead) (xs : List ℕ) (at : ℕ) (tag : List ℕ) → has h.flags 16384 ≡ true → tag ≡ slice_range xs at (at + h.tag_size)
    → Some tag ≡ tag_in h (take (size_of h) (drop at xs))
tagged h xs at tag t e =
    ap (λ (y : List ℕ). Some y) (e ∙ tag_part xs at h.tag_size (size_of h) (let l : h.tag_size ≤ h.tag_size + h.payload = omega arith in l)) ∙ is_tag h (take (size_of h) (drop at xs)) t
  where
    is_tag : (h : TransferHead) (bytes : List ℕ) → has h.flags 16384 ≡ true → Some (take h.tag_size bytes) ≡ tag_in h bytes
    is_tag h bytes e = rw e refl

pub payload_part : (xs : List ℕ) (at tag payload : ℕ) → slice_range xs (at + tag) (at + tag + payload) ≡ drop tag (take (tag + payload) (drop at xs))
payload_part xs at tag payload = sym (drop-take_less (drop at xs) tag (tag + payload) (let h : tag ≤ tag + payload = omega arith in h)
    ∙ ap (λ (ys : List ℕ). take (tag + payload - tag) ys) (drop-drop tag at xs)
    ∙ ap (λ n. take n (drop (at + tag) xs)) (let e : tag + payload - tag ≡ at + tag + payload - (at + tag) = omega arith in e))

-- ---- the run of a transfer

module _ {R : Type 0} (g : Relays R) (d d' : DriverView R) (h : TransferHead) (i : InputHandle) (t : TransferModel) (payload : List ℕ) where
  pub sends_none : Requests g d (input.Transfer (record { 0 = h.session }) i t payload (has h.flags 1)) asked.NoMemory d' → NotRun g d d'
  sends_none r = (r.0, inr r.1)

  pub sends_refused : (x : StepError) (n : ℕ)
      → Requests g d (input.Transfer (record { 0 = h.session }) i t payload (has h.flags 1)) (asked.Refused x) d'
      → n ≡ refusal_number x → LacksNoMemory (Some x) → SendsTransfer g d h i t payload (Some (refused_as n)) d'
  sends_refused x n r e l =
      let is : r.0.refusal ≡ Some x = refused_means r.0.refusal (has_own r.1) x r.3 in
      (r.0, r.1, r.2, ap refused_as e ∙ sym (ap (λ (y : Option StepError). sent_of d.engine h y) is), subst LacksNoMemory (sym is) l)

  sends_some : (e : Entry R) (returned : List Refusal) (n : ℕ)
      → RunsInput g d (input.Transfer (record { 0 = h.session }) i t payload (has h.flags 1)) e returned d'
      → e.refusal ≡ None → n ≡ number_in (session_at d.engine (Some h.session)) (has h.flags 1)
      → SendsTransfer g d h i t payload (Some (record { number = n; refusal = 0 })) d'
  sends_some e returned n r is k =
      (e, returned, r, ap (λ (m : ℕ). sent_by None m) k ∙ sym (ap (λ (y : Option StepError). sent_of d.engine h y) is), subst LacksNoMemory (sym is) tt)

  pub sends_done : (n : ℕ) → Requests g d (input.Transfer (record { 0 = h.session }) i t payload (has h.flags 1)) asked.Done d'
      → n ≡ number_in (session_at d.engine (Some h.session)) (has h.flags 1) → SendsTransfer g d h i t payload (Some (record { number = n; refusal = 0 })) d'
  sends_done n r k = sends_some r.0 r.1 n r.2 (done_means r.0.refusal (has_own r.1) r.3) k

  pub sends_large : (n : ℕ) → Requests g d (input.Transfer (record { 0 = h.session }) i t payload (has h.flags 1)) asked.TooLarge d'
      → n ≡ number_in (session_at d.engine (Some h.session)) (has h.flags 1) → SendsTransfer g d h i t payload (Some (record { number = n; refusal = 0 })) d'
  sends_large n r k = sends_some r.0 r.1 n r.2 (large_means r.0.refusal (has_own r.1) r.3) k

-- ---- one head

-- the transfer that is run is the one that the head says
pub transfer_is : (h : TransferHead) (bytes : List ℕ) (tag : Option (List ℕ)) (t : TransferModel) → tag ≡ tag_in h bytes → t ≡ transfer_of h tag
    → t ≡ transfer_in h bytes
transfer_is h bytes tag t e is = is ∙ ap (λ (x : Option (List ℕ)). transfer_of h x) e

-- so is the handle under which it is run
handle_is : {R : Type 0} (v : EngineView R) (h : TransferHead) (i : InputHandle) → FindsInput (session_at v (Some h.session)) h.link (Some i)
    → i ≡ handle_in v h.session h.link
handle_is v h i f = ap (λ (n : ℕ). let x : InputHandle = record { 0 = n } in x) f.1

long_tag : {R : Type 0} (v : EngineView R) (h : TransferHead) (bytes : List ℕ) → nat_lt 32 h.tag_size ≡ true → unsendable v h bytes ≡ Some 92
long_tag v h bytes e = rw e refl

unattached : {R : Type 0} (v : EngineView R) (h : TransferHead) (bytes : List ℕ) → nat_lt 32 h.tag_size ≡ false
    → is_unattached (session_at v (Some h.session)) h.link ≡ true → unsendable v h bytes ≡ Some 61
unattached v h bytes e f = rw (e, f) refl

too_long : {R : Type 0} (v : EngineView R) (h : TransferHead) (bytes : List ℕ) → nat_lt 32 h.tag_size ≡ false
    → is_unattached (session_at v (Some h.session)) h.link ≡ false
    → has_room (room_beside (widest (transfer_in h bytes)) v.limit) h.payload ≡ false → unsendable v h bytes ≡ Some 91
too_long v h bytes e f r = rw (e, f, r) refl

sendable : {R : Type 0} (v : EngineView R) (h : TransferHead) (bytes : List ℕ) → nat_lt 32 h.tag_size ≡ false
    → is_unattached (session_at v (Some h.session)) h.link ≡ false
    → has_room (room_beside (widest (transfer_in h bytes)) v.limit) h.payload ≡ true → unsendable v h bytes ≡ None
sendable v h bytes e f r = rw (e, f, r) refl

-- behind nothing that was left, or another link's, it is sent where it may be
behind_none : {R : Type 0} (v : EngineView R) (b : Option Broken) (h : TransferHead) (bytes : List ℕ) → refused_behind b h ≡ None → unsent v b h bytes ≡ unsendable v h bytes
behind_none v b h bytes e = ap (λ (y : Option ℕ). why_or (unsendable v h bytes) y) e

pub handles_broken : {R : Type 0} (g : Relays R) (d : DriverView R) (b : Option Broken) (h : TransferHead) (bytes : List ℕ) (why : ℕ) → refused_behind b h ≡ Some why
    → Handles g d b h bytes (Some (refused_as why)) d
handles_broken g d b h bytes why e = (None, (why, ap (λ (y : Option ℕ). why_or (unsendable d.engine h bytes) y) e, refl, refl))

module _ {R : Type 0} (g : Relays R) (d : DriverView R) (b : Option Broken) (h : TransferHead) (bytes : List ℕ) (free : refused_behind b h ≡ None) where
  pub handles_long : 32 < h.tag_size → Handles g d b h bytes (Some (refused_as 92)) d
  handles_long l = (None, (92, behind_none d.engine b h bytes free ∙ long_tag d.engine h bytes (let k : nat_lt 32 h.tag_size ≡ true = grind arith in k), refl, refl))

  pub handles_unattached : h.tag_size ≤ 32 → FindsInput (session_at d.engine (Some h.session)) h.link None → Handles g d b h bytes (Some (refused_as 61)) d
  handles_unattached l f = (None, (61, behind_none d.engine b h bytes free ∙ unattached d.engine h bytes (let k : nat_lt 32 h.tag_size ≡ false = grind arith in k) f, refl, refl))

  module _ (i : InputHandle) (tag : Option (List ℕ)) (t : TransferModel) (l : h.tag_size ≤ 32)
      (f : FindsInput (session_at d.engine (Some h.session)) h.link (Some i)) (e : tag ≡ tag_in h bytes) (is : t ≡ transfer_of h tag) where
    room_is : (has : Bool) → has ≡ has_room (room_beside (widest t) d.engine.limit) h.payload
        → has_room (room_beside (widest (transfer_in h bytes)) d.engine.limit) h.payload ≡ has
    room_is has r = sym (r ∙ ap (λ (x : TransferModel). has_room (room_beside (widest x) d.engine.limit) h.payload) (transfer_is h bytes tag t e is))

    pub handles_large : false ≡ has_room (room_beside (widest t) d.engine.limit) h.payload → Handles g d b h bytes (Some (refused_as 91)) d
    handles_large r =
        (None, (91, behind_none d.engine b h bytes free ∙ too_long d.engine h bytes (let k : nat_lt 32 h.tag_size ≡ false = grind arith in k) f.0 (room_is false r), refl, refl))

    -- the input that is run, by its parts
    run_of : (e : Entry R) (returned : List Refusal) (d' : DriverView R) (payload : List ℕ) → payload ≡ drop h.tag_size bytes
        → RunsInput g d (input.Transfer (record { 0 = h.session }) i t payload (has h.flags 1)) e returned d'
        → RunsInput g d (input_of d.engine h bytes) e returned d'
    run_of x returned d' payload p r =
        subst (λ (y : List ℕ). RunsInput g d (input.Transfer (record { 0 = h.session }) (handle_in d.engine h.session h.link) (transfer_in h bytes) y (has h.flags 1)) x returned d') p
        (subst (λ (y : TransferModel). RunsInput g d (input.Transfer (record { 0 = h.session }) (handle_in d.engine h.session h.link) y payload (has h.flags 1)) x returned d')
        (transfer_is h bytes tag t e is)
        (subst (λ (y : InputHandle). RunsInput g d (input.Transfer (record { 0 = h.session }) y t payload (has h.flags 1)) x returned d') (handle_is d.engine h i f) r))

    pub handles_sent : (d' : DriverView R) (payload : List ℕ) (sent : Option Sent) → true ≡ has_room (room_beside (widest t) d.engine.limit) h.payload
        → payload ≡ drop h.tag_size bytes → SendsTransfer g d h i t payload sent d' → Handles g d b h bytes sent d'
    handles_sent d' payload None r p s = s
    handles_sent d' payload (Some sent) r p s = (
      Some s.0,
      (s.1, behind_none d.engine b h bytes free ∙ sendable d.engine h bytes (let k : nat_lt 32 h.tag_size ≡ false = grind arith in k) f.0 (room_is true r), run_of s.0 s.1 d' payload p s.2, s.3, s.4),
    )

-- ---- the heads

abbrev pub pieces : {R : Type 0} → List (Handled R) → List (List ℕ)
pieces xs = map (λ (x : Handled _). x.bytes) xs

abbrev pub heads_of : {R : Type 0} → List (Handled R) → List TransferHead
heads_of xs = map (λ (x : Handled _). x.head) xs

abbrev pub sent_list : {R : Type 0} → List (Handled R) → List Sent
sent_list xs = map (λ (x : Handled _). x.sent) xs

pieces_more : {R : Type 0} (xs : List (Handled R)) (a : Handled R) → joined (pieces (xs ++ a ∷ [])) ≡ joined (pieces xs) ++ a.bytes
pieces_more [] a = append-nil a.bytes
pieces_more (x ∷ xs) a = ap (λ (t : List ℕ). x.bytes ++ t) (pieces_more xs a) ∙ sym (append_assoc x.bytes (joined (pieces xs)) a.bytes)

each_more : {R : Type 0} (g : Relays R) (d k n : DriverView R) (left : Option Broken) (xs : List (Handled R)) (a : Handled R) → HandlesEach g d left xs k → a.before ≡ k
    → length a.bytes ≡ size_of a.head → HandlesBy g k (left_by left xs) a.head a.bytes a.entry a.sent n → HandlesEach g d left (xs ++ a ∷ []) n
each_more g d k n left [] a t b l h = (n, b ∙ t, l, subst (λ x. HandlesBy g x left a.head a.bytes a.entry a.sent n) t h, refl)
each_more g d k n left (x ∷ xs) a t b l h = (t.0, t.1, t.2, t.3, each_more g t.0 k n (left_behind left x.head x.sent) xs a t.4 b l h)

left_more : {R : Type 0} (left : Option Broken) (xs : List (Handled R)) (a : Handled R) → left_by left (xs ++ a ∷ []) ≡ left_behind (left_by left xs) a.head a.sent
left_more left [] a = refl
left_more left (x ∷ xs) a = left_more (left_behind left x.head x.sent) xs a

pub posts_none : {R : Type 0} (g : Relays R) (d : DriverView R) (heads : List TransferHead) (bytes : List ℕ) (old : List Sent) → PostsSo g d heads bytes old 0 0 d old None
posts_none g d heads bytes old = (
  record {
    handled = [];
    within = omega arith;
    heads_are = refl;
    inside = omega arith;
    bytes_are = refl;
    each = refl;
    fits = omega arith;
    output = refl;
  },
  refl,
)

-- how many were handled
handled_count : {R : Type 0} (g : Relays R) (d k : DriverView R) (heads : List TransferHead) (bytes : List ℕ) (old : List Sent) (taken used : ℕ) (new : List Sent)
    → (p : Posts g d heads bytes old taken used k new) → taken ≡ length (sent_list p.handled)
handled_count g d k heads bytes old taken used new p =
    sym (length-take-le taken heads p.within) ∙ ap length p.heads_are ∙ length-map p.handled (λ (x : Handled _). x.head)
    ∙ sym (length-map p.handled (λ (x : Handled _). x.sent))

-- the places keep their number
pub places_are : {R : Type 0} (g : Relays R) (d k : DriverView R) (heads : List TransferHead) (bytes : List ℕ) (old : List Sent) (taken used : ℕ) (new : List Sent)
    → Posts g d heads bytes old taken used k new → length new ≡ length old
places_are g d k heads bytes old taken used new p =
    ap length p.output ∙ length-append (sent_list p.handled) (drop taken old)
    ∙ (let a : taken ≡ length (sent_list p.handled) = handled_count g d k heads bytes old taken used new p in
    let b : length (drop taken old) ≡ length old - taken = length-drop taken old in
    let f : taken ≤ length old = p.fits in omega arith)

module _ {R : Type 0} (g : Relays R) (d k n : DriverView R) (heads : List TransferHead) (bytes : List ℕ) (old : List Sent) (taken used : ℕ) (new : List Sent)
    (p : Posts g d heads bytes old taken used k new) (next none : TransferHead) (l : taken < length heads) (is : next ≡ get_or heads taken none)
    (room : used + size_of next ≤ length bytes) where
  -- one more is handled
  pub posts_next : (b : Option Broken) → b ≡ left_by None p.handled → (sent : Sent) (new' : List Sent) → taken < length new → new' ≡ set new taken sent
      → Handles g k b next (take (size_of next) (drop used bytes)) (Some sent) n
      → PostsSo g d heads bytes old (taken + 1) (used + size_of next) n new' (left_behind b next sent)
  posts_next b left sent new' place put x =
      let one : Handled _ = record { head = next; bytes = take (size_of next) (drop used bytes); before = k; entry = x.0; sent = sent } in
      let size : size_of next ≤ length (drop used bytes) = (let q : length (drop used bytes) ≡ length bytes - used = length-drop used bytes in omega arith) in
      let place' : taken < length old = subst (λ m. taken < m) (places_are g d k heads bytes old taken used new p) place in (
        record {
          handled = p.handled ++ one ∷ [];
          within = omega arith;
          heads_are = take_more heads taken none l ∙ ap (λ (y : TransferHead). take taken heads ++ y ∷ []) (sym is)
              ∙ ap (λ (ys : List TransferHead). ys ++ next ∷ []) p.heads_are ∙ sym (map-append (λ (y : Handled _). y.head) p.handled (one ∷ []));
          inside = room;
          bytes_are = take-add used (size_of next) bytes ∙ ap (λ (ys : List ℕ). ys ++ take (size_of next) (drop used bytes)) p.bytes_are ∙ sym (pieces_more p.handled one);
          each = each_more g d k n None p.handled one p.each refl (length-take-le (size_of next) (drop used bytes) size)
              (subst (λ (y : Option Broken). HandlesBy g k y next (take (size_of next) (drop used bytes)) x.0 sent n) left x.1);
          fits = omega arith;
          output = put ∙ ap (λ (ys : List Sent). set ys taken sent) p.output
              ∙ put_next (sent_list p.handled) old taken sent (handled_count g d k heads bytes old taken used new p) place'
              ∙ ap (λ (ys : List Sent). ys ++ drop (taken + 1) old) (sym (map-append (λ (y : Handled _). y.sent) p.handled (one ∷ [])));
        },
        ap (λ (y : Option Broken). left_behind y next sent) left ∙ sym (left_more None p.handled one),
      )

  -- memory was refused, for this transfer or for the copy of its bytes
  pub sends_not : taken < length new → NotRun g k n → Sends g d heads bytes old status.NoMemory taken used n new
  sends_not place x =
      let place' : taken < length old = subst (λ m. taken < m) (places_are g d k heads bytes old taken used new p) place in
      (next, k, p, slice_get-get_or heads taken none l ∙ ap (λ (y : TransferHead). Some y) (sym is), place', room, x)

-- the bytes end before those of the next transfer do
pub sends_short : {R : Type 0} (g : Relays R) (d k : DriverView R) (heads : List TransferHead) (bytes : List ℕ) (old : List Sent) (taken used : ℕ) (new : List Sent)
    → Posts g d heads bytes old taken used k new → (next none : TransferHead) → taken < length heads → next ≡ get_or heads taken none → taken < length new
    → length bytes < used + size_of next → Sends g d heads bytes old status.Short taken used k new
sends_short g d k heads bytes old taken used new p next none l is place short =
    let place' : taken < length old = subst (λ m. taken < m) (places_are g d k heads bytes old taken used new p) place in
    (next, p, slice_get-get_or heads taken none l ∙ ap (λ (y : TransferHead). Some y) (sym is), place', short)

-- there is one more, of what was not all taken
pub below : (m n : ℕ) → m ≤ n → ¬ (m ≡ n) → m < n
below m n h e = omega (arith, e)

pub bytes_there : (used size n len : ℕ) → size ≡ n → size ≤ len - used → used ≤ len → used + n ≤ len
bytes_there used size n len e h l = omega arith

pub bytes_lack : (used size n len : ℕ) → size ≡ n → len - used < size → used ≤ len → len < used + n
bytes_lack used size n len e h l = omega arith

pub place_there : (xs : List Sent) (n : ℕ) (x : Sent) → n < length xs → n + 1 ≤ length (set xs n x)
place_there xs n x h = let e : length (set xs n x) ≡ length xs = length-set xs n x in omega arith

-- what a call says of how it ended
pub posted_so : {R : Type 0} (g : Relays R) (d n : DriverView R) (heads : List TransferHead) (bytes : List ℕ) (old new : List Sent) (s t : Posted) → s ≡ t
    → Sends g d heads bytes old t.status t.taken t.used n new → Sends g d heads bytes old s.status s.taken s.used n new
posted_so g d n heads bytes old new s t e x = subst (λ (y : Posted). Sends g d heads bytes old y.status y.taken y.used n new) (sym e) x
