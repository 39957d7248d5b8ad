-- Where a payload stands.
use Rattle.std.proofs.Common.{◌≡◌, ◌≤◌, ◌+◌, ◌-◌, inl, inr, ℕ, List, [], ◌∷◌, ◌++◌, Option, Some, None, Result, Ok, Err, Bool, true, false, if◌then◌else◌, length, take, drop, refl, ap, sym, subst, ◌∙◌, append_assoc, arith}
use Rattle.std.proofs.lemmas.List.{append-nil, length-append, drop-drop, drop-take, take-append-drop}
use Rattle.std.proofs.Math.Seq.{drop-append-add}
use Rattle.amqp_types.specs.declared.performatives.Performative.{Performative}
use Rattle.amqp_types.specs.declared.performatives.Performative.TheVariants as performative
use Rattle.amqp_types.specs.Transfer.{TransferModel}
use Rattle.amqp_session.specs.Relay.{Relays}
use Rattle.amqp_frames.specs.declared.frame.Frame.{Frame}
use Rattle.amqp_frames.specs.declared.frame.FrameBody.{FrameBody}
use Rattle.amqp_frames.specs.declared.frame.FrameBody.TheVariants as body
use Rattle.amqp_frames.specs.declared.error.Error.{Error}
use Rattle.amqp_frames.specs.Frame.{IsBody, IsFrame, body_of, payload_of}
use Rattle.amqp_engine.specs.declared.engine.step_error.StepError.{StepError}
use Rattle.amqp_engine.specs.Entry.{Entry}
use Rattle.amqp_engine.specs.RunFrame.{ReadFrom, frame_read}
use Rattle.amqp_driver.specs.declared.record.Record.{Record}
use Rattle.amqp_driver.specs.Driver.{DriverView, Runs}
use Rattle.amqp_driver.specs.Told.{begins_anew, is_over, is_silent, output_of, placed, record_of, refused_kind, refused_record, told_by}
use Rattle.amqp_driver.specs.Record.{bare_record, body_record, frame_record, read_record}
use Rattle.amqp_driver.specs.Refusals.{refusal_number}

-- ---- in a frame: its payload is its last bytes

nothing_after : (after : List ℕ) (a b : FrameBody) → a ≡ b → payload_of a ≡ [] → after ≡ after ++ payload_of b
nothing_after after a b e p = sym (append-nil after) ∙ ap (λ (x : List ℕ). after ++ x) (sym p ∙ ap payload_of e)

pub ends_by : (p : Performative) (after rest : List ℕ) (b : FrameBody) → body_of p after ≡ (b, rest) → (front : List ℕ) × (after ≡ front ++ payload_of b)
ends_by (performative.Transfer p) after rest b e = ([], ap (λ (x : FrameBody × List ℕ). payload_of x.0) e)
ends_by (performative.Open p) after rest b e = (after, nothing_after after (body.Open p) b (ap (λ (x : FrameBody × List ℕ). x.0) e) refl)
ends_by (performative.Begin p) after rest b e = (after, nothing_after after (body.Begin p) b (ap (λ (x : FrameBody × List ℕ). x.0) e) refl)
ends_by (performative.Attach p) after rest b e = (after, nothing_after after (body.Attach p) b (ap (λ (x : FrameBody × List ℕ). x.0) e) refl)
ends_by (performative.Flow p) after rest b e = (after, nothing_after after (body.Flow p) b (ap (λ (x : FrameBody × List ℕ). x.0) e) refl)
ends_by (performative.Disposition p) after rest b e = (after, nothing_after after (body.Disposition p) b (ap (λ (x : FrameBody × List ℕ). x.0) e) refl)
ends_by (performative.Detach p) after rest b e = (after, nothing_after after (body.Detach p) b (ap (λ (x : FrameBody × List ℕ). x.0) e) refl)
ends_by (performative.End p) after rest b e = (after, nothing_after after (body.End p) b (ap (λ (x : FrameBody × List ℕ). x.0) e) refl)
ends_by (performative.Close p) after rest b e = (after, nothing_after after (body.Close p) b (ap (λ (x : FrameBody × List ℕ). x.0) e) refl)

last_of : (b : FrameBody) (bytes rest : List ℕ) → IsBody b bytes rest → (front : List ℕ) × (bytes ≡ front ++ payload_of b)
last_of b bytes rest (inl h) = ([], h.0 ∙ sym (ap payload_of h.1))
last_of b bytes rest (inr h) =
    let x = ends_by h.performative h.after rest b h.says in
    (h.text ++ x.0, h.whole ∙ ap (λ (y : List ℕ). h.text ++ y) x.1 ∙ sym (append_assoc h.text x.0 (payload_of b)))

in_frame : (f : Frame) (bytes rest : List ℕ) → IsFrame f bytes rest → (front : List ℕ) × (bytes ≡ front ++ payload_of f.body) × (4 ≤ length front)
in_frame f bytes rest is =
    let x = last_of f.body is.body rest is.says in
    let two : length is.channel ≡ 2 = is.two in
    let l : length ((2 ∷ 0 ∷ is.channel) ++ x.0) ≡ length (2 ∷ 0 ∷ is.channel) + length x.0 = length-append (2 ∷ 0 ∷ is.channel) x.0 in
    let m : length (2 ∷ 0 ∷ is.channel) ≡ length is.channel + 2 = two_more is.channel in (
      (2 ∷ 0 ∷ is.channel) ++ x.0,
      is.whole ∙ ap (λ (y : List ℕ). (2 ∷ 0 ∷ is.channel) ++ y) x.1 ∙ sym (append_assoc (2 ∷ 0 ∷ is.channel) x.0 (payload_of f.body)),
      omega arith,
    )
  where
    two_more : (xs : List ℕ) → length (2 ∷ 0 ∷ xs) ≡ length xs + 2
    two_more xs = omega arith

pub payload_fits : (f : Frame) (bytes rest : List ℕ) → IsFrame f bytes rest → length (payload_of f.body) + 4 ≤ length bytes
payload_fits f bytes rest is =
    let x = in_frame f bytes rest is in
    let l : length bytes ≡ length x.0 + length (payload_of f.body) = ap length x.1 ∙ length-append x.0 (payload_of f.body) in
    let h : 4 ≤ length x.0 = x.2 in omega arith

-- ---- in the input

drop_front : (xs ys : List ℕ) (n : ℕ) → n ≡ length xs → drop n (xs ++ ys) ≡ ys
drop_front xs ys n e = ap (λ m. drop m (xs ++ ys)) (let k : n ≡ length xs + 0 = omega arith in k) ∙ drop-append-add xs ys 0

stands_at : (input : List ℕ) (at size : ℕ) (front payload : List ℕ) → length (take size (drop at input)) ≡ size
    → drop 4 (take size (drop at input)) ≡ front ++ payload → take (length payload) (drop (at + size - length payload) input) ≡ payload
stands_at input at size front payload l e =
    let whole : take size (drop at input) ≡ (take 4 (take size (drop at input)) ++ front) ++ payload =
    sym (take-append-drop 4 (take size (drop at input))) ∙ ap (λ (y : List ℕ). take 4 (take size (drop at input)) ++ y) e
    ∙ sym (append_assoc (take 4 (take size (drop at input))) front payload) in
    let n : size ≡ length (take 4 (take size (drop at input)) ++ front) + length payload =
    sym l ∙ ap length whole ∙ length-append (take 4 (take size (drop at input)) ++ front) payload in
    let k : size - length payload ≡ length (take 4 (take size (drop at input)) ++ front) = omega arith in
    let s : size - length payload + length payload ≡ size = omega arith in
    let p : at + size - length payload ≡ at + (size - length payload) = omega arith in
    ap (λ q. take (length payload) (drop q input)) p
    ∙ ap (λ (y : List ℕ). take (length payload) y) (sym (drop-drop (size - length payload) at input))
    ∙ sym (drop-take (size - length payload) (length payload) (drop at input))
    ∙ ap (λ m. drop (size - length payload) (take m (drop at input))) s
    ∙ ap (λ (y : List ℕ). drop (size - length payload) y) whole
    ∙ drop_front (take 4 (take size (drop at input)) ++ front) payload (size - length payload) k

-- ---- in the record

-- the place and the length of a payload, which a refusal leaves as they are
pub record SamePayload (a b : Record) : Type 0 where
  pub place : a.payload_at ≡ b.payload_at
  pub many : a.payload ≡ b.payload

kept_by : (kind refusal : ℕ) (over : Bool) (q : Record) → SamePayload (if over then q else record q { kind = kind; refusal = refusal }) q
kept_by kind refusal true q = record { place = refl; many = refl }
kept_by kind refusal false q = record { place = refl; many = refl }

told_payload : (refusal : Option StepError) (silent anew : Bool) (q r : Record) → told_by refusal silent anew q ≡ Some r → SamePayload r q
told_payload None true anew q r e = absurd cc
told_payload None false anew q r e = let same : q ≡ r = cc in record { place = ap (λ (x : Record). x.payload_at) (sym same); many = ap (λ (x : Record). x.payload) (sym same) }
told_payload (Some x) silent anew q r e =
    let same : refused_record anew x q ≡ r = let f : Some (refused_record anew x q) ≡ Some r = e in cc in
    let k = kept_by (refused_kind anew q.kind x) (refusal_number x) (is_over q.kind x) q in
    record { place = ap (λ (y : Record). y.payload_at) (sym same) ∙ k.place; many = ap (λ (y : Record). y.payload) (sym same) ∙ k.many }

frame_payload : (at size : ℕ) (f : Frame) (t : TransferModel) (payload : List ℕ) → f.body ≡ body.Transfer t payload
    → ((frame_record at size f).payload ≡ length payload) × ((frame_record at size f).payload_at ≡ at + size - length payload)
frame_payload at size f t payload e = (
  ap (λ (b : FrameBody). (body_record (record (bare_record at size) { channel = f.channel }) b).payload) e,
  ap (λ (b : FrameBody). (body_record (record (bare_record at size) { channel = f.channel }) b).payload_at) e,
)

-- ---- the law

read_is : (read : Result Frame Error) (f : Frame) → frame_read read ≡ Some f → read ≡ Ok f
read_is (Ok g) f e = let same : g ≡ f = let k : Some g ≡ Some f = e in cc in ap (λ (x : Frame). Ok x) same
read_is (Err x) f e = absurd cc

pub payload_is_there : {R : Type 0} (g : Relays R) (d d' : DriverView R) (input : List ℕ) (at size : ℕ) (e : Entry R) (r : Record) (f : Frame) (t : TransferModel)
    (payload : List ℕ) → length (take size (drop at input)) ≡ size → Runs g d (drop 4 (take size (drop at input))) e d' → record_of d.engine at size e ≡ Some r
    → e.received ≡ Some f → f.body ≡ body.Transfer t payload → (length payload ≡ r.payload) × (take r.payload (drop r.payload_at input) ≡ payload)
payload_is_there g d d' input at size e r f t payload l run told got is =
    let bytes : List ℕ = drop 4 (take size (drop at input)) in
    let read : run.read ≡ Ok f = read_is run.read f (sym run.ran.received_is ∙ ap (λ (x : Entry _). x.received) run.entry_is ∙ got) in
    let from : ReadFrom (drop 4 (take size (drop at input))) (Ok f) =
    subst (λ (x : Result Frame Error). ReadFrom (drop 4 (take size (drop at input))) x) read run.decoded in
    let x = in_frame f (drop 4 (take size (drop at input))) from.0 from.1.0 in
    let y : drop 4 (take size (drop at input)) ≡ x.0 ++ payload = x.1 ∙ ap (λ (b : FrameBody). x.0 ++ payload_of b) is in
    let k : SamePayload r (placed e.reached (output_of d.engine e.reached e.received) (read_record at size e.received)) =
    told_payload e.refusal (is_silent e.received) (begins_anew d.engine e.received)
    (placed e.reached (output_of d.engine e.reached e.received) (read_record at size e.received)) r told in
    let p = frame_payload at size f t payload is in
    let many : r.payload ≡ length payload = k.many ∙ ap (λ (z : Option Frame). (read_record at size z).payload) got ∙ p.0 in
    let place : r.payload_at ≡ at + size - length payload = k.place ∙ ap (λ (z : Option Frame). (read_record at size z).payload_at) got ∙ p.1 in
    (sym many, ap (λ m. take m (drop r.payload_at input)) many ∙ ap (λ m. take (length payload) (drop m input)) place ∙ stands_at input at size x.0 payload l y)
