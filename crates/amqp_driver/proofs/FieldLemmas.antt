-- A frame's fields: how they follow from its head, and what was read of them is the frame.
use Rattle.std.proofs.Common.{◌≡◌, ◌≤◌, ◌+◌, ℕ, List, ◌∷◌, ◌++◌, length, Option, Some, None, Ok, Err, refl, ap, subst, ◌∙◌, arith}
use Rattle.std.proofs.lemmas.List.{length-append}
use Rattle.amqp_values.specs.Slots.{PartsLeft}
use Rattle.amqp_values.specs.declared.error.ReadError.{ReadError}
use Rattle.amqp_values.specs.Reading.{Gives, IsReader}
use Rattle.amqp_values.specs.Composite.{IsComposite, composite_at}
use Rattle.amqp_types.specs.declared.performatives.Performative.{Performative}
use Rattle.amqp_types.specs.declared.performatives.Performative.TheVariants as performative
use Rattle.amqp_types.specs.declared.performatives.kind.Kind.{Kind}
use Rattle.amqp_types.specs.declared.performatives.kind.Kind.TheVariants as kind
use Rattle.amqp_frames.specs.declared.decoder.FrameHead.{FrameHead}
use Rattle.amqp_frames.specs.declared.frame.Frame.{Frame}
use Rattle.amqp_frames.specs.declared.frame.FrameBody.{FrameBody}
use Rattle.amqp_frames.specs.declared.error.Error.{Error}
use Rattle.amqp_frames.specs.Frame.{body_of, payload_of}
use Rattle.amqp_frames.specs.FrameError.{error_of}
use Rattle.amqp_frames.specs.Head.{Opens, IsBodyOf, IsFields, NamesKind, ReadsFrameOf}
use Rattle.amqp_frames.proofs.FrameHeadLemmas.{body_read, body_not_read, decodes_told}
use Rattle.amqp_types.specs.Transfer.{TransferModel}
use Rattle.amqp_types.specs.Flow.{FlowModel}
use Rattle.amqp_types.specs.Disposition.{DispositionModel}
use Rattle.amqp_session.specs.Session.{SessionView}
use Rattle.amqp_session.specs.declared.numbers.OutputHandle.{OutputHandle}
use Rattle.amqp_frames.specs.declared.frame.FrameBody.TheVariants as body
use Rattle.amqp_engine.specs.RunFrame.{ReadFrom}
use Rattle.amqp_driver.specs.Told.{link_at, link_in}
use Rattle.amqp_driver.proofs.PayloadLemmas.{ends_by}

-- ---- where they stand

named_leaves : (k : Option Kind) (body left : List ℕ) → NamesKind k body left → length left ≤ length body
named_leaves None body left n = let e : length left ≡ 0 = ap length n.1 in omega arith
named_leaves (Some k) body left n = let e : length body ≡ length n.0 + length left = ap length n.2 ∙ length-append n.0 left in omega arith

-- what a head leaves is the frame's, but for its first four bytes
pub head_leaves : (bytes left : List ℕ) (h : FrameHead) → Opens bytes left (Ok h) → length left + 4 ≤ length bytes
head_leaves bytes left h o =
    let is = o.3 in
    let n : length left ≤ length is.body = named_leaves h.kind is.body left is.names in
    let two : length is.channel ≡ 2 = is.two in
    let e : length bytes ≡ length (is.channel ++ is.body) + 2 = ap length is.whole ∙ two_more (is.channel ++ is.body) in
    let l : length (is.channel ++ is.body) ≡ length is.channel + length is.body = length-append is.channel is.body in
    omega arith
  where
    two_more : (xs : List ℕ) → length (2 ∷ 0 ∷ xs) ≡ length xs + 2
    two_more xs = omega arith

-- what is behind the fields is no longer than both
pub list_leaves : {V : Type 0} (B : V → List (List ℕ) → Type 0) (at : PartsLeft → Option (V × PartsLeft)) → IsReader (IsComposite B) (composite_at at)
    → (fields left : List ℕ) (v : V) → composite_at at fields ≡ Some (v, left) → length left ≤ length fields
list_leaves B at law fields left v e =
    let f = law.found fields v left e in
    let l : length fields ≡ length f.0 + length left = ap length f.2 ∙ length-append f.0 left in
    omega arith

ends_fields : {V : Type 0} (B : V → List (List ℕ) → Type 0) (wrap : V → Performative) (b : FrameBody) (fields rest : List ℕ)
    → IsFields B (λ v after. body_of (wrap v) after) b fields rest → length (payload_of b) ≤ length fields
ends_fields B wrap b fields rest f =
    let x = ends_by (wrap f.value) f.after rest b f.said in
    let l : length fields ≡ length f.text + length f.after = ap length f.whole ∙ length-append f.text f.after in
    let m : length f.after ≡ length x.0 + length (payload_of b) = ap length x.1 ∙ length-append x.0 (payload_of b) in
    omega arith

-- the payload of a body is no longer than the fields and what is behind them
pub fields_hold : (k : Option Kind) (b : FrameBody) (fields rest : List ℕ) → IsBodyOf k b fields rest → length (payload_of b) ≤ length fields
fields_hold None b fields rest f = let e : length (payload_of b) ≡ 0 = ap (λ (x : FrameBody). length (payload_of x)) f.0 in omega arith
fields_hold (Some kind.Open) b fields rest f = ends_fields _ (λ p. performative.Open p) b fields rest f
fields_hold (Some kind.Begin) b fields rest f = ends_fields _ (λ p. performative.Begin p) b fields rest f
fields_hold (Some kind.Attach) b fields rest f = ends_fields _ (λ p. performative.Attach p) b fields rest f
fields_hold (Some kind.Flow) b fields rest f = ends_fields _ (λ p. performative.Flow p) b fields rest f
fields_hold (Some kind.Transfer) b fields rest f = ends_fields _ (λ p. performative.Transfer p) b fields rest f
fields_hold (Some kind.Disposition) b fields rest f = ends_fields _ (λ p. performative.Disposition p) b fields rest f
fields_hold (Some kind.Detach) b fields rest f = ends_fields _ (λ p. performative.Detach p) b fields rest f
fields_hold (Some kind.End) b fields rest f = ends_fields _ (λ p. performative.End p) b fields rest f
fields_hold (Some kind.Close) b fields rest f = ends_fields _ (λ p. performative.Close p) b fields rest f

-- ---- the frame

-- a head of this kind
pub opens_as : (bytes left : List ℕ) (h : FrameHead) (k : Option Kind) → Opens bytes left (Ok h) → h.kind ≡ k → Opens bytes left (Ok (record { channel = h.channel; kind = k }))
opens_as bytes left h k o e = subst (λ (x : Option Kind). Opens bytes left (Ok (record { channel = h.channel; kind = x }))) e o

pub read_frame : (bytes left : List ℕ) (h : FrameHead) (f : Frame) (rest : List ℕ) → Opens bytes left (Ok h) → ReadsFrameOf h.channel h.kind left (Ok (f, rest))
    → ReadFrom bytes (Ok f)
read_frame bytes left h f rest o r = (rest, decodes_told bytes left (Ok h) h.channel h.kind o refl (Ok (f, rest)) r)

pub unread_frame : (bytes left : List ℕ) (h : FrameHead) (e : Error) → Opens bytes left (Ok h) → ReadsFrameOf h.channel h.kind left (Err e) → ReadFrom bytes (Err e)
unread_frame bytes left h e o r = decodes_told bytes left (Ok h) h.channel h.kind o refl (Err e) r

-- what was read of the fields is the frame
pub read_fields : {V : Type 0} (B : V → List (List ℕ) → Type 0) (at : PartsLeft → Option (V × PartsLeft)) → IsReader (IsComposite B) (composite_at at)
    → (wrap : V → Performative) (k : Kind)
    → ((b : FrameBody) (fields rest : List ℕ) → IsFields B (λ v after. body_of (wrap v) after) b fields rest → IsBodyOf (Some k) b fields rest)
    → ((b : FrameBody) (fields rest : List ℕ) → IsBodyOf (Some k) b fields rest → IsFields B (λ v after. body_of (wrap v) after) b fields rest)
    → (bytes fields left : List ℕ) (channel : ℕ) (v : V) → Opens bytes fields (Ok (record { channel = channel; kind = Some k }))
    → composite_at at fields ≡ Some (v, left) → ReadFrom bytes (Ok (record { channel = channel; body = (body_of (wrap v) left).0 }))
read_fields B at law wrap k to from bytes fields left channel v o e =
    read_frame bytes fields (record { channel = channel; kind = Some k }) (record { channel = channel; body = (body_of (wrap v) left).0 }) (body_of (wrap v) left).1 o
    (refl, body_read B at law (λ p after. body_of (wrap p) after) k to from fields left v e)

-- or why they could not be read
pub unread_fields : {V : Type 0} (B : V → List (List ℕ) → Type 0) (at : PartsLeft → Option (V × PartsLeft)) → IsReader (IsComposite B) (composite_at at)
    → (wrap : V → Performative) (k : Kind)
    → ((b : FrameBody) (fields rest : List ℕ) → IsBodyOf (Some k) b fields rest → IsFields B (λ v after. body_of (wrap v) after) b fields rest)
    → (bytes fields left : List ℕ) (channel : ℕ) (e : ReadError) → Opens bytes fields (Ok (record { channel = channel; kind = Some k }))
    → Gives {X = V} (λ x. x) (Err e) left (composite_at at fields) → ReadFrom bytes (Err (error_of e))
unread_fields B at law wrap k from bytes fields left channel e o g =
    unread_frame bytes fields (record { channel = channel; kind = Some k }) (error_of e) o
    (body_not_read B at law (λ p after. body_of (wrap p) after) k from fields left e g)

-- ---- the link

by_transfer : {R : Type 0} (p : TransferModel) (payload : List ℕ) (s : Option (SessionView R)) → link_at (Some p.handle) s ≡ link_in (body.Transfer p payload) s
by_transfer p payload None = refl
by_transfer p payload (Some s) = refl

by_flow : {R : Type 0} (p : FlowModel) (s : Option (SessionView R)) → link_at p.handle s ≡ link_in (body.Flow p) s
by_flow p None = refl
by_flow p (Some s) = refl

-- the link that was found by this handle is the one that the performative names
pub link_of_transfer : {R : Type 0} (p : TransferModel) (payload : List ℕ) (s : Option (SessionView R)) (h : ℕ) (found : Option OutputHandle)
    → found ≡ link_at (Some h) s → h ≡ p.handle → found ≡ link_in (body.Transfer p payload) s
link_of_transfer p payload s h found is same = is ∙ ap (λ (x : ℕ). link_at (Some x) s) same ∙ by_transfer p payload s

pub link_of_flow : {R : Type 0} (p : FlowModel) (s : Option (SessionView R)) (h : Option ℕ) (found : Option OutputHandle)
    → found ≡ link_at h s → h ≡ p.handle → found ≡ link_in (body.Flow p) s
link_of_flow p s h found is same = is ∙ ap (λ (x : Option ℕ). link_at x s) same ∙ by_flow p s

pub link_of_disposition : {R : Type 0} (p : DispositionModel) (s : Option (SessionView R)) → None ≡ link_in (body.Disposition p) s
link_of_disposition p None = refl
link_of_disposition p (Some s) = refl
