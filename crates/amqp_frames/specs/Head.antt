-- Part: other calls; inner.
-- A frame's head, which is its header and its descriptor, and the fields after it.
use Rattle.std.specs.Prelude.{◌≡◌, ◌<◌, ◌≤◌, ◌↔◌, ◌⊎◌, ℕ, List, [], ◌∷◌, ◌++◌, length, Option, Some, None, Result, Ok, Err}
use Rattle.std.specs.Int.{w16, from_be_bytes}
use Rattle.amqp_memory.specs.Refusal.{SomeRefused}
use Rattle.amqp_values.specs.Composite.{IsComposite}
use Rattle.amqp_types.specs.declared.performatives.kind.Kind.{Kind}
use Rattle.amqp_types.specs.declared.performatives.kind.Kind.TheVariants as kind
use Rattle.amqp_types.specs.Kinds.{IsKind}
use Rattle.amqp_types.specs.Open.{IsOpenBody}
use Rattle.amqp_types.specs.Begin.{IsBeginBody}
use Rattle.amqp_types.specs.Attach.{IsAttachBody}
use Rattle.amqp_types.specs.Flow.{IsFlowBody}
use Rattle.amqp_types.specs.Transfer.{IsTransferBody}
use Rattle.amqp_types.specs.Disposition.{IsDispositionBody}
use Rattle.amqp_types.specs.Detach.{IsDetachBody}
use Rattle.amqp_types.specs.End.{IsEndBody}
use Rattle.amqp_types.specs.Close.{IsCloseBody}
use Rattle.amqp_frames.specs.declared.frame.Frame.{Frame}
use Rattle.amqp_frames.specs.declared.frame.FrameBody.{FrameBody}
use Rattle.amqp_frames.specs.declared.frame.FrameBody.TheVariants.{Attach, Flow, Transfer, Disposition, Detach, Begin}
use Rattle.amqp_frames.specs.declared.frame.FrameBody.TheVariants.{End, Open, Close, Empty}
use Rattle.amqp_frames.specs.declared.decoder.FrameHead.{FrameHead}
use Rattle.amqp_frames.specs.declared.error.Error.{Error}
use Rattle.amqp_frames.specs.declared.error.Error.TheVariants as no
use Rattle.amqp_frames.specs.Frame.{IsFrame, HasHeader}

-- the fields of one performative, and what is after them
pub record IsFields {V : Type 0} (B : V → List (List ℕ) → Type 0) (says : V → List ℕ → FrameBody × List ℕ)
    (body : FrameBody) (fields rest : List ℕ) : Type 0 where
  pub value : V
  pub text : List ℕ
  pub after : List ℕ
  pub is : IsComposite B value text
  pub whole : fields ≡ text ++ after
  pub said : says value after ≡ (body, rest)

-- The fields of this kind stand in the bytes, and say this body. Where there is no kind, the body is empty.
abbrev pub IsBodyOf : Option Kind → FrameBody → List ℕ → List ℕ → Type 0
IsBodyOf None body fields rest = (body ≡ Empty) × (rest ≡ [])
IsBodyOf (Some kind.Open) body fields rest = IsFields IsOpenBody (λ p after. (Open p, after)) body fields rest
IsBodyOf (Some kind.Begin) body fields rest = IsFields IsBeginBody (λ p after. (Begin p, after)) body fields rest
IsBodyOf (Some kind.Attach) body fields rest = IsFields IsAttachBody (λ p after. (Attach p, after)) body fields rest
IsBodyOf (Some kind.Flow) body fields rest = IsFields IsFlowBody (λ p after. (Flow p, after)) body fields rest
IsBodyOf (Some kind.Transfer) body fields rest = IsFields IsTransferBody (λ p after. (Transfer p after, [])) body fields rest
IsBodyOf (Some kind.Disposition) body fields rest = IsFields IsDispositionBody (λ p after. (Disposition p, after)) body fields rest
IsBodyOf (Some kind.Detach) body fields rest = IsFields IsDetachBody (λ p after. (Detach p, after)) body fields rest
IsBodyOf (Some kind.End) body fields rest = IsFields IsEndBody (λ p after. (End p, after)) body fields rest
IsBodyOf (Some kind.Close) body fields rest = IsFields IsCloseBody (λ p after. (Close p, after)) body fields rest

-- the fields of a performative may ask for memory; where there is no body, nothing does
abbrev pub MayAskForMemory : Option Kind → Type 0
MayAskForMemory None = ⊥
MayAskForMemory (Some k) = Unit {0}

-- why no body of this kind is read
abbrev pub NoBodyOf : Option Kind → List ℕ → Error → Type 0
NoBodyOf k fields no.DecodeError = (body : FrameBody) (rest : List ℕ) → ¬ IsBodyOf k body fields rest
NoBodyOf k fields no.OutOfMemory = MayAskForMemory k × SomeRefused
NoBodyOf k fields no.NotImplemented = ⊥
NoBodyOf k fields no.TooLarge = ⊥
NoBodyOf k fields (no.Io text) = ⊥

-- a header has four bytes, and a body stands after it
abbrev pub IsLongEnough : Option Kind → List ℕ → Type 0
IsLongEnough None bytes = 4 ≤ length bytes
IsLongEnough (Some k) bytes = 4 < length bytes

-- The body is of this kind, and its fields are what is left: the kind's descriptor stands before them. A body of no kind is empty.
abbrev pub NamesKind : Option Kind → List ℕ → List ℕ → Type 0
NamesKind None body left = (body ≡ []) × (left ≡ [])
NamesKind (Some k) body left = (descriptor : List ℕ) × IsKind k descriptor × (body ≡ descriptor ++ left)

-- The head stands in the bytes, and leaves these fields: the header's first two bytes, the channel, and the descriptor.
pub record IsHead (h : FrameHead) (bytes left : List ℕ) : Type 0 where
  pub channel : List ℕ
  pub body : List ℕ
  pub two : length channel ≡ 2
  pub channel_is : h.channel ≡ from_be_bytes w16 channel
  pub whole : bytes ≡ 0x02 ∷ 0x00 ∷ channel ++ body
  pub names : NamesKind h.kind body left

-- why no head is read; reading one asks for no memory
abbrev pub HasNoHead : List ℕ → Error → Type 0
HasNoHead bytes no.DecodeError = (length bytes < 4) ⊎ (HasHeader bytes × ((h : FrameHead) (left : List ℕ) → ¬ IsHead h bytes left))
HasNoHead bytes no.NotImplemented = (4 ≤ length bytes) × ¬ HasHeader bytes
HasNoHead bytes no.OutOfMemory = ⊥
HasNoHead bytes no.TooLarge = ⊥
HasNoHead bytes (no.Io text) = ⊥

-- The head that stands in the bytes, and what it leaves; the frames that stand there are those on this channel whose body of
-- this kind stands in what is left. Or why no head stands there.
abbrev pub Opens : List ℕ → List ℕ → Result FrameHead Error → Type 0
Opens bytes left (Ok h) =
    IsLongEnough h.kind bytes × HasHeader bytes
    × ((f : Frame) (rest : List ℕ) → IsFrame f bytes rest ↔ ((f.channel ≡ h.channel) × IsBodyOf h.kind f.body left rest))
    × IsHead h bytes left
Opens bytes left (Err e) = HasNoHead bytes e

-- a head, from its channel and its kind
abbrev pub as_head : Result (ℕ × Option Kind) Error → Result FrameHead Error
as_head (Ok x) = Ok (record { channel = x.0; kind = x.1 })
as_head (Err e) = Err e

-- the one body of this kind, and what is after it
abbrev pub ReadsBodyOf : Option Kind → List ℕ → Result (FrameBody × List ℕ) Error → Type 0
ReadsBodyOf k fields (Ok x) =
    IsBodyOf k x.0 fields x.1 × ((b : FrameBody) (rest : List ℕ) → IsBodyOf k b fields rest → ◌≡◌ {A = FrameBody
    × List ℕ} (b, rest) x)
ReadsBodyOf k fields (Err e) = NoBodyOf k fields e

-- the one frame on this channel with a body of this kind, and what is after it
abbrev pub ReadsFrameOf : ℕ → Option Kind → List ℕ → Result (Frame × List ℕ) Error → Type 0
ReadsFrameOf n k fields (Ok x) = (x.0.channel ≡ n) × ReadsBodyOf k fields (Ok (x.0.body, x.1))
ReadsFrameOf n k fields (Err e) = NoBodyOf k fields e
