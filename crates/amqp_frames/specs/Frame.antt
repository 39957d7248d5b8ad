-- Part: the bytes.
-- Frames: their grammar, and the text of one (AMQP 1.0 part 2, section 2.3).
use Rattle.std.specs.Prelude.{◌≡◌, ◌<◌, ◌≤◌, ◌⊎◌, ℕ, List, [], ◌∷◌, ◌++◌, length, Result, Ok, Err}
use Rattle.std.specs.Int.{w16, from_be_bytes, to_be_bytes}
use Rattle.amqp_memory.specs.Refusal.{SomeRefused}
use Rattle.amqp_types.specs.declared.performatives.Performative.{Performative}
use Rattle.amqp_types.specs.declared.performatives.Performative.TheVariants as performative
use Rattle.amqp_types.specs.Performatives.{IsPerformative, performative_text}
use Rattle.amqp_frames.specs.declared.frame.Frame.{Frame}
use Rattle.amqp_frames.specs.declared.frame.FrameBody.{FrameBody}
use Rattle.amqp_frames.specs.declared.frame.FrameBody.TheVariants.{Attach, Flow, Transfer, Disposition, Detach, Begin}
use Rattle.amqp_frames.specs.declared.frame.FrameBody.TheVariants.{End, Open, Close, Empty}
use Rattle.amqp_frames.specs.declared.error.Error.{Error}
use Rattle.amqp_frames.specs.declared.error.Error.TheVariants as no

-- ---- the grammar

-- After a Transfer all bytes are its payload; after any other performative they are the rest.
abbrev pub body_of : Performative → List ℕ → FrameBody × List ℕ
body_of (performative.Attach p) after = (Attach p, after)
body_of (performative.Flow p) after = (Flow p, after)
body_of (performative.Transfer p) after = (Transfer p after, [])
body_of (performative.Disposition p) after = (Disposition p, after)
body_of (performative.Detach p) after = (Detach p, after)
body_of (performative.Begin p) after = (Begin p, after)
body_of (performative.End p) after = (End p, after)
body_of (performative.Open p) after = (Open p, after)
body_of (performative.Close p) after = (Close p, after)

-- a performative, and what is after it
pub record IsSaid (body : FrameBody) (bytes rest : List ℕ) : Type 0 where
  pub performative : Performative
  pub text : List ℕ
  pub after : List ℕ
  pub is : IsPerformative performative text
  pub whole : bytes ≡ text ++ after
  pub says : body_of performative after ≡ (body, rest)

-- nothing at all, or a performative
abbrev pub IsBody : FrameBody → List ℕ → List ℕ → Type 0
IsBody body bytes rest = ((bytes ≡ []) × (body ≡ Empty) × (rest ≡ [])) ⊎ IsSaid body bytes rest

-- The frame stands in the bytes, and leaves the rest: a header of two words, which says that no extended header follows
-- and that the frame is one of AMQP; the channel; and the body.
pub record IsFrame (f : Frame) (bytes rest : List ℕ) : Type 0 where
  pub channel : List ℕ
  pub body : List ℕ
  pub two : length channel ≡ 2
  pub channel_is : f.channel ≡ from_be_bytes w16 channel
  pub whole : bytes ≡ 0x02 ∷ 0x00 ∷ channel ++ body
  pub says : IsBody f.body body rest

-- the bytes begin with the header's first two
pub record HasHeader (bytes : List ℕ) : Type 0 where
  pub after : List ℕ
  pub whole : bytes ≡ 0x02 ∷ 0x00 ∷ after

-- What decoding answers: the one frame and rest that stand in the bytes; or why there is none.
abbrev pub Decodes : List ℕ → Result (Frame × List ℕ) Error → Type 0
Decodes bytes (Ok x) = IsFrame x.0 bytes x.1 × ((f : Frame) (rest : List ℕ) → IsFrame f bytes rest → ◌≡◌ {A = Frame × List ℕ} (f, rest) x)
Decodes bytes (Err no.DecodeError) = (length bytes < 4) ⊎ (HasHeader bytes × ((f : Frame) (rest : List ℕ) → ¬ IsFrame f bytes rest))
Decodes bytes (Err no.NotImplemented) = (4 ≤ length bytes) × ¬ HasHeader bytes
Decodes bytes (Err no.OutOfMemory) = (4 < length bytes) × HasHeader bytes × SomeRefused
Decodes bytes (Err no.TooLarge) = ⊥
Decodes bytes (Err (no.Io text)) = ⊥

-- ---- the text of a frame

abbrev pub header_text : ℕ → List ℕ
header_text channel = 0x02 ∷ 0x00 ∷ to_be_bytes w16 channel

-- the performative's canonical text, and the payload after it
abbrev pub text_of : FrameBody → List ℕ
text_of (Attach p) = performative_text (performative.Attach p)
text_of (Flow p) = performative_text (performative.Flow p)
text_of (Transfer p payload) = performative_text (performative.Transfer p)
text_of (Disposition p) = performative_text (performative.Disposition p)
text_of (Detach p) = performative_text (performative.Detach p)
text_of (Begin p) = performative_text (performative.Begin p)
text_of (End p) = performative_text (performative.End p)
text_of (Open p) = performative_text (performative.Open p)
text_of (Close p) = performative_text (performative.Close p)
text_of Empty = []

abbrev pub payload_of : FrameBody → List ℕ
payload_of (Transfer p payload) = payload
payload_of body = []
