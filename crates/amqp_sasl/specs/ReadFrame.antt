-- Part: other calls.
-- What is read at the front of received bytes where a SASL frame is expected (AMQP 1.0 part 5, section 5.3.1).
use Rattle.std.specs.Prelude.{◌≡◌, ◌≢◌, ◌<◌, ◌≤◌, ◌*◌, ◌⊎◌, ℕ, List, [], ◌++◌, length, take, drop, slice_index, Result, Ok, Err}
use Rattle.std.specs.Int.{w32, from_be_bytes}
use Rattle.amqp_sasl.specs.declared.frame.FrameFault.{FrameFault}
use Rattle.amqp_sasl.specs.declared.frame.FrameFault.TheVariants as no
use Rattle.amqp_sasl.specs.declared.frame.ReceivedFrame.{ReceivedFrame}
use Rattle.amqp_sasl.specs.declared.frame.ReceivedFrame.TheVariants.{Wants, Frame}
use Rattle.amqp_sasl.specs.SaslFrame.{Said, IsBody, IsFrame, said_in, AreWithin}

-- the size that the first four bytes tell
abbrev pub size_at : List ℕ → ℕ
size_at input = from_be_bytes w32 (take 4 input)

abbrev pub IsSize : ℕ → Type 0
IsSize n = (8 ≤ n) × (n ≤ 512)

-- the four bytes of a size that a frame may have, and as many bytes in all
abbrev pub HasWhole : List ℕ → Type 0
HasWhole input = (4 ≤ length input) × IsSize (size_at input) × (size_at input ≤ length input)

-- ---- a frame that is whole

-- where its body begins
abbrev pub offset_at : List ℕ → ℕ
offset_at frame = slice_index frame 4 * 4

abbrev pub HasOffset : List ℕ → Type 0
HasOffset frame = (8 ≤ offset_at frame) × (offset_at frame ≤ length frame)

abbrev pub HasHeader : List ℕ → Type 0
HasHeader frame = HasOffset frame × (slice_index frame 5 ≡ 1)

-- What is read of a whole frame: what it says; or the first thing that is wrong with it.
abbrev pub ReadsWhole : List ℕ → Result ReceivedFrame FrameFault → Type 0
ReadsWhole frame (Ok (Wants n)) = ⊥
ReadsWhole frame (Ok (Frame len body)) = (len ≡ length frame) × AreWithin len body × IsFrame (said_in frame body) frame
ReadsWhole frame (Err no.Size) = ⊥
ReadsWhole frame (Err no.Offset) = ¬ HasOffset frame
ReadsWhole frame (Err no.Type) = HasOffset frame × (slice_index frame 5 ≢ 1)
ReadsWhole frame (Err no.Body) = HasHeader frame × ((said : Said) (text rest : List ℕ) → IsBody said text → ¬ (drop (offset_at frame) frame ≡ text ++ rest))
ReadsWhole frame (Err no.Trailing) =
    HasHeader frame × ((said : Said) × (text : List ℕ) × (rest : List ℕ) × IsBody said text × (drop (offset_at frame) frame ≡ text ++ rest) × (rest ≢ []))

-- What is read at the front of received bytes: how many are needed; or that the size is wrong; or what is read of a whole frame.
abbrev pub ReadsFrame : List ℕ → Result ReceivedFrame FrameFault → Type 0
ReadsFrame input (Ok (Wants n)) =
    (length input < n) × (((length input < 4) × (n ≡ 4)) ⊎ ((4 ≤ length input) × IsSize n × (n ≡ size_at input)))
ReadsFrame input (Err no.Size) = (4 ≤ length input) × ¬ IsSize (size_at input)
ReadsFrame input result = HasWhole input × ReadsWhole (take (size_at input) input) result
