-- Part: other calls.
-- What holds of each SASL frame: it is read whatever follows it, and more is wanted before it is whole; what is written is a frame.
use Rattle.std.specs.Prelude.{◌≡◌, ◌≢◌, ◌≤◌, ℕ, List, [], ◌∷◌, ◌++◌, length, Result, Ok, IfSome, true}
use Rattle.std.specs.Str.{is_utf8}
use Rattle.amqp_values.specs.Text.{IsSymbolText}
use Rattle.amqp_sasl.specs.declared.body.Body.{Body}
use Rattle.amqp_sasl.specs.declared.frame.FrameFault.{FrameFault}
use Rattle.amqp_sasl.specs.declared.frame.ReceivedFrame.{ReceivedFrame}
use Rattle.amqp_sasl.specs.declared.frame.ReceivedFrame.TheVariants.{Wants, Frame}
use Rattle.amqp_sasl.specs.SaslFrame.{Said, mechanisms_are, init_is, challenge_is, response_is, outcome_is, IsFrame, said_in, frame_text}
use Rattle.amqp_sasl.specs.ReadFrame.{ReadsFrame}

-- each name is one that a symbol can spell
abbrev pub AreSpelled : List (List ℕ) → Type 0
AreSpelled [] = Unit {0}
AreSpelled (name ∷ names) = IsSymbolText name × AreSpelled names

-- what the types of a program say of what it writes: names of mechanisms are symbols, of which there is one or more; a host is UTF-8
abbrev pub CanBeWritten : Said → Type 0
CanBeWritten (mechanisms_are names) = AreSpelled names × (names ≢ [])
CanBeWritten (init_is mechanism response hostname) = IsSymbolText mechanism × IfSome hostname (λ s. is_utf8 s ≡ true)
CanBeWritten (challenge_is challenge) = Unit {0}
CanBeWritten (response_is response) = Unit {0}
CanBeWritten (outcome_is code additional) = Unit {0}

-- the text of a frame is a frame: so it is what is read of it
abbrev pub WrittenIsFrame : Type 0
WrittenIsFrame = (said : Said) → CanBeWritten said → length (frame_text said) ≤ 512 → IsFrame said (frame_text said)

-- a frame at the front is what is read, all of it and no more
abbrev pub FramesAreRead : Type 0
FramesAreRead =
    (said : Said) (text rest : List ℕ) (result : Result ReceivedFrame FrameFault) → IsFrame said text → ReadsFrame (text ++ rest) result
    → (body : Body) × (result ≡ Ok (Frame (length text) body)) × (said_in text body ≡ said)

-- of a frame that is not whole more is wanted, and no more than the frame has
abbrev pub FrontsWantMore : Type 0
FrontsWantMore =
    (said : Said) (front rest : List ℕ) (result : Result ReceivedFrame FrameFault) → IsFrame said (front ++ rest) → rest ≢ []
    → ReadsFrame front result → (n : ℕ) × (result ≡ Ok (Wants n)) × (n ≤ length (front ++ rest))
