-- Part: other calls.
-- What a refusal is called, and what answers it, by its number in a record.
use Rattle.std.specs.Prelude.{◌≡◌, ◌∷◌, ◌++◌, ◌&&◌, ◌||◌, [], ℕ, List, Bool, false, nat_le, Option, Some, None, codes}
use Rattle.amqp_engine.specs.declared.engine.step_error.StepError.{StepError}
use Rattle.amqp_driver.specs.Refusals.{refusal_number}
use Rattle.fe2o3_amqp.specs.declared.refusals.PeerAnswer.{PeerAnswer}
use Rattle.fe2o3_amqp.specs.declared.refusals.PeerAnswer.TheVariants as by
use Rattle.fe2o3_amqp.specs.Refusals.{step_answer}
use Rattle.fe2o3_amqp.specs.Transcript.{name_of}
use Rattle.amqp1.specs.Refused.{condition_said}

-- the numbers of the engine's refusals
abbrev pub is_within : ℕ → ℕ → ℕ → Bool
is_within least most n = nat_le least n && nat_le n most

abbrev pub is_engines : ℕ → Bool
is_engines n =
    is_within 1 4 n ||
    is_within 11 15 n ||
    is_within 21 25 n ||
    is_within 31 37 n ||
    is_within 41 44 n ||
    is_within 51 55 n ||
    is_within 61 70 n ||
    is_within 81 85 n

-- those of transfers that the driver does not send, of streams that are not opened, and of transfers that a link does not send
abbrev pub is_drivers : ℕ → Bool
is_drivers n = is_within 91 92 n || is_within 101 108 n || is_within 111 116 n

-- The name of each refusal of the engine that has the number; of the two of the driver, of the eight of a stream that is not opened, and of the six of a link;
-- and no other number has one.
pub record IsCalled (n : ℕ) (name : Option (List ℕ)) : Type 0 where
  pub engine : (e : StepError) → refusal_number e ≡ n → name ≡ Some (name_of e)
  pub too_long : n ≡ 91 → name ≡ Some (codes "PayloadTooLong")
  pub tag_too_long : n ≡ 92 → name ≡ Some (codes "TagTooLong")
  pub no_mechanism : n ≡ 101 → name ≡ Some (codes "NoMechanism")
  pub not_offered : n ≡ 102 → name ≡ Some (codes "NotOffered")
  pub login_refused : n ≡ 103 → name ≡ Some (codes "LoginRefused")
  pub other_protocol : n ≡ 104 → name ≡ Some (codes "OtherProtocol")
  pub other_header : n ≡ 105 → name ≡ Some (codes "OtherHeader")
  pub not_amqp : n ≡ 106 → name ≡ Some (codes "NotAmqp")
  pub malformed_sasl : n ≡ 107 → name ≡ Some (codes "MalformedSasl")
  pub unexpected_sasl : n ≡ 108 → name ≡ Some (codes "UnexpectedSasl")
  pub no_sender : n ≡ 111 → name ≡ Some (codes "NoSender")
  pub not_attached : n ≡ 112 → name ≡ Some (codes "NotAttached")
  pub too_large : n ≡ 113 → name ≡ Some (codes "TooLarge")
  pub none_under_way : n ≡ 114 → name ≡ Some (codes "NoneUnderWay")
  pub no_credit : n ≡ 115 → name ≡ Some (codes "NoCredit")
  pub not_next : n ≡ 116 → name ≡ Some (codes "NotNext")
  pub other : is_engines n ≡ false → is_drivers n ≡ false → name ≡ None

-- What answers a received frame that was refused so, where this side's Close did not go out; nothing answers any other.
pub record IsAnsweredBy (n : ℕ) (answer : Option PeerAnswer) : Type 0 where
  pub engine : (e : StepError) → refusal_number e ≡ n → answer ≡ step_answer e
  pub other : is_engines n ≡ false → answer ≡ None

-- the frame that carries the condition
abbrev pub frame_said : Option PeerAnswer → List ℕ
frame_said None = []
frame_said (Some (by.End condition)) = codes "end"
frame_said (Some (by.Close condition)) = codes "close"

-- the name, the condition and the frame, with a line feed between; nothing where there is no name
abbrev pub text_of : Option (List ℕ) → Option PeerAnswer → List ℕ
text_of None answer = []
text_of (Some name) answer = name ++ ((10 ∷ []) ++ (condition_said answer ++ ((10 ∷ []) ++ frame_said answer)))

-- what is told of this number
abbrev pub IsRefusalText : ℕ → List ℕ → Type 0
IsRefusalText n text = (name : Option (List ℕ)) × (answer : Option PeerAnswer) × IsCalled n name × IsAnsweredBy n answer × (text ≡ text_of name answer)
