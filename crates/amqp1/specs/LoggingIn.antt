-- Part: other calls.
-- The calls of SASL: a server's login and its challenge, and a client's response.
use Rattle.std.specs.Prelude.{◌≡◌, ◌∷◌, [], ℕ, List, Option, Some, None, Result, Ok, Err, nat_eq, if◌then◌else◌}
use Rattle.amqp_sasl.specs.declared.body.SaslCode.{SaslCode}
use Rattle.amqp_sasl.specs.declared.body.SaslCode.TheVariants as code
use Rattle.amqp_sasl.specs.declared.told.OpeningError.{OpeningError}
use Rattle.amqp_sasl.specs.declared.told.OpeningError.TheVariants as no
use Rattle.amqp_driver.specs.declared.plain.PlainRelay.{PlainRelay}
use Rattle.amqp_driver.specs.Stream.{StreamView}
use Rattle.amqp_driver.specs.StreamTicking.{LogsStream, ChallengesStream, RespondsStream}
use Rattle.amqp1.specs.declared.status.Status.{Status}
use Rattle.amqp1.specs.declared.status.Status.TheVariants as status
use Rattle.amqp1.specs.ClientView.{ClientView}
use Rattle.amqp1.specs.Refused.{RefusedModel, too_large, wrong_time}

-- the outcome of a number (AMQP 1.0 part 5, section 5.3.3.6)
abbrev pub code_of : ℕ → Option SaslCode
code_of n =
    if nat_eq n 0 then Some code.Ok else
    if nat_eq n 1 then Some code.Auth else
    if nat_eq n 2 then Some code.Sys else
    if nat_eq n 3 then Some code.SysPerm else
    if nat_eq n 4 then Some code.SysTemp else
    None

-- additional data: 0, which says that there are none; or 1, and all that follows
abbrev pub additional_by : ℕ → List ℕ → Option (Option (List ℕ))
additional_by flag [] = if nat_eq flag 0 then Some None else (if nat_eq flag 1 then Some (Some []) else None)
additional_by flag (b ∷ rest) = if nat_eq flag 1 then Some (Some (b ∷ rest)) else None

-- the outcome and its additional data that bytes say, if they say them
abbrev pub login_by : Option SaslCode → Option (Option (List ℕ)) → Option (SaslCode × Option (List ℕ))
login_by (Some c) (Some additional) = Some (c, additional)
login_by c additional = None

abbrev pub login_of : List ℕ → Option (SaslCode × Option (List ℕ))
login_of (c ∷ (flag ∷ rest)) = login_by (code_of c) (additional_by flag rest)
login_of bytes = None

-- ---- the calls

abbrev pub SaslResult : Type 0
SaslResult = Result (Unit {0}) OpeningError

-- the status of a call
abbrev pub sasl_status : SaslResult → Status
sasl_status (Ok x) = status.Done
sasl_status (Err no.WrongTime) = status.Refused
sasl_status (Err no.TooLarge) = status.Refused
sasl_status (Err no.OutOfMemory) = status.NoMemory

-- the last refusal after it
abbrev pub sasl_last : RefusedModel → SaslResult → RefusedModel
sasl_last last (Ok x) = last
sasl_last last (Err no.WrongTime) = wrong_time
sasl_last last (Err no.TooLarge) = too_large
sasl_last last (Err no.OutOfMemory) = last

-- The stream does the call, or refuses it; the status says so, and a refusal is kept by its name.
abbrev pub RunsSasl : (StreamView PlainRelay → SaslResult → StreamView PlainRelay → Type 0) → ClientView → Status → ClientView → Type 0
RunsSasl Does c s c' = (r : SaslResult) × Does c.stream r c'.stream × (s ≡ sasl_status r) × (c'.last ≡ sasl_last c.last r)

-- the outcome that the bytes say; where they say none, nothing is done
abbrev pub LogsBy : Option (SaslCode × Option (List ℕ)) → ClientView → Status → ClientView → Type 0
LogsBy None c s c' = (s ≡ status.BadArgument) × (c' ≡ c)
LogsBy (Some x) c s c' = RunsSasl (LogsStream x.0 x.1) c s c'

abbrev pub PerformsLogin : ClientView → List ℕ → Status → ClientView → Type 0
PerformsLogin c input s c' = LogsBy (login_of input) c s c'

-- the challenge, or the response, is all the bytes
abbrev pub PerformsChallenge : ClientView → List ℕ → Status → ClientView → Type 0
PerformsChallenge c input s c' = RunsSasl (ChallengesStream input) c s c'

abbrev pub PerformsRespond : ClientView → List ℕ → Status → ClientView → Type 0
PerformsRespond c input s c' = RunsSasl (RespondsStream input) c s c'
