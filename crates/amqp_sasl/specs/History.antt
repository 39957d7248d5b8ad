-- Part: other calls.
-- Chains of calls of an opening, and what holds over each of them (AMQP 1.0 part 2, section 2.2; part 5, section 5.3.2).
use Rattle.std.specs.Prelude.{◌≡◌, ℕ, List, [], ◌∷◌, ◌++◌, take, map, ◌⊎◌, Option, Result, Ok, Err}
use Rattle.amqp_values.specs.Reading.{joined}
use Rattle.amqp_sasl.specs.declared.body.SaslCode.{SaslCode}
use Rattle.amqp_sasl.specs.declared.body.SaslCode.TheVariants as code
use Rattle.amqp_sasl.specs.declared.header.Protocol.{Protocol}
use Rattle.amqp_sasl.specs.declared.header.Protocol.TheVariants as protocol
use Rattle.amqp_sasl.specs.declared.opening.Login.{Login}
use Rattle.amqp_sasl.specs.declared.opening.Side.{Side}
use Rattle.amqp_sasl.specs.declared.opening.Side.TheVariants as side
use Rattle.amqp_sasl.specs.declared.opening.Phase.TheVariants as phase
use Rattle.amqp_sasl.specs.declared.told.Taken.{Taken}
use Rattle.amqp_sasl.specs.declared.told.Told.{Told}
use Rattle.amqp_sasl.specs.declared.told.Told.TheVariants as told
use Rattle.amqp_sasl.specs.declared.told.OpeningError.{OpeningError}
use Rattle.amqp_sasl.specs.Header.{header_text}
use Rattle.amqp_sasl.specs.SaslFrame.{Said, mechanisms_are, init_is, challenge_is, response_is, outcome_is, IsFrame, frame_text}
use Rattle.amqp_sasl.specs.Opening.{OpeningView, fresh, Begins, Logs, Challenges, Responds, Takes}

-- ---- chains of calls

-- a call with its arguments, what it answered, and the bytes that it appended
pub data Entry : Type 0 where
  begun : Result (Unit {0}) OpeningError → List ℕ → Entry
  took : List ℕ → Result Taken OpeningError → List ℕ → Entry
  logged : SaslCode → Option (List ℕ) → Result (Unit {0}) OpeningError → List ℕ → Entry
  challenged : List ℕ → Result (Unit {0}) OpeningError → List ℕ → Entry
  responded : List ℕ → Result (Unit {0}) OpeningError → List ℕ → Entry

abbrev pub sent : Entry → List ℕ
sent (begun result out) = out
sent (took input result out) = out
sent (logged c additional result out) = out
sent (challenged challenge result out) = out
sent (responded response result out) = out

-- the call as its contract says it, where these bytes were to be sent before it, and those after it
abbrev pub Called : OpeningView → Entry → List ℕ → List ℕ → OpeningView → Type 0
Called v (begun result out) old new w = Begins v old result new w
Called v (took input result out) old new w = Takes v input old result new w
Called v (logged c additional result out) old new w = Logs c additional v old result new w
Called v (challenged challenge result out) old new w = Challenges challenge v old result new w
Called v (responded response result out) old new w = Responds response v old result new w

-- one call, on whatever was to be sent before it
abbrev pub IsCall : OpeningView → Entry → OpeningView → Type 0
IsCall v e w = (old : List ℕ) × (new : List ℕ) × (new ≡ old ++ sent e) × Called v e old new w

-- calls, one after the other
abbrev pub Chain : OpeningView → List Entry → OpeningView → Type 0
Chain v [] w = w ≡ v
Chain v (e ∷ es) w = (m : OpeningView) × IsCall v e m × Chain m es w

-- ---- some of them, and each of them

abbrev pub Among : {X : Type 0} → (X → Type 0) → List X → Type 0
Among P [] = ⊥
Among P (x ∷ xs) = P x ⊎ Among P xs

abbrev pub Each : {X : Type 0} → (X → Type 0) → List X → Type 0
Each P [] = Unit {0}
Each P (x ∷ xs) = P x × Each P xs

-- ---- who was let in

-- the header of AMQP was taken
abbrev pub TookAmqp : Entry → Type 0
TookAmqp (took input (Ok t) out) = (t.told ≡ told.Opened) × (take 8 input ≡ header_text protocol.Amqp)
TookAmqp e = ⊥

-- the outcome `ok` was taken: a frame of the server says so
abbrev pub TookOk : Entry → Type 0
TookOk (took input (Ok t) out) = (additional : Option (List ℕ)) × IsFrame (outcome_is code.Ok additional) (take t.len input)
TookOk e = ⊥

abbrev pub IsAsking : Told → Type 0
IsAsking (told.LoginAsked mechanism response hostname) = Unit {0}
IsAsking (told.Responded response) = Unit {0}
IsAsking t = ⊥

-- a client asked to be let in, by its choice or by its response to a challenge
abbrev pub Asked : Entry → Type 0
Asked (took input (Ok t) out) = IsAsking t.told
Asked e = ⊥

abbrev pub IsWaiting : Told → Type 0
IsWaiting (told.Wants n) = Unit {0}
IsWaiting told.Waits = Unit {0}
IsWaiting told.Ended = Unit {0}
IsWaiting t = ⊥

-- nothing came of the call: it was refused, or it asked for more
abbrev pub IsIdle : Entry → Type 0
IsIdle (begun (Err e) out) = Unit {0}
IsIdle (took input (Ok t) out) = (t.len ≡ 0) × IsWaiting t.told
IsIdle (took input (Err e) out) = Unit {0}
IsIdle (logged c additional (Err e) out) = Unit {0}
IsIdle (challenged challenge (Err e) out) = Unit {0}
IsIdle (responded response (Err e) out) = Unit {0}
IsIdle e = ⊥

-- this side's `login` with the code `ok` was accepted
abbrev pub LetIn : Entry → Type 0
LetIn (logged code.Ok additional (Ok u) out) = Unit {0}
LetIn e = ⊥

-- a client asked, and was let in by the caller: nothing came of the calls between
pub record WasLetIn (history : List Entry) : Type 0 where
  pub before : List Entry
  pub asked : Entry
  pub between : List Entry
  pub login : Entry
  pub after : List Entry
  pub whole : history ≡ before ++ asked ∷ (between ++ login ∷ after)
  pub is_asked : Asked asked
  pub are_idle : Each IsIdle between
  pub is_login : LetIn login

-- what a side's login needs: nothing without SASL; the server's word; the caller's word while a client asks
abbrev pub LoggedIn : Side → List Entry → Type 0
LoggedIn side.Plain history = Unit {0}
LoggedIn side.Client history = Among TookOk history
LoggedIn side.Server history = WasLetIn history

-- ---- what goes out

pub data Message : Type 0 where
  a_header : Protocol → Message
  a_frame : Said → Message

abbrev pub message_text : Message → List ℕ
message_text (a_header p) = header_text p
message_text (a_frame said) = frame_text said

abbrev pub IsFront : List Message → List Message → Type 0
IsFront front all = (rest : List Message) × (all ≡ front ++ rest)

-- after the outcome `ok` comes the header of AMQP
abbrev pub after_outcome : SaslCode → List Message
after_outcome code.Ok = a_header protocol.Amqp ∷ []
after_outcome c = []

-- what a client says in all: the header of SASL, the choice of one of its logins, its responses, and the header of AMQP
pub record ClientTalk (logins : List Login) (hostname : Option (List ℕ)) (ms : List Message) : Type 0 where
  pub login : Login
  pub is_own : Among (λ l. l ≡ login) logins
  pub responses : List (List ℕ)
  pub front : IsFront ms (a_header protocol.Sasl ∷ a_frame (init_is login.mechanism login.response hostname) ∷ (map (λ r. a_frame (response_is r)) responses ++ a_header protocol.Amqp ∷ []))

-- what a server says in all: the header of SASL, its mechanisms, its challenges, one outcome, and where that is `ok` the header of AMQP
pub record ServerTalk (names : List (List ℕ)) (ms : List Message) : Type 0 where
  pub challenges : List (List ℕ)
  pub code : SaslCode
  pub additional : Option (List ℕ)
  pub front : IsFront ms (a_header protocol.Sasl ∷ a_frame (mechanisms_are names) ∷ (map (λ c. a_frame (challenge_is c)) challenges ++ a_frame (outcome_is code additional) ∷ after_outcome code))

-- The messages are a front of what this side may say. A client none of whose logins is offered says no more than its header.
abbrev pub IsTalk : OpeningView → Side → List Message → Type 0
IsTalk v side.Plain ms = IsFront ms (a_header protocol.Amqp ∷ [])
IsTalk v side.Client ms = IsFront ms (a_header protocol.Sasl ∷ []) ⊎ ClientTalk v.logins v.hostname ms
IsTalk v side.Server ms = ServerTalk v.names ms

-- ---- the laws

-- an opening that is open took the peer's header of AMQP, and there was a login where SASL was asked for
abbrev pub OpensByLogin : Type 0
OpensByLogin =
    (side : Side) (logins : List Login) (hostname : Option (List ℕ)) (names : List (List ℕ)) (es : List Entry) (w : OpeningView)
    → Chain (fresh side logins hostname names) es w → w.phase ≡ phase.Open → Among TookAmqp es × LoggedIn side es

-- what goes out over a chain of calls are messages in their order, each at most as often as the standard says
abbrev pub SaysInOrder : Type 0
SaysInOrder =
    (side : Side) (logins : List Login) (hostname : Option (List ℕ)) (names : List (List ℕ)) (es : List Entry) (w : OpeningView)
    → Chain (fresh side logins hostname names) es w
    → (ms : List Message) × IsTalk (fresh side logins hostname names) side ms × (joined (map sent es) ≡ joined (map message_text ms))

-- nothing is taken, and nothing goes out
abbrev pub IsSilent : Entry → Type 0
IsSilent e = IsIdle e × (sent e ≡ [])

-- an opening that is over stays so
abbrev pub StaysOver : Type 0
StaysOver = (v w : OpeningView) (es : List Entry) → v.phase ≡ phase.Over → Chain v es w → (w ≡ v) × Each IsSilent es
