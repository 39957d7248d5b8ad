-- Part: other calls.
-- The opening of a connection: what each call takes, tells and sends (AMQP 1.0 part 2, section 2.2; part 5, section 5.3.2).
use Rattle.std.specs.Prelude.{◌≡◌, ◌<◌, ◌≤◌, ◌+◌, ℕ, List, [], ◌∷◌, ◌++◌, length, take, Option, Some, None, Result, Ok, Err, IfOk, Bool, true, false, if◌then◌else◌}
use Rattle.amqp_memory.specs.Refusal.{SomeRefused}
use Rattle.amqp_sasl.specs.declared.place.Place.{Place}
use Rattle.amqp_sasl.specs.declared.body.SaslCode.{SaslCode}
use Rattle.amqp_sasl.specs.declared.body.SaslCode.TheVariants as code
use Rattle.amqp_sasl.specs.declared.body.Body.{Body}
use Rattle.amqp_sasl.specs.declared.body.Body.TheVariants as body
use Rattle.amqp_sasl.specs.declared.header.Protocol.{Protocol}
use Rattle.amqp_sasl.specs.declared.header.Protocol.TheVariants as protocol
use Rattle.amqp_sasl.specs.declared.header.ReceivedHeader.{ReceivedHeader}
use Rattle.amqp_sasl.specs.declared.header.ReceivedHeader.TheVariants as received
use Rattle.amqp_sasl.specs.declared.frame.FrameFault.{FrameFault}
use Rattle.amqp_sasl.specs.declared.frame.ReceivedFrame.{ReceivedFrame}
use Rattle.amqp_sasl.specs.declared.frame.ReceivedFrame.TheVariants as frame
use Rattle.amqp_sasl.specs.declared.opening.Login.{Login}
use Rattle.amqp_sasl.specs.declared.opening.Side.{Side}
use Rattle.amqp_sasl.specs.declared.opening.Side.TheVariants as side
use Rattle.amqp_sasl.specs.declared.opening.Phase.{Phase}
use Rattle.amqp_sasl.specs.declared.opening.Phase.TheVariants as phase
use Rattle.amqp_sasl.specs.declared.told.Taken.{Taken}
use Rattle.amqp_sasl.specs.declared.told.Told.{Told}
use Rattle.amqp_sasl.specs.declared.told.Told.TheVariants as told
use Rattle.amqp_sasl.specs.declared.told.OpeningError.{OpeningError}
use Rattle.amqp_sasl.specs.declared.told.OpeningError.TheVariants as no
use Rattle.amqp_sasl.specs.Header.{header_text, ReadsHeader}
use Rattle.amqp_sasl.specs.SaslFrame.{mechanisms_are, init_is, challenge_is, response_is, outcome_is, frame_text, part, names_in, has_name}
use Rattle.amqp_sasl.specs.ReadFrame.{ReadsFrame}

-- an opening: its side; a client's logins, and the host that it asks for; the mechanisms that a server offers; and where it stands
pub record OpeningView : Type 0 where
  pub side : Side
  pub logins : List Login
  pub hostname : Option (List ℕ)
  pub names : List (List ℕ)
  pub phase : Phase

abbrev pub fresh : Side → List Login → Option (List ℕ) → List (List ℕ) → OpeningView
fresh side logins hostname names = record { side = side; logins = logins; hostname = hostname; names = names; phase = phase.Fresh }

abbrev pub is_done : Phase → Bool
is_done phase.Open = true
is_done p = false

abbrev pub is_over : Phase → Bool
is_over phase.Over = true
is_over p = false

-- the protocol of the first header: that of SASL where it is asked for
abbrev pub first_header : Side → Protocol
first_header side.Plain = protocol.Amqp
first_header side.Client = protocol.Sasl
first_header side.Server = protocol.Sasl

-- ---- what a call does

-- what a call sends, a frame or nothing and then a header or nothing, and where the opening stands after it
pub record Move : Type 0 where
  pub frame : List ℕ
  pub header : List ℕ
  pub phase : Phase

-- Frame and header stand after what was to be sent; or the frame has more than 512 bytes, or memory was refused, and nothing is appended.
abbrev pub Sends : {X : Type 0} → List ℕ → List ℕ → List ℕ → Result X OpeningError → List ℕ → Type 0
Sends frame header old (Ok x) new = (new ≡ old ++ (frame ++ header)) × (length frame ≤ 512)
Sends frame header old (Err no.TooLarge) new = (new ≡ old) × (512 < length frame)
Sends frame header old (Err no.OutOfMemory) new = (new ≡ old) × SomeRefused
Sends frame header old (Err no.WrongTime) new = ⊥

-- after a call that was refused the opening is as before
abbrev pub moved : {X : Type 0} → Phase → OpeningView → Result X OpeningError → OpeningView
moved p v (Ok x) = record v { phase = p }
moved p v (Err e) = v

abbrev pub Does : {X : Type 0} → Move → OpeningView → List ℕ → Result X OpeningError → List ℕ → OpeningView → Type 0
Does m v old result new w = Sends m.frame m.header old result new × (w ≡ moved m.phase v result)

-- a call at its time does this; at another time it is refused, and nothing changes
abbrev pub Calls : Option Move → OpeningView → List ℕ → Result (Unit {0}) OpeningError → List ℕ → OpeningView → Type 0
Calls (Some m) v old result new w = Does m v old result new w
Calls None v old result new w = (result ≡ Err no.WrongTime) × (new ≡ old) × (w ≡ v)

-- ---- the calls of this side

-- the first header goes out first
abbrev pub begin_at : Side → Phase → Option Move
begin_at side phase.Fresh = Some (record { frame = []; header = header_text (first_header side); phase = phase.AwaitsHeader })
begin_at side p = None

abbrev pub Begins : OpeningView → List ℕ → Result (Unit {0}) OpeningError → List ℕ → OpeningView → Type 0
Begins v = Calls (begin_at v.side v.phase) v

-- the outcome; after `ok` the header of AMQP too
abbrev pub outcome_move : SaslCode → Option (List ℕ) → Move
outcome_move code.Ok additional = record { frame = frame_text (outcome_is code.Ok additional); header = header_text protocol.Amqp; phase = phase.AwaitsAmqp }
outcome_move c additional = record { frame = frame_text (outcome_is c additional); header = []; phase = phase.Over }

abbrev pub login_at : SaslCode → Option (List ℕ) → Phase → Option Move
login_at c additional phase.AsksLogin = Some (outcome_move c additional)
login_at c additional p = None

abbrev pub Logs : SaslCode → Option (List ℕ) → OpeningView → List ℕ → Result (Unit {0}) OpeningError → List ℕ → OpeningView → Type 0
Logs c additional v = Calls (login_at c additional v.phase) v

abbrev pub challenge_at : List ℕ → Phase → Option Move
challenge_at challenge phase.AsksLogin = Some (record { frame = frame_text (challenge_is challenge); header = []; phase = phase.AwaitsResponse })
challenge_at challenge p = None

abbrev pub Challenges : List ℕ → OpeningView → List ℕ → Result (Unit {0}) OpeningError → List ℕ → OpeningView → Type 0
Challenges challenge v = Calls (challenge_at challenge v.phase) v

abbrev pub response_at : List ℕ → Phase → Option Move
response_at response phase.AsksResponse = Some (record { frame = frame_text (response_is response); header = []; phase = phase.AwaitsOutcome })
response_at response p = None

abbrev pub Responds : List ℕ → OpeningView → List ℕ → Result (Unit {0}) OpeningError → List ℕ → OpeningView → Type 0
Responds response v = Calls (response_at response v.phase) v

-- ---- what is taken

-- what is taken and told of what stands at the front, and what is done
pub record Act : Type 0 where
  pub len : ℕ
  pub told : Told
  pub move : Move

-- nothing goes out
abbrev pub silent : Phase → Move
silent p = record { frame = []; header = []; phase = p }

-- nothing is taken
abbrev pub stays : Phase → Told → Act
stays p t = record { len = 0; told = t; move = silent p }

-- so many bytes are taken, and the opening is over
abbrev pub ends : ℕ → Told → Act
ends len t = record { len = len; told = t; move = silent phase.Over }

abbrev pub Acts : Act → OpeningView → List ℕ → Result Taken OpeningError → List ℕ → OpeningView → Type 0
Acts a v old result new w = Does a.move v old result new w × IfOk result (λ t. t ≡ record { len = a.len; told = a.told })

-- ---- headers

-- the header that is awaited, and where its taking leads
abbrev pub after_header : Side → Phase → Protocol → Option Phase
after_header side.Plain phase.AwaitsHeader protocol.Amqp = Some phase.Open
after_header side.Client phase.AwaitsHeader protocol.Sasl = Some phase.AwaitsMechanisms
after_header side.Server phase.AwaitsHeader protocol.Sasl = Some phase.AwaitsInit
after_header side phase.AwaitsAmqp protocol.Amqp = Some phase.Open
after_header side p q = None

-- a server's mechanisms go out as the header of SASL is taken
abbrev pub greeted : OpeningView → Protocol → Option Phase → Act
greeted v q (Some phase.Open) = record { len = 8; told = told.Opened; move = silent phase.Open }
greeted v q (Some phase.AwaitsInit) = record { len = 8; told = told.Greeted; move = record { frame = frame_text (mechanisms_are v.names); header = []; phase = phase.AwaitsInit } }
greeted v q (Some p) = record { len = 8; told = told.Greeted; move = silent p }
greeted v q None = ends 8 (told.OtherProtocol q)

abbrev pub on_header : OpeningView → ReceivedHeader → Act
on_header v (received.Header q) = greeted v q (after_header v.side v.phase q)
on_header v (received.Other came) = ends 8 (told.OtherHeader came)
on_header v received.Begun = stays v.phase (told.Wants 8)
on_header v received.NotAmqp = ends 0 told.NotAmqp

-- ---- frames

abbrev pub next_login : Option (ℕ × Login) → Option (ℕ × Login)
next_login (Some x) = Some (x.0 + 1, x.1)
next_login None = None

-- the first of a client's logins whose mechanism is offered, with its place
abbrev pub choose : List Login → List (List ℕ) → Option (ℕ × Login)
choose [] names = None
choose (login ∷ logins) names = if has_name login.mechanism names then Some (0, login) else next_login (choose logins names)

abbrev pub on_mechanisms : OpeningView → ℕ → Place → Option (ℕ × Login) → Act
on_mechanisms v len p (Some x) = record {
  len = len;
  told = told.Chosen x.0 p;
  move = record { frame = frame_text (init_is x.1.mechanism x.1.response v.hostname); header = []; phase = phase.AwaitsOutcome };
}
on_mechanisms v len p None = ends len (told.NoMechanism p)

abbrev pub on_outcome : ℕ → SaslCode → Option Place → Act
on_outcome len code.Ok additional = record { len = len; told = told.LoggedIn additional; move = record { frame = []; header = header_text protocol.Amqp; phase = phase.AwaitsAmqp } }
on_outcome len c additional = ends len (told.Refused c additional)

-- a choice of a mechanism that was not offered is answered by the outcome `auth`
abbrev pub on_init : ℕ → Bool → Place → Option Place → Option Place → Act
on_init len true mechanism response hostname = record { len = len; told = told.LoginAsked mechanism response hostname; move = silent phase.AsksLogin }
on_init len false mechanism response hostname = record {
  len = len;
  told = told.NotOffered mechanism;
  move = record { frame = frame_text (outcome_is code.Auth None); header = []; phase = phase.Over };
}

-- the frame that is awaited, whose bytes these are; another one ends the opening
abbrev pub on_body : OpeningView → List ℕ → ℕ → Phase → Body → Act
on_body v bytes len phase.AwaitsMechanisms (body.Mechanisms p) = on_mechanisms v len p (choose v.logins (names_in (part bytes p)))
on_body v bytes len phase.AwaitsOutcome (body.Challenge p) = record { len = len; told = told.Challenged p; move = silent phase.AsksResponse }
on_body v bytes len phase.AwaitsOutcome (body.Outcome c additional) = on_outcome len c additional
on_body v bytes len phase.AwaitsInit (body.Init mechanism response hostname) = on_init len (has_name (part bytes mechanism) v.names) mechanism response hostname
on_body v bytes len phase.AwaitsResponse (body.Response p) = record { len = len; told = told.Responded p; move = silent phase.AsksLogin }
on_body v bytes len p b = ends len (told.Unexpected b)

abbrev pub on_frame : OpeningView → List ℕ → Result ReceivedFrame FrameFault → Act
on_frame v input (Ok (frame.Wants n)) = stays v.phase (told.Wants n)
on_frame v input (Ok (frame.Frame len b)) = on_body v (take len input) len v.phase b
on_frame v input (Err fault) = ends 0 (told.Malformed fault)

-- ---- what stands at the front

abbrev pub TakesHeader : OpeningView → List ℕ → List ℕ → Result Taken OpeningError → List ℕ → OpeningView → Type 0
TakesHeader v input old result new w = (h : ReceivedHeader) × ReadsHeader input h × Acts (on_header v h) v old result new w

abbrev pub TakesFrame : OpeningView → List ℕ → List ℕ → Result Taken OpeningError → List ℕ → OpeningView → Type 0
TakesFrame v input old result new w = (f : Result ReceivedFrame FrameFault) × ReadsFrame input f × Acts (on_frame v input f) v old result new w

abbrev pub TakesAt : Phase → OpeningView → List ℕ → List ℕ → Result Taken OpeningError → List ℕ → OpeningView → Type 0
TakesAt phase.Fresh v input old result new w = (result ≡ Err no.WrongTime) × (new ≡ old) × (w ≡ v)
TakesAt phase.AwaitsHeader v input old result new w = TakesHeader v input old result new w
TakesAt phase.AwaitsAmqp v input old result new w = TakesHeader v input old result new w
TakesAt phase.AsksLogin v input old result new w = Acts (stays v.phase told.Waits) v old result new w
TakesAt phase.AsksResponse v input old result new w = Acts (stays v.phase told.Waits) v old result new w
TakesAt phase.Open v input old result new w = Acts (stays v.phase told.Ended) v old result new w
TakesAt phase.Over v input old result new w = Acts (stays v.phase told.Ended) v old result new w
TakesAt p v input old result new w = TakesFrame v input old result new w

abbrev pub Takes : OpeningView → List ℕ → List ℕ → Result Taken OpeningError → List ℕ → OpeningView → Type 0
Takes v = TakesAt v.phase v
