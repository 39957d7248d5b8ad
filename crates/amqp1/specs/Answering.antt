-- Part: other calls; inner.
-- The answers to what the peer begins and ends: to a record, and to a Begin and an End by a request.
use Rattle.std.specs.Prelude.{◌≡◌, ◌⊎◌, ℕ, List, length, take, drop, Option, Some, None, Result, Ok, Err, if◌then◌else◌, nat_lt}
use Rattle.std.specs.Int.{w32, from_be_bytes}
use Rattle.amqp_values.specs.Reading.{◌>>=◌, number_at}
use Rattle.amqp_values.specs.declared.error.ReadError.{ReadError}
use Rattle.amqp_values.specs.declared.error.ReadError.TheVariants.{Malformed, OutOfMemory}
use Rattle.amqp_types.specs.Begin.{BeginModel}
use Rattle.amqp_types.specs.Error.{ErrorModel}
use Rattle.amqp_types.specs.Performatives.{IsPerformative}
use Rattle.amqp_types.specs.declared.performatives.Performative.TheVariants as its
use Rattle.amqp_session.specs.Relay.{Relays}
use Rattle.amqp_session.specs.Settings.{SettingsModel}
use Rattle.amqp_driver.specs.declared.answered.BeginAnswer.{BeginAnswer}
use Rattle.amqp_driver.specs.declared.answered.EndAnswer.{EndAnswer}
use Rattle.amqp_driver.specs.declared.answered.RecordAnswer.{RecordAnswer}
use Rattle.amqp_driver.specs.declared.plain.PlainRelay.{PlainRelay}
use Rattle.amqp_driver.specs.declared.record.Record.{Record}
use Rattle.amqp_driver.specs.StreamTicking.{BeginsStream, EndsStream}
use Rattle.amqp_driver.specs.Wanted.{AnswersRecord, LetsGoStream}
use Rattle.amqp1.specs.declared.status.Status.{Status}
use Rattle.amqp1.specs.declared.status.Status.TheVariants as status
use Rattle.amqp1.specs.Asked.{NoneGranted}
use Rattle.amqp1.specs.Asking.{settings_of}
use Rattle.amqp1.specs.ClientView.{ClientView}
use Rattle.amqp1.specs.Reading.{IsErrorIfAny}
use Rattle.amqp1.specs.Refused.{last_answered, last_begun, last_ended}
use Rattle.amqp1.specs.Status.{answered_status, begun_status, ended_status}

-- ---- what a record asks for

-- The stream gives what the record asks for, of the answers that the flags name, to a Begin by a session of this number; the status says what became of it, and a refusal is kept.
abbrev pub AnswersOne : Relays PlainRelay → ClientView → ℕ → ℕ → Record → List ℕ → Status → ClientView → Type 0
AnswersOne g c flags n r input s c' = (a : RecordAnswer) × AnswersRecord g c.stream flags (record { 0 = n }) r input a c'.stream × (s ≡ answered_status a)
    × (c'.last ≡ last_answered c.last c'.stream.driver.engine.connection.state a)

-- ---- a Begin (AMQP 1.0 part 2, section 2.5.1)

-- so many bytes, and the rest
abbrev pub cut_at : ℕ → List ℕ → Option (List ℕ × List ℕ)
cut_at n bytes = if nat_lt (length bytes) n then None else Some (take n bytes, drop n bytes)

-- the number of a session; how many bytes the Begin has that names its settings, and that; and the peer's frame behind its size, all the rest
abbrev pub begin_parts : List ℕ → Option (ℕ × List ℕ × List ℕ)
begin_parts bytes = number_at w32 bytes >>= λ n. number_at w32 n.1 >>= λ count. cut_at count.0 count.1 >>= λ parts. Some (n.0, parts.0, parts.1)

-- the settings that a Begin names which answers none
abbrev pub NamesSettings : List ℕ → SettingsModel → Type 0
NamesSettings text settings =
    (b : BeginModel) × IsPerformative (its.Begin b) text × (b.remote_channel ≡ None) × (settings ≡ settings_of b)

-- The stream answers the peer's Begin by a session of this number with these settings; the status says what became of it, and a refusal is kept.
abbrev pub BeginsOne : Relays PlainRelay → ClientView → ℕ → SettingsModel → List ℕ → Status → ClientView → Type 0
BeginsOne g c n settings frame s c' = (a : BeginAnswer) × BeginsStream g c.stream frame (record { 0 = n }) settings a c'.stream
    × (s ≡ begun_status a) × (c'.last ≡ last_begun c.last c'.stream.driver.engine.connection.state a)

-- no settings are named; or memory was refused for them; or the Begin is answered
abbrev pub BeginsIfNamed : Relays PlainRelay → ClientView → ℕ → List ℕ → List ℕ → Status → ClientView → Type 0
BeginsIfNamed g c n text frame s c' =
    ((s ≡ status.BadArgument) × (c' ≡ c) × ((settings : SettingsModel) → ¬ NamesSettings text settings))
    ⊎ (NoneGranted c s c' ⊎ ((settings : SettingsModel) × NamesSettings text settings × BeginsOne g c n settings frame s c'))

abbrev pub BeginsBy : Option (ℕ × List ℕ × List ℕ) → Relays PlainRelay → ClientView → Status → ClientView → Type 0
BeginsBy None g c s c' = (s ≡ status.BadArgument) × (c' ≡ c)
BeginsBy (Some x) g c s c' = BeginsIfNamed g c x.0 x.1 x.2 s c'

abbrev pub PerformsAnswerBegin : Relays PlainRelay → ClientView → List ℕ → Status → ClientView → Type 0
PerformsAnswerBegin g c input s c' = BeginsBy (begin_parts input) g c s c'

-- ---- an End (section 2.5.3)

-- The stream answers the peer's End, and lets the session go; the status says what became of it, and a refusal is kept.
abbrev pub EndsOne : Relays PlainRelay → ClientView → ℕ → Option ErrorModel → Status → ClientView → Type 0
EndsOne g c n error s c' = (a : EndAnswer) × EndsStream g c.stream (record { 0 = n }) error a c'.stream × (s ≡ ended_status a)
    × (c'.last ≡ last_ended c.last c'.stream.driver.engine.connection.state a)

-- neither an error nor none is said; or memory was refused for it; or the End is answered
abbrev pub EndsIfSaid : Relays PlainRelay → ClientView → ℕ → List ℕ → Status → ClientView → Type 0
EndsIfSaid g c n text s c' =
    ((s ≡ status.BadArgument) × (c' ≡ c) × ((error : Option ErrorModel) → ¬ IsErrorIfAny text error))
    ⊎ (NoneGranted c s c' ⊎ ((error : Option ErrorModel) × IsErrorIfAny text error × EndsOne g c n error s c'))

abbrev pub EndsBy : Option (ℕ × List ℕ) → Relays PlainRelay → ClientView → Status → ClientView → Type 0
EndsBy None g c s c' = (s ≡ status.BadArgument) × (c' ≡ c)
EndsBy (Some x) g c s c' = EndsIfSaid g c x.0 x.1 s c'

abbrev pub PerformsAnswerEnd : Relays PlainRelay → ClientView → List ℕ → Status → ClientView → Type 0
PerformsAnswerEnd g c input s c' = EndsBy (number_at w32 input) g c s c'

-- The stream lets a session go that both sides have ended, and refuses any other; the status says what became of it, and a refusal is kept.
abbrev pub LetsGoOne : Relays PlainRelay → ClientView → ℕ → Status → ClientView → Type 0
LetsGoOne g c n s c' = (a : EndAnswer) × LetsGoStream g c.stream (record { 0 = n }) a c'.stream × (s ≡ ended_status a)
    × (c'.last ≡ last_ended c.last c'.stream.driver.engine.connection.state a)

-- the number of the session is four bytes
abbrev pub PerformsLetGo : Relays PlainRelay → ClientView → List ℕ → Status → ClientView → Type 0
PerformsLetGo g c input s c' =
    ((s ≡ status.BadArgument) × (c' ≡ c) × ¬ (length input ≡ 4)) ⊎ ((length input ≡ 4) × LetsGoOne g c (from_be_bytes w32 input) s c')

-- ---- parts

-- the settings of a Begin that answers none; or it answers one
abbrev pub IfNone : BeginModel → Result SettingsModel ReadError → Type 0
IfNone b (Ok settings) = (b.remote_channel ≡ None) × (settings ≡ settings_of b)
IfNone b (Err Malformed) = ¬ (b.remote_channel ≡ None)
IfNone b (Err OutOfMemory) = ⊥
