-- Part: other calls; inner.
-- Requests: the input of the engine that an operation's bytes ask for.
use Rattle.std.specs.Prelude.{◌≡◌, [], ℕ, Bool, List, Option, Some, None, Result, Ok, Err}
use Rattle.std.specs.Int.{w32}
use Rattle.amqp_values.specs.Reading.{number_at, byte_at}
use Rattle.amqp_values.specs.declared.error.ReadError.{ReadError}
use Rattle.amqp_values.specs.declared.error.ReadError.TheVariants.{Malformed, OutOfMemory}
use Rattle.amqp_types.specs.Begin.{BeginModel}
use Rattle.amqp_types.specs.Attach.{AttachModel}
use Rattle.amqp_types.specs.Detach.{DetachModel}
use Rattle.amqp_types.specs.Disposition.{DispositionModel}
use Rattle.amqp_types.specs.Error.{ErrorModel}
use Rattle.amqp_types.specs.Flow.{FlowModel}
use Rattle.amqp_types.specs.Transfer.{TransferModel}
use Rattle.amqp_types.specs.Performatives.{IsPerformative}
use Rattle.amqp_types.specs.declared.performatives.Performative.TheVariants as its
use Rattle.amqp_types.specs.declared.definitions.Role.{Role}
use Rattle.amqp_session.specs.LinkFlow.{link_part}
use Rattle.amqp_session.specs.Settings.{SettingsModel}
use Rattle.amqp_session.specs.declared.flow.LinkFlow.{LinkFlow}
use Rattle.amqp_engine.specs.declared.engine.input.Input.{Input}
use Rattle.amqp_engine.specs.declared.engine.input.Input.TheVariants as input
use Rattle.amqp1.specs.declared.operation.Operation.{Operation}
use Rattle.amqp1.specs.declared.operation.Operation.TheVariants as op
use Rattle.amqp1.specs.Reading.{flag_of, role_of, IsErrorIfAny, HasTransfer}

-- ---- what stands where

-- a number of four bytes, and the rest
abbrev pub HasNumber : List ℕ → ℕ → List ℕ → Type 0
HasNumber bytes n rest = number_at w32 bytes ≡ Some (n, rest)

abbrev pub HasByte : List ℕ → ℕ → List ℕ → Type 0
HasByte bytes n rest = byte_at bytes ≡ Some (n, rest)

-- the settings that a Begin names
abbrev pub settings_of : BeginModel → SettingsModel
settings_of b = record {
  next_outgoing_id = b.next_outgoing_id;
  incoming_window = b.incoming_window;
  outgoing_window = b.outgoing_window;
  handle_max = b.handle_max;
  offered_capabilities = b.offered_capabilities;
  desired_capabilities = b.desired_capabilities;
  properties = b.properties;
}

-- ---- each request, by the bytes that ask for it

abbrev pub AsksOpen : {R : Type 0} → List ℕ → Input R → Type 0
AsksOpen bytes i = (bytes ≡ []) × (i ≡ input.Open)

abbrev pub AsksClose : {R : Type 0} → List ℕ → Input R → Type 0
AsksClose bytes i = (e : Option ErrorModel) × IsErrorIfAny bytes e × (i ≡ input.Close e)

abbrev pub AsksRelease : {R : Type 0} → List ℕ → Input R → Type 0
AsksRelease bytes i = (n : ℕ) × HasNumber bytes n [] × (i ≡ input.Release (record { 0 = n }))

abbrev pub AsksForget : {R : Type 0} → List ℕ → Input R → Type 0
AsksForget bytes i = (n : ℕ) × HasNumber bytes n [] × (i ≡ input.Forget (record { 0 = n }))

pub record AsksSettle {R : Type 0} (bytes : List ℕ) (i : Input R) : Type 0 where
  pub session : ℕ
  pub role_byte : ℕ
  pub role : Role
  pub first : ℕ
  pub last : ℕ
  pub after : List ℕ
  pub numbers : List ℕ
  pub rest : List ℕ
  pub has_session : HasNumber bytes session after
  pub has_role : HasByte after role_byte numbers
  pub role_is : role_of role_byte ≡ Some role
  pub has_first : HasNumber numbers first rest
  pub has_last : HasNumber rest last []
  pub input_is : i ≡ input.Settle (record { 0 = session }) role first (Some last)

-- those of a session, by what follows its number

abbrev pub AsksBegin : {R : Type 0} → ℕ → List ℕ → Input R → Type 0
AsksBegin n rest i =
    (b : BeginModel) × IsPerformative (its.Begin b) rest × (b.remote_channel ≡ None) × (i ≡ input.Begin (record { 0 = n }) (settings_of b))

abbrev pub AsksEnd : {R : Type 0} → ℕ → List ℕ → Input R → Type 0
AsksEnd n rest i = (e : Option ErrorModel) × IsErrorIfAny rest e × (i ≡ input.End (record { 0 = n }) e)

abbrev pub AsksAttach : {R : Type 0} → ℕ → List ℕ → Input R → Type 0
AsksAttach n rest i = (a : AttachModel) × IsPerformative (its.Attach a) rest × (i ≡ input.Attach (record { 0 = n }) a)

pub record AsksDetach {R : Type 0} (n : ℕ) (bytes : List ℕ) (i : Input R) : Type 0 where
  pub flag : ℕ
  pub answered : Bool
  pub rest : List ℕ
  pub detach : DetachModel
  pub has_flag : HasByte bytes flag rest
  pub answered_is : flag_of flag ≡ Some answered
  pub is_detach : IsPerformative (its.Detach detach) rest
  pub input_is : i ≡ input.Detach (record { 0 = n }) detach answered

abbrev pub AsksFlow : {R : Type 0} → ℕ → List ℕ → Input R → Type 0
AsksFlow n rest i = (f : FlowModel) × (part : LinkFlow) × IsPerformative (its.Flow f) rest × (link_part f ≡ Some part)
    × (i ≡ input.Flow (record { 0 = n }) part)

-- the peer's handle is no part of the bytes: it is found by the link's
pub record AsksTransfer {R : Type 0} (n : ℕ) (bytes : List ℕ) (i : Input R) : Type 0 where
  pub flag : ℕ
  pub first : Bool
  pub count : ℕ
  pub rest : List ℕ
  pub parts : List ℕ
  pub transfer : TransferModel × List ℕ
  pub has_flag : HasByte bytes flag rest
  pub first_is : flag_of flag ≡ Some first
  pub has_count : HasNumber rest count parts
  pub has_transfer : HasTransfer count parts transfer
  pub input_is : i ≡ input.Transfer (record { 0 = n }) (record { 0 = 0 }) transfer.0 transfer.1 first

abbrev pub AsksDisposition : {R : Type 0} → ℕ → List ℕ → Input R → Type 0
AsksDisposition n rest i = (d : DispositionModel) × IsPerformative (its.Disposition d) rest × (i ≡ input.Disposition (record { 0 = n }) d)

abbrev pub AsksOfSession : {R : Type 0} → Operation → ℕ → List ℕ → Input R → Type 0
AsksOfSession op.Begin n rest i = AsksBegin n rest i
AsksOfSession op.End n rest i = AsksEnd n rest i
AsksOfSession op.Attach n rest i = AsksAttach n rest i
AsksOfSession op.Detach n rest i = AsksDetach n rest i
AsksOfSession op.Flow n rest i = AsksFlow n rest i
AsksOfSession op.Transfer n rest i = AsksTransfer n rest i
AsksOfSession op.Disposition n rest i = AsksDisposition n rest i
AsksOfSession o n rest i = ⊥

-- the number of a session, and what follows it
abbrev pub AsksInSession : {R : Type 0} → Operation → List ℕ → Input R → Type 0
AsksInSession o bytes i = (n : ℕ) × (rest : List ℕ) × HasNumber bytes n rest × AsksOfSession o n rest i

abbrev pub Asks : {R : Type 0} → Operation → List ℕ → Input R → Type 0
Asks op.Open bytes i = AsksOpen bytes i
Asks op.Close bytes i = AsksClose bytes i
Asks op.Release bytes i = AsksRelease bytes i
Asks op.Forget bytes i = AsksForget bytes i
Asks op.Settle bytes i = AsksSettle bytes i
Asks o bytes i = AsksInSession o bytes i

-- ---- parts

-- the number that the bytes are, if they are one
abbrev pub IsNumber : List ℕ → Option ℕ → Type 0
IsNumber bytes (Some n) = HasNumber bytes n []
IsNumber bytes None = (n : ℕ) → ¬ HasNumber bytes n []

-- a session with the settings of this Begin, which answers none; or it answers one
abbrev pub IsBegun : {R : Type 0} → ℕ → BeginModel → Result (Input R) ReadError → Type 0
IsBegun n b (Ok i) = (b.remote_channel ≡ None) × (i ≡ input.Begin (record { 0 = n }) (settings_of b))
IsBegun n b (Err Malformed) = ¬ (b.remote_channel ≡ None)
IsBegun n b (Err OutOfMemory) = ⊥
