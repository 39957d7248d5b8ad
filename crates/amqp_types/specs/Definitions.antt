-- Part: the bytes; other calls.
-- Roles and settle modes, by the numbers that they are written as (AMQP 1.0 part 2, section 2.8).
use Rattle.std.specs.Prelude.{ℕ, List, Option, Some, None, Bool, true, false, ◌==◌, if◌then◌else◌}
use Rattle.amqp_types.specs.declared.definitions.Role.{Role}
use Rattle.amqp_types.specs.declared.definitions.Role.TheVariants.{Sender, Receiver}
use Rattle.amqp_types.specs.declared.definitions.SenderSettleMode.{SenderSettleMode}
use Rattle.amqp_types.specs.declared.definitions.SenderSettleMode.TheVariants.{Unsettled, Settled, Mixed}
use Rattle.amqp_types.specs.declared.definitions.ReceiverSettleMode.{ReceiverSettleMode}
use Rattle.amqp_types.specs.declared.definitions.ReceiverSettleMode.TheVariants.{First, Second}
use Rattle.amqp_values.specs.Reading.{◌>>=◌}
use Rattle.amqp_values.specs.Number.{IsBoolean, boolean_at, IsUbyte, ubyte_at}
use Rattle.amqp_values.specs.Slots.{null}
use Rattle.amqp_values.specs.Writing.{boolean_text, ubyte_text}
use Rattle.amqp_values.specs.Same.{Test, numbers, flags, field}

-- ---- the numbers

abbrev pub is_receiver : Role → Bool
is_receiver Sender = false
is_receiver Receiver = true

abbrev pub sender_code : SenderSettleMode → ℕ
sender_code Unsettled = 0
sender_code Settled = 1
sender_code Mixed = 2

abbrev pub receiver_code : ReceiverSettleMode → ℕ
receiver_code First = 0
receiver_code Second = 1

-- ---- the grammar

abbrev pub IsRole : Role → List ℕ → Type 0
IsRole r = IsBoolean (is_receiver r)

abbrev pub IsSenderMode : SenderSettleMode → List ℕ → Type 0
IsSenderMode m = IsUbyte (sender_code m)

abbrev pub IsReceiverMode : ReceiverSettleMode → List ℕ → Type 0
IsReceiverMode m = IsUbyte (receiver_code m)

-- ---- its readers

abbrev pub role_of : Bool → Role
role_of false = Sender
role_of true = Receiver

abbrev pub sender_mode_of : ℕ → Option SenderSettleMode
sender_mode_of n = if n == 0 then Some Unsettled else if n == 1 then Some Settled else if n == 2 then Some Mixed else None

abbrev pub receiver_mode_of : ℕ → Option ReceiverSettleMode
receiver_mode_of n = if n == 0 then Some First else if n == 1 then Some Second else None

unfoldable pub role_at : List ℕ → Option (Role × List ℕ)
role_at bytes = boolean_at bytes >>= λ x. Some (role_of x.0, x.1)

unfoldable pub sender_mode_at : List ℕ → Option (SenderSettleMode × List ℕ)
sender_mode_at bytes = ubyte_at bytes >>= λ x. sender_mode_of x.0 >>= λ m. Some (m, x.1)

unfoldable pub receiver_mode_at : List ℕ → Option (ReceiverSettleMode × List ℕ)
receiver_mode_at bytes = ubyte_at bytes >>= λ x. receiver_mode_of x.0 >>= λ m. Some (m, x.1)

-- ---- the canonical texts

abbrev pub role_text : Role → List ℕ
role_text r = boolean_text (is_receiver r)

abbrev pub receiver_mode_text : ReceiverSettleMode → List ℕ
receiver_mode_text m = ubyte_text (receiver_code m)

abbrev pub sender_mode_or_mixed : SenderSettleMode → List ℕ
sender_mode_or_mixed Unsettled = ubyte_text 0
sender_mode_or_mixed Settled = ubyte_text 1
sender_mode_or_mixed Mixed = null

abbrev pub receiver_mode_or_first : ReceiverSettleMode → List ℕ
receiver_mode_or_first First = null
receiver_mode_or_first Second = ubyte_text 1

-- a boolean whose default is false
abbrev pub flag_text : Bool → List ℕ
flag_text true = boolean_text true
flag_text false = null

-- a value that is kept as it came
abbrev pub value_text : List ℕ → List ℕ
value_text v = v

-- ---- when two are the same

abbrev pub roles : Test Role
roles = field is_receiver flags

abbrev pub sender_modes : Test SenderSettleMode
sender_modes = field sender_code numbers

abbrev pub receiver_modes : Test ReceiverSettleMode
receiver_modes = field receiver_code numbers
