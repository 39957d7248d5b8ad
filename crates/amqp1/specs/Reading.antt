-- Part: other calls; inner.
-- What an input is made of.
use Rattle.std.specs.Prelude.{◌≡◌, ◌∷◌, ◌++◌, [], length, ℕ, List, Option, Some, None, Result, Ok, Err, Bool, true, false, if◌then◌else◌, nat_eq}
use Rattle.amqp_memory.specs.Refusal.{SomeRefused}
use Rattle.amqp_values.specs.declared.error.ReadError.{ReadError}
use Rattle.amqp_values.specs.declared.error.ReadError.TheVariants.{Malformed, OutOfMemory}
use Rattle.amqp_types.specs.Error.{ErrorModel, error_at}
use Rattle.amqp_types.specs.Performatives.{IsPerformative}
use Rattle.amqp_types.specs.Transfer.{TransferModel}
use Rattle.amqp_types.specs.declared.performatives.Performative.TheVariants as its
use Rattle.amqp_types.specs.declared.definitions.ReceiverSettleMode.{ReceiverSettleMode}
use Rattle.amqp_types.specs.declared.definitions.ReceiverSettleMode.TheVariants.{First, Second}
use Rattle.amqp_types.specs.declared.definitions.Role.{Role}
use Rattle.amqp_types.specs.declared.definitions.Role.TheVariants.{Sender, Receiver}

abbrev pub flag_of : ℕ → Option Bool
flag_of n = if nat_eq n 0 then Some false else (if nat_eq n 1 then Some true else None)

abbrev pub role_of : ℕ → Option Role
role_of n = if nat_eq n 0 then Some Sender else (if nat_eq n 1 then Some Receiver else None)

abbrev pub mode_of : ℕ → Option ReceiverSettleMode
mode_of n = if nat_eq n 0 then Some First else (if nat_eq n 1 then Some Second else None)

-- What is read is in the format; or nothing that is wanted is, unless memory was refused.
abbrev pub Reads : {X : Type 0} → (X → Type 0) → Result X ReadError → Type 0
Reads Is (Ok x) = Is x
Reads {X = X} Is (Err Malformed) = (x : X) → ¬ Is x
Reads Is (Err OutOfMemory) = SomeRefused

-- the same, where what is read is the only one in the format
abbrev pub ReadsOne : {X : Type 0} → (X → Type 0) → Result X ReadError → Type 0
ReadsOne {X = X} Is (Ok x) = Is x × ((y : X) → Is y → y ≡ x)
ReadsOne {X = X} Is (Err Malformed) = (x : X) → ¬ Is x
ReadsOne Is (Err OutOfMemory) = SomeRefused

-- a Transfer of so many bytes, and its payload, which is all that follows: so a Transfer of no bytes is none, whatever follows
abbrev pub HasTransfer : ℕ → List ℕ → TransferModel × List ℕ → Type 0
HasTransfer count bytes x = (text : List ℕ) × (length text ≡ count) × IsPerformative (its.Transfer x.0) text × (bytes ≡ text ++ x.1)

-- 0, which says that there is none; or 1, and an error that is the whole of what follows: so an error of no bytes is none of the two
abbrev pub IsErrorIfAny : List ℕ → Option ErrorModel → Type 0
IsErrorIfAny bytes None = bytes ≡ 0 ∷ []
IsErrorIfAny bytes (Some e) = (text : List ℕ) × (bytes ≡ 1 ∷ text) × (error_at text ≡ Some (e, []))

-- no bytes say that there is no error; and any others are one, wholly
abbrev pub IsErrorOrNone : List ℕ → Option ErrorModel → Type 0
IsErrorOrNone text None = text ≡ []
IsErrorOrNone text (Some e) = error_at text ≡ Some (e, [])

-- these bytes are read as an error, and nothing follows
abbrev pub IsSomeError : List ℕ → Result (Option ErrorModel) ReadError → Type 0
IsSomeError bytes (Ok None) = ⊥
IsSomeError bytes (Ok (Some e)) = error_at bytes ≡ Some (e, [])
IsSomeError bytes (Err Malformed) = (e : ErrorModel) → ¬ (error_at bytes ≡ Some (e, []))
IsSomeError bytes (Err OutOfMemory) = SomeRefused
