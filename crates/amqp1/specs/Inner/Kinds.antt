-- Part: inner.
-- The performative of a kind, where bytes were read as one.
use Rattle.std.specs.Prelude.{[], ◌∷◌, ℕ, List, Result, Ok, Err}
use Rattle.amqp_values.specs.declared.error.ReadError.{ReadError}
use Rattle.amqp_values.specs.declared.error.ReadError.TheVariants.{Malformed}
use Rattle.amqp_types.specs.Transfer.{TransferModel}
use Rattle.amqp_types.specs.declared.performatives.Performative.{Performative}
use Rattle.amqp_types.specs.declared.performatives.Performative.TheVariants as its
use Rattle.amqp_types.specs.Open.{OpenModel}
use Rattle.amqp_types.specs.Begin.{BeginModel}
use Rattle.amqp_types.specs.Attach.{AttachModel}
use Rattle.amqp_types.specs.Detach.{DetachModel}
use Rattle.amqp_types.specs.Flow.{FlowModel}
use Rattle.amqp_types.specs.Disposition.{DispositionModel}

-- nothing follows
abbrev pub whole_of : Performative → List ℕ → Result Performative ReadError
whole_of p [] = Ok p
whole_of p (b ∷ rest) = Err Malformed

abbrev pub with_payload : Performative → List ℕ → Result (TransferModel × List ℕ) ReadError
with_payload (its.Transfer t) payload = Ok (t, payload)
with_payload p payload = Err Malformed

abbrev pub as_open : Performative → Result OpenModel ReadError
as_open (its.Open p) = Ok p
as_open p = Err Malformed

abbrev pub as_begin : Performative → Result BeginModel ReadError
as_begin (its.Begin p) = Ok p
as_begin p = Err Malformed

abbrev pub as_attach : Performative → Result AttachModel ReadError
as_attach (its.Attach p) = Ok p
as_attach p = Err Malformed

abbrev pub as_detach : Performative → Result DetachModel ReadError
as_detach (its.Detach p) = Ok p
as_detach p = Err Malformed

abbrev pub as_flow : Performative → Result FlowModel ReadError
as_flow (its.Flow p) = Ok p
as_flow p = Err Malformed

abbrev pub as_transfer : Performative → Result TransferModel ReadError
as_transfer (its.Transfer p) = Ok p
as_transfer p = Err Malformed

abbrev pub as_disposition : Performative → Result DispositionModel ReadError
as_disposition (its.Disposition p) = Ok p
as_disposition p = Err Malformed
