-- Part: inner.
-- What is known of the fields of each composite by their types: a number has so many bytes, a string is UTF-8.
use Rattle.std.specs.Prelude.{ℕ, ◌<◌, ◌^◌, IfSome}
use Rattle.std.specs.Str.{IsUtf8}
use Rattle.amqp_values.specs.Text.{IsSymbolText}
use Rattle.amqp_values.specs.Raw.{IsRaw, IsMap}
use Rattle.amqp_values.specs.Inner.Held.{AreSymbols}
use Rattle.amqp_types.specs.declared.performatives.Performative.{Performative}
use Rattle.amqp_types.specs.declared.performatives.Performative.TheVariants.{Open, Begin, Attach, Flow, Transfer}
use Rattle.amqp_types.specs.declared.performatives.Performative.TheVariants.{Disposition, Detach, End, Close}
use Rattle.amqp_types.specs.Error.{ErrorModel}
use Rattle.amqp_types.specs.Open.{OpenModel}
use Rattle.amqp_types.specs.Begin.{BeginModel}
use Rattle.amqp_types.specs.Attach.{AttachModel}
use Rattle.amqp_types.specs.Flow.{FlowModel}
use Rattle.amqp_types.specs.Transfer.{TransferModel}
use Rattle.amqp_types.specs.Disposition.{DispositionModel}
use Rattle.amqp_types.specs.Detach.{DetachModel}
use Rattle.amqp_types.specs.End.{EndModel}
use Rattle.amqp_types.specs.Close.{CloseModel}

abbrev pub IsShort : ℕ → Type 0
IsShort n = n < 2 ^ 16

abbrev pub IsWord : ℕ → Type 0
IsWord n = n < 2 ^ 32

abbrev pub IsLong : ℕ → Type 0
IsLong n = n < 2 ^ 64

pub record ErrorHeld (p : ErrorModel) : Type 0 where
  pub condition : IsSymbolText p.condition
  pub description : IfSome p.description IsUtf8
  pub info : IfSome p.info IsMap

pub record OpenHeld (p : OpenModel) : Type 0 where
  pub container_id : IsUtf8 p.container_id
  pub hostname : IfSome p.hostname IsUtf8
  pub max_frame_size : IsWord p.max_frame_size
  pub channel_max : IsShort p.channel_max
  pub idle_time_out : IfSome p.idle_time_out IsWord
  pub outgoing_locales : IfSome p.outgoing_locales AreSymbols
  pub incoming_locales : IfSome p.incoming_locales AreSymbols
  pub offered_capabilities : IfSome p.offered_capabilities AreSymbols
  pub desired_capabilities : IfSome p.desired_capabilities AreSymbols
  pub properties : IfSome p.properties IsMap

pub record BeginHeld (p : BeginModel) : Type 0 where
  pub remote_channel : IfSome p.remote_channel IsShort
  pub next_outgoing_id : IsWord p.next_outgoing_id
  pub incoming_window : IsWord p.incoming_window
  pub outgoing_window : IsWord p.outgoing_window
  pub handle_max : IsWord p.handle_max
  pub offered_capabilities : IfSome p.offered_capabilities AreSymbols
  pub desired_capabilities : IfSome p.desired_capabilities AreSymbols
  pub properties : IfSome p.properties IsMap

pub record AttachHeld (p : AttachModel) : Type 0 where
  pub name : IsUtf8 p.name
  pub handle : IsWord p.handle
  pub source : IfSome p.source IsRaw
  pub target : IfSome p.target IsRaw
  pub unsettled : IfSome p.unsettled IsMap
  pub initial_delivery_count : IfSome p.initial_delivery_count IsWord
  pub max_message_size : IfSome p.max_message_size IsLong
  pub offered_capabilities : IfSome p.offered_capabilities AreSymbols
  pub desired_capabilities : IfSome p.desired_capabilities AreSymbols
  pub properties : IfSome p.properties IsMap

pub record FlowHeld (p : FlowModel) : Type 0 where
  pub next_incoming_id : IfSome p.next_incoming_id IsWord
  pub incoming_window : IsWord p.incoming_window
  pub next_outgoing_id : IsWord p.next_outgoing_id
  pub outgoing_window : IsWord p.outgoing_window
  pub handle : IfSome p.handle IsWord
  pub delivery_count : IfSome p.delivery_count IsWord
  pub link_credit : IfSome p.link_credit IsWord
  pub available : IfSome p.available IsWord
  pub properties : IfSome p.properties IsMap

pub record TransferHeld (p : TransferModel) : Type 0 where
  pub handle : IsWord p.handle
  pub delivery_id : IfSome p.delivery_id IsWord
  pub message_format : IfSome p.message_format IsWord
  pub state : IfSome p.state IsRaw

pub record DispositionHeld (p : DispositionModel) : Type 0 where
  pub first : IsWord p.first
  pub last : IfSome p.last IsWord
  pub state : IfSome p.state IsRaw

pub record DetachHeld (p : DetachModel) : Type 0 where
  pub handle : IsWord p.handle
  pub error : IfSome p.error ErrorHeld

pub record EndHeld (p : EndModel) : Type 0 where
  pub error : IfSome p.error ErrorHeld

pub record CloseHeld (p : CloseModel) : Type 0 where
  pub error : IfSome p.error ErrorHeld

abbrev pub Held : Performative → Type 0
Held (Open p) = OpenHeld p
Held (Begin p) = BeginHeld p
Held (Attach p) = AttachHeld p
Held (Flow p) = FlowHeld p
Held (Transfer p) = TransferHeld p
Held (Disposition p) = DispositionHeld p
Held (Detach p) = DetachHeld p
Held (End p) = EndHeld p
Held (Close p) = CloseHeld p
