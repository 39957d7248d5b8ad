-- The canonical text of each composite that a program holds is in the grammar: a line for each field.
use Rattle.std.proofs.Common.{Option, refl, arith}
use Rattle.std.specs.Prelude.{IfSome}
use Rattle.amqp_values.specs.Slots.{Optional}
use Rattle.amqp_values.specs.Writing.{optional_text}
use Rattle.amqp_types.specs.Inner.Held.{ErrorHeld, OpenHeld, BeginHeld, AttachHeld, FlowHeld, TransferHeld, DispositionHeld, DetachHeld, EndHeld, CloseHeld}
use Rattle.amqp_types.specs.FieldTable.{IsListed, listed_text}
use Rattle.amqp_types.specs.Error.{ErrorModel, IsErrorBody, error_table, IsError, error_text}
use Rattle.amqp_types.specs.Open.{OpenModel, IsOpenBody, open_table}
use Rattle.amqp_types.specs.Begin.{BeginModel, IsBeginBody, begin_table}
use Rattle.amqp_types.specs.Attach.{AttachModel, IsAttachBody, attach_table}
use Rattle.amqp_types.specs.Flow.{FlowModel, IsFlowBody, flow_table}
use Rattle.amqp_types.specs.Transfer.{TransferModel, IsTransferBody, transfer_table}
use Rattle.amqp_types.specs.Disposition.{DispositionModel, IsDispositionBody, disposition_table}
use Rattle.amqp_types.specs.Detach.{DetachModel, IsDetachBody, detach_table}
use Rattle.amqp_types.specs.End.{EndModel, IsEndBody, end_table}
use Rattle.amqp_types.specs.Close.{CloseModel, IsCloseBody, close_table}
use Rattle.amqp_values.proofs.SlotCanonicalLemmas.{Fits, IsCanonical, other_canonical, optional_canonical, slot_canonical, end_canonical as last_canonical}
use Rattle.amqp_values.proofs.NumberCanonicalLemmas.{uint_canonical, uint_or_canonical, ushort_or_canonical}
use Rattle.amqp_values.proofs.TextCanonicalLemmas.{symbol_canonical}
use Rattle.amqp_values.proofs.CompositeCanonicalLemmas.{described_canonical}
use Rattle.amqp_types.proofs.FieldCanonicalLemmas.{text_canonical, role_canonical, sender_mode_or_canonical, receiver_mode_or_canonical, flag_canonical, optional_ushort, optional_uint, optional_ulong, optional_string, optional_symbols, optional_raw, optional_map, optional_binary, optional_boolean, optional_receiver_mode}

pub error_canonical : (p : ErrorModel) → ErrorHeld p → Fits (listed_text 0x1d error_table p) → IsListed 0x1d error_table p (listed_text 0x1d error_table p)
unfolding error_table
error_canonical p h = described_canonical 0x1d IsErrorBody p (error_table p).canonical (omega arith)
    (slot_canonical _ _ _ _ (symbol_canonical p.condition h.condition)
    (slot_canonical _ _ _ _ (optional_string p.description h.description)
    (slot_canonical _ _ _ _ (optional_map p.info h.info)
    last_canonical)))

optional_error : (o : Option ErrorModel) → IfSome o ErrorHeld → IsCanonical (Optional IsError o) (optional_text error_text o)
optional_error = optional_canonical IsError error_text ErrorHeld (λ p h. other_canonical (IsError p) (error_text p) refl (error_canonical p h))

pub open_canonical : (p : OpenModel) → OpenHeld p → Fits (listed_text 0x10 open_table p) → IsListed 0x10 open_table p (listed_text 0x10 open_table p)
unfolding open_table
open_canonical p h = described_canonical 0x10 IsOpenBody p (open_table p).canonical (omega arith)
    (slot_canonical _ _ _ _ (text_canonical p.container_id h.container_id)
    (slot_canonical _ _ _ _ (optional_string p.hostname h.hostname)
    (slot_canonical _ _ _ _ (uint_or_canonical 4294967295 p.max_frame_size h.max_frame_size)
    (slot_canonical _ _ _ _ (ushort_or_canonical 65535 p.channel_max h.channel_max)
    (slot_canonical _ _ _ _ (optional_uint p.idle_time_out h.idle_time_out)
    (slot_canonical _ _ _ _ (optional_symbols p.outgoing_locales h.outgoing_locales)
    (slot_canonical _ _ _ _ (optional_symbols p.incoming_locales h.incoming_locales)
    (slot_canonical _ _ _ _ (optional_symbols p.offered_capabilities h.offered_capabilities)
    (slot_canonical _ _ _ _ (optional_symbols p.desired_capabilities h.desired_capabilities)
    (slot_canonical _ _ _ _ (optional_map p.properties h.properties)
    last_canonical))))))))))

pub begin_canonical : (p : BeginModel) → BeginHeld p → Fits (listed_text 0x11 begin_table p) → IsListed 0x11 begin_table p (listed_text 0x11 begin_table p)
unfolding begin_table
begin_canonical p h = described_canonical 0x11 IsBeginBody p (begin_table p).canonical (omega arith)
    (slot_canonical _ _ _ _ (optional_ushort p.remote_channel h.remote_channel)
    (slot_canonical _ _ _ _ (uint_canonical p.next_outgoing_id h.next_outgoing_id)
    (slot_canonical _ _ _ _ (uint_canonical p.incoming_window h.incoming_window)
    (slot_canonical _ _ _ _ (uint_canonical p.outgoing_window h.outgoing_window)
    (slot_canonical _ _ _ _ (uint_or_canonical 4294967295 p.handle_max h.handle_max)
    (slot_canonical _ _ _ _ (optional_symbols p.offered_capabilities h.offered_capabilities)
    (slot_canonical _ _ _ _ (optional_symbols p.desired_capabilities h.desired_capabilities)
    (slot_canonical _ _ _ _ (optional_map p.properties h.properties)
    last_canonical))))))))

pub attach_canonical : (p : AttachModel) → AttachHeld p → Fits (listed_text 0x12 attach_table p) → IsListed 0x12 attach_table p (listed_text 0x12 attach_table p)
unfolding attach_table
attach_canonical p h = described_canonical 0x12 IsAttachBody p (attach_table p).canonical (omega arith)
    (slot_canonical _ _ _ _ (text_canonical p.name h.name)
    (slot_canonical _ _ _ _ (uint_canonical p.handle h.handle)
    (slot_canonical _ _ _ _ (role_canonical p.role)
    (slot_canonical _ _ _ _ (sender_mode_or_canonical p.snd_settle_mode)
    (slot_canonical _ _ _ _ (receiver_mode_or_canonical p.rcv_settle_mode)
    (slot_canonical _ _ _ _ (optional_raw p.source h.source)
    (slot_canonical _ _ _ _ (optional_raw p.target h.target)
    (slot_canonical _ _ _ _ (optional_map p.unsettled h.unsettled)
    (slot_canonical _ _ _ _ (flag_canonical p.incomplete_unsettled)
    (slot_canonical _ _ _ _ (optional_uint p.initial_delivery_count h.initial_delivery_count)
    (slot_canonical _ _ _ _ (optional_ulong p.max_message_size h.max_message_size)
    (slot_canonical _ _ _ _ (optional_symbols p.offered_capabilities h.offered_capabilities)
    (slot_canonical _ _ _ _ (optional_symbols p.desired_capabilities h.desired_capabilities)
    (slot_canonical _ _ _ _ (optional_map p.properties h.properties)
    last_canonical))))))))))))))

pub flow_canonical : (p : FlowModel) → FlowHeld p → Fits (listed_text 0x13 flow_table p) → IsListed 0x13 flow_table p (listed_text 0x13 flow_table p)
unfolding flow_table
flow_canonical p h = described_canonical 0x13 IsFlowBody p (flow_table p).canonical (omega arith)
    (slot_canonical _ _ _ _ (optional_uint p.next_incoming_id h.next_incoming_id)
    (slot_canonical _ _ _ _ (uint_canonical p.incoming_window h.incoming_window)
    (slot_canonical _ _ _ _ (uint_canonical p.next_outgoing_id h.next_outgoing_id)
    (slot_canonical _ _ _ _ (uint_canonical p.outgoing_window h.outgoing_window)
    (slot_canonical _ _ _ _ (optional_uint p.handle h.handle)
    (slot_canonical _ _ _ _ (optional_uint p.delivery_count h.delivery_count)
    (slot_canonical _ _ _ _ (optional_uint p.link_credit h.link_credit)
    (slot_canonical _ _ _ _ (optional_uint p.available h.available)
    (slot_canonical _ _ _ _ (flag_canonical p.drain)
    (slot_canonical _ _ _ _ (flag_canonical p.echo)
    (slot_canonical _ _ _ _ (optional_map p.properties h.properties)
    last_canonical)))))))))))

pub transfer_canonical : (p : TransferModel) → TransferHeld p → Fits (listed_text 0x14 transfer_table p) → IsListed 0x14 transfer_table p (listed_text 0x14 transfer_table p)
unfolding transfer_table
transfer_canonical p h = described_canonical 0x14 IsTransferBody p (transfer_table p).canonical (omega arith)
    (slot_canonical _ _ _ _ (uint_canonical p.handle h.handle)
    (slot_canonical _ _ _ _ (optional_uint p.delivery_id h.delivery_id)
    (slot_canonical _ _ _ _ (optional_binary p.delivery_tag)
    (slot_canonical _ _ _ _ (optional_uint p.message_format h.message_format)
    (slot_canonical _ _ _ _ (optional_boolean p.settled)
    (slot_canonical _ _ _ _ (flag_canonical p.more)
    (slot_canonical _ _ _ _ (optional_receiver_mode p.rcv_settle_mode)
    (slot_canonical _ _ _ _ (optional_raw p.state h.state)
    (slot_canonical _ _ _ _ (flag_canonical p.resume)
    (slot_canonical _ _ _ _ (flag_canonical p.aborted)
    (slot_canonical _ _ _ _ (flag_canonical p.batchable)
    last_canonical)))))))))))

pub disposition_canonical : (p : DispositionModel) → DispositionHeld p → Fits (listed_text 0x15 disposition_table p) → IsListed 0x15 disposition_table p (listed_text 0x15 disposition_table p)
unfolding disposition_table
disposition_canonical p h = described_canonical 0x15 IsDispositionBody p (disposition_table p).canonical (omega arith)
    (slot_canonical _ _ _ _ (role_canonical p.role)
    (slot_canonical _ _ _ _ (uint_canonical p.first h.first)
    (slot_canonical _ _ _ _ (optional_uint p.last h.last)
    (slot_canonical _ _ _ _ (flag_canonical p.settled)
    (slot_canonical _ _ _ _ (optional_raw p.state h.state)
    (slot_canonical _ _ _ _ (flag_canonical p.batchable)
    last_canonical))))))

pub detach_canonical : (p : DetachModel) → DetachHeld p → Fits (listed_text 0x16 detach_table p) → IsListed 0x16 detach_table p (listed_text 0x16 detach_table p)
unfolding detach_table
detach_canonical p h = described_canonical 0x16 IsDetachBody p (detach_table p).canonical (omega arith)
    (slot_canonical _ _ _ _ (uint_canonical p.handle h.handle)
    (slot_canonical _ _ _ _ (flag_canonical p.closed)
    (slot_canonical _ _ _ _ (optional_error p.error h.error)
    last_canonical)))

pub end_canonical : (p : EndModel) → EndHeld p → Fits (listed_text 0x17 end_table p) → IsListed 0x17 end_table p (listed_text 0x17 end_table p)
unfolding end_table
end_canonical p h = described_canonical 0x17 IsEndBody p (end_table p).canonical (omega arith)
    (slot_canonical _ _ _ _ (optional_error p.error h.error)
    last_canonical)

pub close_canonical : (p : CloseModel) → CloseHeld p → Fits (listed_text 0x18 close_table p) → IsListed 0x18 close_table p (listed_text 0x18 close_table p)
unfolding close_table
close_canonical p h = described_canonical 0x18 IsCloseBody p (close_table p).canonical (omega arith)
    (slot_canonical _ _ _ _ (optional_error p.error h.error)
    last_canonical)
