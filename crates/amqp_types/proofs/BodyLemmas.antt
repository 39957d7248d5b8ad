-- Each composite's reader is exactly its grammar: a line for each field.
use Rattle.std.proofs.Common.{◌≡◌, [], None, refl, false}
use Rattle.amqp_values.specs.Composite.{descriptor_at, described_at}
use Rattle.amqp_types.specs.declared.definitions.SenderSettleMode.TheVariants.{Mixed}
use Rattle.amqp_types.specs.declared.definitions.ReceiverSettleMode.TheVariants.{First}
use Rattle.amqp_types.specs.Error.{error_table, IsErrorBody, error_of, error_slots, error_body_at, IsError, error_at}
use Rattle.amqp_types.specs.Open.{open_table, IsOpenBody, open_of, open_slots, open_body_at}
use Rattle.amqp_types.specs.Begin.{begin_table, IsBeginBody, begin_of, begin_slots, begin_body_at}
use Rattle.amqp_types.specs.Attach.{attach_table, IsAttachBody, attach_of, attach_slots, attach_body_at, attach_rest_at}
use Rattle.amqp_types.specs.Flow.{flow_table, IsFlowBody, flow_of, flow_slots, flow_body_at}
use Rattle.amqp_types.specs.Transfer.{transfer_table, IsTransferBody, transfer_of, transfer_slots, transfer_body_at}
use Rattle.amqp_types.specs.Disposition.{disposition_table, IsDispositionBody, disposition_of, disposition_slots, disposition_body_at}
use Rattle.amqp_types.specs.Detach.{detach_table, IsDetachBody, detach_of, detach_slots, detach_body_at}
use Rattle.amqp_types.specs.End.{end_table, IsEndBody, end_of, end_slots, end_body_at}
use Rattle.amqp_types.specs.Close.{close_table, IsCloseBody, close_of, close_slots, close_body_at}
use Rattle.amqp_values.proofs.ReaderLemmas.{IsFormat}
use Rattle.amqp_values.proofs.NumberLemmas.{ushort_format, uint_format, ulong_format, boolean_format}
use Rattle.amqp_values.proofs.TextLemmas.{binary_format, string_format, symbol_format}
use Rattle.amqp_values.proofs.SymbolLemmas.{symbols_format}
use Rattle.amqp_values.proofs.RawValueLemmas.{raw_format}
use Rattle.amqp_values.proofs.MapLemmas.{map_format}
use Rattle.amqp_values.proofs.SlotLemmas.{IsBody, then_law, optional_law, required_law, default_law, end_law, named_law}
use Rattle.amqp_values.proofs.CompositeLemmas.{described_law}
use Rattle.amqp_types.proofs.DefinitionLemmas.{role_format, sender_mode_format, receiver_mode_format}

pub error_body : IsBody IsErrorBody error_body_at
unfolding error_table error_body_at
error_body = named_law _ _ error_of error_slots (λ v. refl) (λ w. refl)
    (then_law _ _ _ _ (required_law _ _ symbol_format)
    (then_law _ _ _ _ (optional_law _ _ string_format)
    (then_law _ _ _ _ (optional_law _ _ map_format)
    end_law)))

-- no error is empty
pub no_error : error_at [] ≡ None
unfolding error_at described_at descriptor_at
no_error = refl

pub error_format : IsFormat IsError error_at
unfolding error_at
error_format = described_law 0x1d _ _ error_body

pub open_body : IsBody IsOpenBody open_body_at
unfolding open_table open_body_at
open_body = named_law _ _ open_of open_slots (λ v. refl) (λ w. refl)
    (then_law _ _ _ _ (required_law _ _ string_format)
    (then_law _ _ _ _ (optional_law _ _ string_format)
    (then_law _ _ _ _ (default_law 4294967295 _ _ uint_format)
    (then_law _ _ _ _ (default_law 65535 _ _ ushort_format)
    (then_law _ _ _ _ (optional_law _ _ uint_format)
    (then_law _ _ _ _ (optional_law _ _ symbols_format)
    (then_law _ _ _ _ (optional_law _ _ symbols_format)
    (then_law _ _ _ _ (optional_law _ _ symbols_format)
    (then_law _ _ _ _ (optional_law _ _ symbols_format)
    (then_law _ _ _ _ (optional_law _ _ map_format)
    end_law))))))))))

pub begin_body : IsBody IsBeginBody begin_body_at
unfolding begin_table begin_body_at
begin_body = named_law _ _ begin_of begin_slots (λ v. refl) (λ w. refl)
    (then_law _ _ _ _ (optional_law _ _ ushort_format)
    (then_law _ _ _ _ (required_law _ _ uint_format)
    (then_law _ _ _ _ (required_law _ _ uint_format)
    (then_law _ _ _ _ (required_law _ _ uint_format)
    (then_law _ _ _ _ (default_law 4294967295 _ _ uint_format)
    (then_law _ _ _ _ (optional_law _ _ symbols_format)
    (then_law _ _ _ _ (optional_law _ _ symbols_format)
    (then_law _ _ _ _ (optional_law _ _ map_format)
    end_law))))))))

pub attach_body : IsBody IsAttachBody attach_body_at
unfolding attach_table attach_body_at attach_rest_at
attach_body = named_law _ _ attach_of attach_slots (λ v. refl) (λ w. refl)
    (then_law _ _ _ _ (required_law _ _ string_format)
    (then_law _ _ _ _ (required_law _ _ uint_format)
    (then_law _ _ _ _ (required_law _ _ role_format)
    (then_law _ _ _ _ (default_law Mixed _ _ sender_mode_format)
    (then_law _ _ _ _ (default_law First _ _ receiver_mode_format)
    (then_law _ _ _ _ (optional_law _ _ raw_format)
    (then_law _ _ _ _ (optional_law _ _ raw_format)
    (then_law _ _ _ _ (optional_law _ _ map_format)
    (then_law _ _ _ _ (default_law false _ _ boolean_format)
    (then_law _ _ _ _ (optional_law _ _ uint_format)
    (then_law _ _ _ _ (optional_law _ _ ulong_format)
    (then_law _ _ _ _ (optional_law _ _ symbols_format)
    (then_law _ _ _ _ (optional_law _ _ symbols_format)
    (then_law _ _ _ _ (optional_law _ _ map_format)
    end_law))))))))))))))

pub flow_body : IsBody IsFlowBody flow_body_at
unfolding flow_table flow_body_at
flow_body = named_law _ _ flow_of flow_slots (λ v. refl) (λ w. refl)
    (then_law _ _ _ _ (optional_law _ _ uint_format)
    (then_law _ _ _ _ (required_law _ _ uint_format)
    (then_law _ _ _ _ (required_law _ _ uint_format)
    (then_law _ _ _ _ (required_law _ _ uint_format)
    (then_law _ _ _ _ (optional_law _ _ uint_format)
    (then_law _ _ _ _ (optional_law _ _ uint_format)
    (then_law _ _ _ _ (optional_law _ _ uint_format)
    (then_law _ _ _ _ (optional_law _ _ uint_format)
    (then_law _ _ _ _ (default_law false _ _ boolean_format)
    (then_law _ _ _ _ (default_law false _ _ boolean_format)
    (then_law _ _ _ _ (optional_law _ _ map_format)
    end_law)))))))))))

pub transfer_body : IsBody IsTransferBody transfer_body_at
unfolding transfer_table transfer_body_at
transfer_body = named_law _ _ transfer_of transfer_slots (λ v. refl) (λ w. refl)
    (then_law _ _ _ _ (required_law _ _ uint_format)
    (then_law _ _ _ _ (optional_law _ _ uint_format)
    (then_law _ _ _ _ (optional_law _ _ binary_format)
    (then_law _ _ _ _ (optional_law _ _ uint_format)
    (then_law _ _ _ _ (optional_law _ _ boolean_format)
    (then_law _ _ _ _ (default_law false _ _ boolean_format)
    (then_law _ _ _ _ (optional_law _ _ receiver_mode_format)
    (then_law _ _ _ _ (optional_law _ _ raw_format)
    (then_law _ _ _ _ (default_law false _ _ boolean_format)
    (then_law _ _ _ _ (default_law false _ _ boolean_format)
    (then_law _ _ _ _ (default_law false _ _ boolean_format)
    end_law)))))))))))

pub disposition_body : IsBody IsDispositionBody disposition_body_at
unfolding disposition_table disposition_body_at
disposition_body = named_law _ _ disposition_of disposition_slots (λ v. refl) (λ w. refl)
    (then_law _ _ _ _ (required_law _ _ role_format)
    (then_law _ _ _ _ (required_law _ _ uint_format)
    (then_law _ _ _ _ (optional_law _ _ uint_format)
    (then_law _ _ _ _ (default_law false _ _ boolean_format)
    (then_law _ _ _ _ (optional_law _ _ raw_format)
    (then_law _ _ _ _ (default_law false _ _ boolean_format)
    end_law))))))

pub detach_body : IsBody IsDetachBody detach_body_at
unfolding detach_table detach_body_at
detach_body = named_law _ _ detach_of detach_slots (λ v. refl) (λ w. refl)
    (then_law _ _ _ _ (required_law _ _ uint_format)
    (then_law _ _ _ _ (default_law false _ _ boolean_format)
    (then_law _ _ _ _ (optional_law _ _ error_format)
    end_law)))

pub end_body : IsBody IsEndBody end_body_at
unfolding end_table end_body_at
end_body = named_law _ _ end_of end_slots (λ v. refl) (λ w. refl)
    (then_law _ _ _ _ (optional_law _ _ error_format)
    end_law)

pub close_body : IsBody IsCloseBody close_body_at
unfolding close_table close_body_at
close_body = named_law _ _ close_of close_slots (λ v. refl) (λ w. refl)
    (then_law _ _ _ _ (optional_law _ _ error_format)
    end_law)
