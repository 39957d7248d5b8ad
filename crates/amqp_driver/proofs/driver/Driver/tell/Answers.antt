use Rattle.std.proofs.Common.{◌≤◌, ◌+◌, ◌≡◌, ◌∙◌, ap, Some, length, arith}
use Rattle.amqp_types.specs.declared.performatives.kind.Kind.{Kind}
use Rattle.amqp_types.specs.declared.performatives.kind.Kind.TheVariants as kind
use Rattle.amqp_frames.proofs.FrameHeadLemmas.{not_opened}
use Rattle.amqp_driver.proofs.FieldLemmas.{head_leaves, opens_as}
use Rattle.amqp_driver.proofs.driver.Driver.tell.Goals as goal

pub returns-in-Err : goal.returns-in-Err
returns-in-Err g c = c.tell_unread.ensures c.args.bytes (not_opened c.args.bytes c.in-Err.error c.in-Err.ensures)

pub returns-in-Some-Transfer : goal.returns-in-Some-Transfer
returns-in-Some-Transfer g c = c.tell_transfer.ensures c.args.bytes
    (opens_as c.args.bytes c.head.new.bytes c.in-Ok.head (Some kind.Transfer) c.in-Ok.ensures
    (c.in-Some-Transfer.is ∙ ap (λ (x : Kind). Some x) (rw c.in-Some-Transfer.is at c.in-Some-Transfer.field-0-is)))

pub tell_transfer-requires-clause-within : goal.tell_transfer-requires-clause-within
tell_transfer-requires-clause-within g c =
    let h : length c.head.new.bytes + 4 ≤ length c.args.bytes = head_leaves c.args.bytes c.head.new.bytes c.in-Ok.head c.in-Ok.ensures in
    let w : length c.args.bytes + 4 ≡ c.args.size = c.requires.whole in omega arith

pub returns-in-Some-Disposition : goal.returns-in-Some-Disposition
returns-in-Some-Disposition g c = c.tell_disposition.ensures c.args.bytes
    (opens_as c.args.bytes c.head.new.bytes c.in-Ok.head (Some kind.Disposition) c.in-Ok.ensures
    (c.in-Some-Disposition.is ∙ ap (λ (x : Kind). Some x) (rw c.in-Some-Disposition.is at c.in-Some-Disposition.field-0-is)))

pub tell_disposition-requires-clause-within : goal.tell_disposition-requires-clause-within
tell_disposition-requires-clause-within g c =
    let h : length c.head.new.bytes + 4 ≤ length c.args.bytes = head_leaves c.args.bytes c.head.new.bytes c.in-Ok.head c.in-Ok.ensures in
    let w : length c.args.bytes + 4 ≡ c.args.size = c.requires.whole in omega arith

pub returns-in-Some-Flow : goal.returns-in-Some-Flow
returns-in-Some-Flow g c = c.tell_flow.ensures c.args.bytes
    (opens_as c.args.bytes c.head.new.bytes c.in-Ok.head (Some kind.Flow) c.in-Ok.ensures
    (c.in-Some-Flow.is ∙ ap (λ (x : Kind). Some x) (rw c.in-Some-Flow.is at c.in-Some-Flow.field-0-is)))

pub tell_flow-requires-clause-within : goal.tell_flow-requires-clause-within
tell_flow-requires-clause-within g c =
    let h : length c.head.new.bytes + 4 ≤ length c.args.bytes = head_leaves c.args.bytes c.head.new.bytes c.in-Ok.head c.in-Ok.ensures in
    let w : length c.args.bytes + 4 ≡ c.args.size = c.requires.whole in omega arith

pub returns-in_default : goal.returns-in_default
returns-in_default g c = c.tell_fields.ensures c.args.bytes c.in-Ok.ensures

pub tell_fields-requires-clause-within : goal.tell_fields-requires-clause-within
tell_fields-requires-clause-within g c =
    let h : length c.head.new.bytes + 4 ≤ length c.args.bytes = head_leaves c.args.bytes c.head.new.bytes c.in-Ok.head c.in-Ok.ensures in
    let w : length c.args.bytes + 4 ≡ c.args.size = c.requires.whole in omega arith
