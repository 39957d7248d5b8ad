use Rattle.std.proofs.Common.{◌≡◌, ◌≤◌, length, take, drop, Some, sym, ap, subst, ◌∙◌}
use Rattle.amqp_values.specs.Composite.{descriptor_at, list_at}
use Rattle.amqp_values.specs.Walking.{ahead}
use Rattle.amqp_values.proofs.WalkLemmas.{rest_slice, described_left, described_is}
use Rattle.amqp_values.proofs.composite.described.Goals as goal

pub returns-clause-value : goal.returns-clause-value
returns-clause-value g c =
    let from = c.in_ok-rest.ensures.ok ∙ rest_slice c.args.at.now c.args.text.now c.args.bytes.now c.requires.front c.requires.inside in
    let coded : descriptor_at (drop c.args.at.now c.args.text.now) ≡ Some (c.in_ok-descriptor.field-0, c.descriptor.new.bytes) = ap descriptor_at (sym from) ∙ c.in_ok-descriptor.ensures.value in
    let list : list_at c.descriptor.new.bytes ≡ Some (ahead (take c.in_ok-end.end c.descriptor.new.bytes) c.in_ok-end.field-0-0, drop c.in_ok-end.end c.descriptor.new.bytes) =
    rw (← c.as_slice.ensures) c.in_ok-end.ensures.value.0 in
    let short : c.in_ok-end.end ≤ length c.descriptor.new.bytes = rw (← c.as_slice.ensures) c.in_ok-end.ensures.value.2 in
    rw (c.len.ensures.value, described_left c.args.at.now c.in_ok-descriptor.field-0 c.in_ok-end.end c.args.text.now c.descriptor.new.bytes c.requires.inside coded short)
    (described_is _ c.args.code c.in_ok-descriptor.field-0 _ c.descriptor.new.bytes c.read_list.new.bytes _ _ c.read_list.result coded c.if-branch-code.false list c.read_list.ensures)
