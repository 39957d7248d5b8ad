use Rattle.std.proofs.Common.{◌∙◌, arith}
use Rattle.amqp_transport.proofs.ReadLemmas.{read_length, read_over, when_ok}
use Rattle.amqp_transport.proofs.stream.read_more.Goals as goal

pub returns-clause-bytes : goal.returns-clause-bytes
returns-clause-bytes g c =
    let room = c.in_ok-more_in_vector_exactly.ensures.ok in
    let same = c.in_ok-more_in_vector_exactly.ensures.len in
    let ok = c.resize.ensures.succeeds (omega (arith, room, same, c.len-at.ensures)) in
    let len = when_ok c.resize.result _ _ _ ok c.resize.ensures.len in
    let items = when_ok c.resize.result _ _ _ ok c.resize.ensures.items in
    let all = c.as_mut_slice.ensures.len ∙ len in
    let read = read_length _ _ _ _ all c.read_exact.auto.places in
    (c.read_exact.new.places, read, read_over _ _ _ _ _ _ _ _ _ c.in_ok-more_in_vector_exactly.ensures.items (c.as_mut_slice.ensures.value ∙ items) (c.len-at.ensures ∙ search) len read, c.in_ok-read_exact.ensures.bytes)
