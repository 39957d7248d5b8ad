use Rattle.std.proofs.Common.{◌+◌, ◌∙◌, ◌++◌, ap, sym, ℕ, List, length, take}
use Rattle.amqp_transport.specs.Received.{read_count}
use Rattle.amqp_transport.proofs.ReadLemmas.{read_length}
use Rattle.amqp_transport.proofs.ReceivedLemmas.{kept_behind, read_done}
use Rattle.amqp_transport.proofs.received.read_behind.Goals as goal

pub returns : goal.returns
returns g c =
    let same = c.more_in_buffer.ensures.items in
    let at = c.len-at.ensures.value ∙ ap (λ (xs : List ℕ). length xs) (sym same) in
    let all = c.as_mut_slice.ensures.value in
    let long = ap (λ (xs : List ℕ). length xs) all ∙ c.advance_mut.ensures.len ∙ ap (λ (k : ℕ). k + c.args.most) (sym at) in
    let read = read_length _ _ c.len-at.result c.args.most long c.read-outcome.auto.places in
    let kept = kept_behind _ _ _ _ c.len-at.result c.args.most c.count_of-count.result c.advance_mut.ensures.front c.advance_mut.ensures.len all at read in
    let now = c.truncate.ensures.items ∙ kept ∙ ap (λ (k : ℕ). c.more_in_buffer.new.buffer.items ++ take k c.read-outcome.new.places) c.count_of-count.ensures
    ∙ ap (λ (xs : List ℕ). xs ++ take (read_count c.read-outcome.result) c.read-outcome.new.places) same in
    record { read = read_done c.read-outcome.result _ _ c.read-outcome.new.places c.args.most _ _ c.read-outcome.ensures.bound c.read-outcome.ensures.bytes c.read-outcome.ensures.failed read c.requires.some now }
