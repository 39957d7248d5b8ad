use Rattle.std.proofs.Common.{ap, ◌∙◌, nat_eq}
use Rattle.std.specs.Map.{set_value}
use Rattle.amqp_session.proofs.NumberedMapLemmas.{lent_at}
use Rattle.amqp_session.proofs.link.inputs.ask_disposition.Goals as goal

pub returns-clause-asked : goal.returns-clause-asked
returns-clause-asked g c =
    let there = c.requires in
    let lent = rw c.unwrap-link.ensures at c.get_index_mut.ensures.value in
    let at = lent_at c.args.inputs.now.entries c.args.at c.args.delivery.now.input_handle.0 there.0 c.unwrap-link.result.now c.get_index_mut.ensures.unique there.1 lent in
    record {
      handle = c.unwrap-link.result.now.handle;
      before = c.unwrap-link.result.now.relay;
      after = _;
      attached = at.0;
      stands = c.ask.ensures.asked;
      put = at.1 _ ∙ ap (λ h. set_value (nat_eq c.args.delivery.now.input_handle.0) c.args.inputs.now.entries (record { handle = h; relay = c.ask.new.link.relay })) c.ask.ensures.handle;
    }
