use Rattle.amqp_session.proofs.NumberedMapLemmas.{lent_at}
use Rattle.amqp_session.proofs.link.inputs.ask_flow.Goals as goal

pub returns-clause-asked : goal.returns-clause-asked
returns-clause-asked g c =
    let found = rw c.unwrap-at.ensures at c.index_of.ensures.there in
    let lent = rw c.unwrap-link.ensures at c.get_index_mut.ensures.value in
    let at = lent_at c.args.inputs.now.entries c.unwrap-at.result c.args.input.0 found.0 c.unwrap-link.result.now c.get_index_mut.ensures.unique found.1 lent in
    record {
      handle = c.unwrap-link.result.now.handle;
      before = c.unwrap-link.result.now.relay;
      after = _;
      attached = at.0;
      stands = c.on_incoming_flow.ensures;
      put = at.1 _;
    }
