use Rattle.amqp_driver.proofs.TakingLemmas.{seen_all, seen_length}
use Rattle.amqp_driver.proofs.driver.taking.seen.Goals as goal

pub slice_bounds-result-end : goal.slice_bounds-result-end
slice_bounds-result-end c = seen_length c.args.input.now 4294967295 c.if-input-le-SEEN.false

pub returns-then-input-le-SEEN : goal.returns-then-input-le-SEEN
returns-then-input-le-SEEN c = seen_all c.args.input.now 4294967295 c.if-input-le-SEEN.true
