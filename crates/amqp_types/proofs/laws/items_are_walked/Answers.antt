use Rattle.amqp_types.proofs.ItemsWalkLemmas.{walks_give_items}
use Rattle.amqp_types.proofs.laws.items_are_walked.Goals as goal

pub returns : goal.returns
returns c = walks_give_items
