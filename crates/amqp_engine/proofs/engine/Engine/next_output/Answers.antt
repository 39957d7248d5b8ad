use Rattle.std.proofs.Common.{rules, [], Ok, Err, Some}
use Rattle.amqp_engine.specs.declared.engine.answer.OutputError.TheVariants as output
use Rattle.amqp_engine.proofs.RunSoFarLemmas.{next_left, legal_left}
use Rattle.amqp_engine.proofs.engine.Engine.next_output.Goals as goal

pub returns-in-Ok-clause-legal : goal.returns-in-Ok-clause-legal
returns-in-Ok-clause-legal g c = legal_left g.R.LinkRelay.gives c.args.self.now _ (next_left c.args.self.now (Ok (Some c.in-Ok.pieces)) (λ v. v.items) _ (search rules))

pub returns-in-Err-TooLarge-clause-legal : goal.returns-in-Err-TooLarge-clause-legal
returns-in-Err-TooLarge-clause-legal g c = legal_left g.R.LinkRelay.gives c.args.self.now _ (next_left {X = Unit {0}} c.args.self.now (Err (output.TooLarge c.unwrap.result)) (λ v. []) _ (search rules))
