use Rattle.amqp_driver.specs.Wanted.{wanted_by}
use Rattle.amqp_driver.proofs.WantedLemmas.{lets_go_by_calls, wanted_by_calls}
use Rattle.amqp_driver.proofs.laws.law_of_answers.Goals as goal

pub returns-clause-answers : goal.returns-clause-answers
returns-clause-answers g c = λ v w flags n r input a x. wanted_by_calls (wanted_by flags r) g.R.LinkRelay.gives v w n r input a x

pub returns-clause-lets_go : goal.returns-clause-lets_go
returns-clause-lets_go g c = lets_go_by_calls g.R.LinkRelay.gives
