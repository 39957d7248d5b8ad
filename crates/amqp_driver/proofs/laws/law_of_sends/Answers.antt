use Rattle.std.proofs.Common.{◌++◌, None}
use Rattle.amqp_driver.specs.Laws.{asked_entries}
use Rattle.amqp_driver.proofs.LawLemmas.{heads_go_on, numbers_are_told, rest_stays}
use Rattle.amqp_driver.proofs.laws.law_of_sends.Goals as goal

pub returns-clause-goes_on : goal.returns-clause-goes_on
returns-clause-goes_on g c = λ d k e handled r x s o H l.
    let y = rest_stays g.R.LinkRelay.gives k e x s o (H ++ asked_entries handled) (heads_go_on g.R.LinkRelay.gives d k None handled r s o H l) in
    (y, c.law_of_histories.ensures s o (H ++ asked_entries handled) e.engine y)

pub returns-clause-numbers : goal.returns-clause-numbers
returns-clause-numbers g c = numbers_are_told g.R.LinkRelay.gives c.law_of_engine_numbers.ensures.shown
