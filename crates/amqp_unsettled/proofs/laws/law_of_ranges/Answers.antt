use Rattle.amqp_unsettled.specs.Table.{is_any, is_in, is_of}
use Rattle.amqp_unsettled.specs.History.{RemovesOldest, Settles, Leaves}
use Rattle.amqp_unsettled.proofs.LawLemmas.{gives_all}
use Rattle.amqp_unsettled.proofs.laws.law_of_ranges.Goals as goal

pub returns-clause-range : goal.returns-clause-range
returns-clause-range c H t h first last = gives_all (Settles first last) (is_in first last) (λ v w o step. step) H t h

pub returns-clause-link : goal.returns-clause-link
returns-clause-link c H t h link = gives_all (Leaves link) (is_of link) (λ v w o step. step) H t h

pub returns-clause-session : goal.returns-clause-session
returns-clause-session c H t h = gives_all RemovesOldest is_any (λ v w o step. step) H t h
