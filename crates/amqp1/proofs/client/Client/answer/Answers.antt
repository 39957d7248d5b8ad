use Rattle.amqp_driver.specs.contracts.plain.PlainRelayLinkRelay.TheImpl.{ghosts}
use Rattle.amqp_driver.specs.Wanted.{AnswersRecord}
use Rattle.amqp1.specs.Refused.{last_answered}
use Rattle.amqp1.specs.Status.{answered_status}
use Rattle.amqp1.proofs.AnsweringLemmas.{kept_answer}
use Rattle.amqp1.proofs.client.Client.answer.Goals as goal

pub returns : goal.returns
returns c = rw (← c.self.view_is) (kept_answer
    (λ a v. AnswersRecord ghosts.gives c.self.inside.stream c.args.flags (record { 0 = c.args.number }) c.args.told.now c.args.input.now a v) answered_status
    (λ s a. last_answered c.self.inside.last s a) c.answer-answer.result c.answer-answer.new.self _ _ c.answer-answer.ensures
    c.note_answer.ensures.status c.note_answer.ensures.noted)
