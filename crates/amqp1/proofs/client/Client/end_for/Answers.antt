use Rattle.amqp_driver.specs.contracts.plain.PlainRelayLinkRelay.TheImpl.{ghosts}
use Rattle.amqp_driver.specs.StreamTicking.{EndsStream}
use Rattle.amqp1.specs.Refused.{last_ended}
use Rattle.amqp1.specs.Status.{ended_status}
use Rattle.amqp1.proofs.AnsweringLemmas.{kept_answer}
use Rattle.amqp1.proofs.client.Client.end_for.Goals as goal

pub returns : goal.returns
returns c = rw (← c.self.view_is) (kept_answer
    (λ a v. EndsStream ghosts.gives c.self.inside.stream (record { 0 = c.args.session }) c.args.error a v) ended_status
    (λ s a. last_ended c.self.inside.last s a) c.answer_end-answer.result c.answer_end-answer.new.self _ _ c.answer_end-answer.ensures
    c.note_ended.ensures.status c.note_ended.ensures.noted)
