use Rattle.amqp_driver.specs.contracts.plain.PlainRelayLinkRelay.TheImpl.{ghosts}
use Rattle.amqp_driver.specs.StreamTicking.{BeginsStream}
use Rattle.amqp1.specs.Refused.{last_begun}
use Rattle.amqp1.specs.Status.{begun_status}
use Rattle.amqp1.proofs.AnsweringLemmas.{kept_answer}
use Rattle.amqp1.proofs.client.Client.begin_for.Goals as goal

pub returns : goal.returns
returns c = rw (← c.self.view_is) (kept_answer
    (λ a v. BeginsStream ghosts.gives c.self.inside.stream c.args.frame.now (record { 0 = c.args.session }) c.args.settings a v) begun_status
    (λ s a. last_begun c.self.inside.last s a) c.answer_begin-answer.result c.answer_begin-answer.new.self _ _ c.answer_begin-answer.ensures
    c.note_begun.ensures.status c.note_begun.ensures.noted)
