use Rattle.amqp_driver.specs.contracts.plain.PlainRelayLinkRelay.TheImpl.{ghosts}
use Rattle.amqp_driver.specs.Wanted.{LetsGoStream}
use Rattle.amqp1.specs.Refused.{last_ended}
use Rattle.amqp1.specs.Status.{ended_status}
use Rattle.amqp1.proofs.AnsweringLemmas.{kept_answer}
use Rattle.amqp1.proofs.client.Client.let_session_go.Goals as goal

pub returns : goal.returns
returns c = rw (← c.self.view_is) (kept_answer
    (λ a v. LetsGoStream ghosts.gives c.self.inside.stream (record { 0 = c.args.session }) a v) ended_status
    (λ s a. last_ended c.self.inside.last s a) c.let_go-answer.result c.let_go-answer.new.self _ _ c.let_go-answer.ensures
    c.note_ended.ensures.status c.note_ended.ensures.noted)
