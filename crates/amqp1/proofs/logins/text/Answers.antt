use Rattle.amqp1.proofs.LoginLemmas.{text_found, text_not}
use Rattle.amqp1.proofs.logins.text.Goals as goal

pub returns-in-Ok : goal.returns-in-Ok
returns-in-Ok c = text_found _ _ _ _ _ c.if-size-eq-NO_SIZE.false c.in_ok-text.ensures c.in-Ok.ensures.cases.0 c.in-Ok.ensures.cases.1

pub returns-in-Err : goal.returns-in-Err
returns-in-Err c = text_not _ _ _ _ c.if-size-eq-NO_SIZE.false c.in_ok-text.ensures c.in-Err.ensures.cases.0
