use Rattle.amqp_driver.proofs.AnsweringLemmas.{found, not_read}
use Rattle.amqp_driver.proofs.driver.Driver.find_begin.Goals as goal

pub returns-in-Ok-read_begin : goal.returns-in-Ok-read_begin
returns-in-Ok-read_begin g c = found c.args.self.now c.in-Ok.bytes c.args.frame.now c.in-Ok-read_begin.remote c.in-Ok-read_begin.theirs c.if_free.result
    c.in-Ok.ensures.ok c.in-Ok-read_begin.ensures c.if_free.ensures

pub returns-in-Err : goal.returns-in-Err
returns-in-Err g c = rw c.unread.ensures (not_read c.args.self.now c.in-Ok.bytes c.args.frame.now c.in-Err.error c.in-Ok.ensures.ok c.in-Err.ensures)
