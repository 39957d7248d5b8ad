use Rattle.std.proofs.Common.{◌≤◌, ◌+◌, length, arith}
use Rattle.amqp_frames.specs.Frame.{payload_of}
use Rattle.amqp_driver.proofs.FieldLemmas.{fields_hold, read_frame, unread_frame}
use Rattle.amqp_driver.proofs.driver.Driver.tell_fields.Goals as goal

pub returns-in-Ok : goal.returns-in-Ok
returns-in-Ok g c = λ bytes opened. c.tell_frame.ensures bytes (read_frame bytes c.args.fields c.args.head c.in-Ok.frame c.in-Ok.rest opened c.in-Ok.ensures)

pub returns-in-Err : goal.returns-in-Err
returns-in-Err g c = λ bytes opened. c.tell_unread.ensures bytes (unread_frame bytes c.args.fields c.args.head c.in-Err.error opened c.in-Err.ensures)

pub tell_frame-requires-clause-inside : goal.tell_frame-requires-clause-inside
tell_frame-requires-clause-inside g c =
    let h : length (payload_of c.in-Ok.frame.body) ≤ length c.args.fields = fields_hold c.args.head.kind c.in-Ok.frame.body c.args.fields c.in-Ok.rest c.in-Ok.ensures.1.0 in
    let w : 8 + length c.args.fields ≤ c.args.size = c.requires.within in omega arith
