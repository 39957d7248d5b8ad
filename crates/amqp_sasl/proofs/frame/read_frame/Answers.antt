use Rattle.amqp_sasl.proofs.FrameLemmas.{front_read, size_read}
use Rattle.amqp_sasl.proofs.frame.read_frame.Goals as goal

pub returns : goal.returns
returns c =
    front_read c.args.input.now c.from_be_bytes-size.result c.read_whole.result c.if-input-lt4.false (size_read c.args.input.now c.from_be_bytes-size.result c.if-input-lt4.false c.from_be_bytes-size.ensures) (c.if-size-lt8.false, c.if-size-gt-MAX_FRAME.false) c.if-input-size.false c.read_whole.ensures
