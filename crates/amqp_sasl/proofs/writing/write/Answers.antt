use Rattle.std.proofs.Common.{◌+◌, arith, ap, ◌∙◌}
use Rattle.std.specs.Int.{w32, to_be_bytes}
use Rattle.amqp_values.specs.Writing.{described_text}
use Rattle.amqp_sasl.proofs.WriteLemmas.{framed_is}
use Rattle.amqp_sasl.proofs.writing.write.Goals as goal

pub returns-clause-text : goal.returns-clause-text
returns-clause-text g c = (
  framed_is c.args.out.now.items c.more_in_buffer.new.buffer.items c.extend_reserved.new.self.items c.extend_reserved-2.new.self.items c.put_described.new.out.items _ (described_text c.args.code (g.R.Row.texts c.args.fields.now))
      c.in-Ok.ensures.items c.extend_reserved.ensures.items c.extend_reserved-2.ensures.items c.put_described.ensures.items (c.to_be_bytes.ensures ∙ ap (λ n. to_be_bytes w32 (8 + n)) c.described_len-len.ensures.value),
  omega (arith, c.described_len-len.ensures.value, c.if-len-gt504.false),
)
