use Rattle.std.proofs.Common.{sym, ◌∙◌, arith}
use Rattle.amqp_blocks.proofs.ShiftLemmas.{all_plain}
use Rattle.amqp_blocks.proofs.ends.write_all.Goals as goal

pub returns-clause-all : goal.returns-clause-all
returns-clause-all c = sym (all_plain c.len-count.result c.args.shift c.move_shift.new.written.items (omega (arith, c.move_shift.ensures.count, c.len-count.ensures, c.args.written.now.ok.0))) ∙ c.move_shift.ensures.same
