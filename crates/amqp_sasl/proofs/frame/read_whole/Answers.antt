use Rattle.std.proofs.Common.{arith, drop, sym, ap, ◌∙◌, ◌*◌}
use Rattle.amqp_sasl.specs.ReadFrame.{offset_at}
use Rattle.amqp_sasl.specs.Inner.Reading.{body_at}
use Rattle.amqp_sasl.proofs.FrameLemmas.{no_body, trailing, more_after}
use Rattle.amqp_sasl.proofs.frame.read_whole.Goals as goal

pub returns-in-Some-2 : goal.returns-in-Some-2
returns-in-Some-2 c =
    let e = ap (λ n. body_at (drop (n * 4) c.args.frame.now)) (sym c.from-offset.ensures) in
    (((omega arith, omega arith), omega arith), trailing _ (drop (offset_at c.args.frame.now) c.args.frame.now) _ (e ∙ c.in-Some.ensures.0) (more_after _ _ c.in-Some.ensures.2 c.if-end-frame.false))

pub returns-in-None : goal.returns-in-None
returns-in-None c =
    let e = ap (λ n. body_at (drop (n * 4) c.args.frame.now)) (sym c.from-offset.ensures) in
    (((omega arith, omega arith), omega arith), no_body (drop (offset_at c.args.frame.now) c.args.frame.now) (e ∙ c.in-None.ensures))
