use Rattle.std.proofs.Common.{Bool, ℕ, is_ok, subst, sym}
use Rattle.amqp_frames.specs.declared.frame.Frame.{Frame}
use Rattle.amqp_frames.specs.Wire.{EncodesTo}
use Rattle.amqp_driver.specs.Answering.{Puts}
use Rattle.amqp_driver.proofs.AnsweringLemmas.{puts_so}
use Rattle.amqp_driver.proofs.driver.Driver.put_begin.Goals as goal

pub returns : goal.returns
returns g c = subst (λ (b : Bool). Puts c.args.self.now c.args.limit c.args.channel c.args.begin b
    (record { engine = c.self.inside.engine; to_send = c.encode_to-put.new.out.bytes; unfit = c.self.inside.unfit }))
    (sym c.is_put.ensures)
    (subst (λ m. Puts m c.args.limit c.args.channel c.args.begin (is_ok c.encode_to-put.result)
    (record { engine = c.self.inside.engine; to_send = c.encode_to-put.new.out.bytes; unfit = c.self.inside.unfit }))
    c.self.view_is
    (puts_so c.pieces_keep_the_limit.ensures.limit c.self.inside.engine c.self.inside.unfit c.args.limit c.args.channel c.args.begin c.self.inside.out.bytes
    c.encode_to-put.new.out.bytes c.encode_to-put.result c.requires.least c.requires.fits
    (subst (λ (f : Frame). EncodesTo f c.args.limit c.self.inside.out.bytes c.encode_to-put.result c.encode_to-put.new.out.bytes) c.new-frame.ensures
    (subst (λ (m : ℕ). EncodesTo c.new-frame.result m c.self.inside.out.bytes c.encode_to-put.result c.encode_to-put.new.out.bytes) c.new.ensures
    c.encode_to-put.ensures.sent))))
