use Rattle.std.proofs.Common.{subst, List, ℕ, ◌∙◌, ◌≤◌, arith}
use Rattle.amqp_driver.specs.Driver.{Tells}
use Rattle.amqp_driver.proofs.CopiedLemmas.{frame_is}
use Rattle.amqp_driver.proofs.driver.Driver.take_one.Goals as goal

pub returns : goal.returns
returns g c = subst (λ (b : List ℕ). Tells g.R.LinkRelay.gives c.args.self.now b c.args.at c.args.size c.tell.result c.tell.new.self)
    (c.in-Ok.ensures.ok ∙ frame_is c.args.input.now c.args.at c.args.size (let h : 4 ≤ c.args.size = omega (arith, c.requires.least) in h)) c.tell.ensures
