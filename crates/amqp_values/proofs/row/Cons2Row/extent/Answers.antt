use Rattle.std.specs.Prelude.{◌≡◌, ◌∷◌, length}
use Rattle.std.proofs.Common.{subst}
use Rattle.amqp_values.specs.Reading.{joined}
use Rattle.amqp_values.specs.Writing.{trim}
use Rattle.amqp_values.proofs.row.Cons2Row.extent.Goals as goal

pub returns-clause-count : goal.returns-clause-count
returns-clause-count g c =
    let after = c.before-after.ensures.reach (g.R.Row.texts c.self.inside.2) c.extent.ensures.count c.extent.ensures.size in
    let all = c.before-2.ensures.reach (g.B.Encode.text c.self.inside.1 ∷ g.R.Row.texts c.self.inside.2) after.0 after.1 in
    subst (λ texts. c.before-2.result.count ≡ length (trim texts)) c.self.view_is all.0

pub returns-clause-size : goal.returns-clause-size
returns-clause-size g c =
    let after = c.before-after.ensures.reach (g.R.Row.texts c.self.inside.2) c.extent.ensures.count c.extent.ensures.size in
    let all = c.before-2.ensures.reach (g.B.Encode.text c.self.inside.1 ∷ g.R.Row.texts c.self.inside.2) after.0 after.1 in
    subst (λ texts. c.before-2.result.size ≡ length (joined (trim texts))) c.self.view_is all.1
