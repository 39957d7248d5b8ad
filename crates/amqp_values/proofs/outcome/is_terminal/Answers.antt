use Rattle.std.proofs.Common.{◌∙◌, ap, subst}
use Rattle.amqp_values.specs.Parts.{IsDescribed}
use Rattle.amqp_values.specs.Outcome.{stands_for_outcome}
use Rattle.amqp_values.proofs.TerminalStateLemmas.{terminal_by}
use Rattle.amqp_values.proofs.outcome.is_terminal.Goals as goal

pub returns-in-Some : goal.returns-in-Some
returns-in-Some c =
    let h : IsDescribed c.args.value.now c.in-Some.descriptor c.in-Some.ensures.0 = subst (λ b. IsDescribed b c.in-Some.descriptor c.in-Some.ensures.0) c.view.ensures c.in-Some.ensures.1 in
    terminal_by c.args.value.now c.in-Some.descriptor c.in-Some.ensures.0 h c.stands_for_outcome.result (c.stands_for_outcome.ensures ∙ ap stands_for_outcome c.bytes.ensures.same)
