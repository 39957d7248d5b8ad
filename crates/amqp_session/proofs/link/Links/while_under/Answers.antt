use Rattle.std.proofs.Common.{◌≡◌, Bool, Some, None, true, false, cond, nat_eq, arith, ap, sym, ◌∙◌}
use Rattle.std.proofs.lemmas.Bool.Decides.{nat_tests}
use Rattle.std.proofs.lemmas.Grind.{common_steps}
use Rattle.amqp_session.specs.Links.{attached_at}
use Rattle.amqp_session.specs.Linking.{is_link}
use Rattle.amqp_session.proofs.FiniteMapLemmas.{get_at}
use Rattle.amqp_session.proofs.link.Links.while_under.Goals as goal

pub returns-in-None : goal.returns-in-None
returns-in-None g c = ap (λ o. cond (is_link c.args.output o) (Some c.args.input) None)
    (c.in-None.ensures.value ∙ sym (get_at c.self.inside.inputs.entries c.args.input.0) ∙ ap (λ l. attached_at c.args.input.0 l) c.self.view_is)

pub returns-then-link-output : goal.returns-then-link-output
returns-then-link-output g c =
    let there = c.in-Some.ensures.value ∙ sym (get_at c.self.inside.inputs.entries c.args.input.0) ∙ ap (λ l. attached_at c.args.input.0 l) c.self.view_is in
    let e = c.if-link-output.true in
    let t : nat_eq c.in-Some.link.now.handle.0 c.args.output.0 ≡ true = grind (arith, nat_tests, common_steps) in
    sym (ap (λ (b : Bool). cond b (Some c.args.input) None) t) ∙ ap (λ o. cond (is_link c.args.output o) (Some c.args.input) None) there

pub returns-else-link-output : goal.returns-else-link-output
returns-else-link-output g c =
    let there = c.in-Some.ensures.value ∙ sym (get_at c.self.inside.inputs.entries c.args.input.0) ∙ ap (λ l. attached_at c.args.input.0 l) c.self.view_is in
    let e = c.if-link-output.false in
    let t : nat_eq c.in-Some.link.now.handle.0 c.args.output.0 ≡ false = grind (arith, nat_tests, common_steps) in
    sym (ap (λ (b : Bool). cond b (Some c.args.input) None) t) ∙ ap (λ o. cond (is_link c.args.output o) (Some c.args.input) None) there
