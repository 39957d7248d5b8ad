use Rattle.std.proofs.Common.{◌≡◌, ◌<◌, ◌-◌, suc, length, sym, ap, ◌∙◌, arith}
use Rattle.amqp_values.specs.Parts.{parts_at}
use Rattle.amqp_values.proofs.ListPartLemmas.{next_none, next_value, next_all, next_parts}
use Rattle.amqp_values.proofs.value.ItemsIterator.next.Goals as goal

pub returns-in_err-first-clause-steps : goal.returns-in_err-first-clause-steps
returns-in_err-first-clause-steps c = absurd (next_none c.self.inside.left c.self.inside.bytes.now c.self.invariant c.if-self-eq0.false (sym c.in_err-first.ensures))

pub invariant_of-result : goal.invariant_of-result
invariant_of-result c = next_value c.self.inside.bytes.now c.in_ok-first.first.now c.in_ok-first.rest.now (sym c.in_ok-first.ensures)

pub invariant_of-self : goal.invariant_of-self
invariant_of-self c = next_all c.self.inside.left c.self.inside.bytes.now c.in_ok-first.first.now c.in_ok-first.rest.now c.self.invariant c.if-self-eq0.false (sym c.in_ok-first.ensures)

pub returns-clause-steps : goal.returns-clause-steps
returns-clause-steps c = sym c.self.view_is ∙ next_parts c.self.inside.left c.self.inside.bytes.now c.in_ok-first.first.now c.in_ok-first.rest.now c.if-self-eq0.false (sym c.in_ok-first.ensures)

pub returns-clause-goes : goal.returns-clause-goes
returns-clause-goes c =
    let p = sym c.self.view_is ∙ next_parts c.self.inside.left c.self.inside.bytes.now c.in_ok-first.first.now c.in_ok-first.rest.now c.if-self-eq0.false (sym c.in_ok-first.ensures) in
    let n : length c.args.self.now ≡ suc (length (parts_at (c.self.inside.left - 1) c.in_ok-first.rest.now)) = ap length p in
    let less : length (parts_at (c.self.inside.left - 1) c.in_ok-first.rest.now) < length c.args.self.now = omega arith in
    record { on = λ _. (tt, tt, less); keeps = tt; rests = λ _. tt }
