use Rattle.std.proofs.Common.{◌≡◌, sym, arith, None}
use Rattle.amqp_values.specs.Parts.{halves_at}
use Rattle.amqp_values.proofs.ListPartLemmas.{halved, unhalved}
use Rattle.amqp_values.proofs.value.ValueRef.inner.Goals as goal

pub returns-in_err-inner : goal.returns-in_err-inner
returns-in_err-inner c =
    let e : halves_at c.self.inside.bytes.now ≡ None = sym c.in_err-inner.ensures in
    rw (c.from_residual.ensures, ← c.self.view_is) (unhalved c.self.inside.bytes.now e)

pub invariant_of-result : goal.invariant_of-result
invariant_of-result c = (halved 64 c.self.inside.bytes.now (omega arith) c.self.invariant c.in_ok-inner.field-0-0.now c.in_ok-inner.inner.now (sym c.in_ok-inner.ensures)).inner_is

pub returns : goal.returns
returns c = rw (← c.self.view_is) (c.in_ok-inner.field-0-0.now, (halved 64 c.self.inside.bytes.now (omega arith) c.self.invariant c.in_ok-inner.field-0-0.now c.in_ok-inner.inner.now (sym c.in_ok-inner.ensures)))
