use Rattle.std.proofs.Common.{◌≡◌, sym, arith, None}
use Rattle.amqp_values.specs.Parts.{open_at}
use Rattle.amqp_values.proofs.ListPartLemmas.{opened, shut}
use Rattle.amqp_values.proofs.value.ValueRef.items.Goals as goal

pub returns-in_err-left : goal.returns-in_err-left
returns-in_err-left c =
    let e : open_at c.self.inside.bytes.now ≡ None = sym c.in_err-left.ensures in
    rw (c.from_residual.ensures, ← c.self.view_is) (shut c.self.inside.bytes.now e)

pub invariant_of-result : goal.invariant_of-result
invariant_of-result c = (opened 64 c.self.inside.bytes.now (omega arith) c.self.invariant c.in_ok-left.left c.in_ok-left.bytes.now (sym c.in_ok-left.ensures)).0

pub returns : goal.returns
returns c = rw (← c.self.view_is) (opened 64 c.self.inside.bytes.now (omega arith) c.self.invariant c.in_ok-left.left c.in_ok-left.bytes.now (sym c.in_ok-left.ensures)).1
