use Rattle.std.proofs.Common.{arith, ℕ, List, Vec, Global, Bor}
use Rattle.std.proofs.lemmas.List.{drop_more}
use Rattle.amqp_sasl.specs.declared.opening.Login.{Login}
use Rattle.amqp1.specs.Logins.{all_in, login_in}
use Rattle.amqp1.proofs.LoginLemmas.{all_done, all_failed, all_left, all_more}
use Rattle.amqp1.proofs.logins.logins.Goals as goal

pub loop-head-preserved : goal.loop-head-preserved
loop-head-preserved c = record {
  read = rw c.push_reserved.ensures.items
      (all_more login_in (all_in login_in c.args.heads.now c.args.bytes.now) c.args.heads.now c.loop-head.head-index _ _ _ _ c.loop-head.logins.items
      (drop_more c.args.heads.now c.loop-head.head-index _ c.loop-head-test.true) c.in-Ok.ensures c.loop-head.invariant.read);
  room = omega (arith, c.push_reserved.ensures.len, c.push_reserved.ensures.capacity, c.loop-head.invariant.room, c.loop-head-test.true);
}

pub returns-in-Err : goal.returns-in-Err
returns-in-Err c = all_failed {Y = Vec Login Global} {Z = Login × Bor (List ℕ)} (λ x. (x.0, x.1.now)) (λ v. v.items) c.in-Err.error login_in
    (all_in login_in c.args.heads.now c.args.bytes.now) c.args.heads.now c.loop-head.head-index _ _ c.loop-head.logins.items
    (drop_more c.args.heads.now c.loop-head.head-index _ c.loop-head-test.true) c.in-Err.ensures c.loop-head.invariant.read

pub returns-then-is_empty : goal.returns-then-is_empty
returns-then-is_empty c = all_done login_in (all_in login_in c.args.heads.now c.args.bytes.now) c.args.heads.now c.loop-head.head-index _ _ c.loop-head-test.false c.if-is_empty.ensures c.loop-head.invariant.read

pub returns-else-is_empty : goal.returns-else-is_empty
returns-else-is_empty c = all_left login_in (all_in login_in c.args.heads.now c.args.bytes.now) c.args.heads.now c.loop-head.head-index _ _ c.loop-head-test.false c.if-is_empty.ensures c.loop-head.invariant.read
