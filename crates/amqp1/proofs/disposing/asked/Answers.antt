use Rattle.std.proofs.Common.{List, ℕ, Some, ap, sym, ◌∙◌}
use Rattle.amqp1.proofs.AskingLemmas.{one_byte}
use Rattle.amqp1.proofs.disposing.asked.Goals as goal

pub returns-in-len1 : goal.returns-in-len1
returns-in-len1 c = record {
  role_byte = c.in_ok-role.role;
  settled_byte = c.in_ok-settled.settled;
  after = c.in_ok-session.after.now;
  numbers = c.in_ok-role.numbers.now;
  second = c.in_ok-first.second.now;
  flags = c.in_ok-last.flags.now;
  has_session = sym c.in_ok-session.ensures;
  has_role = sym c.in_ok-role.ensures;
  role_is = sym c.in_ok-role-2.ensures;
  has_first = sym c.in_ok-first.ensures;
  has_last = sym c.in_ok-last.ensures;
  has_settled = sym c.in_ok-settled.ensures
      ∙ ap (λ (r : List ℕ). Some (c.in_ok-settled.settled, r)) (one_byte c.in_ok-settled.end.now c.in-len1.len_at_least c.in-len1.len_below);
  settled_is = sym c.in_ok-settled-2.ensures;
}
