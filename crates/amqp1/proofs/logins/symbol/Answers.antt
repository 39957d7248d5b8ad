use Rattle.std.proofs.Common.{◌<◌, ◌^◌, ℕ, sym, subst}
use Rattle.amqp1.proofs.LoginLemmas.{front_length}
use Rattle.amqp1.proofs.logins.symbol.Goals as goal

pub ascii_symbol-requires-clause-short : goal.ascii_symbol-requires-clause-short
ascii_symbol-requires-clause-short c = subst (λ (n : ℕ). n < 2 ^ 32) (sym (front_length _ _ _ _ c.in-Some.ensures)) c.ranges.size.fits
