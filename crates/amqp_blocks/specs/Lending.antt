-- Part: other calls.
-- What a sequence is once the reference to one of its items has ended.
use Rattle.std.specs.Prelude.{◌≡◌}
use Rattle.std.specs.Borrow.{Fml, MutBor, RattleType}
use Rattle.std.specs.Io.BufRead.{Rests}
use Rattle.amqp_blocks.specs.Chunked.{Sequence}
use Rattle.amqp_blocks.specs.contracts.sequence.Blocks.{the_row}

-- the same
abbrev pub LeftAlone : (T : RattleType) → MutBor (Sequence T.Denot) → Fml
LeftAlone T s = Rests (the_row T) s (λ t. t ≡ s.now)
