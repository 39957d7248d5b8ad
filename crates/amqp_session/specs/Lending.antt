-- Part: other calls; inner.
-- What a table is once the reference to one of its records has ended, and a map once that to one of its values has.
use Rattle.std.specs.Prelude.{◌≡◌, Bool, Option}
use Rattle.std.specs.Borrow.{Fml, LendsSo, MutBor, RattleType}
use Rattle.std.specs.HashMap.Lent.{HashMembers}
use Rattle.std.specs.Map.{set_value}
use Rattle.std.specs.declared.alloc.Allocator as heap
use Rattle.std.specs.declared.hash.BuildHasher as builder
use Rattle.std.specs.declared.hash.Hasher as hasher
use Rattle.indexmap.specs.IndexMap.{IndexMap}
use Rattle.indexmap.specs.Lends.{map_row}
use Rattle.std.specs.Io.BufRead.{Rests}
use Rattle.amqp_session.specs.Deliveries.{TableView, stepped}
use Rattle.amqp_session.specs.contracts.deliveries.table.Deliveries.{the_row}

-- one record more was read of it
abbrev pub CountsTurn : MutBor TableView → Fml
CountsTurn s = Rests the_row s (λ t. t ≡ stepped 1 s.now)

-- the key that passes the test has the value that was written last; a map that lent none stays as it is
abbrev pub lends_under : (K V S A H : RattleType) → HashMembers K.Denot → builder.Ghosts S.Denot H.Denot → hasher.Ghosts H.Denot → heap.Ghosts A.Denot →
    MutBor (IndexMap K.Denot V.Denot S.Denot) → (K.Denot → Bool) → Option (MutBor V.Denot) → Fml
lends_under K V S A H key build hash alloc m test r =
    LendsSo (map_row K V S A H key build hash alloc) V m r (λ n w. n.entries ≡ set_value test m.now.entries w) (λ n. n ≡ m.now)
