-- Part: inner.
-- Bytes in one buffer, and parts that are shared: which bytes they are together, in order.
use Rattle.std.specs.Prelude.{◌≡◌, ◌≤◌, ℕ, ◌+◌, List, [], ◌∷◌, ◌++◌, length, take, drop}
use Rattle.std.specs.Prelude.{◌<◌, ◌-◌, ◌⊎◌, min, if◌then◌else◌, nat_le}
use Rattle.amqp_frames.specs.declared.woven.SharedPart.{SharedPart}
use Rattle.amqp_frames.specs.Piece.{PieceParts}

-- how many bytes of the buffer stand before shared parts
abbrev pub placed : List SharedPart → ℕ
placed [] = 0
placed (s ∷ ss) = s.before + placed ss

-- each shared part after the bytes of the buffer that stand before it, and what is left of the buffer after the last
abbrev pub woven : List SharedPart → List ℕ → List ℕ
woven [] bytes = bytes
woven (s ∷ ss) bytes = take s.before bytes ++ (s.part ++ woven ss (drop s.before bytes))

-- no part is empty
abbrev pub EachSome : List SharedPart → Type 0
EachSome [] = Unit {0}
EachSome (s ∷ ss) = (1 ≤ length s.part) × EachSome ss

-- the bytes that stand before shared parts are counted, and are in the buffer
pub record IsWoven (parts : List SharedPart) (count len : ℕ) : Type 0 where
  pub counted : count ≡ placed parts
  pub within : count ≤ len
  pub some : EachSome parts

-- the bytes that wait; and for how many bytes and parts there is room
pub record WovenView : Type 0 where
  pub waits : List ℕ
  pub spare : ℕ
  pub places : ℕ

-- the first part gives up so many bytes: all that it has, and it goes; or as many as are wanted, and the rest stays
abbrev pub TakesPart : ℕ → List SharedPart → ℕ → List SharedPart → Type 0
TakesPart most [] n new = ⊥
TakesPart most (s ∷ ss) n new =
    ((n ≡ length s.part) × (n ≤ most) × (new ≡ ss))
    ⊎ ((n ≡ most) × (n < length s.part) × (new ≡ record s { part = drop n s.part } ∷ ss))

-- so many bytes less stand before the first part
abbrev pub TakesBefore : ℕ → List SharedPart → ℕ → List SharedPart → Type 0
TakesBefore most [] n new = ⊥
TakesBefore most (s ∷ ss) n new = (n ≡ min most s.before) × (new ≡ record s { before = s.before - n } ∷ ss)

-- ---- room for pieces

-- what a piece takes up of the buffer: its size, its head, and its payload where that is copied
abbrev pub piece_room : ℕ → PieceParts → ℕ
piece_room most p = 4 + length p.head + (if nat_le (length p.payload) most then length p.payload else 0)

abbrev pub pieces_room : ℕ → List PieceParts → ℕ
pieces_room most [] = 0
pieces_room most (p ∷ ps) = piece_room most p + pieces_room most ps
