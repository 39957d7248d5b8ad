-- Part: inner.
-- Changes of one block.
use Rattle.std.specs.Prelude.{ℕ, zero, suc, ◌<◌, ◌≤◌, ◌≡◌, ◌+◌, ◌-◌, ◌*◌, ◌⊎◌, map, max, List, [], ◌∷◌, ◌++◌, length, take, drop, slice_index_or, slice_set, min}
use Rattle.std.specs.List.{remove, insert}
use Rattle.amqp_blocks.specs.Chunked.{Block, items_of, start_of, ends_from, EachSome, HasItem, places_of, end_room}

module _ {T : Type 0} where
  -- how many places of these rings are free
  abbrev pub free_of : List (Block T) → ℕ
  free_of [] = 0
  free_of (b ∷ bs) = (min b.cap 256 - length b.items) + free_of bs

  -- one block has lost items
  pub record IsThinned (old : List (Block T)) (i at count : ℕ) (new : List (Block T)) : Type 0 where
    pub from : Block T
    pub to : Block T
    pub was : from ≡ slice_index_or old i from
    pub set : new ≡ slice_set old i to
    pub items : to.items ≡ take at from.items ++ drop (at + count) from.items

  -- one block has lost its first item
  pub record IsPopped (old : List (Block T)) (i : ℕ) (item : T) (new : List (Block T)) : Type 0 where
    pub from : Block T
    pub to : Block T
    pub was : from ≡ slice_index_or old i from
    pub set : new ≡ slice_set old i to
    pub items : from.items ≡ item ∷ to.items

  -- one block has an item more
  pub record IsPut (old : List (Block T)) (i at : ℕ) (item : T) (new : List (Block T)) : Type 0 where
    pub from : Block T
    pub to : Block T
    pub was : from ≡ slice_index_or old i from
    pub set : new ≡ slice_set old i to
    pub items : to.items ≡ insert from.items at item
    pub places : from.cap ≤ to.cap

  -- one block has an item more, and its last one is out
  pub record IsShifted (old : List (Block T)) (i at : ℕ) (item last : T) (new : List (Block T)) : Type 0 where
    pub from : Block T
    pub to : Block T
    pub was : from ≡ slice_index_or old i from
    pub set : new ≡ slice_set old i to
    pub items : to.items ++ last ∷ [] ≡ insert from.items at item
    pub places : from.cap ≤ to.cap

  -- one block has an item more, and its first one is out
  pub record IsUnshifted (old : List (Block T)) (i at : ℕ) (item first : T) (new : List (Block T)) : Type 0 where
    pub from : Block T
    pub to : Block T
    pub was : from ≡ slice_index_or old i from
    pub set : new ≡ slice_set old i to
    pub items : first ∷ to.items ≡ insert from.items at item
    pub places : from.cap ≤ to.cap

  -- one block has another item at a place
  pub record IsReplaced (old : List (Block T)) (i at : ℕ) (item : T) (new : List (Block T)) : Type 0 where
    pub from : Block T
    pub to : Block T
    pub was : from ≡ slice_index_or old i from
    pub set : new ≡ slice_set old i to
    pub items : to.items ≡ slice_set from.items at item
    pub places : to.cap ≡ from.cap

  -- one block's ring may have grown
  pub record IsGrown (old : List (Block T)) (i : ℕ) (new : List (Block T)) : Type 0 where
    pub from : Block T
    pub to : Block T
    pub was : from ≡ slice_index_or old i from
    pub set : new ≡ slice_set old i to
    pub items : to.items ≡ from.items
    pub places : from.cap ≤ to.cap

  -- one block has its first items, and the others are apart
  pub record IsHalved (old : List (Block T)) (i half : ℕ) (new : List (Block T)) (spare upper : Block T) : Type 0 where
    pub from : Block T
    pub lower : Block T
    pub was : from ≡ slice_index_or old i from
    pub set : new ≡ slice_set old i lower
    pub items : lower.items ≡ take half from.items
    pub rest : upper.items ≡ drop half from.items
    pub places : lower.cap ≡ from.cap
    pub upper_places : upper.cap ≡ spare.cap

  -- a block is gone where it was empty, and else all is as it was
  abbrev pub IsSwept : List (Block T) → List ℕ → ℕ → List (Block T) → List ℕ → Type 0
  IsSwept old ends i new stops =
      (b : Block T) → b ≡ slice_index_or old i b →
      (length b.items ≡ 0 → (new ≡ remove old i) × (stops ≡ remove ends i)) × (0 < length b.items → (new ≡ old) × (stops ≡ ends))

  -- no ring is lost, and no place of one
  pub record KeepsPlaces (old spare new left : List (Block T)) : Type 0 where
    pub rings : length new + length left ≡ length old + length spare
    pub places : places_of old + places_of spare ≤ places_of new + places_of left

  -- no spare ring is let go, and of those that come back at most two are kept
  pub record KeepsSpares (old new : List (Block T)) : Type 0 where
    pub kept : length old ≤ length new
    pub most : length new ≤ max (length old) 2

  -- spare rings are made up to so many, and where there is a block each is as wide as one
  pub record MakesSpares (most : ℕ) (old spare new left : List (Block T)) : Type 0 where
    pub blocks : length new ≡ length old
    pub at_end : end_room old ≤ end_room new
    pub kept : length spare ≤ length left
    pub few : length left ≤ max (length spare) most
    pub wide : 0 < length old → places_of old + places_of spare + 256 * (length left - length spare) ≤ places_of new + places_of left

  -- two rings have few items together, and the first has places for all of them
  abbrev pub AreFew : Block T → Block T → Type 0
  AreFew b c = (length b.items + length c.items ≤ 64) × (length b.items + length c.items ≤ b.cap)

  -- a block and the next one have few together
  abbrev pub FewTogether : List (Block T) → ℕ → Type 0
  FewTogether bs i = (b c : Block T) → b ≡ slice_index_or bs i b → c ≡ slice_index_or bs (i + 1) c → AreFew b c

  -- the item of a rank is in this block
  pub record HoldsRank (bs : List (Block T)) (rank i : ℕ) : Type 0 where
    pub at : ℕ
    pub block : i < length bs
    pub item : HasItem bs i at
    pub rank_is : start_of bs i + at ≡ rank

  -- a block is the last, or is not to join with the next one
  abbrev pub IsApart : List (Block T) → ℕ → Type 0
  IsApart bs i = i + 1 < length bs → FewTogether bs i → ⊥

  -- nor with the one before
  abbrev pub NoneToJoin : List (Block T) → ℕ → Type 0
  NoneToJoin bs i = IsApart bs i × IsApart bs (i - 1)

  -- an item that was to come at a rank has come in, and another one is to come at a second rank, with the same items in the end
  pub record IsPassed (old : List (Block T)) (rank : ℕ) (item : T) (new : List (Block T)) (then_rank : ℕ) (out : T) : Type 0 where
    pub sizes : (n : ℕ) → ends_from n new ≡ ends_from n old
    pub some : EachSome old → EachSome new
    pub items : insert (items_of new) then_rank out ≡ insert (items_of old) rank item
    pub count : length (items_of new) ≡ length (items_of old)
    pub blocks : length new ≡ length old
    pub places : places_of old ≤ places_of new

  -- each block but this one has an item, and none has more than 256
  abbrev pub EachSomeBut : List (Block T) → ℕ → Type 0
  EachSomeBut [] i = Unit {0}
  EachSomeBut (b ∷ bs) zero = (length b.items ≤ 256) × EachSome bs
  EachSomeBut (b ∷ bs) (suc i) = (0 < length b.items) × (length b.items ≤ 256) × EachSomeBut bs i

  -- blocks that hold the first items of a list, and their running lengths
  pub record IsFront (base rank : ℕ) (items : List T) (blocks : List (Block T)) (ends : List ℕ) : Type 0 where
    pub stops : ends ≡ ends_from base blocks
    pub some : EachSome blocks
    pub is : items_of blocks ≡ take rank items

  -- the first of these blocks has lost its first items
  abbrev pub IsTrimmed : List (Block T) → ℕ → List (Block T) → Type 0
  IsTrimmed old zero new = new ≡ old
  IsTrimmed [] (suc at) new = ⊥
  IsTrimmed (b ∷ bs) (suc at) new = (c : Block T) × (new ≡ c ∷ bs) × (c.items ≡ drop (suc at) b.items)

  -- two blocks that follow each other are one
  pub record IsJoined (old : List (Block T)) (i : ℕ) (new : List (Block T)) : Type 0 where
    pub lower : Block T
    pub upper : Block T
    pub whole : Block T
    pub lower_was : lower ≡ slice_index_or old i lower
    pub upper_was : upper ≡ slice_index_or old (i + 1) upper
    pub set : new ≡ slice_set (remove old (i + 1)) i whole
    pub items : whole.items ≡ lower.items ++ upper.items

-- Running lengths and their base, where so many items have left a block: those from it on are less, or the base and those before it
-- are more.
abbrev pub IsSunk : ℕ → List ℕ → ℕ → ℕ → ℕ → List ℕ → Type 0
IsSunk base old i count risen new =
    ((risen ≡ base) × (new ≡ take i old ++ map (λ e. e - count) (drop i old)))
    ⊎ ((risen ≡ base + count) × (new ≡ map (λ e. e + count) (take i old) ++ drop i old))
