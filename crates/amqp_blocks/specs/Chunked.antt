-- Part: other calls; inner.
-- A list of items in blocks.
use Rattle.std.specs.Prelude.{ℕ, ◌<◌, ◌≤◌, ◌^◌, ◌≡◌, ◌+◌, ◌-◌, List, [], ◌∷◌, ◌++◌, length, take, drop, slice_index, slice_index_or, vec_capacity, min}
use Rattle.std.specs.List.{flat_map}
use Rattle.std.specs.declared.alloc.Global.{Global}
use Rattle.std.specs.declared.vec.Vec.{Vec}
use Rattle.std.specs.declared.collections.VecDeque.{VecDeque}

abbrev pub Block : Type 0 → Type 0
Block T = VecDeque T Global

-- a list of items, how many more are taken with no request for memory, how many blocks they are in, how many empty rings are kept for
-- blocks to come, and how many more items the last block takes
pub record Sequence (T : Type 0) : Type 0 where
  pub items : List T
  pub room : ℕ
  pub blocks : ℕ
  pub spare : ℕ
  pub at_end : ℕ

-- where each block ends, and how many blocks have room there
pub record RunningLengths : Type 0 where
  pub items : List ℕ
  pub capacity : ℕ

module _ {T : Type 0} where
  -- the items of a block
  abbrev pub in_block : Block T → List T
  in_block b = b.items

  -- the items of all blocks, in order
  abbrev pub items_of : List (Block T) → List T
  items_of bs = flat_map in_block bs

  -- how many items are before a block
  abbrev pub start_of : List (Block T) → ℕ → ℕ
  start_of bs i = length (items_of (take i bs))

  -- where each block ends, counted from n
  abbrev pub ends_from : ℕ → List (Block T) → List ℕ
  ends_from n [] = []
  ends_from n (b ∷ bs) = (n + length b.items) ∷ ends_from (n + length b.items) bs

  -- how many items the rings hold at most, with at most 256 in each
  abbrev pub places_of : List (Block T) → ℕ
  places_of [] = 0
  places_of (b ∷ bs) = min b.cap 256 + places_of bs

  -- no block is empty, and none has more than 256 items
  abbrev pub EachSome : List (Block T) → Type 0
  EachSome [] = Unit {0}
  EachSome (b ∷ bs) = (0 < length b.items) × (length b.items ≤ 256) × EachSome bs

  -- each ring is empty, and has a place
  abbrev pub EachSpare : List (Block T) → Type 0
  EachSpare [] = Unit {0}
  EachSpare (b ∷ bs) = (b.items ≡ []) × (0 < b.cap) × EachSpare bs

  -- the blocks and their running lengths, counted from the base
  pub record IsChunked (base : ℕ) (blocks : List (Block T)) (ends : List ℕ) : Type 0 where
    pub stops : ends ≡ ends_from base blocks
    pub some : EachSome blocks
    pub low : base ≤ 2 ^ 33
    pub few : length (items_of blocks) ≤ 2 ^ 33

  -- with a place for each spare ring among the blocks
  pub record IsSound (base : ℕ) (blocks : Vec (Block T) Global) (ends : RunningLengths) (spare : Vec (Block T) Global) : Type 0 where
    pub chunked : IsChunked base blocks.items ends.items
    pub spares : EachSpare spare.items
    pub blocks_fit : length blocks.items + length spare.items ≤ vec_capacity blocks
    pub ends_fit : length blocks.items + length spare.items ≤ ends.capacity

  -- how many more items the rings take
  abbrev pub room_of : List (Block T) → List (Block T) → ℕ
  room_of blocks spare = places_of blocks + places_of spare - length (items_of blocks)

  -- how many more items the last block takes
  abbrev pub end_room : List (Block T) → ℕ
  end_room [] = 0
  end_room (b ∷ []) = min b.cap 256 - length b.items
  end_room (b ∷ c ∷ bs) = end_room (c ∷ bs)

  -- the block's items reach at least to this place
  abbrev pub Within : List (Block T) → ℕ → ℕ → Type 0
  Within bs i at = (b : Block T) → b ≡ slice_index_or bs i b → at ≤ length b.items

  -- the block has an item at this place
  abbrev pub HasItem : List (Block T) → ℕ → ℕ → Type 0
  HasItem bs i at = (b : Block T) → b ≡ slice_index_or bs i b → at < length b.items

  -- the block takes one item more with no request for memory
  abbrev pub HasPlace : List (Block T) → ℕ → Type 0
  HasPlace bs i = (b : Block T) → b ≡ slice_index_or bs i b → length b.items < min b.cap 256

  -- and here it does not
  abbrev pub IsFull : List (Block T) → ℕ → Type 0
  IsFull bs i = (b : Block T) → b ≡ slice_index_or bs i b → min b.cap 256 ≤ length b.items

  -- the items without those of a stretch
  abbrev pub without : ℕ → ℕ → List T → List T
  without r count xs = take r xs ++ drop (r + count) xs

-- the block that a target is in: it ends after it, and the one before does not
abbrev pub HoldsTarget : List ℕ → ℕ → ℕ → Type 0
HoldsTarget ends target block =
    (block < length ends) × (0 < block → slice_index ends (block - 1) ≤ target) × (target < slice_index ends block)
