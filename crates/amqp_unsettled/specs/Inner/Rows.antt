-- Part: inner.
-- A row of numbered items in serial order. An item that goes keeps its cell until the row is tidied: only its run says
-- that it has gone. So the others
-- stay where they are, and are found as before.
use Rattle.std.specs.Prelude.{ℕ, suc, zero, ◌+◌, ◌-◌, ◌^◌, ◌<◌, ◌≤◌, ◌≡◌, nat_eq, Bool, true, false}
use Rattle.std.specs.Prelude.{Option, Some, None}
use Rattle.std.specs.Prelude.{List, [], ◌∷◌, length, map, take, drop, slice_get, slice_set}
use Rattle.std.specs.List.{filter, find, list_all}
use Rattle.amqp_unsettled.specs.declared.cells.Cell.{Cell}
use Rattle.amqp_unsettled.specs.declared.cells.Cells.{Cells}
use Rattle.amqp_unsettled.specs.declared.spots.Found.{Found}
use Rattle.amqp_unsettled.specs.Serial.{distance, is_after, is_within}
use Rattle.amqp_unsettled.specs.Table.{without_first}
use Rattle.amqp_unsettled.specs.Inner.Order.{Below, NonePasses}

-- ---- cells

abbrev pub is_there : {X : Type 0} → Cell X → Bool
is_there c = nat_eq c.run 0

-- those whose items are there
abbrev pub live : {X : Type 0} → List (Cell X) → List (Cell X)
live cs = filter is_there cs

-- the items that are there
abbrev pub there : {X : Type 0} → List (Cell X) → List X
there cs = map (λ c. c.item) (live cs)

-- the numbers of items in cells, and how far they lie after a base
abbrev pub numbers : {X : Type 0} → (X → ℕ) → List (Cell X) → List ℕ
numbers f cs = map (λ c. f c.item) cs

abbrev pub fars : {X : Type 0} → (X → ℕ) → ℕ → List (Cell X) → List ℕ
fars f base cs = map (distance base) (numbers f cs)

-- n lies before each of these
abbrev pub IsBefore : ℕ → List ℕ → Type 0
IsBefore n [] = Unit {0}
IsBefore n (m ∷ ms) = (is_after n m ≡ true) × IsBefore n ms

-- each lies before those after it
abbrev pub InSerial : List ℕ → Type 0
InSerial [] = Unit {0}
InSerial (n ∷ ns) = IsBefore n ns × InSerial ns

-- the first k of these have gone, or all
abbrev pub FirstGone : {X : Type 0} → ℕ → List (Cell X) → Type 0
FirstGone zero cs = Unit {0}
FirstGone (suc k) [] = Unit {0}
FirstGone (suc k) (c ∷ cs) = (is_there c ≡ false) × FirstGone k cs

-- as many have gone from each cell on as its run says
abbrev pub RunsGone : {X : Type 0} → List (Cell X) → Type 0
RunsGone [] = Unit {0}
RunsGone (c ∷ cs) = FirstGone c.run (c ∷ cs) × RunsGone cs

-- the item of this cell is there, if there is a cell
abbrev pub IsThereAt : {X : Type 0} → List (Cell X) → ℕ → Type 0
IsThereAt {X} cs i = (c : Cell X) → slice_get cs i ≡ Some c → is_there c ≡ true

-- the run of a cell is changed
abbrev pub IsRunSet : {X : Type 0} → List (Cell X) → ℕ → ℕ → List (Cell X) → Type 0
IsRunSet {X} old at run new = (c : Cell X) → slice_get old at ≡ Some c →
    new ≡ slice_set old at (record { item = c.item; run = run })

-- ---- a row

-- the cells in use
abbrev pub used : {X : Type 0} → Cells X → List (Cell X)
used s = drop s.head s.cells.items

-- its items
abbrev pub items_in : {X : Type 0} → Cells X → List X
items_in s = there (used s)

-- So many cells have no item, the numbers are in order, and the runs are right.
pub record IsLooseRow {X : Type 0} (f : X → ℕ) (cs : List (Cell X)) (gone : ℕ) : Type 0 where
  pub counts : gone + length (there cs) ≡ length cs
  pub small : Below (2 ^ 32) (numbers f cs)
  pub serial : InSerial (numbers f cs)
  pub runs : RunsGone cs

-- the items of the first cell and the last are there too
pub record IsFullRow {X : Type 0} (f : X → ℕ) (cs : List (Cell X)) (gone : ℕ) : Type 0 where
  pub loose : IsLooseRow f cs gone
  pub front : IsThereAt cs 0
  pub back : (i : ℕ) → i + 1 ≡ length cs → IsThereAt cs i

pub record IsLoose {X : Type 0} (f : X → ℕ) (s : Cells X) : Type 0 where
  pub within : s.head ≤ length s.cells.items
  pub row : IsLooseRow f (used s) s.gone

pub record IsRow {X : Type 0} (f : X → ℕ) (s : Cells X) : Type 0 where
  pub within : s.head ≤ length s.cells.items
  pub row : IsFullRow f (used s) s.gone

-- what is seen of one: its items, how many more it has cells for, and how many cells in use have no item
pub record Row (X : Type 0) : Type 0 where
  pub items : List X
  pub room : ℕ
  pub gone : ℕ

-- ---- which items are meant

abbrev pub numbered : {X : Type 0} → (X → ℕ) → ℕ → X → Bool
numbered f n x = nat_eq (f x) n

abbrev pub ranged : {X : Type 0} → (X → ℕ) → ℕ → ℕ → X → Bool
ranged f first last x = is_within first last (f x)

-- n may come next: it lies after each number
abbrev pub comes_next : {X : Type 0} → (X → ℕ) → ℕ → List X → Bool
comes_next f n xs = list_all (λ x. is_after (f x) n) xs

-- the item that goes is the first that is meant; none goes, where none is
abbrev pub Takes : {X : Type 0} → (X → Bool) → List X → Option X → List X → Type 0
Takes p xs given ys = (given ≡ find p xs) × (ys ≡ without_first p xs)

-- No item before the cell is meant, and the cell's is there and meant. Where no cell is said, no item is meant.
pub record IsAt {X : Type 0} (p : X → Bool) (cs : List (Cell X)) (at : ℕ) : Type 0 where
  pub within : at < length cs
  pub is : IsThereAt cs at
  pub meant : (c : Cell X) → slice_get cs at ≡ Some c → p c.item ≡ true
  pub before : NonePasses p (there (take at cs))

abbrev pub IsSpot : {X : Type 0} → (X → Bool) → List (Cell X) → Option ℕ → Type 0
IsSpot p cs None = NonePasses p (there cs)
IsSpot p cs (Some at) = IsAt p cs at

-- The cells from the first that may be in a range on to the first of these whose item is there. None before it is
-- meant,
-- and where it is not, none is.
pub record IsReached {X : Type 0} (p : X → Bool) (cs : List (Cell X)) (s : Found) : Type 0 where
  pub within : s.at < length cs
  pub is : IsThereAt cs s.at
  pub order : s.from ≤ s.at
  pub gone : FirstGone (s.at - s.from) (drop s.from cs)
  pub before : NonePasses p (there (take s.at cs))
  pub after : (c : Cell X) → slice_get cs s.at ≡ Some c → p c.item ≡ false → NonePasses p (there cs)

abbrev pub ReachesTo : {X : Type 0} → (X → Bool) → List (Cell X) → Option Found → Type 0
ReachesTo p cs None = NonePasses p (there cs)
ReachesTo p cs (Some s) = IsReached p cs s

-- Cell by cell these have the same item, which is there in both or in neither.
abbrev pub Alike : {X : Type 0} → List (Cell X) → List (Cell X) → Type 0
Alike [] [] = Unit {0}
Alike [] (d ∷ ds) = ⊥
Alike (c ∷ cs) [] = ⊥
Alike (c ∷ cs) (d ∷ ds) = (c.item ≡ d.item) × (is_there c ≡ is_there d) × Alike cs ds
