-- Part: inner.
-- The numbers of the entries of each link, in a row for each.
use Rattle.std.specs.Prelude.{ℕ, ◌^◌, ◌≡◌, ◌≢◌, nat_eq, Bool, List, [], ◌∷◌, ◌++◌, map, drop, slice_index_or}
use Rattle.std.specs.List.{filter}
use Rattle.amqp_unsettled.specs.declared.entry.Entry.{Entry}
use Rattle.amqp_unsettled.specs.Table.{is_of, without_first}
use Rattle.amqp_unsettled.specs.Inner.Order.{Below}
use Rattle.amqp_unsettled.specs.Inner.Rows.{Row, InSerial}

-- this number
abbrev pub is_number : ℕ → ℕ → Bool
is_number n m = nat_eq m n

-- a row with no numbers
abbrev pub no_list : Row ℕ
no_list = record { items = []; room = 0; gone = 0 }

-- the row of a link, whose place is its number; that with no numbers, where there is none
abbrev pub list_of : List (Row ℕ) → ℕ → Row ℕ
list_of lists link = slice_index_or lists link no_list

-- the numbers in it
abbrev pub numbers_of : List (Row ℕ) → ℕ → List ℕ
numbers_of lists link = (list_of lists link).items

-- of each link the numbers are the same
abbrev pub AsBefore : List (Row ℕ) → List (Row ℕ) → Type 0
AsBefore old new = (link : ℕ) → numbers_of new link ≡ numbers_of old link

-- this link has these numbers then, and each other link has what it had
pub record Becomes (old : List (Row ℕ)) (link : ℕ) (numbers : List ℕ) (new : List (Row ℕ)) : Type 0 where
  pub own : numbers_of new link ≡ numbers
  pub others : (other : ℕ) → other ≢ link → numbers_of new other ≡ numbers_of old other

-- a number comes after those of this link, or the first such number goes
abbrev pub Gains : ℕ → ℕ → List (Row ℕ) → List (Row ℕ) → Type 0
Gains n link old new = Becomes old link (numbers_of old link ++ n ∷ []) new

abbrev pub Loses : ℕ → ℕ → List (Row ℕ) → List (Row ℕ) → Type 0
Loses n link old new = Becomes old link (without_first (is_number n) (numbers_of old link)) new

-- the first number of this link goes
abbrev pub LosesFirst : ℕ → List (Row ℕ) → List (Row ℕ) → Type 0
LosesFirst link old new = Becomes old link (drop 1 (numbers_of old link)) new

-- the numbers of a link's entries
abbrev pub numbers_in : ℕ → List Entry → List ℕ
numbers_in link es = map (λ (e : Entry). e.number) (filter (is_of link) es)

-- Each entry lies before those after it. The row of each link has the numbers of its entries, in the same order.
pub record IsKept (entries : List Entry) (lists : List (Row ℕ)) : Type 0 where
  pub small : Below (2 ^ 32) (map (λ e. e.number) entries)
  pub serial : InSerial (map (λ e. e.number) entries)
  pub same : (link : ℕ) → numbers_of lists link ≡ numbers_in link entries
