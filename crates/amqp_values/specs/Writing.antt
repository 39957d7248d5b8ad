-- Part: the bytes; other calls.
-- The canonical texts: one spelling of each value.
use Rattle.std.specs.Prelude.{ℕ, ◌+◌, List, [], ◌∷◌, ◌++◌, length, map, Bool, true, false, nat_lt, ◌==◌, ◌&&◌, not}
use Rattle.std.specs.Prelude.{if◌then◌else◌, Option, Some, None, Result, Ok, Err}
use Rattle.std.specs.List.{list_all}
use Rattle.std.specs.Int.{w16, w32, w64, to_be_bytes}
use Rattle.amqp_values.specs.declared.error.WriteError.{WriteError}
use Rattle.amqp_values.specs.declared.error.WriteError.TheVariants as write
use Rattle.amqp_values.specs.Reading.{joined}
use Rattle.amqp_values.specs.Text.{by_width}
use Rattle.amqp_values.specs.Slots.{null, is_null}

-- ---- numbers and booleans

abbrev pub ubyte_text : ℕ → List ℕ
ubyte_text n = 0x50 ∷ n ∷ []

abbrev pub ushort_text : ℕ → List ℕ
ushort_text n = 0x60 ∷ to_be_bytes w16 n

abbrev pub uint_text : ℕ → List ℕ
uint_text n = if n == 0 then 0x43 ∷ [] else if nat_lt n 256 then 0x52 ∷ n ∷ [] else 0x70 ∷ to_be_bytes w32 n

abbrev pub ulong_text : ℕ → List ℕ
ulong_text n = if n == 0 then 0x44 ∷ [] else if nat_lt n 256 then 0x53 ∷ n ∷ [] else 0x80 ∷ to_be_bytes w64 n

abbrev pub boolean_text : Bool → List ℕ
boolean_text true = 0x41 ∷ []
boolean_text false = 0x42 ∷ []

-- ---- texts: a length of one byte to 255 bytes, else of four

unfoldable pub var_text : ℕ → ℕ → List ℕ → List ℕ
var_text short long s = if nat_lt (length s) 256 then short ∷ length s ∷ s else long ∷ to_be_bytes w32 (length s) ++ s

abbrev pub binary_text : List ℕ → List ℕ
binary_text = var_text 0xa0 0xb0

abbrev pub string_text : List ℕ → List ℕ
string_text = var_text 0xa1 0xb1

abbrev pub symbol_text : List ℕ → List ℕ
symbol_text = var_text 0xa3 0xb3

-- ---- multiple symbols: an array, with long items where one has more than 255 bytes, and wide where its size or its count passes 255

abbrev pub number_text : Bool → ℕ → List ℕ
number_text wide n = if wide then to_be_bytes w32 n else n ∷ []

abbrev pub item_text : Bool → List ℕ → List ℕ
item_text long s = number_text long (length s) ++ s

abbrev pub is_long : List (List ℕ) → Bool
is_long items = not (list_all (λ s. nat_lt (length s) 256) items)

abbrev pub run_text : Bool → List (List ℕ) → List ℕ
run_text long items = joined (map (item_text long) items)

-- the size counts the count, of one byte or of four, and what follows
abbrev pub array_text : Bool → ℕ → List ℕ → List ℕ
array_text wide count body =
    by_width wide 0xe0 0xf0 ∷ number_text wide (length (number_text wide count) + length body) ++ (number_text wide count ++ body)

abbrev pub is_wide : ℕ → ℕ → Bool
is_wide count body_len = not (nat_lt body_len 255 && nat_lt count 256)

abbrev pub symbols_body : Bool → List (List ℕ) → List ℕ
symbols_body long items = by_width long 0xa3 0xb3 ∷ run_text long items

unfoldable pub symbols_text : List (List ℕ) → List ℕ
symbols_text items =
    array_text (is_wide (length items) (length (symbols_body (is_long items) items))) (length items) (symbols_body (is_long items) items)

-- ---- what stands in a part of a list

-- a field that may be absent, and one that is null where it has its default
abbrev pub optional_text : {V : Type 0} → (V → List ℕ) → Option V → List ℕ
optional_text text None = null
optional_text text (Some v) = text v

abbrev pub uint_or : ℕ → ℕ → List ℕ
uint_or d n = if n == d then null else uint_text n

abbrev pub ushort_or : ℕ → ℕ → List ℕ
ushort_or d n = if n == d then null else ushort_text n

-- ---- lists

-- without the nulls at the end
abbrev pub keep : List ℕ → List (List ℕ) → List (List ℕ)
keep part [] = if is_null part then [] else part ∷ []
keep part (next ∷ others) = part ∷ next ∷ others

abbrev pub trim : List (List ℕ) → List (List ℕ)
trim [] = []
trim (part ∷ parts) = keep part (trim parts)

-- what stands before the parts, by their number and their size
abbrev pub list_head : ℕ → ℕ → List ℕ
list_head count size =
    if nat_lt size 255 then 0xc0 ∷ (size + 1) ∷ count ∷ [] else 0xd0 ∷ to_be_bytes w32 (size + 4) ++ to_be_bytes w32 count

unfoldable pub list_text : List (List ℕ) → List ℕ
list_text parts = if length parts == 0 then 0x45 ∷ [] else list_head (length parts) (length (joined parts)) ++ joined parts

-- a described list of these fields
abbrev pub described_text : ℕ → List (List ℕ) → List ℕ
described_text code fields = 0x00 ∷ 0x53 ∷ code ∷ list_text (trim fields)

abbrev pub IsTooLarge : Result (Unit {0}) WriteError → Type 0
IsTooLarge (Ok u) = ⊥
IsTooLarge (Err write.TooLarge) = Unit {0}
IsTooLarge (Err write.OutOfMemory) = ⊥
