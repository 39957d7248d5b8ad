-- Part: other calls.
-- The state of a delivery as a record tells it: by its descriptor, a number or a name (AMQP 1.0 part 3, section 3.4).
use Rattle.std.specs.Prelude.{ℕ, List, length, get_or, slice_range, Bool, ◌==◌, ◌&&◌, nat_le, if◌then◌else◌, Option, Some, None, codes}
use Rattle.std.specs.Str.{bytes_eq}
use Rattle.std.specs.Int.{w64, from_be_bytes}

-- accepted, rejected, released, modified, received; any other
abbrev pub outcome_number : ℕ → ℕ
outcome_number n =
    if n == 0x24 then 1 else
    if n == 0x25 then 2 else
    if n == 0x26 then 3 else
    if n == 0x27 then 4 else
    if n == 0x23 then 5 else
    6

-- the text has so many bytes, and is a described value whose descriptor has this code
abbrev pub begins : List ℕ → ℕ → ℕ → Bool
begins text least code = nat_le least (length text) && nat_le 2 (length text) && (get_or text 0 0 == 0) && (get_or text 1 0 == code)

abbrev pub outcome_named : List ℕ → ℕ
outcome_named name =
    if bytes_eq name (codes "amqp:accepted:list") then 1 else
    if bytes_eq name (codes "amqp:rejected:list") then 2 else
    if bytes_eq name (codes "amqp:released:list") then 3 else
    if bytes_eq name (codes "amqp:modified:list") then 4 else
    if bytes_eq name (codes "amqp:received:list") then 5 else
    6

abbrev pub number_of : List ℕ → ℕ
number_of bytes = from_be_bytes w64 bytes

-- a symbol whose length has four bytes, and is that of each name
abbrev pub has_long_name : List ℕ → Bool
has_long_name text = begins text 24 0xb3 && (get_or text 2 0 == 0) && (get_or text 3 0 == 0) && (get_or text 4 0 == 0) && (get_or text 5 0 == 18)

-- a small ulong, or an ulong of eight bytes; a name of 18 bytes, whose length has one byte, or four
abbrev pub outcome_text : List ℕ → ℕ
outcome_text text =
    if begins text 3 0x53 then outcome_number (get_or text 2 0) else
    if begins text 10 0x80 then outcome_number (number_of (slice_range text 2 10)) else
    if begins text 21 0xa3 && (get_or text 2 0 == 18) then outcome_named (slice_range text 3 21) else
    if has_long_name text then outcome_named (slice_range text 6 24) else
    6

abbrev pub outcome_of : Option (List ℕ) → ℕ
outcome_of None = 0
outcome_of (Some text) = outcome_text text
