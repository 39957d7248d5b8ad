-- Part: other calls.
-- The tag of a delivery as a record tells it (AMQP 1.0 part 2, section 2.8.7): in 32 bytes, where it has no more.
use Rattle.std.specs.Prelude.{ℕ, List, length, ◌++◌, drop, min, nat_le, if◌then◌else◌, replicate, Option, Some, None}

abbrev pub no_tag : List ℕ
no_tag = replicate 32 0

abbrev pub padded : List ℕ → List ℕ
padded tag = if nat_le (length tag) 32 then tag ++ drop (length tag) no_tag else no_tag

abbrev pub tag_bytes : Option (List ℕ) → List ℕ
tag_bytes None = no_tag
tag_bytes (Some tag) = padded tag

abbrev pub tag_size : Option (List ℕ) → ℕ
tag_size None = 0
tag_size (Some tag) = min (length tag) 65535
