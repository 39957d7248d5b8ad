-- Part: the bytes.
-- The classes of format codes: which data stand after each.
use Rattle.std.specs.Prelude.{ℕ, Bool, true, false, nat_le, ◌&&◌, ◌||◌, ◌==◌, if◌then◌else◌}
use Rattle.amqp_values.specs.declared.format_class.FormatClass.{FormatClass}
use Rattle.amqp_values.specs.declared.format_class.FormatClass.TheVariants.{Fixed, Flag, Variable, List0, List, Map, Array, Unknown}

abbrev pub between : ℕ → ℕ → ℕ → Bool
between low high code = nat_le low code && nat_le code high

-- what stands after each format code
abbrev pub class_of : ℕ → FormatClass
class_of code =
    if between 0x40 0x44 code then Fixed 0 else
    if code == 0x45 then List0 else
    if between 0x50 0x55 code then Fixed 1 else
    if code == 0x56 then Flag else
    if between 0x60 0x61 code then Fixed 2 else
    if between 0x70 0x74 code then Fixed 4 else
    if between 0x80 0x84 code then Fixed 8 else
    if (code == 0x94 || code == 0x98) then Fixed 16 else
    if (code == 0xa0 || code == 0xa1 || code == 0xa3) then Variable false else
    if (code == 0xb0 || code == 0xb1 || code == 0xb3) then Variable true else
    if code == 0xc0 then List false else
    if code == 0xd0 then List true else
    if code == 0xc1 then Map false else
    if code == 0xd1 then Map true else
    if code == 0xe0 then Array false else
    if code == 0xf0 then Array true else
    Unknown

-- a constructor whose data hold no values: an array of it and no element has a depth of 1
abbrev pub IsPlain : FormatClass → Type 0
IsPlain (Fixed n) = Unit {0}
IsPlain Flag = Unit {0}
IsPlain (Variable wide) = Unit {0}
IsPlain List0 = Unit {0}
IsPlain k = ⊥

-- a constructor whose data may hold values: an array of it has a depth of at least 2, also with no element
abbrev pub IsCompound : FormatClass → Type 0
IsCompound (List wide) = Unit {0}
IsCompound (Map wide) = Unit {0}
IsCompound (Array wide) = Unit {0}
IsCompound k = ⊥
