-- Part: other calls.
-- Which performative a descriptor names (AMQP 1.0 part 2, section 2.7).
use Rattle.std.specs.Prelude.{ℕ, List, Option, Some, None, ◌==◌, if◌then◌else◌}
use Rattle.amqp_values.specs.Reading.{◌>>=◌, IsReader}
use Rattle.amqp_values.specs.Composite.{IsDescriptor, descriptor_at}
use Rattle.amqp_types.specs.declared.performatives.kind.Kind.{Kind}
use Rattle.amqp_types.specs.declared.performatives.kind.Kind.TheVariants.{Open, Begin, Attach, Flow, Transfer}
use Rattle.amqp_types.specs.declared.performatives.kind.Kind.TheVariants.{Disposition, Detach, End, Close}

abbrev pub code_of : Kind → ℕ
code_of Open = 0x10
code_of Begin = 0x11
code_of Attach = 0x12
code_of Flow = 0x13
code_of Transfer = 0x14
code_of Disposition = 0x15
code_of Detach = 0x16
code_of End = 0x17
code_of Close = 0x18

-- an accepted descriptor of the kind
abbrev pub IsKind : Kind → List ℕ → Type 0
IsKind k text = IsDescriptor (code_of k) text

-- ---- its reader

unfoldable pub kind_of : ℕ → Option Kind
kind_of code =
    if code == 0x10 then Some Open
    else if code == 0x11 then Some Begin
    else if code == 0x12 then Some Attach
    else if code == 0x13 then Some Flow
    else if code == 0x14 then Some Transfer
    else if code == 0x15 then Some Disposition
    else if code == 0x16 then Some Detach
    else if code == 0x17 then Some End
    else if code == 0x18 then Some Close
    else None

abbrev pub kind_after : ℕ × List ℕ → Option (Kind × List ℕ)
kind_after d = kind_of d.0 >>= λ k. Some (k, d.1)

unfoldable pub kind_at : List ℕ → Option (Kind × List ℕ)
kind_at bytes = descriptor_at bytes >>= kind_after

-- a kind is read exactly off its descriptors
abbrev pub KindsAreRead : Type 0
KindsAreRead = IsReader IsKind kind_at
