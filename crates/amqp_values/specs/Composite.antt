-- Part: the bytes; other calls.
-- Described lists: the composites of the standard (AMQP 1.0 part 1, section 1.4).
use Rattle.std.specs.Prelude.{◌≡◌, ℕ, List, [], ◌∷◌, ◌++◌, length, Option, Some, None, Bool, true, false, ◌==◌}
use Rattle.std.specs.Prelude.{if◌then◌else◌, codes, bytes_eq}
use Rattle.std.specs.Int.{w64, from_be_bytes}
use Rattle.amqp_values.specs.Slots.{PartsLeft}
use Rattle.amqp_values.specs.Reading.{◌>>=◌, byte_at, number_at, count_at, region_at, IsNumber, joined}
use Rattle.amqp_values.specs.Text.{by_width, IsVar}

-- ---- lists

pub data IsList : List (List ℕ) → List ℕ → Type 0 where
  list0 : IsList [] (0x45 ∷ [])
  list : (wide : Bool) (size count : List ℕ) (parts : List (List ℕ)) → IsNumber wide size (length (count ++ joined parts))
      → IsNumber wide count (length parts)
      → IsList parts (by_width wide 0xc0 0xd0 ∷ size ++ (count ++ joined parts))

-- a list with this body
pub record IsComposite {V : Type 0} (B : V → List (List ℕ) → Type 0) (v : V) (text : List ℕ) : Type 0 where
  pub parts : List (List ℕ)
  pub body : B v parts
  pub list : IsList parts text

-- ---- descriptors: a number, or a name for it

pub data IsName : ℕ → List ℕ → Type 0 where
  open_name : IsName 0x10 (codes "amqp:open:list")
  begin_name : IsName 0x11 (codes "amqp:begin:list")
  attach_name : IsName 0x12 (codes "amqp:attach:list")
  flow_name : IsName 0x13 (codes "amqp:flow:list")
  transfer_name : IsName 0x14 (codes "amqp:transfer:list")
  disposition_name : IsName 0x15 (codes "amqp:disposition:list")
  detach_name : IsName 0x16 (codes "amqp:detach:list")
  end_name : IsName 0x17 (codes "amqp:end:list")
  close_name : IsName 0x18 (codes "amqp:close:list")
  error_name : IsName 0x1d (codes "amqp:error:list")

pub data IsDescriptor : ℕ → List ℕ → Type 0 where
  described0 : IsDescriptor 0 (0x00 ∷ 0x44 ∷ [])
  described_small : (n : ℕ) → IsDescriptor n (0x00 ∷ 0x53 ∷ n ∷ [])
  described_by_number : (bytes : List ℕ) → length bytes ≡ 8 → IsDescriptor (from_be_bytes w64 bytes) (0x00 ∷ 0x80 ∷ bytes)
  described_by_name : (n : ℕ) (name text : List ℕ) → IsName n name → IsVar 0xa3 0xb3 name text → IsDescriptor n (0x00 ∷ text)

-- a described list with this code and this body
pub record IsDescribed {V : Type 0} (code : ℕ) (B : V → List (List ℕ) → Type 0) (v : V) (text : List ℕ) : Type 0 where
  pub descriptor : List ℕ
  pub list : List ℕ
  pub coded : IsDescriptor code descriptor
  pub body : IsComposite B v list
  pub whole : text ≡ descriptor ++ list

-- ---- their readers

-- the parts of a region that begins with their count
abbrev pub counted_parts : Bool → List ℕ × List ℕ → Option (PartsLeft × List ℕ)
counted_parts wide region = count_at wide region.0 >>= λ n. Some (record { left = n.0; bytes = n.1 }, region.1)

unfoldable pub list_at : List ℕ → Option (PartsLeft × List ℕ)
list_at bytes =
    byte_at bytes >>= λ code.
    if code.0 == 0x45 then Some (record { left = 0; bytes = [] }, code.1)
    else if code.0 == 0xc0 then (region_at false code.1 >>= counted_parts false)
    else if code.0 == 0xd0 then (region_at true code.1 >>= counted_parts true)
    else None

-- the fields of a list whose parts are those, before the rest
abbrev pub fields_at : {V : Type 0} → (PartsLeft → Option (V × PartsLeft)) → PartsLeft × List ℕ → Option (V × List ℕ)
fields_at body l = body l.0 >>= λ v. Some (v.0, l.1)

abbrev pub composite_at : {V : Type 0} → (PartsLeft → Option (V × PartsLeft)) → List ℕ → Option (V × List ℕ)
composite_at body bytes = list_at bytes >>= fields_at body

unfoldable pub code_of : List ℕ → Option ℕ
code_of name =
    if bytes_eq name (codes "amqp:open:list") then Some 0x10
    else if bytes_eq name (codes "amqp:begin:list") then Some 0x11
    else if bytes_eq name (codes "amqp:attach:list") then Some 0x12
    else if bytes_eq name (codes "amqp:flow:list") then Some 0x13
    else if bytes_eq name (codes "amqp:transfer:list") then Some 0x14
    else if bytes_eq name (codes "amqp:disposition:list") then Some 0x15
    else if bytes_eq name (codes "amqp:detach:list") then Some 0x16
    else if bytes_eq name (codes "amqp:end:list") then Some 0x17
    else if bytes_eq name (codes "amqp:close:list") then Some 0x18
    else if bytes_eq name (codes "amqp:error:list") then Some 0x1d
    else None

abbrev pub meaning_at : List ℕ × List ℕ → Option (ℕ × List ℕ)
meaning_at x = code_of x.0 >>= λ code. Some (code, x.1)

-- the code that the name at the front means
abbrev pub name_at : Bool → List ℕ → Option (ℕ × List ℕ)
name_at wide bytes = region_at wide bytes >>= meaning_at

abbrev pub code_at : List ℕ → Option (ℕ × List ℕ)
code_at bytes =
    byte_at bytes >>= λ code.
    if code.0 == 0x44 then Some (0, code.1)
    else if code.0 == 0x53 then byte_at code.1
    else if code.0 == 0x80 then number_at w64 code.1
    else if code.0 == 0xa3 then name_at false code.1
    else if code.0 == 0xb3 then name_at true code.1
    else None

unfoldable pub descriptor_at : List ℕ → Option (ℕ × List ℕ)
descriptor_at bytes = do
  first ← byte_at bytes
  if first.0 == 0 then code_at first.1 else None

abbrev pub coded_at : {V : Type 0} → ℕ → (List ℕ → Option (V × List ℕ)) → ℕ × List ℕ → Option (V × List ℕ)
coded_at code at d = if d.0 == code then at d.1 else None

unfoldable pub described_at : {V : Type 0} → ℕ → (PartsLeft → Option (V × PartsLeft)) → List ℕ → Option (V × List ℕ)
described_at code body bytes = descriptor_at bytes >>= coded_at code (composite_at body)
