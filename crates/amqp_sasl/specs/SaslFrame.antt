-- Part: other calls.
-- SASL frames: their grammar, and the text of one (AMQP 1.0 part 5, section 5.3; part 2, section 2.3).
use Rattle.std.specs.Prelude.{◌≡◌, ◌≢◌, ◌≤◌, ◌*◌, ◌+◌, ℕ, List, [], ◌∷◌, ◌++◌, length, slice_range}
use Rattle.std.specs.Prelude.{codes, IfSome, Bool, bytes_eq, Option, Some, None}
use Rattle.std.specs.List.{list_any}
use Rattle.std.specs.Option.{option_map}
use Rattle.std.specs.Int.{w32, from_be_bytes, to_be_bytes}
use Rattle.amqp_values.specs.Number.{IsUbyte, IsUlong}
use Rattle.amqp_values.specs.Text.{IsBinary, IsString, IsSymbol}
use Rattle.amqp_values.specs.Symbols.{IsSymbols, symbols_at}
use Rattle.amqp_values.specs.Slots.{Slot, Optional, NoMore}
use Rattle.amqp_values.specs.Composite.{IsComposite}
use Rattle.amqp_values.specs.Writing.{ubyte_text, binary_text, string_text, symbol_text, symbols_text, optional_text, described_text}
use Rattle.amqp_sasl.specs.declared.place.Place.{Place}
use Rattle.amqp_sasl.specs.declared.body.SaslCode.{SaslCode}
use Rattle.amqp_sasl.specs.declared.body.SaslCode.TheVariants as code
use Rattle.amqp_sasl.specs.declared.body.Body.{Body}
use Rattle.amqp_sasl.specs.declared.body.Body.TheVariants as body

-- ---- what a frame says

-- the numbers of the outcomes (part 5, section 5.3.3.6)
abbrev pub code_number : SaslCode → ℕ
code_number code.Ok = 0
code_number code.Auth = 1
code_number code.Sys = 2
code_number code.SysPerm = 3
code_number code.SysTemp = 4

-- what the body of a frame says: the mechanisms that a server offers; the mechanism that a client chose, its initial response and
-- the host that it asks for; a challenge; a response; or the outcome with additional data
pub data Said : Type 0 where
  mechanisms_are : List (List ℕ) → Said
  init_is : List ℕ → Option (List ℕ) → Option (List ℕ) → Said
  challenge_is : List ℕ → Said
  response_is : List ℕ → Said
  outcome_is : SaslCode → Option (List ℕ) → Said

-- ---- the grammar of a body

-- the names that may stand in place of a descriptor's number
pub data IsName : ℕ → List ℕ → Type 0 where
  mechanisms_name : IsName 0x40 (codes "amqp:sasl-mechanisms:list")
  init_name : IsName 0x41 (codes "amqp:sasl-init:list")
  challenge_name : IsName 0x42 (codes "amqp:sasl-challenge:list")
  response_name : IsName 0x43 (codes "amqp:sasl-response:list")
  outcome_name : IsName 0x44 (codes "amqp:sasl-outcome:list")

-- a number as a ulong, or a name for it as a symbol
pub data IsDescriptor : ℕ → List ℕ → Type 0 where
  by_number : (n : ℕ) (text : List ℕ) → IsUlong n text → IsDescriptor n (0x00 ∷ text)
  by_name : (n : ℕ) (name text : List ℕ) → IsName n name → IsSymbol name text → IsDescriptor n (0x00 ∷ text)

abbrev pub descriptor_of : Said → ℕ
descriptor_of (mechanisms_are names) = 0x40
descriptor_of (init_is mechanism response hostname) = 0x41
descriptor_of (challenge_is challenge) = 0x42
descriptor_of (response_is response) = 0x43
descriptor_of (outcome_is code additional) = 0x44

-- one name or more
abbrev pub IsNames : List (List ℕ) → List ℕ → Type 0
IsNames names text = IsSymbols names text × (names ≢ [])

abbrev pub IsCode : SaslCode → List ℕ → Type 0
IsCode c text = IsUbyte (code_number c) text

-- the fields of each body, in their order; those that are not Optional are mandatory
abbrev pub AreFields : Said → List (List ℕ) → Type 0
AreFields (mechanisms_are names) = Slot (IsNames names) NoMore
AreFields (init_is mechanism response hostname) = Slot (IsSymbol mechanism) (Slot (Optional IsBinary response) (Slot (Optional IsString hostname) NoMore))
AreFields (challenge_is challenge) = Slot (IsBinary challenge) NoMore
AreFields (response_is response) = Slot (IsBinary response) NoMore
AreFields (outcome_is code additional) = Slot (IsCode code) (Slot (Optional IsBinary additional) NoMore)

-- a body: its descriptor, and the list of its fields
pub record IsBody (said : Said) (bytes : List ℕ) : Type 0 where
  pub descriptor : List ℕ
  pub list : List ℕ
  pub coded : IsDescriptor (descriptor_of said) descriptor
  pub fields : IsComposite AreFields said list
  pub whole : bytes ≡ descriptor ++ list

-- ---- the grammar of a frame

-- A frame of type 1: its size, which counts all of it and is at most 512; where its body begins, in words of four bytes; two bytes
-- that mean nothing; an extended header, which is passed over; and one body, which goes up to its end.
pub record IsFrame (said : Said) (bytes : List ℕ) : Type 0 where
  pub size : List ℕ
  pub offset : ℕ
  pub ignored : List ℕ
  pub extended : List ℕ
  pub body : List ℕ
  pub four : length size ≡ 4
  pub size_is : from_be_bytes w32 size ≡ length bytes
  pub short : length bytes ≤ 512
  pub two : length ignored ≡ 2
  pub offset_is : offset * 4 ≡ 8 + length extended
  pub whole : bytes ≡ size ++ (offset ∷ 1 ∷ ignored ++ (extended ++ body))
  pub says : IsBody said body

-- ---- the text of a frame

abbrev pub fields_of : Said → List (List ℕ)
fields_of (mechanisms_are names) = symbols_text names ∷ []
fields_of (init_is mechanism response hostname) = symbol_text mechanism ∷ optional_text binary_text response ∷ optional_text string_text hostname ∷ []
fields_of (challenge_is challenge) = binary_text challenge ∷ []
fields_of (response_is response) = binary_text response ∷ []
fields_of (outcome_is code additional) = ubyte_text (code_number code) ∷ optional_text binary_text additional ∷ []

unfoldable pub body_text : Said → List ℕ
body_text said = described_text (descriptor_of said) (fields_of said)

-- a size, two words of header, type 1, two zeros, and a body
abbrev pub framed : List ℕ → List ℕ
framed body = to_be_bytes w32 (8 + length body) ++ (2 ∷ 1 ∷ 0 ∷ 0 ∷ body)

unfoldable pub frame_text : Said → List ℕ
frame_text said = framed (body_text said)

-- ---- places of what is said

-- a place in so many bytes
abbrev pub IsWithin : ℕ → Place → Type 0
IsWithin n p = (p.from ≤ p.to) × (p.to ≤ n)

abbrev pub AreWithin : ℕ → Body → Type 0
AreWithin n (body.Mechanisms p) = IsWithin n p
AreWithin n (body.Init mechanism response hostname) = IsWithin n mechanism × IfSome response (IsWithin n) × IfSome hostname (IsWithin n)
AreWithin n (body.Challenge p) = IsWithin n p
AreWithin n (body.Response p) = IsWithin n p
AreWithin n (body.Outcome code additional) = IfSome additional (IsWithin n)

-- the bytes at a place
abbrev pub part : List ℕ → Place → List ℕ
part bytes p = slice_range bytes p.from p.to

abbrev pub names_read : Option (List (List ℕ) × List ℕ) → List (List ℕ)
names_read (Some x) = x.0
names_read None = []

-- the names that these bytes spell, which begin with one symbol or an array of symbols
abbrev pub names_in : List ℕ → List (List ℕ)
names_in bytes = names_read (symbols_at bytes)

-- whether a name is one of these
abbrev pub has_name : List ℕ → List (List ℕ) → Bool
has_name name names = list_any (λ n. bytes_eq n name) names

-- what a body says whose fields stand at these places of the bytes
abbrev pub said_in : List ℕ → Body → Said
said_in bytes (body.Mechanisms p) = mechanisms_are (names_in (part bytes p))
said_in bytes (body.Init mechanism response hostname) = init_is (part bytes mechanism) (option_map (part bytes) response) (option_map (part bytes) hostname)
said_in bytes (body.Challenge p) = challenge_is (part bytes p)
said_in bytes (body.Response p) = response_is (part bytes p)
said_in bytes (body.Outcome code additional) = outcome_is code (option_map (part bytes) additional)
