-- Part: the bytes; other calls.
-- Reading from left to right: a value and what is left, or nothing where no front of the bytes is in the format.
use Rattle.std.specs.Prelude.{◌≡◌, ℕ, List, [], ◌∷◌, ◌++◌, length, take, drop, IfOk, IfErr, Option, Some, None, Result, Ok}
use Rattle.std.specs.Prelude.{Err, Bool, true, false, nat_lt, if◌then◌else◌}
use Rattle.std.specs.Int.{Width, w32, byte_len, from_be_bytes}
use Rattle.amqp_memory.specs.Refusal.{SomeRefused}
use Rattle.amqp_values.specs.declared.error.ReadError.{ReadError}
use Rattle.amqp_values.specs.declared.error.ReadError.TheVariants.{Malformed, OutOfMemory}

infixl 10 ◌>>=◌
abbrev pub ◌>>=◌ : {A B : Type 0} → Option A → (A → Option B) → Option B
(Some x) >>= f = f x
None >>= f = None

-- what a call answered, and what it left, is what reading gives, or `OutOfMemory` where a request for memory was refused
abbrev pub Gives : {X V S : Type 0} → (X → V) → Result X ReadError → S → Option (V × S) → Type 0
Gives view (Ok x) left read = read ≡ Some (view x, left)
Gives view (Err Malformed) left read = read ≡ None
Gives view (Err OutOfMemory) left read = SomeRefused

-- what a call answered is this, or `OutOfMemory` where a request for memory was refused
abbrev pub Answers : {X Y : Type 0} → (X → Y) → Result X ReadError → Option Y → Type 0
Answers view (Ok x) read = read ≡ Some (view x)
Answers view (Err Malformed) read = read ≡ None
Answers view (Err OutOfMemory) read = SomeRefused

-- the bytes are a text of this kind, and then the rest
abbrev pub Takes : (List ℕ → Type 0) → List ℕ → List ℕ → Type 0
Takes Is bytes rest = (text : List ℕ) × Is text × (bytes ≡ text ++ rest)

-- What is read is a front of the bytes in the grammar; and a front in the grammar is what is read, unless memory was
-- refused. So `Malformed` is answered exactly where no front of the bytes stands in the grammar.
pub record ReadsFront {V : Type 0} (Is : V → List ℕ → Type 0) (bytes : List ℕ) (result : Result (V × List ℕ) ReadError) : Type 0 where
  pub found : IfOk result (λ x. Takes (Is x.0) bytes x.1)
  pub refused : IfErr result (λ e. e ≡ OutOfMemory → SomeRefused)
  pub only : (v : V) (text rest : List ℕ) → Is v text → bytes ≡ text ++ rest → Answers {Y = V × List ℕ} (λ x. x) result (Some (v, rest))

-- What is read of the bytes is a front of them in the grammar; and a front in the grammar is what is read.
pub record IsReader {V : Type 0} (Is : V → List ℕ → Type 0) (at : List ℕ → Option (V × List ℕ)) : Type 0 where
  pub found : (bytes : List ℕ) (v : V) (rest : List ℕ) → at bytes ≡ Some (v, rest) → Takes (Is v) bytes rest
  pub again : (v : V) (text rest : List ℕ) → Is v text → at (text ++ rest) ≡ Some (v, rest)

-- ---- the smallest readers

abbrev pub byte_at : List ℕ → Option (ℕ × List ℕ)
byte_at [] = None
byte_at (b ∷ bytes) = Some (b, bytes)

-- a number of so many bytes, the most significant first
abbrev pub number_at : Width → List ℕ → Option (ℕ × List ℕ)
number_at w bytes =
    if nat_lt (length bytes) (byte_len w) then None else Some (from_be_bytes w (take (byte_len w) bytes), drop (byte_len w) bytes)

-- so many bytes
unfoldable pub cut_at : ℕ → List ℕ → Option (List ℕ × List ℕ)
cut_at n bytes = if nat_lt (length bytes) n then None else Some (take n bytes, drop n bytes)

-- a length or a count: one byte, or four where it is wide
abbrev pub count_at : Bool → List ℕ → Option (ℕ × List ℕ)
count_at wide bytes = if wide then number_at w32 bytes else byte_at bytes

-- a length, and that many bytes
unfoldable pub region_at : Bool → List ℕ → Option (List ℕ × List ℕ)
region_at wide bytes = count_at wide bytes >>= λ n. cut_at n.0 n.1

abbrev pub is_empty : List ℕ → Bool
is_empty [] = true
is_empty (b ∷ bytes) = false

-- ---- words of the grammars

-- a number in one byte, or in four
pub data IsNumber : Bool → List ℕ → ℕ → Type 0 where
  one : (n : ℕ) → IsNumber false (n ∷ []) n
  four : (bytes : List ℕ) → length bytes ≡ 4 → IsNumber true bytes (from_be_bytes w32 bytes)

-- byte strings, one after the other
abbrev pub joined : List (List ℕ) → List ℕ
joined [] = []
joined (part ∷ parts) = part ++ joined parts
