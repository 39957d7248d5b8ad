-- Places in bytes, for a walk over them.
use Rattle.std.proofs.Common.{◌≡◌, ◌≢◌, Bool, true, false, eqb, ◌≤◌, ◌+◌, ◌-◌, ℕ, List, [], ◌∷◌, ◌++◌, ◌<◌, get_or, length, take, drop, min, Option, Some, None, refl, sym, ap, subst, ◌∙◌, arith}
use Rattle.std.specs.Prelude.{Result, Ok, Err, if◌then◌else◌}
use Rattle.std.proofs.lemmas.Bool.{eq-eqb, ne_eqb}
use Rattle.std.proofs.Math.Seq.{drop-length}
use Rattle.std.proofs.lemmas.List.{drop_more, drop-drop, take_all, length-append, length-drop, length-take, take-take, drop-take}
use Rattle.std.specs.Prelude.{slice_range}
use Rattle.amqp_values.specs.Raw.{raw_at, IsRaw}
use Rattle.amqp_values.specs.Reading.{◌>>=◌, Gives, byte_at}
use Rattle.amqp_values.specs.declared.error.ReadError.{ReadError}
use Rattle.amqp_values.specs.declared.error.ReadError.TheVariants.{Malformed, OutOfMemory}
use Rattle.amqp_values.specs.Slots.{PartsLeft, is_null, optional_at}
use Rattle.amqp_values.specs.Walking.{part_code_at}
use Rattle.amqp_values.specs.Composite.{list_at, composite_at, descriptor_at, described_at, fields_at}
use Rattle.amqp_values.proofs.CompositeLemmas.{descriptor_found}
use Rattle.amqp_values.proofs.RawValueLemmas.{raw_format}
use Rattle.amqp_values.proofs.ReaderLemmas.{pair_is}

-- the byte at a place, and what follows it
pub byte_is : (at : ℕ) (xs : List ℕ) → at < length xs → drop at xs ≡ get_or xs at 0 ∷ drop (at + 1) xs
byte_is at xs h = drop_more xs at 0 h

pub no_byte : (at : ℕ) (xs : List ℕ) → at ≡ length xs → drop at xs ≡ []
no_byte at xs e = rw e (drop-length xs)

pub drop_past : (m n : ℕ) (xs : List ℕ) → drop m (drop n xs) ≡ drop (n + m) xs
drop_past m n xs = drop-drop m n xs

pub drop_front : (from end : ℕ) (xs : List ℕ) → from ≤ end → drop from (take end xs) ≡ slice_range xs from end
drop_front from end xs h = let same : from + (end - from) ≡ end = omega arith in ap (λ n. drop from (take n xs)) (sym same) ∙ drop-take from (end - from) xs

-- so many bytes from a place on
pub slice_is : (from len : ℕ) (xs : List ℕ) → slice_range xs from (from + len) ≡ take len (drop from xs)
slice_is from len xs = ap (λ n. take n (drop from xs)) (omega arith)

-- a part of a front is that part of the whole
pub front_slice : (from at : ℕ) (text bytes : List ℕ) → text ≡ take (length text) bytes → from ≤ at → at ≤ length text → slice_range bytes from at ≡ slice_range text from at
front_slice from at text bytes front ordered inside =
    let end : from + (length text - from) ≡ length text = omega arith in
    let rest : drop from text ≡ take (length text - from) (drop from bytes) =
    ap (drop from) (front ∙ ap (λ n. take n bytes) (sym end)) ∙ drop-take from (length text - from) bytes in
    sym (take-take (at - from) (length text - from) (drop from bytes) (omega arith)) ∙ ap (take (at - from)) (sym rest)

pub front_short : (text bytes : List ℕ) → text ≡ take (length text) bytes → length text ≤ length bytes
front_short text bytes front = let size : length text ≡ min (length text) (length bytes) = ap length front ∙ length-take (length text) bytes in omega arith

-- the bytes up to the end of the front are the front
pub whole_front : (text bytes : List ℕ) → text ≡ take (length text) bytes → slice_range bytes 0 (length text) ≡ text
whole_front text bytes front = ap (λ n. take n bytes) (omega arith) ∙ sym front

-- the bytes from a place of the front to its end are the rest of the front
pub rest_slice : (at : ℕ) (text bytes : List ℕ) → text ≡ take (length text) bytes → at ≤ length text → slice_range bytes at (length text) ≡ drop at text
rest_slice at text bytes front inside =
    front_slice at (length text) text bytes front inside (omega arith) ∙ take_all (length text - at) (drop at text) (omega (arith, length-drop at text))

past_front : (front rest : List ℕ) → drop (length front) (front ++ rest) ≡ rest
past_front [] rest = refl
past_front (x ∷ xs) rest = past_front xs rest

-- what is left after a value that stands at a place of the text is the end of the text
left_of : (at : ℕ) (text value rest : List ℕ) → at ≤ length text → drop at text ≡ value ++ rest → (length rest ≤ length text) × (drop (length text - length rest) text ≡ rest)
left_of at text value rest inside e =
    let sizes : length (drop at text) ≡ length value + length rest = ap length e ∙ length-append value rest in
    let left : length (drop at text) ≡ length text - at = length-drop at text in
    let place : at + length value ≡ length text - length rest = omega arith in
    (omega arith, ap (λ n. drop n text) (sym place) ∙ sym (drop-drop (length value) at text) ∙ ap (drop (length value)) e ∙ past_front value rest)

-- what a raw value is read as is one
pub raw_front : (text v rest : List ℕ) → raw_at text ≡ Some (v, rest) → IsRaw v
raw_front text v rest e = let f = raw_format.found text v rest e in subst IsRaw (sym f.1.1) f.1.0

-- and so is what is cut from the bytes there
pub raw_inside : (from len : ℕ) (text bytes after : List ℕ) → text ≡ take (length text) bytes → from ≤ length text → len ≤ length (drop from text)
    → raw_at (drop from text) ≡ Some (take len (drop from text), after) → IsRaw (slice_range bytes from (from + len))
raw_inside from len text bytes after front inside short e =
    let size : length (drop from text) ≡ length text - from = length-drop from text in
    let same : slice_range bytes from (from + len) ≡ take len (drop from text) = front_slice from (from + len) text bytes front (omega arith) (omega arith) ∙ slice_is from len text in
    subst IsRaw (sym same) (raw_front (drop from text) (take len (drop from text)) after e)

descriptor_ends : (at n : ℕ) (text rest : List ℕ) → at ≤ length text → descriptor_at (drop at text) ≡ Some (n, rest) → (length rest ≤ length text) × (drop (length text - length rest) text ≡ rest)
descriptor_ends at n text rest inside e = let f = descriptor_found (drop at text) rest n e in left_of at text f.0 rest inside f.2

-- and so after a descriptor, and after a list that ends so many bytes behind it
pub described_short : (at n : ℕ) (text rest : List ℕ) → at ≤ length text → descriptor_at (drop at text) ≡ Some (n, rest) → length rest ≤ length text
described_short at n text rest inside e = (descriptor_ends at n text rest inside e).0

pub described_left : (at n end : ℕ) (text rest : List ℕ) → at ≤ length text → descriptor_at (drop at text) ≡ Some (n, rest) → end ≤ length rest
    → drop (length text - (length rest - end)) text ≡ drop end rest
described_left at n end text rest inside e short =
    let d = descriptor_ends at n text rest inside e in
    let place : (length text - length rest) + end ≡ length text - (length rest - end) = omega (arith, d.0) in
    ap (λ m. drop m text) (sym place) ∙ sym (drop-drop end (length text - length rest) text) ∙ ap (drop end) d.1

-- what the fields of a list leave is what stands after the list
abbrev with_rest : {V : Type 0} → List ℕ → V × PartsLeft → Option (V × List ℕ)
with_rest rest v = Some (v.0, rest)

rest_is : {V : Type 0} (read : Option (V × PartsLeft)) (x : V) (rest left : List ℕ) → (read >>= with_rest rest) ≡ Some (x, left) → left ≡ rest
rest_is None x rest left e = absurd cc
rest_is (Some v) x rest left e = sym (pair_is v.0 x rest left e).1

pub fields_rest : {V : Type 0} (body : PartsLeft → Option (V × PartsLeft)) (p : PartsLeft) (x : V) (rest left : List ℕ) → fields_at body (p, rest) ≡ Some (x, left) → left ≡ rest
fields_rest body p x rest left e = rest_is (body p) x rest left e

-- the fields of a list after this descriptor
pub described_is : {V : Type 0} (body : PartsLeft → Option (V × PartsLeft)) (code n : ℕ) (bytes list left rest : List ℕ) (p : PartsLeft) (result : Result V ReadError)
    → descriptor_at bytes ≡ Some (n, list) → n ≡ code → list_at list ≡ Some (p, rest) → Gives {X = V} {V = V} (λ x. x) result left (composite_at body list)
    → Gives {X = V} {V = V} (λ x. x) result rest (described_at code body bytes)
unfolding described_at
described_is body code n bytes list left rest p (Ok x) e same l g =
    let found : fields_at body (p, rest) ≡ Some (x, left) = sym (ap (λ r. r >>= fields_at body) l) ∙ g in
    rw (e, eq-eqb n code same, l) (found ∙ ap (λ s. Some (x, s)) (fields_rest body p x rest left found))
described_is body code n bytes list left rest p (Err Malformed) e same l g = rw (e, eq-eqb n code same) g
described_is body code n bytes list left rest p (Err OutOfMemory) e same l g = g

-- ---- a part by its code

abbrev slot : {V : Type 0} → (List ℕ → Option (V × List ℕ)) → Bool → List ℕ → PartsLeft → ℕ → Option (Option V × PartsLeft)
slot at ended bytes p left =
    if ended then Some (None, p)
    else if is_null bytes then Some (None, record { left = left; bytes = drop 1 bytes })
    else (at bytes >>= λ x. Some (Some x.0, record { left = left; bytes = x.1 }))

abbrev coded : Bool → List ℕ → PartsLeft → ℕ → Option (ℕ × PartsLeft)
coded ended bytes p left = if ended then Some (0x40, p) else (byte_at bytes >>= λ x. Some (x.0, record { left = left; bytes = x.1 }))

by_null : {V : Type 0} (at : List ℕ → Option (V × List ℕ)) (ended : Bool) (bytes : List ℕ) (p q : PartsLeft) (left : ℕ) → coded ended bytes p left ≡ Some (0x40, q) → slot at ended bytes p left ≡ Some (None, q)
by_null at true bytes p q left e = ap (λ r. Some (None, r)) (pair_is 0x40 0x40 p q e).1
by_null at false [] p q left e = absurd cc
by_null at false (b ∷ bytes) p q left e =
    let same = pair_is b 0x40 (record { left = left; bytes = bytes }) q e in rw (eq-eqb b 0x40 same.0) (ap (λ r. Some (None, r)) same.1)

by_code : {V : Type 0} (at : List ℕ → Option (V × List ℕ)) (ended : Bool) (bytes : List ℕ) (p q : PartsLeft) (left code : ℕ) → coded ended bytes p left ≡ Some (code, q) → code ≢ 0x40
    → slot at ended bytes p left ≡ (at (code ∷ q.bytes) >>= λ x. Some (Some x.0, record { left = q.left; bytes = x.1 }))
by_code at true bytes p q left code e other = absurd (other (sym (pair_is 0x40 code p q e).0))
by_code at false [] p q left code e other = absurd cc
by_code at false (b ∷ bytes) p q left code e other =
    let same = pair_is b code (record { left = left; bytes = bytes }) q e in
    let plain : eqb b 0x40 ≡ false = ne_eqb b 0x40 (λ h. other (sym same.0 ∙ h)) in
    rw (plain, ← same.0, ← same.1) refl

by_end : {V : Type 0} (at : List ℕ → Option (V × List ℕ)) (ended : Bool) (bytes : List ℕ) (p : PartsLeft) (left : ℕ) → coded ended bytes p left ≡ None → at [] ≡ None → slot at ended bytes p left ≡ None
by_end at true bytes p left e none = absurd cc
by_end at false [] p left e none = rw none refl
by_end at false (b ∷ bytes) p left e none = absurd cc

-- null, or the end of the list
pub no_part : {V : Type 0} (at : List ℕ → Option (V × List ℕ)) (p q : PartsLeft) → part_code_at p ≡ Some (0x40, q) → optional_at at p ≡ Some (None, q)
unfolding part_code_at optional_at
no_part at p q e = by_null at (eqb p.left 0) p.bytes p q (p.left - 1) e

pub a_part : {V : Type 0} (at : List ℕ → Option (V × List ℕ)) (p q : PartsLeft) (code : ℕ) (v : V) (rest : List ℕ) → part_code_at p ≡ Some (code, q) → code ≢ 0x40 → at (code ∷ q.bytes) ≡ Some (v, rest)
    → optional_at at p ≡ Some (Some v, record { left = q.left; bytes = rest })
unfolding part_code_at optional_at
a_part at p q code v rest e other read = by_code at (eqb p.left 0) p.bytes p q (p.left - 1) code e other ∙ rw read refl

pub not_a_part : {V : Type 0} (at : List ℕ → Option (V × List ℕ)) (p q : PartsLeft) (code : ℕ) → part_code_at p ≡ Some (code, q) → code ≢ 0x40 → at (code ∷ q.bytes) ≡ None → optional_at at p ≡ None
unfolding part_code_at optional_at
not_a_part at p q code e other read = by_code at (eqb p.left 0) p.bytes p q (p.left - 1) code e other ∙ rw read refl

pub part_ended : {V : Type 0} (at : List ℕ → Option (V × List ℕ)) (p : PartsLeft) → part_code_at p ≡ None → at [] ≡ None → optional_at at p ≡ None
unfolding part_code_at optional_at
part_ended at p e none = by_end at (eqb p.left 0) p.bytes p (p.left - 1) e none
