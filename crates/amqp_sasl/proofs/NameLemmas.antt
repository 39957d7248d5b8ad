-- A name is looked for among the symbols of an array.
use Rattle.std.proofs.Common.{◌≡◌, ◌≢◌, ℕ, zero, suc, ◌-◌, ◌+◌, ◌<◌, ◌≤◌, Bool, true, false, cond, ◌||◌, List, [], ◌∷◌, length, drop, Option, Some, None, refl, sym, ap, ◌∙◌, arith, eqb}
use Rattle.std.specs.Option.{option_map}
use Rattle.std.specs.Prelude.{bytes_eq, slice_range}
use Rattle.std.proofs.Math.Seq.{drop-length}
use Rattle.std.proofs.lemmas.List.{append-nil}
use Rattle.amqp_values.specs.Reading.{◌>>=◌, byte_at}
use Rattle.amqp_values.specs.Slots.{PartsLeft, required_at}
use Rattle.amqp_values.specs.Walking.{part_code_at}
use Rattle.amqp_values.specs.Symbols.{item_at, run_at, all_at, symbols_at}
use Rattle.amqp_values.proofs.ReaderLemmas.{bind_some, pair_is}
use Rattle.amqp_values.proofs.SymbolLemmas.{symbols_format}
use Rattle.amqp_sasl.specs.SaslFrame.{has_name, names_in, names_read}
use Rattle.amqp_sasl.specs.Inner.Reading.{counted_names_at, some_of, some_names, names_at, searched}
use Rattle.amqp_sasl.proofs.FieldLemmas.{part_is, goes_to, part_needed, other_needed, none_needed}

-- whether a name was found so far, or is among those that are left
abbrev pub held : List ℕ → Bool → Option (List (List ℕ)) → Option Bool
held name found left = option_map (λ names. found || has_name name names) left

held_more : (name s : List ℕ) (found : Bool) (left : Option (List (List ℕ))) → held name found (left >>= λ o. Some (s ∷ o)) ≡ held name (found || bytes_eq s name) left
held_more name s true None = refl
held_more name s true (Some x) = refl
held_more name s false None = refl
held_more name s false (Some x) = refl

pub search_more : (total : Option Bool) (name : List ℕ) (found : Bool) (n i : ℕ) (long : Bool) (bytes s rest : List ℕ) → i < n → item_at long bytes ≡ Some (s, rest)
    → total ≡ held name found (run_at (n - i) long bytes) → total ≡ held name (found || bytes_eq s name) (run_at (n - (i + 1)) long rest)
unfolding run_at
search_more total name found n i long bytes s rest lt e so_far =
    let k : n - i ≡ suc (n - (i + 1)) = omega arith in
    let one : run_at (n - i) long bytes ≡ (run_at (n - (i + 1)) long rest >>= λ o. Some (s ∷ o)) = rw (k, e) refl in
    so_far ∙ ap (held name found) one ∙ held_more name s found (run_at (n - (i + 1)) long rest)

pub search_fails : (total : Option Bool) (name : List ℕ) (found : Bool) (n i : ℕ) (long : Bool) (bytes : List ℕ) → i < n → item_at long bytes ≡ None
    → total ≡ held name found (run_at (n - i) long bytes) → total ≡ None
unfolding run_at
search_fails total name found n i long bytes lt e so_far =
    let k : n - i ≡ suc (n - (i + 1)) = omega arith in
    let one : run_at (n - i) long bytes ≡ None = rw (k, e) refl in
    so_far ∙ ap (held name found) one

-- nothing is left
last : (name : List ℕ) (found : Bool) → held name found (Some []) ≡ Some found
last name true = refl
last name false = refl

pub search_done : (total : Option Bool) (name : List ℕ) (found : Bool) (n i at : ℕ) (long : Bool) (text : List ℕ) → n ≤ i → at ≡ length text
    → total ≡ held name found (run_at (n - i) long (drop at text)) → total ≡ Some found
unfolding run_at
search_done total name found n i at long text le e so_far =
    let k : n - i ≡ 0 = omega arith in
    let end : drop at text ≡ [] = rw e (drop-length text) in
    let one : run_at (n - i) long (drop at text) ≡ Some [] = rw (k, end) refl in
    so_far ∙ ap (held name found) one ∙ last name found

-- a byte is left
pub search_left : (total : Option Bool) (name : List ℕ) (found : Bool) (n i : ℕ) (long : Bool) (b : ℕ) (bytes rest : List ℕ) → n ≤ i → bytes ≡ b ∷ rest
    → total ≡ held name found (run_at (n - i) long bytes) → total ≡ None
unfolding run_at
search_left total name found n i long b bytes rest le e so_far =
    let k : n - i ≡ 0 = omega arith in
    let one : run_at (n - i) long bytes ≡ None = rw (k, e) refl in
    so_far ∙ ap (held name found) one

-- ---- the region of an array after its count

pub no_count : (f : List (List ℕ) → Bool) (bytes : List ℕ) → None ≡ option_map f (counted_names_at 0 bytes)
unfolding all_at run_at
no_count f [] = refl
no_count f (b ∷ []) = elim (eqb b 0xa3) as (λ t. None ≡ option_map f (cond t (Some []) (cond (eqb b 0xb3) (Some []) None) >>= some_of)) [
  | true ↦ refl
  | false ↦ elim (eqb b 0xb3) as (λ t. None ≡ option_map f (cond t (Some []) None >>= some_of)) [ true ↦ refl | false ↦ refl ]
]
no_count f (b ∷ c ∷ bytes) = elim (eqb b 0xa3) as (λ t. None ≡ option_map f (cond t None (cond (eqb b 0xb3) None None) >>= some_of)) [
  | true ↦ refl
  | false ↦ elim (eqb b 0xb3) as (λ t. None ≡ option_map f (cond t None None >>= some_of)) [ true ↦ refl | false ↦ refl ]
]

more_some : (s : List ℕ) (left : Option (List (List ℕ))) → ((left >>= λ o. Some (s ∷ o)) >>= some_of) ≡ (left >>= λ o. Some (s ∷ o))
more_some s None = refl
more_some s (Some x) = refl

run_some : (n : ℕ) (long : Bool) (bytes : List ℕ) → n ≢ 0 → (run_at n long bytes >>= some_of) ≡ run_at n long bytes
unfolding run_at
run_some zero long bytes other = absurd (other refl)
run_some (suc n) long bytes other = first (item_at long bytes)
  where
    first : (item : Option (List ℕ × List ℕ)) → ((item >>= λ x. run_at n long x.1 >>= λ others. Some (x.0 ∷ others)) >>= some_of) ≡ (item >>= λ x. run_at n long x.1 >>= λ others. Some (x.0 ∷ others))
    first None = refl
    first (Some x) = more_some x.0 (run_at n long x.1)

pub counted_is : (f : List (List ℕ) → Bool) (n : ℕ) (bytes rest : List ℕ) → bytes ≡ 0xa3 ∷ rest → n ≢ 0 → option_map f (run_at n false rest) ≡ option_map f (counted_names_at n bytes)
unfolding all_at
counted_is f n bytes rest e other = rw e (ap (option_map f) (sym (run_some n false rest other)))

pub counted_long : (f : List (List ℕ) → Bool) (n : ℕ) (bytes rest : List ℕ) → bytes ≡ 0xb3 ∷ rest → n ≢ 0 → option_map f (run_at n true rest) ≡ option_map f (counted_names_at n bytes)
unfolding all_at
counted_long f n bytes rest e other = rw e (ap (option_map f) (sym (run_some n true rest other)))

-- ---- a whole field

some_names_is : (x : List (List ℕ) × List ℕ) (v : List (List ℕ)) (rest : List ℕ) → some_names x ≡ Some (v, rest) → x ≡ (v, rest)
some_names_is ([], r) v rest e = absurd cc
some_names_is (n ∷ ns, r) v rest e = let s = pair_is (n ∷ ns) v r rest e in ap (λ (y : List (List ℕ)). (y, r)) s.0 ∙ ap (λ (y : List ℕ). (v, y)) s.1

-- names that are read are symbols
pub names_are : (bytes rest : List ℕ) (v : List (List ℕ)) → names_at bytes ≡ Some (v, rest) → symbols_at bytes ≡ Some (v, rest)
unfolding names_at
names_are bytes rest v e =
    let b = bind_some (symbols_at bytes) some_names (v, rest) e in
    b.1 ∙ ap (λ x. Some x) (some_names_is b.0 v rest b.2)

-- what a search found was read
pub searched_names : (name bytes rest : List ℕ) (found : Bool) → searched name (names_at bytes) ≡ Some (found, rest)
    → (v : List (List ℕ)) × (names_at bytes ≡ Some (v, rest)) × (found ≡ has_name name v)
searched_names name bytes rest found e =
    let b = bind_some (names_at bytes) (λ x. Some (has_name name x.0, x.1)) (found, rest) e in
    let s = pair_is (has_name name b.0.0) found b.0.1 rest b.2 in
    (b.0.0, b.1 ∙ ap (λ (r : List ℕ). Some (b.0.0, r)) s.1, sym s.0)

pub searched_none : (name : List ℕ) (r : Option (List (List ℕ) × List ℕ)) → searched name r ≡ None → r ≡ None
searched_none name None e = refl
searched_none name (Some x) e = absurd cc

pub offered_is : (name bytes rest : List ℕ) (found : Bool) → searched name (names_at bytes) ≡ Some (found, rest) → found ≡ has_name name (names_in bytes)
offered_is name bytes rest found e =
    let s = searched_names name bytes rest found e in
    let r = names_are bytes rest s.0 s.1 in
    s.2 ∙ ap (λ (x : Option (List (List ℕ) × List ℕ)). has_name name (names_read x)) (sym r)

not_some : (name : List ℕ) (r : Option (List (List ℕ) × List ℕ)) → searched name (r >>= some_names) ≡ None → false ≡ has_name name (names_read r)
not_some name None e = refl
not_some name (Some ([], rest)) e = refl
not_some name (Some (n ∷ ns, rest)) e = absurd cc

pub offered_not : (name bytes : List ℕ) → searched name (names_at bytes) ≡ None → false ≡ has_name name (names_in bytes)
unfolding names_at
offered_not name bytes e = not_some name (symbols_at bytes) e

pub offered_nothing : (name bytes : List ℕ) → bytes ≡ [] → false ≡ has_name name (names_in bytes)
unfolding symbols_at
offered_nothing name bytes e = rw e refl

-- the names at a place are those that were read there
pub names_here : (from to : ℕ) (text : List ℕ) (v : List (List ℕ)) → from ≤ length text → to ≤ length text → names_at (drop from text) ≡ Some (v, drop to text) → (from ≤ to) × (names_in (slice_range text from to) ≡ v)
names_here from to text v inside bound e =
    let f = symbols_format.found (drop from text) v (drop to text) (names_are (drop from text) (drop to text) v e) in
    let same = part_is from to text f.0 inside bound f.2 in
    let read : symbols_at f.0 ≡ Some (v, []) = ap symbols_at (sym (append-nil f.0)) ∙ symbols_format.again v f.0 [] f.1 in
    (omega (arith, goes_to from to text f.0 inside bound f.2), ap names_in same ∙ ap names_read read)

pub no_byte_at : (bytes : List ℕ) → byte_at bytes ≡ None → bytes ≡ []
no_byte_at [] e = refl
no_byte_at (b ∷ bytes) e = absurd cc

no_names : names_at [] ≡ None
unfolding names_at symbols_at
no_names = refl

-- ---- the field of a list

-- names that were searched are the next field, and stand from their code on
pub names_taken : (name text : List ℕ) (found : Bool) (p : PartsLeft) (left code from to : ℕ) → part_code_at p ≡ Some (code, record { left = left; bytes = drop from text }) → code ≢ 0x40
    → 0 < from → from ≤ length text → drop (from - 1) text ≡ code ∷ drop from text → to ≤ length text → searched name (names_at (code ∷ drop from text)) ≡ Some (found, drop to text)
    → required_at names_at p ≡ Some (names_in (slice_range text (from - 1) to), record { left = left; bytes = drop to text })
names_taken name text found p left code from to e other behind inside coded bound read =
    let s = searched_names name (code ∷ drop from text) (drop to text) found read in
    let here = names_here (from - 1) to text s.0 (omega arith) bound (ap names_at coded ∙ s.1) in
    part_needed names_at p (record { left = left; bytes = drop from text }) code s.0 (drop to text) e other s.1 ∙ ap (λ (v : List (List ℕ)). Some (v, record { left = left; bytes = drop to text })) (sym here.1)

pub names_within : (name text : List ℕ) (found : Bool) (code from to : ℕ) → 0 < from → from ≤ length text → drop (from - 1) text ≡ code ∷ drop from text → to ≤ length text
    → searched name (names_at (code ∷ drop from text)) ≡ Some (found, drop to text) → from - 1 ≤ to
names_within name text found code from to behind inside coded bound read =
    let s = searched_names name (code ∷ drop from text) (drop to text) found read in
    (names_here (from - 1) to text s.0 (omega arith) bound (ap names_at coded ∙ s.1)).0

pub names_missing : (name : List ℕ) (p q : PartsLeft) (code : ℕ) → part_code_at p ≡ Some (code, q) → code ≢ 0x40 → searched name (names_at (code ∷ q.bytes)) ≡ None → required_at names_at p ≡ None
names_missing name p q code e other read = other_needed names_at p q code e other (searched_none name (names_at (code ∷ q.bytes)) read)

pub names_ended : (p : PartsLeft) → part_code_at p ≡ None → required_at names_at p ≡ None
names_ended p e = none_needed names_at p e no_names
