-- Reading a raw value is exactly the grammar.
use Rattle.std.proofs.Common.{◌≡◌, ◌≢◌, ℕ, ◌-◌, ◌≤◌, false, cond, ltb, eqb, List, [], ◌∷◌, ◌++◌, length, take, drop, Option, Some, None, refl, sym, ap, subst, ◌∙◌, arith, inl, inr}
use Rattle.std.proofs.lemmas.Bool.{ne_eqb, le-ltb}
use Rattle.std.proofs.lemmas.Bool.Decides.{eqb_tells}
use Rattle.std.proofs.lemmas.List.{append-nil, length-append, take_at, drop_at}
use Rattle.amqp_values.specs.Reading.{◌>>=◌, byte_at, cut_at}
use Rattle.amqp_values.proofs.ReaderLemmas.{IsFormat, bind_some, pair_is, some_is}
use Rattle.amqp_values.specs.declared.format_class.FormatClass.TheVariants as class
use Rattle.amqp_values.specs.Walk.{Level, data_of, value_of, under, value_at}
use Rattle.amqp_values.specs.Grammar.{IsValue, plain, described}
use Rattle.amqp_values.specs.Raw.{IsRaw, SpellsRaw, raw_at}
use Rattle.amqp_values.proofs.RegionLemmas.{byte_found}
use Rattle.amqp_values.proofs.FoundInGrammarLemmas.{Finds, found}
use Rattle.amqp_values.proofs.GrammarReadLemmas.{value_again}

-- reading a value of a depth of at most d is exactly the grammar
pub value_reads : (d : ℕ) → Finds (IsValue d) (value_at d)
unfolding value_at
value_reads d = (found d).value

pub value_is_read : (d : ℕ) (text : List ℕ) → IsValue d text → (rest : List ℕ) → value_at d (text ++ rest) ≡ Some rest
unfolding value_at
value_is_read = value_again

-- no spelling begins another
pub one_front : (d : ℕ) (a b : List ℕ) (x y : List ℕ) → IsValue d a → IsValue d b → a ++ x ≡ b ++ y → (a ≡ b) × (x ≡ y)
one_front d a b x y v w e =
    let same : x ≡ y = some_is x y (sym (value_is_read d a v x) ∙ ap (value_at d) e ∙ value_is_read d b w y) in
    let len : length a ≡ length b = omega (arith, length-append a x, length-append b y, ap length e, ap length same) in
    (sym (take_at a x (length a) refl) ∙ ap (take (length a)) e ∙ ap (λ n. take n (b ++ y)) len ∙ take_at b y (length b) refl, same)

filled : (d : ℕ) (text : List ℕ) → IsValue d text → (c : ℕ) × (others : List ℕ) × (text ≡ c ∷ others)
filled d _ (plain _ code bytes h) = (code, bytes, refl)
filled _ _ (described d descriptor value v w) = (0x00, descriptor ++ value, refl)

no_data : (b : Option Level) (bytes : List ℕ) → data_of b (class.Fixed 0) bytes ≡ Some bytes
unfolding data_of cut_at
no_data b bytes = let f : ltb (length bytes) 0 ≡ false = le-ltb _ _ (omega arith) in rw f refl

null_reads : (d : ℕ) (bytes : List ℕ) → value_at d (0x40 ∷ bytes) ≡ Some bytes
unfolding value_at value_of
null_reads d bytes = no_data (under d) bytes

pub null_alone : (d : ℕ) (others : List ℕ) → IsValue d (0x40 ∷ others) → others ≡ []
null_alone d others v = sym (append-nil others) ∙ some_is (others ++ []) [] (sym (null_reads d (others ++ [])) ∙ value_is_read d (0x40 ∷ others) v [])

-- the front that is cut off is the value
pub cut_is : (text rest : List ℕ) → (take (length (text ++ rest) - length rest) (text ++ rest) ≡ text) × (drop (length (text ++ rest) - length rest) (text ++ rest) ≡ rest)
cut_is text rest =
    let n : length (text ++ rest) - length rest ≡ length text = omega (arith, length-append text rest) in
    (ap (λ m. take m (text ++ rest)) n ∙ take_at text rest (length text) refl, ap (λ m. drop m (text ++ rest)) n ∙ drop_at text rest (length text) refl)

pub shorter : (bytes rest : List ℕ) → value_at 64 bytes ≡ Some rest → length rest ≤ length bytes
shorter bytes rest e = let f = value_reads 64 bytes rest e in omega (arith, ap length f.2, length-append f.0 rest)

pub raw_is : (bytes rest : List ℕ) (c : ℕ) (after : List ℕ) → value_at 64 bytes ≡ Some rest → byte_at bytes ≡ Some (c, after) → c ≢ 0x40
    → IsRaw (take (length bytes - length rest) bytes) × (bytes ≡ take (length bytes - length rest) bytes ++ rest) × (drop (length bytes - length rest) bytes ≡ rest)
raw_is bytes rest c after e b ne =
    let f = value_reads 64 bytes rest e in
    let cut : take (length bytes - length rest) bytes ≡ f.0 = ap (λ (x : List ℕ). take (length x - length rest) x) f.2 ∙ (cut_is f.0 rest).0 in
    let left : drop (length bytes - length rest) bytes ≡ rest = ap (λ (x : List ℕ). drop (length x - length rest) x) f.2 ∙ (cut_is f.0 rest).1 in
    let other : f.0 ≢ 0x40 ∷ [] = λ null.
    let same : c ∷ after ≡ 0x40 ∷ rest = sym (byte_found bytes c after b) ∙ f.2 ∙ ap (λ (x : List ℕ). x ++ rest) null in
    let code : c ≡ 0x40 = cc in ne code in
    (subst IsRaw (sym cut) (record { value = f.1; not_null = other }), f.2 ∙ ap (λ (x : List ℕ). x ++ rest) (sym cut), left)

raw_found : (bytes v rest : List ℕ) → raw_at bytes ≡ Some (v, rest) → (text : List ℕ) × SpellsRaw v text × (bytes ≡ text ++ rest)
unfolding raw_at
raw_found bytes v rest e =
    let r = bind_some (value_at 64 bytes) (λ r. byte_at bytes >>= λ c. cond (eqb c.0 0x40) None (Some (take (length bytes - length r) bytes, drop (length bytes - length r) bytes))) (v, rest) e in
    let c = bind_some (byte_at bytes) (λ c. cond (eqb c.0 0x40) None (Some (take (length bytes - length r.0) bytes, drop (length bytes - length r.0) bytes))) (v, rest) r.2 in
    elim (eqb_tells c.0.0 0x40) [
      | inl t ↦ absurd (let n : None ≡ Some (v, rest) = rw t.0 at c.2 in cc)
      | inr t ↦
          let got : ◌≡◌ {A = Option (List ℕ × List ℕ)} (Some (take (length bytes - length r.0) bytes, drop (length bytes - length r.0) bytes)) (Some (v, rest)) = rw t.0 at c.2 in
          let s = pair_is (take (length bytes - length r.0) bytes) v (drop (length bytes - length r.0) bytes) rest got in
          let h = raw_is bytes r.0 c.0.0 c.0.1 r.1 c.1 t.1 in
          (take (length bytes - length r.0) bytes, (h.0, sym s.0), h.1 ∙ ap (λ (x : List ℕ). take (length bytes - length r.0) bytes ++ x) (sym h.2 ∙ s.1))
    ]

raw_again : (v text rest : List ℕ) → SpellsRaw v text → raw_at (text ++ rest) ≡ Some (v, rest)
unfolding raw_at
raw_again v text rest h =
    let f = filled 64 text h.0.value in
    let first : byte_at (text ++ rest) ≡ Some (f.0, f.1 ++ rest) = ap (λ (x : List ℕ). byte_at (x ++ rest)) f.2 in
    let other : f.0 ≢ 0x40 = λ null.
    let v1 : IsValue 64 (0x40 ∷ f.1) = subst (λ c. IsValue 64 (c ∷ f.1)) null (subst (IsValue 64) f.2 h.0.value) in
    h.0.not_null (f.2 ∙ ap (λ c. c ∷ f.1) null ∙ ap (λ (x : List ℕ). 0x40 ∷ x) (null_alone 64 f.1 v1)) in
    let z : eqb f.0 0x40 ≡ false = ne_eqb _ _ other in
    rw (value_is_read 64 text h.0.value rest, first, z, (cut_is text rest).0, (cut_is text rest).1, h.1) refl

raw_no_null : (rest : List ℕ) → raw_at (0x40 ∷ rest) ≡ None
unfolding raw_at
raw_no_null rest = rw (null_reads 64 rest) refl

pub raw_format : IsFormat SpellsRaw raw_at
raw_format = record { found = raw_found; again = raw_again; no_null = raw_no_null }
