-- What is in the grammar is read, whatever follows.
use Rattle.std.proofs.Common.{◌≡◌, ℕ, zero, suc, ◌<◌, ◌≤◌, ◌%◌, Bool, true, false, eqb, List, [], ◌∷◌, ◌++◌, length, Option, Some, None, refl, sym, ap, subst, ◌∙◌, arith, inl, inr, append_assoc}
use Rattle.std.proofs.lemmas.Bool.{eq-eqb, ne_eqb, lt-ltb}
use Rattle.std.proofs.lemmas.Bool.Decides.{eqb_tells}
use Rattle.std.proofs.lemmas.List.{append-nil, length-append}
use Rattle.amqp_values.specs.Reading.{is_empty, IsNumber, joined}
use Rattle.amqp_values.specs.declared.format_class.FormatClass.{FormatClass}
use Rattle.amqp_values.specs.declared.format_class.FormatClass.TheVariants as class
use Rattle.amqp_values.specs.FormatClass.{class_of, IsPlain, IsCompound}
use Rattle.amqp_values.specs.Walk.{repeat, Level, inside, compound_of, data_of, value_of, elements_of, run_of, constructor_of, may_hold, under, level}
use Rattle.amqp_values.specs.Grammar.{IsValue, plain, described as described_value, Data, fixed, flag, variable, list0, list, map, array, no_elements, bare, Values, no_values, more_values, Elements, plain_elements, described_elements, Run, last, next, Constructor, plain_constructor, compound_constructor, described_constructor}
use Rattle.amqp_values.proofs.CompoundLemmas.{compound_again}
use Rattle.amqp_values.proofs.RegionLemmas.{cut_again, region_again}

no_unknown : (d : ℕ) (bytes : List ℕ) → Data d class.Unknown bytes → ⊥
no_unknown d bytes h = elim h [ ]

pub not_zero : (d code : ℕ) (bytes : List ℕ) → Data d (class_of code) bytes → eqb code 0 ≡ false
not_zero d code bytes h = elim (eqb_tells code 0) [
  | inl t ↦ absurd (no_unknown d bytes (subst (λ c. Data d (class_of c) bytes) t.1 h))
  | inr t ↦ t.0
]

run_first : (d : ℕ) (k : FormatClass) (elements : List (List ℕ)) → Run d k elements → (bytes : List ℕ) × Data d k bytes
run_first d k elements (last _ _ bytes h) = (bytes, h)
run_first d k elements (next _ _ bytes others h r) = (bytes, h)

some_element : (d : ℕ) (constructor : List ℕ) (elements : List (List ℕ)) → Elements d constructor elements → eqb (length elements) 0 ≡ false
some_element d _ _ (plain_elements _ code elements r) = some_run d (class_of code) elements r
  where
    some_run : (d : ℕ) (k : FormatClass) (elements : List (List ℕ)) → Run d k elements → eqb (length elements) 0 ≡ false
    some_run d k _ (last _ _ bytes h) = ne_eqb 1 0 (omega arith)
    some_run d k _ (next _ _ bytes others h r) = ne_eqb (suc (length others)) 0 (omega arith)
some_element _ _ _ (described_elements d descriptor constructor elements v r) = some_element d constructor elements r

step_value : (d : ℕ) (c : ℕ) (bytes : List ℕ) → eqb c 0 ≡ false → value_of (under d) (c ∷ bytes) ≡ data_of (under d) (class_of c) bytes
unfolding value_of
step_value d c bytes e = rw e refl

step_described : (d : ℕ) (bytes after : List ℕ) → value_of (under d) bytes ≡ Some after → value_of (under (suc d)) (0x00 ∷ bytes) ≡ value_of (under d) after
unfolding value_of under
step_described d bytes after e = rw e refl

step_run : (d c n : ℕ) (bytes : List ℕ) → eqb c 0 ≡ false → elements_of (under d) n (c ∷ bytes) ≡ repeat n (data_of (under d) (class_of c)) bytes
unfolding elements_of run_of
step_run d c n bytes e = rw e refl

step_elements : (d n : ℕ) (bytes after : List ℕ) → value_of (under d) bytes ≡ Some after → elements_of (under (suc d)) n (0x00 ∷ bytes) ≡ elements_of (under d) n after
unfolding elements_of under
step_elements d n bytes after e = rw e refl

step_repeat : (n : ℕ) (f : List ℕ → Option (List ℕ)) (bytes after : List ℕ) → f bytes ≡ Some after → repeat (suc n) f bytes ≡ repeat n f after
unfolding repeat
step_repeat n f bytes after e = rw e refl

repeat_none : (f : List ℕ → Option (List ℕ)) (bytes : List ℕ) → repeat zero f bytes ≡ Some bytes
unfolding repeat
repeat_none f bytes = refl

step_constructor : (d n : ℕ) (bytes after : List ℕ) → value_of (under (suc d)) bytes ≡ Some after → constructor_of (under (suc d)) (suc n) (0x00 ∷ bytes) ≡ constructor_of (under (suc d)) n after
unfolding constructor_of under
step_constructor d n bytes after e = rw e refl

-- ---- the data of each kind

step_fixed : (b : Option Level) (bytes rest : List ℕ) → data_of b (class.Fixed (length bytes)) (bytes ++ rest) ≡ Some rest
unfolding data_of
step_fixed b bytes rest = rw (cut_again (length bytes) bytes rest refl) refl

step_flag : (b : Option Level) (n : ℕ) (rest : List ℕ) → n < 2 → data_of b class.Flag (n ∷ rest) ≡ Some rest
unfolding data_of
step_flag b n rest h = rw (lt-ltb n 2 h) refl

step_variable : (b : Option Level) (wide : Bool) (size bytes rest : List ℕ) → IsNumber wide size (length bytes) → data_of b (class.Variable wide) ((size ++ bytes) ++ rest) ≡ Some rest
unfolding data_of
step_variable b wide size bytes rest h = rw (region_again wide size bytes rest h) refl

step_list0 : (d : ℕ) (rest : List ℕ) → data_of (under (suc d)) class.List0 rest ≡ Some rest
unfolding data_of under
step_list0 d rest = refl

step_list : (d : ℕ) (wide : Bool) (size count body rest : List ℕ) (n : ℕ) → IsNumber wide size (length (count ++ body)) → IsNumber wide count n
    → repeat n (value_of (under d)) (body ++ []) ≡ Some [] → data_of (under (suc d)) (class.List wide) ((size ++ (count ++ body)) ++ rest) ≡ Some rest
unfolding data_of under inside
step_list d wide size count body rest n s c e = compound_again (level d) (class.List wide) wide size count body rest n s c (rw append-nil at e)

step_map : (d : ℕ) (wide : Bool) (size count body rest : List ℕ) (n : ℕ) → IsNumber wide size (length (count ++ body)) → IsNumber wide count n → n % 2 ≡ 0
    → repeat n (value_of (under d)) (body ++ []) ≡ Some [] → data_of (under (suc d)) (class.Map wide) ((size ++ (count ++ body)) ++ rest) ≡ Some rest
unfolding data_of under inside
step_map d wide size count body rest n s c even e =
    let t : eqb (n % 2) 0 ≡ true = eq-eqb _ _ even in
    let all : repeat n (value_of (under d)) body ≡ Some [] = rw append-nil at e in
    compound_again (level d) (class.Map wide) wide size count body rest n s c (rw (t, all) refl)

step_array : (d : ℕ) (wide : Bool) (size count body rest : List ℕ) (n : ℕ) → IsNumber wide size (length (count ++ body)) → IsNumber wide count n → eqb n 0 ≡ false
    → elements_of (under d) n (body ++ []) ≡ Some [] → data_of (under (suc d)) (class.Array wide) ((size ++ (count ++ body)) ++ rest) ≡ Some rest
unfolding data_of under inside
step_array d wide size count body rest n s c some e =
    let all : elements_of (under d) n body ≡ Some [] = rw append-nil at e in
    compound_again (level d) (class.Array wide) wide size count body rest n s c (rw (some, all) refl)

step_no_elements : (d : ℕ) (wide : Bool) (size count body rest : List ℕ) → IsNumber wide size (length (count ++ body)) → IsNumber wide count 0 → is_empty body ≡ false
    → constructor_of (under d) (length body) (body ++ []) ≡ Some [] → data_of (under (suc d)) (class.Array wide) ((size ++ (count ++ body)) ++ rest) ≡ Some rest
unfolding data_of under inside
step_no_elements d wide size count body rest s c some e =
    let all : constructor_of (under d) (length body) body ≡ Some [] = rw append-nil at e in
    compound_again (level d) (class.Array wide) wide size count body rest 0 s c (rw (some, all) refl)

step_bare : (d : ℕ) (wide : Bool) (size count rest : List ℕ) → IsNumber wide size (length count) → IsNumber wide count 0
    → data_of (under (suc d)) (class.Array wide) ((size ++ count) ++ rest) ≡ Some rest
unfolding data_of under inside
step_bare d wide size count rest s c =
    let whole : count ++ [] ≡ count = append-nil count in
    let size_is : IsNumber wide size (length (count ++ [])) = subst (λ (x : List ℕ). IsNumber wide size (length x)) (sym whole) s in
    ap (λ (x : List ℕ). compound_of (Some (level d)) (class.Array wide) wide ((size ++ x) ++ rest)) (sym whole) ∙ compound_again (level d) (class.Array wide) wide size count [] rest 0 size_is c refl

-- ---- constructors with no data after them

holds_plain : (b : Option Level) (k : FormatClass) → IsPlain k → may_hold b k ≡ true
holds_plain None (class.Fixed n) h = refl
holds_plain None class.Flag h = refl
holds_plain None (class.Variable wide) h = refl
holds_plain None class.List0 h = refl
holds_plain None (class.List wide) h = absurd h
holds_plain None (class.Map wide) h = absurd h
holds_plain None (class.Array wide) h = absurd h
holds_plain None class.Unknown h = absurd h
holds_plain (Some l) (class.Fixed n) h = refl
holds_plain (Some l) class.Flag h = refl
holds_plain (Some l) (class.Variable wide) h = refl
holds_plain (Some l) class.List0 h = refl
holds_plain (Some l) (class.List wide) h = absurd h
holds_plain (Some l) (class.Map wide) h = absurd h
holds_plain (Some l) (class.Array wide) h = absurd h
holds_plain (Some l) class.Unknown h = absurd h

holds_compound : (l : Level) (k : FormatClass) → IsCompound k → may_hold (Some l) k ≡ true
holds_compound l (class.List wide) h = refl
holds_compound l (class.Map wide) h = refl
holds_compound l (class.Array wide) h = refl
holds_compound l (class.Fixed n) h = absurd h
holds_compound l class.Flag h = absurd h
holds_compound l (class.Variable wide) h = absurd h
holds_compound l class.List0 h = absurd h
holds_compound l class.Unknown h = absurd h

holds_deep : (d : ℕ) (k : FormatClass) → IsCompound k → may_hold (under (suc d)) k ≡ true
unfolding under
holds_deep d k h = holds_compound (level d) k h

known_not_zero : (code : ℕ) (P : FormatClass → Type 0) → (P class.Unknown → ⊥) → P (class_of code) → eqb code 0 ≡ false
known_not_zero code P never h = elim (eqb_tells code 0) [
  | inl t ↦ absurd (never (subst (λ c. P (class_of c)) t.1 h))
  | inr t ↦ t.0
]

step_ends : (d n code : ℕ) (rest : List ℕ) → eqb code 0 ≡ false → may_hold (under d) (class_of code) ≡ true → constructor_of (under d) (suc n) (code ∷ rest) ≡ Some rest
unfolding constructor_of
step_ends d n code rest z m = rw (z, m) refl

not_empty : (d : ℕ) (constructor : List ℕ) → Constructor d constructor → is_empty constructor ≡ false
not_empty d _ (plain_constructor _ code h) = refl
not_empty _ _ (compound_constructor d code h) = refl
not_empty _ _ (described_constructor d descriptor constructor v c) = refl

mutual
  pub value_again : (d : ℕ) (text : List ℕ) → IsValue d text → (rest : List ℕ) → value_of (under d) (text ++ rest) ≡ Some rest
  value_again d _ (plain _ code bytes h) rest = step_value d code (bytes ++ rest) (not_zero d code bytes h) ∙ data_again d (class_of code) bytes h rest
  value_again _ _ (described_value d descriptor value v w) rest =
      step_described d ((descriptor ++ value) ++ rest) (value ++ rest) (ap (value_of (under d)) (append_assoc descriptor value rest) ∙ value_again d descriptor v (value ++ rest))
      ∙ value_again d value w rest

  data_again : (d : ℕ) (k : FormatClass) (text : List ℕ) → Data d k text → (rest : List ℕ) → data_of (under d) k (text ++ rest) ≡ Some rest
  data_again d _ _ (fixed _ bytes) rest = step_fixed (under d) bytes rest
  data_again d _ _ (flag _ b h) rest = step_flag (under d) b rest h
  data_again d _ _ (variable _ wide size bytes h) rest = step_variable (under d) wide size bytes rest h
  data_again _ _ _ (list0 d) rest = step_list0 d rest
  data_again _ _ _ (list d wide size count parts s c h) rest = step_list d wide size count (joined parts) rest (length parts) s c (values_again d parts h [])
  data_again _ _ _ (map d wide size count parts s c even h) rest = step_map d wide size count (joined parts) rest (length parts) s c even (values_again d parts h [])
  data_again _ _ _ (array d wide size count constructor elements s c h) rest =
      step_array d wide size count (constructor ++ joined elements) rest (length elements) s c (some_element d constructor elements h) (elements_again d constructor elements h [])
  data_again _ _ _ (no_elements d wide size count constructor s c h) rest =
      step_no_elements d wide size count constructor rest s c (not_empty d constructor h) (constructor_again d constructor h (length constructor) [] (omega arith))
  data_again _ _ _ (bare d wide size count s c) rest = step_bare d wide size count rest s c

  values_again : (d : ℕ) (parts : List (List ℕ)) → Values d parts → (rest : List ℕ) → repeat (length parts) (value_of (under d)) (joined parts ++ rest) ≡ Some rest
  values_again d _ (no_values _) rest = repeat_none (value_of (under d)) rest
  values_again d _ (more_values _ part parts v h) rest =
      ap (repeat (suc (length parts)) (value_of (under d))) (append_assoc part (joined parts) rest)
      ∙ step_repeat (length parts) (value_of (under d)) (part ++ (joined parts ++ rest)) (joined parts ++ rest) (value_again d part v (joined parts ++ rest))
      ∙ values_again d parts h rest

  elements_again : (d : ℕ) (constructor : List ℕ) (elements : List (List ℕ)) → Elements d constructor elements → (rest : List ℕ)
      → elements_of (under d) (length elements) ((constructor ++ joined elements) ++ rest) ≡ Some rest
  elements_again d _ _ (plain_elements _ code elements h) rest =
      step_run d code (length elements) (joined elements ++ rest) (not_zero d code (run_first d (class_of code) elements h).0 (run_first d (class_of code) elements h).1) ∙ run_again d (class_of code) elements h rest
  elements_again _ _ _ (described_elements d descriptor constructor elements v h) rest =
      let split : ((descriptor ++ constructor) ++ joined elements) ++ rest ≡ descriptor ++ ((constructor ++ joined elements) ++ rest) =
      ap (λ (x : List ℕ). x ++ rest) (append_assoc descriptor constructor (joined elements)) ∙ append_assoc descriptor (constructor ++ joined elements) rest in
      step_elements d (length elements) (((descriptor ++ constructor) ++ joined elements) ++ rest) ((constructor ++ joined elements) ++ rest)
      (ap (value_of (under d)) split ∙ value_again d descriptor v ((constructor ++ joined elements) ++ rest))
      ∙ elements_again d constructor elements h rest

  run_again : (d : ℕ) (k : FormatClass) (elements : List (List ℕ)) → Run d k elements → (rest : List ℕ) → repeat (length elements) (data_of (under d) k) (joined elements ++ rest) ≡ Some rest
  run_again d k _ (last _ _ bytes h) rest =
      step_repeat zero (data_of (under d) k) ((bytes ++ []) ++ rest) rest (ap (λ (x : List ℕ). data_of (under d) k (x ++ rest)) (append-nil bytes) ∙ data_again d k bytes h rest) ∙ repeat_none (data_of (under d) k) rest
  run_again d k _ (next _ _ bytes others h r) rest =
      ap (repeat (suc (length others)) (data_of (under d) k)) (append_assoc bytes (joined others) rest)
      ∙ step_repeat (length others) (data_of (under d) k) (bytes ++ (joined others ++ rest)) (joined others ++ rest) (data_again d k bytes h (joined others ++ rest))
      ∙ run_again d k others r rest

  constructor_again : (d : ℕ) (constructor : List ℕ) → Constructor d constructor → (n : ℕ) (rest : List ℕ) → length constructor ≤ n → constructor_of (under d) n (constructor ++ rest) ≡ Some rest
  constructor_again d _ (plain_constructor _ code h) zero rest le = absurd (omega arith)
  constructor_again d _ (plain_constructor _ code h) (suc n) rest le = step_ends d n code rest (known_not_zero code IsPlain (λ x. x) h) (holds_plain (under d) (class_of code) h)
  constructor_again _ _ (compound_constructor d code h) zero rest le = absurd (omega arith)
  constructor_again _ _ (compound_constructor d code h) (suc n) rest le = step_ends (suc d) n code rest (known_not_zero code IsCompound (λ x. x) h) (holds_deep d (class_of code) h)
  constructor_again _ _ (described_constructor d descriptor constructor v h) zero rest le = absurd (omega arith)
  constructor_again _ _ (described_constructor d descriptor constructor v h) (suc n) rest le =
      step_constructor d n ((descriptor ++ constructor) ++ rest) (constructor ++ rest) (ap (value_of (under (suc d))) (append_assoc descriptor constructor rest) ∙ value_again (suc d) descriptor v (constructor ++ rest))
      ∙ constructor_again (suc d) constructor h n rest (omega (arith, length-append descriptor constructor))
