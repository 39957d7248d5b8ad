-- A value of a depth of at most d is one of a depth of at most any larger number.
use Rattle.std.proofs.Common.{◌≡◌, ℕ, zero, suc, ◌+◌, ◌-◌, ◌≤◌, List, arith, subst, sym}
use Rattle.amqp_values.specs.declared.format_class.FormatClass.{FormatClass}
use Rattle.amqp_values.specs.FormatClass.{class_of}
use Rattle.amqp_values.specs.Grammar.{IsValue, plain, described, Data, fixed, flag, variable, list0, list, map, array, no_elements, bare, Values, no_values, more_values, Elements, plain_elements, described_elements, Run, last, next, Constructor, plain_constructor, compound_constructor, described_constructor}

mutual
  pub value_deeper : (d : ℕ) (text : List ℕ) → IsValue d text → IsValue (suc d) text
  value_deeper d _ (plain _ code bytes h) = plain (suc d) code bytes (data_deeper d (class_of code) bytes h)
  value_deeper _ _ (described d descriptor value v w) = described (suc d) descriptor value (value_deeper d descriptor v) (value_deeper d value w)

  data_deeper : (d : ℕ) (k : FormatClass) (text : List ℕ) → Data d k text → Data (suc d) k text
  data_deeper d _ _ (fixed _ bytes) = fixed (suc d) bytes
  data_deeper d _ _ (flag _ b h) = flag (suc d) b h
  data_deeper d _ _ (variable _ wide size bytes h) = variable (suc d) wide size bytes h
  data_deeper _ _ _ (list0 d) = list0 (suc d)
  data_deeper _ _ _ (list d wide size count parts s c h) = list (suc d) wide size count parts s c (values_deeper d parts h)
  data_deeper _ _ _ (map d wide size count parts s c even h) = map (suc d) wide size count parts s c even (values_deeper d parts h)
  data_deeper _ _ _ (array d wide size count constructor elements s c h) = array (suc d) wide size count constructor elements s c (elements_deeper d constructor elements h)
  data_deeper _ _ _ (no_elements d wide size count constructor s c h) = no_elements (suc d) wide size count constructor s c (constructor_deeper d constructor h)
  data_deeper _ _ _ (bare d wide size count s c) = bare (suc d) wide size count s c

  pub values_deeper : (d : ℕ) (parts : List (List ℕ)) → Values d parts → Values (suc d) parts
  values_deeper d _ (no_values _) = no_values (suc d)
  values_deeper d _ (more_values _ part parts v h) = more_values (suc d) part parts (value_deeper d part v) (values_deeper d parts h)

  elements_deeper : (d : ℕ) (constructor : List ℕ) (elements : List (List ℕ)) → Elements d constructor elements → Elements (suc d) constructor elements
  elements_deeper d _ _ (plain_elements _ code elements h) = plain_elements (suc d) code elements (run_deeper d (class_of code) elements h)
  elements_deeper _ _ _ (described_elements d descriptor constructor elements v h) =
      described_elements (suc d) descriptor constructor elements (value_deeper d descriptor v) (elements_deeper d constructor elements h)

  run_deeper : (d : ℕ) (k : FormatClass) (elements : List (List ℕ)) → Run d k elements → Run (suc d) k elements
  run_deeper d k _ (last _ _ bytes h) = last (suc d) k bytes (data_deeper d k bytes h)
  run_deeper d k _ (next _ _ bytes others h r) = next (suc d) k bytes others (data_deeper d k bytes h) (run_deeper d k others r)

  constructor_deeper : (d : ℕ) (constructor : List ℕ) → Constructor d constructor → Constructor (suc d) constructor
  constructor_deeper d _ (plain_constructor _ code h) = plain_constructor (suc d) code h
  constructor_deeper _ _ (compound_constructor d code h) = compound_constructor (suc d) code h
  constructor_deeper _ _ (described_constructor d descriptor constructor v h) =
      described_constructor (suc d) descriptor constructor (value_deeper (suc d) descriptor v) (constructor_deeper (suc d) constructor h)

up : (P : ℕ → Type 0) → ((n : ℕ) → P n → P (suc n)) → (d k : ℕ) → P d → P (d + k)
up P more d zero h = let e : d + zero ≡ d = omega arith in subst P (sym e) h
up P more d (suc k) h = let e : d + suc k ≡ suc (d + k) = omega arith in subst P (sym e) (more (d + k) (up P more d k h))

pub values_up : (d e : ℕ) (parts : List (List ℕ)) → d ≤ e → Values d parts → Values e parts
values_up d e parts le h = let k : d + (e - d) ≡ e = omega arith in subst (λ n. Values n parts) k (up (λ n. Values n parts) (λ n. values_deeper n parts) d (e - d) h)

pub value_up : (d e : ℕ) (text : List ℕ) → d ≤ e → IsValue d text → IsValue e text
value_up d e text le h = let k : d + (e - d) ≡ e = omega arith in subst (λ n. IsValue n text) k (up (λ n. IsValue n text) (λ n. value_deeper n text) d (e - d) h)
