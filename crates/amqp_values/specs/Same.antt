-- Part: other calls.
-- What `==` tests, with its laws: records are compared field by field.
use Rattle.std.specs.Prelude.{ℕ, List, Option, Bool, nat_eq}
use Rattle.std.specs.Bool.{beq}
use Rattle.std.specs.Option.{option_eq}
use Rattle.std.specs.Ordering.{on, eq_of_both}
use Rattle.std.specs.Cmp.Lexicographic.{pointwise, nat_list_eq_equiv, lists_equiv, options_equiv}
use Rattle.std.specs.Cmp.{IsEquivalence, and_equiv, on_equiv, nat_eq_equiv, bool_eq_equiv}

-- a test that is reflexive, symmetric and transitive
pub record Test (K : Type 0) : Type 0 where
  pub test : K → K → Bool
  pub laws : IsEquivalence test

abbrev pub numbers : Test ℕ
numbers = record { test = nat_eq; laws = nat_eq_equiv }

abbrev pub flags : Test Bool
flags = record { test = beq; laws = bool_eq_equiv }

abbrev pub texts : Test (List ℕ)
texts = record { test = pointwise nat_eq; laws = nat_list_eq_equiv }

abbrev pub each : {K : Type 0} → Test K → Test (List K)
each t = record { test = pointwise t.test; laws = lists_equiv t.laws }

abbrev pub maybe : {K : Type 0} → Test K → Test (Option K)
maybe t = record { test = option_eq t.test; laws = options_equiv t.laws }

-- a field of a record, and two fields together
abbrev pub field : {K J : Type 0} → (K → J) → Test J → Test K
field f t = record { test = on f t.test; laws = on_equiv f t.laws }

abbrev pub both : {K : Type 0} → Test K → Test K → Test K
both s t = record { test = eq_of_both s.test t.test; laws = and_equiv s.laws t.laws }
