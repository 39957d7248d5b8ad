-- Tests whether two numbers are equal.
use Rattle.std.proofs.Common.{◌≡◌, ℕ, arith, nat_eq, true, false}
use Rattle.std.proofs.lemmas.Bool.Decides.{nat_tests}
use Rattle.std.proofs.lemmas.Grind.{common_steps}

pub equal_test : (m n : ℕ) → m ≡ n → nat_eq m n ≡ true
equal_test m n h = grind (arith, nat_tests, common_steps)

pub other_test : (m n : ℕ) → (m ≡ n → ⊥) → nat_eq m n ≡ false
other_test m n h = grind (arith, nat_tests, common_steps)

pub test_equal : (m n : ℕ) → nat_eq m n ≡ true → m ≡ n
test_equal m n h = grind (arith, nat_tests, common_steps)
