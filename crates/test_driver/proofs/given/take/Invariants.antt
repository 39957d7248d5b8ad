use Rattle.test_driver.proofs.given.take.Given as goal

abbrev pub invariant-loop : goal.invariant-loop
invariant-loop l = Unit {0}
