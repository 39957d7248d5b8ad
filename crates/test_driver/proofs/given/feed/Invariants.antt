use Rattle.test_driver.proofs.given.feed.Given as goal

abbrev pub invariant-loop-end : goal.invariant-loop-end
invariant-loop-end l = Unit {0}
