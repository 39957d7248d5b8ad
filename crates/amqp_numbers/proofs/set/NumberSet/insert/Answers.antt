use Rattle.std.proofs.Common.{◌≡◌, List, ◌∷◌, ◌++◌, take, drop, true, Result, Ok, Err, OnOk, OnErr, ap, sym, ◌∙◌, subst, arith}
use Rattle.std.proofs.lemmas.Result.{on_err_weaker}
use Rattle.std.specs.FinMap.{insert}
use Rattle.amqp_numbers.specs.declared.ranges.Range.{Range}
use Rattle.amqp_numbers.specs.Ranges.{Numbers, numbers_of, is_held, IsSpaced, IsAlone}
use Rattle.amqp_numbers.proofs.NumberLemmas.{inserted, inserted_again, alone}
use Rattle.amqp_numbers.proofs.RangeLemmas.{few, put_spaced, put_held, none_beside}
use Rattle.amqp_numbers.proofs.set.NumberSet.insert.Goals as goal

pub returns-then-is_in_range_before-clause-ok : goal.returns-then-is_in_range_before-clause-ok
returns-then-is_in_range_before-clause-ok c =
    let rs = c.self.inside.ranges.items in
    let n = c.args.number in
    let held : is_held n rs ≡ true = sym c.is_in_range_before.ensures.held ∙ c.if-is_in_range_before.true in
    sym c.self.view_is ∙ inserted_again rs n held ∙ ap (λ (m : Numbers). insert m n true) c.self.view_is

pub put-requires-clause-few : goal.put-requires-clause-few
put-requires-clause-few c = let f = few c.self.inside.ranges.items 0 c.self.invariant (omega arith) in omega (arith, f)

-- what holds of the ranges before and after holds whether memory was refused or not
either : {E : Type 0} (P : List Range → Type 0) (result : Result (Unit {0}) E) (old made new : List Range) → OnOk result (new ≡ made) → OnErr result (new ≡ old) → P old → P made → P new
either P (Ok x) old made new ok err p q = subst P (sym ok) q
either P (Err x) old made new ok err p q = subst P (sym err) p

-- what follows where it was not refused
where_ok : {E : Type 0} {A B : Type 0} (result : Result (Unit {0}) E) → (A → B) → OnOk result A → OnOk result B
where_ok (Ok x) f a = f a
where_ok (Err x) f a = tt

pub invariant_of-self : goal.invariant_of-self
invariant_of-self c =
    let rs = c.self.inside.ranges.items in
    let r : Range = record { first = c.lower_end-from.result.1; last = c.upper_end-to.result.1 } in
    let from = c.lower_end-from.result.0 in
    let to = c.upper_end-to.result.0 in
    let made = put_spaced rs c.args.number c.rank_of-rank.result from to r c.self.invariant c.lower_end-from.ensures.lower c.upper_end-to.ensures.upper in
    either (IsSpaced 0) c.put.result rs (take from rs ++ r ∷ drop to rs) c.put.new.ranges.items c.put.ensures.ok c.put.ensures.err c.self.invariant made

pub returns-clause-ok : goal.returns-clause-ok
returns-clause-ok c =
    let rs = c.self.inside.ranges.items in
    let n = c.args.number in
    let r : Range = record { first = c.lower_end-from.result.1; last = c.upper_end-to.result.1 } in
    let from = c.lower_end-from.result.0 in
    let to = c.upper_end-to.result.0 in
    let made = inserted rs (take from rs ++ r ∷ drop to rs) n (put_held rs n c.rank_of-rank.result from to r c.lower_end-from.ensures.lower c.upper_end-to.ensures.upper) in
    where_ok c.put.result (λ e. ap numbers_of e ∙ made ∙ ap (λ (m : Numbers). insert m n true) c.self.view_is) c.put.ensures.ok

pub returns-clause-alone : goal.returns-clause-alone
returns-clause-alone c =
    let rs = c.self.inside.ranges.items in
    let n = c.args.number in
    let by = none_beside rs n c.rank_of-rank.result c.lower_end-from.result.0 c.lower_end-from.result.1 c.upper_end-to.result.0 c.upper_end-to.result.1 c.self.invariant c.lower_end-from.ensures.lower c.upper_end-to.ensures.upper in
    on_err_weaker c.put.result (λ e. subst (λ (m : Numbers). IsAlone m n) c.self.view_is (alone rs n (by e))) c.put.ensures.none
