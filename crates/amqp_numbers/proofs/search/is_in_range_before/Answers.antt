use Rattle.std.proofs.Common.{◌≡◌, ◌-◌, ℕ, suc, false, Bool, nat_lt, sym, ◌∙◌, subst, arith}
use Rattle.std.proofs.lemmas.Bool.Decides.{nat_tests}
use Rattle.std.proofs.lemmas.Grind.{common_steps}
use Rattle.amqp_numbers.specs.Ranges.{IsRank, is_held}
use Rattle.amqp_numbers.proofs.SearchLemmas.{rank_within, held_at, none_before, apart}
use Rattle.amqp_numbers.proofs.search.is_in_range_before.Goals as goal

pub get-requires : goal.get-requires
get-requires c = let w = rank_within c.args.ranges.now.items c.args.number c.args.rank c.requires.rank in record { within = omega (arith, w, c.if-rank-gt0.true) }

pub returns-then-rank-gt0-clause-held : goal.returns-then-rank-gt0-clause-held
returns-then-rank-gt0-clause-held c =
    let rs = c.args.ranges.now.items in
    let e : c.args.rank ≡ suc (c.args.rank - 1) = omega (arith, c.if-rank-gt0.true) in
    sym (held_at rs 0 c.args.number (c.args.rank - 1) c.get.result.now c.requires.spaced (subst (λ k. IsRank rs c.args.number k) e c.requires.rank) c.get.ensures.value)

pub returns-then-rank-gt0-clause-apart : goal.returns-then-rank-gt0-clause-apart
returns-then-rank-gt0-clause-apart c h =
    let rs = c.args.ranges.now.items in
    let e : c.args.rank ≡ suc (c.args.rank - 1) = omega (arith, c.if-rank-gt0.true) in
    let is = held_at rs 0 c.args.number (c.args.rank - 1) c.get.result.now c.requires.spaced (subst (λ k. IsRank rs c.args.number k) e c.requires.rank) c.get.ensures.value in
    apart rs c.args.number c.args.rank c.requires.rank (is ∙ h)

none : (rank : ℕ) (b : Bool) → rank ≡ 0 → b ≡ false → nat_lt 0 rank ≡ b
none rank b e h = grind (arith, nat_tests, common_steps)

pub returns-else-rank-gt0-clause-held : goal.returns-else-rank-gt0-clause-held
returns-else-rank-gt0-clause-held c =
    let rs = c.args.ranges.now.items in
    let e : c.args.rank ≡ 0 = omega (arith, c.if-rank-gt0.false) in
    none c.args.rank (is_held c.args.number rs) e (none_before rs 0 c.args.number c.requires.spaced (subst (λ k. IsRank rs c.args.number k) e c.requires.rank))

pub returns-else-rank-gt0-clause-apart : goal.returns-else-rank-gt0-clause-apart
returns-else-rank-gt0-clause-apart c h =
    let rs = c.args.ranges.now.items in
    let e : c.args.rank ≡ 0 = omega (arith, c.if-rank-gt0.false) in
    apart rs c.args.number c.args.rank c.requires.rank (none_before rs 0 c.args.number c.requires.spaced (subst (λ k. IsRank rs c.args.number k) e c.requires.rank))
