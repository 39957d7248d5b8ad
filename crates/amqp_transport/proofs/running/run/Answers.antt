use Rattle.std.proofs.Common.{◌≡◌, ◌-◌, ◌<◌, ◌^◌, length, arith, rules}
use Rattle.amqp_transport.proofs.RunLemmas.{none, fails, done, goes_on, gives_up}
use Rattle.amqp_transport.proofs.running.run.Goals as goal

pub loop-init : goal.loop-init
loop-init g c = record { so_far = none g.R.LinkRelay.gives c.law_of_histories.ensures c.law_of_views.ensures _ }

-- the writer failed
pub returns-in_err-attempt-clause-runs : goal.returns-in_err-attempt-clause-runs
returns-in_err-attempt-clause-runs g c =
    let few : length c.args.inputs.now.items < 2 ^ 64 = omega (arith, c.args.inputs.now.ok.0, c.args.inputs.now.small.0, c.args.inputs.now.small.1) in
    let at : c.saturating_sub-taken.result ≡ length c.args.inputs.now.items - length c.loop.inputs.items =
    omega (arith, c.saturating_sub-taken.ensures, c.len-total.ensures, c.len.ensures, c.args.inputs.now.ok.0, c.loop.inputs.ok.0) in
    fails g.R.LinkRelay.gives c.law_of_two_runs.ensures _ _ _ c.saturating_sub-taken.result _ c.from_residual.result c.loop.invariant.so_far c.in_err-attempt.ensures few at c.from_residual.ensures.0 (search rules)

pub returns-in_err-attempt-2-clause-runs : goal.returns-in_err-attempt-2-clause-runs
returns-in_err-attempt-2-clause-runs g c =
    let few : length c.args.inputs.now.items < 2 ^ 64 = omega (arith, c.args.inputs.now.ok.0, c.args.inputs.now.small.0, c.args.inputs.now.small.1) in
    let at : c.saturating_sub-taken-2.result ≡ length c.args.inputs.now.items - length c.loop.inputs.items =
    omega (arith, c.saturating_sub-taken-2.ensures, c.len-total.ensures, c.len-2.ensures, c.args.inputs.now.ok.0, c.loop.inputs.ok.0) in
    fails g.R.LinkRelay.gives c.law_of_two_runs.ensures _ _ _ c.saturating_sub-taken-2.result _ c.from_residual-in_err-attempt-2.result c.loop.invariant.so_far c.in_err-attempt-2.ensures few at
    c.from_residual-in_err-attempt-2.ensures.0 (search rules)

-- all is done
pub returns-then-branch-clause-runs : goal.returns-then-branch-clause-runs
returns-then-branch-clause-runs g c =
    let few : length c.args.inputs.now.items < 2 ^ 64 = omega (arith, c.args.inputs.now.ok.0, c.args.inputs.now.small.0, c.args.inputs.now.small.1) in
    let at : c.saturating_sub-taken.result ≡ length c.args.inputs.now.items - length c.loop.inputs.items =
    omega (arith, c.saturating_sub-taken.ensures, c.len-total.ensures, c.len.ensures, c.args.inputs.now.ok.0, c.loop.inputs.ok.0) in
    done g.R.LinkRelay.gives c.law_of_two_runs.ensures _ _ _ (g.O.Write.contents c.flush.new.output) c.saturating_sub-taken.result _ c.flush.result c.loop.invariant.so_far c.in_ok-attempt.ensures few at (search)
    c.flush.ensures.keeps c.flush.ensures.failed

pub returns-then-branch-2-clause-runs : goal.returns-then-branch-2-clause-runs
returns-then-branch-2-clause-runs g c =
    let few : length c.args.inputs.now.items < 2 ^ 64 = omega (arith, c.args.inputs.now.ok.0, c.args.inputs.now.small.0, c.args.inputs.now.small.1) in
    let at : c.saturating_sub-taken-2.result ≡ length c.args.inputs.now.items - length c.loop.inputs.items =
    omega (arith, c.saturating_sub-taken-2.ensures, c.len-total.ensures, c.len-2.ensures, c.args.inputs.now.ok.0, c.loop.inputs.ok.0) in
    done g.R.LinkRelay.gives c.law_of_two_runs.ensures _ _ _ (g.O.Write.contents c.flush-then-branch-2.new.output) c.saturating_sub-taken-2.result _ c.flush-then-branch-2.result c.loop.invariant.so_far
    c.in_ok-attempt-2.ensures few at (search) c.flush-then-branch-2.ensures.keeps c.flush-then-branch-2.ensures.failed

-- memory was refused
pub loop-preserved : goal.loop-preserved
loop-preserved g c =
    let few : length c.args.inputs.now.items < 2 ^ 64 = omega (arith, c.args.inputs.now.ok.0, c.args.inputs.now.small.0, c.args.inputs.now.small.1) in
    let at : c.saturating_sub-taken.result ≡ length c.args.inputs.now.items - length c.loop.inputs.items =
    omega (arith, c.saturating_sub-taken.ensures, c.len-total.ensures, c.len.ensures, c.args.inputs.now.ok.0, c.loop.inputs.ok.0) in
    record { so_far = goes_on g.R.LinkRelay.gives c.law_of_two_runs.ensures _ _ _ c.saturating_sub-taken.result _ c.loop.invariant.so_far c.in_ok-attempt.ensures few at (search) }

pub returns-clause-runs : goal.returns-clause-runs
returns-clause-runs g c =
    let few : length c.args.inputs.now.items < 2 ^ 64 = omega (arith, c.args.inputs.now.ok.0, c.args.inputs.now.small.0, c.args.inputs.now.small.1) in
    let at : c.saturating_sub-taken-2.result ≡ length c.args.inputs.now.items - length c.loop.inputs.items =
    omega (arith, c.saturating_sub-taken-2.ensures, c.len-total.ensures, c.len-2.ensures, c.args.inputs.now.ok.0, c.loop.inputs.ok.0) in
    gives_up g.R.LinkRelay.gives c.law_of_two_runs.ensures _ _ _ c.saturating_sub-taken-2.result _ c.from.result c.loop.invariant.so_far c.in_ok-attempt-2.ensures few at (search) (λ r. (c.from.ensures, r))
