use Rattle.std.proofs.Common.{rules, ◌≡◌, ◌<◌, ◌≤◌, ◌++◌, ℕ, List, Option, arith, length, ap, ◌∙◌, map, drop, slice_set, vec_len, append-nil}
use Rattle.std.proofs.lemmas.List.{take_all, drop_all}
use Rattle.std.proofs.lemmas.List.Edits.{map_over_more}
use Rattle.amqp_types.specs.Disposition.{DispositionModel}
use Rattle.amqp_session.proofs.GrowingRunLemmas.{stated}
use Rattle.amqp_session.proofs.session.runs.with_state.Goals as goal

abbrev with_this : Option (List ℕ) → DispositionModel → DispositionModel
with_this s d = record d { state = s }

pub loop-i-preserved : goal.loop-i-preserved
loop-i-preserved c =
    let i = c.behind-said.inside in
    let vec : vec_len c.args.echoes ≡ length c.args.echoes.items = search rules in
    let lt : c.loop-i.i < length c.args.echoes.items = omega (arith, vec, c.len-i-end.ensures) in
    let put = ap (λ (s : Option (List ℕ)). let y : DispositionModel = record { role = i.role; first = i.first; last = i.last; settled = i.settled; state = s; batchable = i.batchable } in y) c.in_ok-said.ensures.cut in
    let is = ap (with_this c.args.state.now) c.behind-said.view_is in
    record {
      items = ap (slice_set c.loop-i.said.items c.loop-i.i) (put ∙ is)
          ∙ map_over_more (with_this c.args.state.now) c.args.echoes.items c.loop-i.said.items c.loop-i.i c.index_mut.result.now lt c.loop-i.invariant.items c.index_mut.ensures.value;
    }

pub returns-clause-echoes : goal.returns-clause-echoes
returns-clause-echoes c = λ runs e.
    let xs = c.args.echoes.items in
    let vec : vec_len c.args.echoes ≡ length xs = search rules in
    let end : length xs ≤ c.loop-i.i = omega (arith, vec, c.len-i-end.ensures, c.loop-i.auto.i-end) in
    c.loop-i.invariant.items
    ∙ ap (λ (ys : List DispositionModel). map (with_this c.args.state.now) ys ++ drop c.loop-i.i xs) (take_all c.loop-i.i xs end)
    ∙ ap (λ (ys : List DispositionModel). map (with_this c.args.state.now) xs ++ ys) (drop_all c.loop-i.i xs end)
    ∙ append-nil (map (with_this c.args.state.now) xs)
    ∙ ap (map (with_this c.args.state.now)) e ∙ stated c.args.state.now runs
