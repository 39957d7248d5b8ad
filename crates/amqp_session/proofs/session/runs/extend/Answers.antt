use Rattle.std.proofs.Common.{rules, ◌≡◌, ◌-◌, ℕ, List, suc, arith, cond, vec_len, length, ap, sym, ◌∙◌, ◌++◌, ◌∷◌, [], None, map, slice_index_or, slice_set}
use Rattle.std.proofs.lemmas.List.{length-map}
use Rattle.amqp_types.specs.Disposition.{DispositionModel}
use Rattle.amqp_session.specs.Runs.{DeliveryRange, longer}
use Rattle.amqp_session.specs.Disposing.{echo_of}
use Rattle.amqp_session.proofs.GrowingRunLemmas.{last_longer, has_last, one_after}
use Rattle.amqp_session.proofs.session.runs.extend.Goals as goal

pub returns-then-goes_on-clause-items : goal.returns-then-goes_on-clause-items
returns-then-goes_on-clause-items c = λ runs e.
    let items = c.args.echoes.now.items in
    let n : ℕ = c.args.number in
    let k : ℕ = c.len-last.result - 1 in
    let x : DispositionModel = c.index.result.now in
    let goes = c.if-goes_on.ensures runs (c.deref.ensures.value ∙ e) in
    let some = has_last runs n goes in
    let vec : vec_len c.args.echoes.now ≡ length items = search rules in
    let len : length runs ≡ suc k = omega (arith, vec, some, c.len-last.ensures, ap length e, length-map runs (echo_of None)) in
    let at : x ≡ slice_index_or (map (echo_of None) runs) k x = c.index.ensures ∙ ap (λ (xs : List DispositionModel). slice_index_or xs k x) e in
    let first = ap (λ (y : DispositionModel). y.first) c.behind-echoes.view_is in
    let own : DeliveryRange = record { first = n; last = n } in
    ap (slice_set items k) (c.echo.ensures ∙ ap (λ (f : ℕ). echo_of None (record { first = f; last = n })) first)
    ∙ ap (λ (xs : List DispositionModel). slice_set xs k (echo_of None (record { first = x.first; last = n }))) e
    ∙ sym (last_longer runs n k x len at)
    ∙ ap (λ b. map (echo_of None) (cond b (longer n runs) (runs ++ own ∷ []))) goes

pub returns-else-goes_on-clause-items : goal.returns-else-goes_on-clause-items
returns-else-goes_on-clause-items c = λ runs e.
    let own : DeliveryRange = record { first = c.args.number; last = c.args.number } in
    c.push_reserved.ensures.items ∙ ap (λ (y : DispositionModel). c.args.echoes.now.items ++ y ∷ []) c.echo-else-goes_on.ensures
    ∙ ap (λ (xs : List DispositionModel). xs ++ echo_of None own ∷ []) e
    ∙ sym (one_after runs c.args.number (sym (c.if-goes_on.ensures runs (c.deref.ensures.value ∙ e))))
