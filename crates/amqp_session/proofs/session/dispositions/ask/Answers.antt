use Rattle.std.proofs.Common.{None, Option, Some, ◌/◌, ◌≡◌, ◌≤◌, ◌+◌, min, vec_capacity, List, [], length, arith, sym, IsSome, refl, ap, subst, ◌∙◌, Result, Ok, Err, IfOk, OnErr, map}
use Rattle.std.proofs.lemmas.List.{length-map}
use Rattle.std.specs.Option.{option_map}
use Rattle.std.specs.Result.{result_map_both}
use Rattle.std.specs.declared.vec.Vec.{Vec}
use Rattle.std.specs.declared.alloc.Global.{Global}
use Rattle.amqp_memory.specs.Refusal.{SomeRefused}
use Rattle.amqp_types.specs.Disposition.{DispositionModel}
use Rattle.amqp_session.specs.declared.deliveries.Delivery.{Delivery}
use Rattle.amqp_session.specs.declared.deliveries.WalkCount.{WalkCount}
use Rattle.amqp_session.specs.declared.error.SessionInnerError.{SessionInnerError}
use Rattle.amqp_session.specs.declared.error.SessionInnerError.TheVariants as Refused
use Rattle.amqp_session.specs.declared.session.range.SerialRange.{SerialRange}
use Rattle.amqp_session.specs.Relay.{DispositionQuestion}
use Rattle.amqp_session.specs.Disposing.{in_order, meant, span, AreRuns, AsksEach, Echoes, SaysStateAgain, agreed, echo_of}
use Rattle.amqp_session.specs.Inner.Walks.{turned, noted, AreAnswered, IsSplit, IsWalked}
use Rattle.amqp_session.proofs.ReadCountLemmas.{compared_rows, risen_by, since_is, stepped_rows}
use Rattle.amqp_session.proofs.SortedTableLemmas.{few}
use Rattle.amqp_session.proofs.WalkLemmas.{order_turned}
use Rattle.amqp_session.proofs.GrowingRunLemmas.{some_number}
use Rattle.amqp_session.proofs.TableCutLemmas.{split_meant, some_asked, walked}
use Rattle.amqp_session.proofs.session.dispositions.ask.Goals as goal

if_ok : {X E : Type 0} {P Q : X → Type 0} → (r : Result X E) → ((x : X) → P x → Q x) → IfOk r P → IfOk r Q
if_ok (Ok x) f h = f x h
if_ok (Err e) f h = tt

on_err : {X E P Q : Type 0} → (r : Result X E) → (P → Q) → OnErr r P → OnErr r Q
on_err (Ok x) f h = tt
on_err (Err e) f h = f h

answered : {R : Type 0} (d : DispositionModel) (rows : List Delivery) (asked : List (DispositionQuestion R)) {E : Type 0} (r : Result (Vec DispositionModel Global) E)
    (x : Result (Option (Vec DispositionModel Global)) SessionInnerError) → IfOk r (λ v. x ≡ Ok (Some v)) → OnErr r (x ≡ Err Refused.OutOfMemory)
    → IfOk r (λ v. Echoes d (agreed asked) v.items) → OnErr r (SaysStateAgain d asked × ¬ (rows ≡ []) × SomeRefused)
    → AreAnswered d rows asked (result_map_both (option_map (λ v. v.items)) (λ e. e) x)
answered d rows asked (Ok v) x a b c e = subst (λ y. AreAnswered d rows asked (result_map_both (option_map (λ v. v.items)) (λ e. e) y)) (sym a) c
answered d rows asked (Err z) x a b c e = subst (λ y. AreAnswered d rows asked (result_map_both (option_map (λ v. v.items)) (λ e. e) y)) (sym b) e

pub ask_each-requires-clause-order : goal.ask_each-requires-clause-order
ask_each-requires-clause-order g c =
    let first : c.args.range.first ≡ c.args.disposition.now.first = ap (λ (y : SerialRange). y.first) c.requires.range in
    let same = compared_rows c.args.rows.now c.place_of-from.new.self c.place_of-from.ensures.cost.0 c.place_of-from.ensures.cost.1 in
    let order = subst (λ n. in_order n c.args.rows.now.rows ≡ turned c.place_of-from.result c.args.rows.now.rows) first
    (order_turned c.args.range.first c.args.rows.now.rows c.place_of-from.result c.place_of-from.ensures.within c.place_of-from.ensures.below c.place_of-from.ensures.above) in
    subst (λ (rows : List Delivery). in_order c.args.disposition.now.first rows ≡ turned c.place_of-from.result rows) (sym same) order

pub ask_each-requires-clause-room : goal.ask_each-requires-clause-room
ask_each-requires-clause-room g c = λ settled.
    let same = compared_rows c.args.rows.now c.place_of-from.new.self c.place_of-from.ensures.cost.0 c.place_of-from.ensures.cost.1 in
    let size : c.args.range.span ≡ span c.args.disposition.now.first c.args.disposition.now.last = ap (λ (y : SerialRange). y.span) c.requires.range in
    let room : min (length c.args.rows.now.rows) (span c.args.disposition.now.first c.args.disposition.now.last / 2 + 1) ≤ vec_capacity c.in-Ok.room = omega (arith, size, c.len.ensures.len, c.most_runs.ensures, c.min-most.ensures, c.in-Ok.ensures.exact) in
    subst (λ (rows : List Delivery). min (length rows) (span c.args.disposition.now.first c.args.disposition.now.last / 2 + 1) ≤ vec_capacity c.in-Ok.room) (sym same) room

pub returns-clause-asked : goal.returns-clause-asked
returns-clause-asked g c =
    let first : c.args.range.first ≡ c.args.disposition.now.first = ap (λ (y : SerialRange). y.first) c.requires.range in
    let same = compared_rows c.args.rows.now c.place_of-from.new.self c.place_of-from.ensures.cost.0 c.place_of-from.ensures.cost.1 in
    let order = subst (λ n. in_order n c.args.rows.now.rows ≡ turned c.place_of-from.result c.args.rows.now.rows) first
    (order_turned c.args.range.first c.args.rows.now.rows c.place_of-from.result c.place_of-from.ensures.within c.place_of-from.ensures.below c.place_of-from.ensures.above) in
    let split = subst (λ (rows : List Delivery). IsSplit c.args.disposition.now (turned c.place_of-from.result rows) c.ask_each.result) same c.ask_each.ensures.split in
    let are = split_meant c.args.disposition.now c.args.rows.now.rows c.place_of-from.result c.ask_each.result order split in
    let a = c.ask_each.ensures.asked in
    let runs = subst (λ b. AreRuns c.args.disposition.now.first (noted b a.0) a.2) c.requires.settled a.3 in
    let state = ap (λ (y : DispositionModel). y.state) c.disposition.view_is in
    let some = some_number c.args.disposition.now.first (agreed a.0) a.2 runs in
    let len = ap length a.4 ∙ length-map a.2 (echo_of None) in
    let asks : AsksEach g.R.LinkRelay.gives.disposition_gives c.args.disposition.now (meant c.args.disposition.now c.args.rows.now.rows) a.0 c.args.links.now c.ask_each.new.links = rw (are, ← same) a.1 in (
      a.0,
      asks,
      answered c.args.disposition.now c.args.rows.now.rows a.0 c.with_state.result c.answer_of.result c.answer_of.ensures.ok c.answer_of.ensures.err
          (if_ok c.with_state.result (λ echoes e. record { runs = a.2; are_runs = runs; are_said = e a.2 a.4 ∙ ap (λ s. map (echo_of s) a.2) state }) c.with_state.ensures.echoes)
          (on_err c.with_state.result (λ e. (
            (subst IsSome state e.0, some (omega (arith, len, e.1))),
            some_asked g.R.LinkRelay.gives.disposition_gives c.args.disposition.now c.args.rows.now.rows a.0 c.args.links.now c.ask_each.new.links asks (some (omega (arith, len, e.1))),
            e.2,
          )) c.with_state.ensures.refused),
    )

pub returns-clause-rows : goal.returns-clause-rows
returns-clause-rows g c =
    let same = compared_rows c.args.rows.now c.place_of-from.new.self c.place_of-from.ensures.cost.0 c.place_of-from.ensures.cost.1 in
    let e = c.ask_each.ensures in
    stepped_rows c.place_of-from.new.self c.ask_each.new.rows e.read.0 e.read.3 ∙ same

pub returns-clause-walk : goal.returns-clause-walk
returns-clause-walk g c =
    let first : c.args.range.first ≡ c.args.disposition.now.first = ap (λ (y : SerialRange). y.first) c.requires.range in
    let p = c.place_of-from.ensures in
    let e = c.ask_each.ensures in
    let same = compared_rows c.args.rows.now c.place_of-from.new.self p.cost.0 p.cost.1 in
    let order = subst (λ n. in_order n c.args.rows.now.rows ≡ turned c.place_of-from.result c.args.rows.now.rows) first
    (order_turned c.args.range.first c.args.rows.now.rows c.place_of-from.result p.within p.below p.above) in
    let split = subst (λ (rows : List Delivery). IsSplit c.args.disposition.now (turned c.place_of-from.result rows) c.ask_each.result) same e.split in
    let within : c.ask_each.result ≤ length c.args.rows.now.rows = subst (λ (rows : List Delivery). c.ask_each.result ≤ length rows) same e.within in
    let little = few p.cost.0 (length c.args.rows.now.rows) (omega (arith, p.few)) p.cost.2 in
    let is = since_is c.since.result c.args.rows.now c.place_of-from.new.self c.ask_each.new.rows c.reads.result c.reads-before.result p.cost.0 e.read.0 c.since.ensures p.cost.1 e.read.3 c.reads.ensures c.reads-before.ensures (omega (arith, e.read.1, within, p.few)) (omega (arith, little)) in
    subst (λ (w : WalkCount). IsWalked c.args.disposition.now c.args.rows.now.rows w) (sym is)
    (walked c.args.disposition.now c.args.rows.now.rows c.place_of-from.result c.ask_each.result e.read.0 p.cost.0 p.within within order split e.read.1 e.read.2 p.cost.2)

pub returns-clause-reads : goal.returns-clause-reads
returns-clause-reads g c =
    let p = c.place_of-from.ensures in
    let e = c.ask_each.ensures in
    let same = compared_rows c.args.rows.now c.place_of-from.new.self p.cost.0 p.cost.1 in
    let within : c.ask_each.result ≤ length c.args.rows.now.rows = subst (λ (rows : List Delivery). c.ask_each.result ≤ length rows) same e.within in
    let little = few p.cost.0 (length c.args.rows.now.rows) (omega (arith, p.few)) p.cost.2 in
    let is = since_is c.since.result c.args.rows.now c.place_of-from.new.self c.ask_each.new.rows c.reads.result c.reads-before.result p.cost.0 e.read.0 c.since.ensures p.cost.1 e.read.3 c.reads.ensures c.reads-before.ensures (omega (arith, e.read.1, within, p.few)) (omega (arith, little)) in
    risen_by c.since.result c.args.rows.now c.place_of-from.new.self c.ask_each.new.rows p.cost.0 e.read.0 is p.cost.1 e.read.3
