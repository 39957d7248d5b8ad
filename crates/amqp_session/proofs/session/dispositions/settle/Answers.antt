use Rattle.std.proofs.Common.{◌≡◌, ◌≤◌, List, length, arith, ap, sym, subst, ◌∙◌, true}
use Rattle.amqp_session.specs.declared.deliveries.Delivery.{Delivery}
use Rattle.amqp_session.specs.declared.deliveries.WalkCount.{WalkCount}
use Rattle.amqp_session.specs.declared.session.range.SerialRange.{SerialRange}
use Rattle.amqp_session.specs.Deliveries.{cut}
use Rattle.amqp_session.specs.Disposing.{in_order}
use Rattle.amqp_session.specs.Inner.Walks.{turned, IsSplit, IsWalked}
use Rattle.amqp_session.proofs.ReadCountLemmas.{compared_rows, risen_by, since_is, stepped_rows}
use Rattle.amqp_session.proofs.WalkLemmas.{order_turned}
use Rattle.amqp_session.proofs.TableCutLemmas.{split_meant, split_cut, walked}
use Rattle.amqp_session.proofs.SortedTableLemmas.{few}
use Rattle.amqp_session.proofs.session.dispositions.settle.Goals as goal

pub tell-count-requires-clause-order : goal.tell-count-requires-clause-order
tell-count-requires-clause-order g c =
    let first : c.args.range.first ≡ c.args.disposition.now.first = ap (λ (y : SerialRange). y.first) c.requires.range in
    let same = compared_rows c.args.rows.now c.place_of-from.new.self c.place_of-from.ensures.cost.0 c.place_of-from.ensures.cost.1 in
    let order = subst (λ n. in_order n c.args.rows.now.rows ≡ turned c.place_of-from.result c.args.rows.now.rows) first
    (order_turned c.args.range.first c.args.rows.now.rows c.place_of-from.result c.place_of-from.ensures.within c.place_of-from.ensures.below c.place_of-from.ensures.above) in
    subst (λ (rows : List Delivery). in_order c.args.disposition.now.first rows ≡ turned c.place_of-from.result rows) (sym same) order

pub returns-clause-rows : goal.returns-clause-rows
returns-clause-rows g c =
    let same = compared_rows c.args.rows.now c.place_of-from.new.self c.place_of-from.ensures.cost.0 c.place_of-from.ensures.cost.1 in
    let e = c.tell-count.ensures in
    let stay = stepped_rows c.place_of-from.new.self c.tell-count.new.rows e.read.0 e.read.3 in
    let split = subst (λ (rows : List Delivery). IsSplit c.args.disposition.now (turned c.place_of-from.result rows) c.tell-count.result) same e.split in
    c.remove.ensures.rows ∙ ap (cut c.place_of-from.result c.tell-count.result) (stay ∙ same)
    ∙ split_cut c.args.disposition.now c.args.rows.now.rows c.place_of-from.result c.tell-count.result c.place_of-from.ensures.within split

pub returns-clause-asked : goal.returns-clause-asked
returns-clause-asked g c =
    let first : c.args.range.first ≡ c.args.disposition.now.first = ap (λ (y : SerialRange). y.first) c.requires.range in
    let same = compared_rows c.args.rows.now c.place_of-from.new.self c.place_of-from.ensures.cost.0 c.place_of-from.ensures.cost.1 in
    let order = subst (λ n. in_order n c.args.rows.now.rows ≡ turned c.place_of-from.result c.args.rows.now.rows) first
    (order_turned c.args.range.first c.args.rows.now.rows c.place_of-from.result c.place_of-from.ensures.within c.place_of-from.ensures.below c.place_of-from.ensures.above) in
    let split = subst (λ (rows : List Delivery). IsSplit c.args.disposition.now (turned c.place_of-from.result rows) c.tell-count.result) same c.tell-count.ensures.split in
    let are = split_meant c.args.disposition.now c.args.rows.now.rows c.place_of-from.result c.tell-count.result order split in
    let a = c.tell-count.ensures.asked in
    (a.0, rw (are, ← same) a.1)

pub returns-clause-walk : goal.returns-clause-walk
returns-clause-walk g c =
    let first : c.args.range.first ≡ c.args.disposition.now.first = ap (λ (y : SerialRange). y.first) c.requires.range in
    let p = c.place_of-from.ensures in
    let e = c.tell-count.ensures in
    let same = compared_rows c.args.rows.now c.place_of-from.new.self p.cost.0 p.cost.1 in
    let order = subst (λ n. in_order n c.args.rows.now.rows ≡ turned c.place_of-from.result c.args.rows.now.rows) first
    (order_turned c.args.range.first c.args.rows.now.rows c.place_of-from.result p.within p.below p.above) in
    let split = subst (λ (rows : List Delivery). IsSplit c.args.disposition.now (turned c.place_of-from.result rows) c.tell-count.result) same e.split in
    let within : c.tell-count.result ≤ length c.args.rows.now.rows = subst (λ (rows : List Delivery). c.tell-count.result ≤ length rows) same e.within in
    let little = few p.cost.0 (length c.args.rows.now.rows) (omega (arith, p.few)) p.cost.2 in
    let is = since_is c.since.result c.args.rows.now c.place_of-from.new.self c.tell-count.new.rows c.reads.result c.reads-before.result p.cost.0 e.read.0 c.since.ensures p.cost.1 e.read.3 c.reads.ensures c.reads-before.ensures (omega (arith, e.read.1, within, p.few)) (omega (arith, little)) in
    subst (λ (w : WalkCount). IsWalked c.args.disposition.now c.args.rows.now.rows w) (sym is)
    (walked c.args.disposition.now c.args.rows.now.rows c.place_of-from.result c.tell-count.result e.read.0 p.cost.0 p.within within order split e.read.1 e.read.2 p.cost.2)

pub returns-clause-reads : goal.returns-clause-reads
returns-clause-reads g c =
    let p = c.place_of-from.ensures in
    let e = c.tell-count.ensures in
    let same = compared_rows c.args.rows.now c.place_of-from.new.self p.cost.0 p.cost.1 in
    let within : c.tell-count.result ≤ length c.args.rows.now.rows = subst (λ (rows : List Delivery). c.tell-count.result ≤ length rows) same e.within in
    let little = few p.cost.0 (length c.args.rows.now.rows) (omega (arith, p.few)) p.cost.2 in
    let is = since_is c.since.result c.args.rows.now c.place_of-from.new.self c.tell-count.new.rows c.reads.result c.reads-before.result p.cost.0 e.read.0 c.since.ensures p.cost.1 e.read.3 c.reads.ensures c.reads-before.ensures (omega (arith, e.read.1, within, p.few)) (omega (arith, little)) in
    c.remove.ensures.reads ∙ risen_by c.since.result c.args.rows.now c.place_of-from.new.self c.tell-count.new.rows p.cost.0 e.read.0 is p.cost.1 e.read.3
