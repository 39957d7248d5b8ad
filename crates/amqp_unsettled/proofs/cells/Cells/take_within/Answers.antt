use Rattle.std.proofs.Common.{◌≡◌, ◌+◌, ◌∙◌, ap, sym, subst, arith, true, false}
use Rattle.std.proofs.Common.{Some}
use Rattle.std.proofs.lemmas.List.{length-drop}
use Rattle.amqp_unsettled.specs.Serial.{is_within}
use Rattle.amqp_unsettled.specs.Inner.Order.{NonePasses}
use Rattle.amqp_unsettled.specs.Inner.Rows.{IsReached, Takes, items_in, ranged, there, used}
use Rattle.amqp_unsettled.proofs.CellLemmas.{got, got_drop}
use Rattle.amqp_unsettled.proofs.AlikeLemmas.{alike_there, reached_length, reached_is, reached_gone, reached_at}
use Rattle.amqp_unsettled.proofs.AlikeLemmas.{reached_none}
use Rattle.amqp_unsettled.proofs.TakeLemmas.{at_taken, none_taken}
use Rattle.amqp_unsettled.proofs.cells.Cells.take_within.Goals as goal

pub returns-in_err-from-clause-takes : goal.returns-in_err-from-clause-takes
returns-in_err-from-clause-takes g c =
    let p = ranged g.T.Numbered.number_of c.args.first c.args.last in
    let none = subst (λ cs. NonePasses p (there cs)) c.in_use.ensures c.in_err-from.ensures in
    let r = none_taken p (there (used c.args.self.now)) none in
    (c.from_residual.ensures ∙ r.0, r.1)

pub index-requires : goal.index-requires
index-requires g c =
    let p = ranged g.T.Numbered.number_of c.args.first c.args.last in
    let s = c.in_ok-from.field-0 in
    let new = c.join.new.self in
    let r = subst (λ cs. IsReached p cs s) c.in_use.ensures c.in_ok-from.ensures in
    let l = length-drop new.head new.cells.items in
    let k = reached_length p (used c.args.self.now) (used new) s c.join.ensures.alike r in
    omega (arith, l, k)

pub returns-then-not-is_within-clause-takes : goal.returns-then-not-is_within-clause-takes
returns-then-not-is_within-clause-takes g c =
    let f = g.T.Numbered.number_of in
    let p = ranged f c.args.first c.args.last in
    let s = c.in_ok-from.field-0 in
    let old = used c.args.self.now in
    let new = c.join.new.self in
    let cell = c.index.result.now in
    let r = subst (λ cs. IsReached p cs s) c.in_use.ensures c.in_ok-from.ensures in
    let l = length-drop new.head new.cells.items in
    let k = reached_length p old (used new) s c.join.ensures.alike r in
    let here = got_drop new.head new.cells.items s.at
    ∙ got new.cells.items (new.head + s.at) cell (omega (arith, l, k)) c.index.ensures in
    let out : p cell.item ≡ false = ap (is_within c.args.first c.args.last) (sym c.number.ensures) ∙ sym
    c.is_within.ensures
    ∙ c.if-not-is_within.true in
    let none = none_taken p (there old) (reached_none p old (used new) s c.join.ensures.alike r cell here out) in
    (none.0, sym (alike_there old (used new) c.join.ensures.alike) ∙ none.1)

pub cut-requires-clause-within : goal.cut-requires-clause-within
cut-requires-clause-within g c =
    let p = ranged g.T.Numbered.number_of c.args.first c.args.last in
    let s = c.in_ok-from.field-0 in
    let r = subst (λ cs. IsReached p cs s) c.in_use.ensures c.in_ok-from.ensures in
    reached_length p (used c.args.self.now) (used c.join.new.self) s c.join.ensures.alike r

pub cut-requires-clause-is : goal.cut-requires-clause-is
cut-requires-clause-is g c =
    let p = ranged g.T.Numbered.number_of c.args.first c.args.last in
    let s = c.in_ok-from.field-0 in
    let r = subst (λ cs. IsReached p cs s) c.in_use.ensures c.in_ok-from.ensures in
    reached_is p (used c.args.self.now) (used c.join.new.self) s c.join.ensures.alike r

pub cut-requires-clause-gone : goal.cut-requires-clause-gone
cut-requires-clause-gone g c =
    let p = ranged g.T.Numbered.number_of c.args.first c.args.last in
    let s = c.in_ok-from.field-0 in
    let r = subst (λ cs. IsReached p cs s) c.in_use.ensures c.in_ok-from.ensures in
    reached_gone p (used c.args.self.now) (used c.join.new.self) s c.join.ensures.alike r

pub returns-clause-takes : goal.returns-clause-takes
returns-clause-takes g c =
    let f = g.T.Numbered.number_of in
    let p = ranged f c.args.first c.args.last in
    let s = c.in_ok-from.field-0 in
    let old = used c.args.self.now in
    let new = c.join.new.self in
    let cell = c.index.result.now in
    let r = subst (λ cs. IsReached p cs s) c.in_use.ensures c.in_ok-from.ensures in
    let l = length-drop new.head new.cells.items in
    let k = reached_length p old (used new) s c.join.ensures.alike r in
    let here = got_drop new.head new.cells.items s.at
    ∙ got new.cells.items (new.head + s.at) cell (omega (arith, l, k)) c.index.ensures in
    let within : p cell.item ≡ true = ap (is_within c.args.first c.args.last) (sym c.number.ensures) ∙ sym
    c.is_within.ensures
    ∙ c.if-not-is_within.false in
    let is = reached_at p old (used new) s c.join.ensures.alike r cell here within in
    let same = sym (alike_there old (used new) c.join.ensures.alike) in
    let takes = at_taken p (used new) s.at is c.cut.result c.cut.ensures.item _ c.cut.ensures.left in
    subst (λ xs. Takes p xs (Some c.cut.result) (items_in c.cut.new.self)) same takes
