use Rattle.std.proofs.Common.{refl, ◌∙◌, sym}
use Rattle.amqp_session.proofs.EntryAtIndexLemmas.{written_first, value_first}
use Rattle.amqp_session.proofs.keys.get_mut.Goals as goal

pub returns-then-eq : goal.returns-then-eq
returns-then-eq g c =
    let found = c.in-Some.found.now in
    let value = c.in-Some.field-0-1.now in
    let entry = sym c.in-Some.ensures.entry in
    let same = sym c.eq.ensures ∙ c.if-eq.true in
    let unique = c.get_index_mut.ensures.unique in
    let es = c.args.map.now.entries in (
      (refl, λ w. written_first g.met.K.Eq.laws c.args.key.now es c.args.hint found value w unique entry same, refl),
      record { writes_back = tt; value = c.get_index_mut.ensures.value ∙ value_first g.met.K.Eq.laws c.args.key.now es c.args.hint found value unique entry same },
    )

pub returns : goal.returns
returns g c = ((refl, λ w. (c.get_mut.follows.holds w).0, c.get_mut.follows.holds-at-none), record { writes_back = tt; value = c.get_mut.ensures.value })
