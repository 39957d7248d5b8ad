use Rattle.std.proofs.Common.{◌≡◌, Bool, true, false, Some, None, cond, is_some, refl, ap, sym, ◌∙◌}
use Rattle.std.specs.FinMap.{get}
use Rattle.amqp_numbers.specs.Ranges.{Numbers, is_held}
use Rattle.amqp_numbers.proofs.NumberLemmas.{get_numbers}
use Rattle.amqp_numbers.proofs.set.NumberSet.contains.Goals as goal

told : (b : Bool) → b ≡ is_some (cond b (Some true) None)
told true = refl
told false = refl

pub returns : goal.returns
returns c =
    let rs = c.self.inside.ranges.items in
    let n = c.args.number in
    c.is_in_range_before.ensures.held ∙ told (is_held n rs) ∙ ap is_some (sym (get_numbers rs n)) ∙ ap (λ (m : Numbers). is_some (get m n)) c.self.view_is
