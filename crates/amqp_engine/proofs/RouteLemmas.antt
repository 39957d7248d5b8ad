-- The session of a route.
use Rattle.std.proofs.Common.{◌≡◌, ℕ, Option, Some, None, refl, sym, ◌∙◌}
use Rattle.std.specs.Option.{option_map}
use Rattle.amqp_connection.specs.declared.numbers.SessionNo.{SessionNo}

-- the session that a channel leads to
abbrev routed : Option ℕ → Option SessionNo
routed found = option_map (λ n. record { 0 = n }) found

number_found : (found : Option ℕ) (number : SessionNo) → routed found ≡ Some number → found ≡ Some number.0
number_found None number e = absurd cc
number_found (Some n) number e = cc

none_found : (found : Option ℕ) → routed found ≡ None → found ≡ None
none_found None e = refl
none_found (Some n) e = absurd cc

pub route_found : (found : Option ℕ) (asked : Option SessionNo) (number : SessionNo) → asked ≡ option_map (λ n. record { 0 = n }) found →
    asked ≡ Some number → found ≡ Some number.0
route_found found asked number is e = number_found found number (sym is ∙ e)

pub route_missing : (found : Option ℕ) (asked : Option SessionNo) → asked ≡ option_map (λ n. record { 0 = n }) found → asked ≡ None → found ≡ None
route_missing found asked is e = none_found found (sym is ∙ e)
