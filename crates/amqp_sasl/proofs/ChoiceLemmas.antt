-- The first login that is offered, found one by one.
use Rattle.std.proofs.Common.{◌≡◌, ◌+◌, ℕ, true, false, cond, List, [], ◌∷◌, Option, Some, None, refl, ap, ◌∙◌, arith}
use Rattle.std.specs.Option.{option_map}
use Rattle.amqp_sasl.specs.declared.opening.Login.{Login}
use Rattle.amqp_sasl.specs.SaslFrame.{has_name}
use Rattle.amqp_sasl.specs.Opening.{choose, next_login}

-- a login that was found so far behind
abbrev pub shifted : ℕ → Option (ℕ × Login) → Option (ℕ × Login)
shifted n found = option_map (λ x. (n + x.0, x.1)) found

shifted_next : (n : ℕ) (found : Option (ℕ × Login)) → shifted n (next_login found) ≡ shifted (n + 1) found
shifted_next n None = refl
shifted_next n (Some x) = ap (λ m. Some (m, x.1)) (omega arith)

pub shifted_none : (found : Option (ℕ × Login)) → found ≡ shifted 0 found
shifted_none None = refl
shifted_none (Some x) = ap (λ m. Some (m, x.1)) (omega arith)

pub choice_more : (n : ℕ) (logins rest : List Login) (login : Login) (names : List (List ℕ)) (total : Option (ℕ × Login)) → logins ≡ login ∷ rest → has_name login.mechanism names ≡ false
    → total ≡ shifted n (choose logins names) → total ≡ shifted (n + 1) (choose rest names)
choice_more n logins rest login names total e absent so_far =
    so_far ∙ ap (λ (ls : List Login). shifted n (choose ls names)) e ∙ ap (λ b. shifted n (cond b (Some (0, login)) (next_login (choose rest names)))) absent ∙ shifted_next n (choose rest names)

pub choice_found : (n : ℕ) (logins rest : List Login) (login : Login) (names : List (List ℕ)) (total : Option (ℕ × Login)) → logins ≡ login ∷ rest → has_name login.mechanism names ≡ true
    → total ≡ shifted n (choose logins names) → total ≡ Some (n, login)
choice_found n logins rest login names total e there so_far =
    so_far ∙ ap (λ (ls : List Login). shifted n (choose ls names)) e ∙ ap (λ b. shifted n (cond b (Some (0, login)) (next_login (choose rest names)))) there ∙ ap (λ m. Some (m, login)) (omega arith)

pub choice_done : (n : ℕ) (logins : List Login) (names : List (List ℕ)) (total : Option (ℕ × Login)) → logins ≡ [] → total ≡ shifted n (choose logins names) → total ≡ None
choice_done n logins names total e so_far = so_far ∙ ap (λ (ls : List Login). shifted n (choose ls names)) e
