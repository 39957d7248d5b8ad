-- A call among others of a chain, and two chains in a row.
use Rattle.std.proofs.Common.{◌≡◌, List, [], ◌∷◌, ◌++◌, refl, subst}
use Rattle.amqp_unsettled.specs.Chain.{Chain}

module _ {V C : Type 0} (Step : V → C → V → Type 0) where
  pub record Cut (v : V) (before after : List C) (w : V) : Type 0 where
    pub at : V
    pub reached : Chain Step v before at
    pub onward : Chain Step at after w

  pub cut : (v w : V) (before after : List C) → Chain Step v (before ++ after) w → Cut v before after w
  cut v w [] after h = record { at = v; reached = refl; onward = h }
  cut v w (b ∷ before) after h =
      let c = cut h.0 w before after h.2 in
      record { at = c.at; reached = (h.0, h.1, c.reached); onward = c.onward }

  pub cut_of : (v w : V) (H before after : List C) → Chain Step v H w → H ≡ before ++ after → Cut v before after w
  cut_of v w H before after h e = cut v w before after (subst (λ xs. Chain Step v xs w) e h)

  pub joined : (v m w : V) (before after : List C) → Chain Step v before m → Chain Step m after w →
      Chain Step v (before ++ after) w
  joined v m w [] after h k = subst (λ x. Chain Step x after w) h k
  joined v m w (b ∷ before) after h k = (h.0, h.1, joined h.0 m w before after h.2 k)
