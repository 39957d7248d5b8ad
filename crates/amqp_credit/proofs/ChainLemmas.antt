-- A call among others of a chain, and sums of serial numbers.
use Rattle.std.proofs.Common.{◌≡◌, ◌+◌, ◌^◌, ◌<◌, ◌||◌, ℕ, Bool, true, false, List, [], ◌∷◌, ◌++◌, refl, subst, arith}
use Rattle.std.proofs.Common.{sym, true≢false}
use Rattle.amqp_credit.specs.Serial.{advanced}
use Rattle.amqp_credit.specs.Chain.{Chain}

pub record Split {V C : Type 0} (Step : V → C → V → Type 0) (v : V) (before : List C) (c : C) (rest : List C)
    (w : V) : Type 0 where
  pub at : V
  pub reached : Chain Step v before at
  pub next : V
  pub step : Step at c next
  pub onward : Chain Step next rest w

pub split : {V C : Type 0} (Step : V → C → V → Type 0) (v w : V) (before rest : List C) (c : C) →
    Chain Step v (before ++ c ∷ rest) w → Split Step v before c rest w
split Step v w [] rest c h = record { at = v; reached = refl; next = h.0; step = h.1; onward = h.2 }
split Step v w (b ∷ before) rest c h =
    let s = split Step h.0 w before rest c h.2 in
    record { at = s.at; reached = (h.0, h.1, s.reached); next = s.next; step = s.step; onward = s.onward }

pub split_of : {V C : Type 0} (Step : V → C → V → Type 0) (v w : V) (H before rest : List C) (c : C) →
    Chain Step v H w → H ≡ before ++ c ∷ rest → Split Step v before c rest w
split_of Step v w H before rest c h e = split Step v w before rest c (subst (λ xs. Chain Step v xs w) e h)

pub joined : {V C : Type 0} (Step : V → C → V → Type 0) (v m w : V) (before after : List C) → Chain Step v before m →
    Chain Step m after w → Chain Step v (before ++ after) w
joined Step v m w [] after h k = subst (λ x. Chain Step x after w) h k
joined Step v m w (b ∷ before) after h k = (h.0, h.1, joined Step h.0 m w before after h.2 k)

-- what holds at first and is kept by each step holds at the end
pub kept : {V C : Type 0} (Step : V → C → V → Type 0) (P : V → Type 0) →
    ((v m : V) (c : C) → P v → Step v c m → P m) → (v w : V) (cs : List C) → P v → Chain Step v cs w → P w
kept Step P keeps v w [] p h = subst P (sym h) p
kept Step P keeps v w (c ∷ cs) p h = kept Step P keeps h.0 w cs (keeps v h.0 c p h.1) h.2

pub or_left : (a b : Bool) → (a || b) ≡ false → a ≡ false
or_left true b h = absurd (true≢false h)
or_left false b h = refl

pub or_right : (a b : Bool) → (a || b) ≡ false → b ≡ false
or_right true b h = absurd (true≢false h)
or_right false b h = h

pub advanced_small : (a n : ℕ) → advanced a n < 2 ^ 32
advanced_small a n = omega arith

pub advanced_none : (a : ℕ) → a < 2 ^ 32 → a ≡ advanced a 0
advanced_none a h = omega (arith, h)

pub advanced_twice : (a x y : ℕ) → advanced (advanced a x) y ≡ advanced a (x + y)
advanced_twice a x y = omega arith
