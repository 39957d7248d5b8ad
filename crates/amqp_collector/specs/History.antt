-- Part: other calls.
-- The history of a collector: the parts that came, with their payloads and what was answered, the oldest first, and
-- what holds of each (AMQP 1.0 part 2, section 2.6.14).
use Rattle.std.specs.Prelude.{ℕ, ◌≡◌, ◌≤◌, ◌++◌, length, true, false, List, [], ◌∷◌, Option, Some, None, Result, Ok}
use Rattle.std.specs.Prelude.{Err}
use Rattle.amqp_links.specs.amqp_credit.Chain.{Chain}
use Rattle.amqp_links.specs.amqp_credit.declared.part.Part.{Part}
use Rattle.amqp_links.specs.amqp_credit.declared.part.PartEnd.TheVariants.{More}
use Rattle.amqp_collector.specs.declared.collector.CollectError.{CollectError}
use Rattle.amqp_collector.specs.Collector.{Collects, CollectorView, new_collector}

-- A part came, with this payload, and this was answered.
pub data CollectorCall : Type 0 where
  Comes : Part → List ℕ → Result (Option (List ℕ)) CollectError → CollectorCall

abbrev pub CollectorStep : CollectorView → CollectorCall → CollectorView → Type 0
CollectorStep v (Comes p payload result) w = Collects v p payload result w

-- what holds of every history of every collector, by the bound that it was made for
abbrev pub OfCollectors : (ℕ → List CollectorCall → CollectorView → Type 0) → Type 0
OfCollectors P =
    (most : ℕ) (H : List CollectorCall) (v : CollectorView) → Chain CollectorStep (new_collector most) H v → P most H v

-- No more is held than the bound.
abbrev pub HeldWithin : ℕ → CollectorView → Type 0
HeldWithin most v = length v.held ≤ most

-- a part that goes on with its delivery, and of which more follows
abbrev pub GoesOn : CollectorCall → Type 0
GoesOn (Comes p payload result) = (p.is_first ≡ false) × (p.end ≡ More)

abbrev pub AllGoOn : List CollectorCall → Type 0
AllGoOn [] = Unit {0}
AllGoOn (c ∷ cs) = GoesOn c × AllGoOn cs

-- what a part adds: its payload, unless that was refused, as where memory was, and it was told again
abbrev pub added : CollectorCall → List ℕ
added (Comes p payload (Ok told)) = payload
added (Comes p payload (Err error)) = []

abbrev pub added_by : List CollectorCall → List ℕ
added_by [] = []
added_by (c ∷ cs) = added c ++ added_by cs

-- What is answered as a whole is the payload of its delivery's first part, and those of its later parts, in the order
-- in which they came.
abbrev pub WholeIsParts : List CollectorCall → Type 0
WholeIsParts H =
    (before mid after : List CollectorCall) (p q : Part) (a z whole : List ℕ)
    → H ≡ before ++ Comes p a (Ok None) ∷ (mid ++ Comes q z (Ok (Some whole)) ∷ after) → p.is_first ≡ true →
    p.end ≡ More → AllGoOn mid
    → q.is_first ≡ false → whole ≡ a ++ (added_by mid ++ z)
