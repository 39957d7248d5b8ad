-- Part: other calls; inner.
-- Payloads of deliveries that come in parts, put together up to a bound (AMQP 1.0 part 2, section 2.6.14).
use Rattle.std.specs.Prelude.{ℕ, ◌+◌, ◌≡◌, ◌++◌, nat_le, length, Bool, true, false, List, [], Option, Some, None}
use Rattle.std.specs.Prelude.{Result, Ok, Err}
use Rattle.amqp_memory.specs.Refusal.{SomeRefused}
use Rattle.amqp_links.specs.amqp_credit.declared.part.Part.{Part}
use Rattle.amqp_links.specs.amqp_credit.declared.part.PartEnd.{PartEnd}
use Rattle.amqp_links.specs.amqp_credit.declared.part.PartEnd.TheVariants.{More, Last, Aborted}
use Rattle.amqp_collector.specs.declared.collector.CollectError.{CollectError}
use Rattle.amqp_collector.specs.declared.collector.CollectError.TheVariants.{OutOfMemory, TooLarge}

-- How many bytes are held at most; those that are held of the delivery under way; and whether an earlier part of it was
-- too much.
pub record CollectorView : Type 0 where
  pub most : ℕ
  pub held : List ℕ
  pub lost : Bool

abbrev pub new_collector : ℕ → CollectorView
new_collector most = record { most = most; held = []; lost = false }

-- nothing is held
abbrev pub begun : CollectorView → CollectorView
begun v = record v { held = []; lost = false }

-- and the rest of the delivery is passed over
abbrev pub without : CollectorView → CollectorView
without v = record v { held = []; lost = true }

abbrev pub Appends : {E : Type 0} → CollectorView → List ℕ → Result (Unit {0}) E → CollectorView → Type 0
Appends v payload (Ok done) w = w ≡ record v { held = v.held ++ payload }
Appends v payload (Err refused) w = (w ≡ v) × SomeRefused

-- ---- a part of which more follows

-- It is held, where that is not too much, and memory was there.
abbrev pub KeepsIf : Bool → CollectorView → List ℕ → Result (Option (List ℕ)) CollectError → CollectorView → Type 0
KeepsIf true v payload (Ok None) w = w ≡ record v { held = v.held ++ payload }
KeepsIf true v payload (Err OutOfMemory) w = (w ≡ v) × SomeRefused
KeepsIf true v payload result w = ⊥
KeepsIf false v payload result w = (result ≡ Err TooLarge) × (w ≡ without v)

abbrev pub KeepsUnless : Bool → CollectorView → List ℕ → Result (Option (List ℕ)) CollectError → CollectorView → Type 0
KeepsUnless true v payload result w = (result ≡ Ok None) × (w ≡ v)
KeepsUnless false v payload result w = KeepsIf (nat_le (length v.held + length payload) v.most) v payload result w

abbrev pub Keeps : CollectorView → List ℕ → Result (Option (List ℕ)) CollectError → CollectorView → Type 0
Keeps v payload result w = KeepsUnless v.lost v payload result w

-- ---- the last part

-- The whole is answered, in order, where that is not too much, and memory was there; nothing is held then.
abbrev pub EndsIf : Bool → CollectorView → List ℕ → Result (Option (List ℕ)) CollectError → CollectorView → Type 0
EndsIf true v payload (Ok (Some whole)) w = (whole ≡ v.held ++ payload) × (w ≡ begun v)
EndsIf true v payload (Err OutOfMemory) w = (w ≡ v) × SomeRefused
EndsIf true v payload result w = ⊥
EndsIf false v payload result w = (result ≡ Err TooLarge) × (w ≡ begun v)

abbrev pub EndsUnless : Bool → CollectorView → List ℕ → Result (Option (List ℕ)) CollectError → CollectorView → Type 0
EndsUnless true v payload result w = (result ≡ Ok None) × (w ≡ begun v)
EndsUnless false v payload result w = EndsIf (nat_le (length v.held + length payload) v.most) v payload result w

abbrev pub Ends : CollectorView → List ℕ → Result (Option (List ℕ)) CollectError → CollectorView → Type 0
Ends v payload result w = EndsUnless v.lost v payload result w

-- ---- any part

abbrev pub CollectsBy : PartEnd → CollectorView → List ℕ → Result (Option (List ℕ)) CollectError → CollectorView →
    Type 0
CollectsBy More v payload result w = Keeps v payload result w
CollectsBy Last v payload result w = Ends v payload result w
CollectsBy Aborted v payload result w = (result ≡ Ok None) × (w ≡ begun v)

-- what is held before a part counts: nothing, where it begins a delivery
abbrev pub before : Bool → CollectorView → CollectorView
before true v = begun v
before false v = v

abbrev pub Collects : CollectorView → Part → List ℕ → Result (Option (List ℕ)) CollectError → CollectorView → Type 0
Collects v p payload result w = CollectsBy p.end (before p.is_first v) payload result w
