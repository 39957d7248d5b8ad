-- Part: other calls.
-- The history of the parts that came over one link: each with its answer, the oldest first, and what they say.
use Rattle.std.specs.Prelude.{ℕ, ◌+◌, ◌≡◌, ◌||◌, Bool, true, false, List, [], ◌∷◌, ◌++◌, Option, Result, Ok, Err}
use Rattle.amqp_credit.specs.declared.part.PartHead.{PartHead}
use Rattle.amqp_credit.specs.declared.part.PartEnd.{PartEnd}
use Rattle.amqp_credit.specs.declared.part.PartEnd.TheVariants.{More, Last, Aborted}
use Rattle.amqp_credit.specs.declared.part.Part.{Part}
use Rattle.amqp_credit.specs.declared.part.PartError.{PartError}
use Rattle.amqp_credit.specs.Chain.{Chain}
use Rattle.amqp_credit.specs.Assembly.{AssemblyView, new_assembly, PartStep, bytes_of, settles, number_in}

-- One part and its answer, or the question what is under way.
pub data AssemblyCall : Type 0 where
  Comes : PartHead → Result Part PartError → AssemblyCall
  AsksNumber : Option ℕ → AssemblyCall

-- the assembly goes from one view to the other by this call
abbrev pub AssemblyStep : AssemblyView → AssemblyCall → AssemblyView → Type 0
AssemblyStep v (Comes head answer) w = PartStep v head answer w
AssemblyStep v (AsksNumber answer) w = (answer ≡ number_in v.current) × (w ≡ v)

-- what holds of every history of every link, with its limit for the size of a delivery
abbrev pub OfAssemblies : (Option ℕ → List AssemblyCall → Type 0) → Type 0
OfAssemblies P = (limit : Option ℕ) (H : List AssemblyCall) (v : AssemblyView) →
    Chain AssemblyStep (new_assembly limit) H v → P limit H

-- what is left of the parts of a delivery after its last one, and after one that is not
abbrev pub unless_ended : PartEnd → List PartHead → List PartHead
unless_ended More parts = parts
unless_ended Last parts = []
unless_ended Aborted parts = []

-- The parts of the delivery that is under way, after a call and after these calls: those that were accepted since the
-- last delivery ended.
abbrev pub parts_after : List PartHead → AssemblyCall → List PartHead
parts_after parts (Comes head (Ok part)) = unless_ended part.end (parts ++ head ∷ [])
parts_after parts (Comes head (Err error)) = parts
parts_after parts (AsksNumber answer) = parts

abbrev pub parts_by : List PartHead → List AssemblyCall → List PartHead
parts_by parts [] = parts
parts_by parts (c ∷ cs) = parts_by (parts_after parts c) cs

-- the bytes of these parts
abbrev pub total : List PartHead → ℕ
total [] = 0
total (head ∷ heads) = bytes_of head + total heads

-- one of these parts settles the delivery, or aborts it
abbrev pub is_settled_by : List PartHead → Bool
is_settled_by [] = false
is_settled_by (head ∷ heads) = settles head || is_settled_by heads

-- a part that is accepted
abbrev pub is_accepted : AssemblyCall → Bool
is_accepted (Comes head (Ok part)) = true
is_accepted c = false

abbrev pub has_accepted : List AssemblyCall → Bool
has_accepted [] = false
has_accepted (c ∷ cs) = is_accepted c || has_accepted cs
