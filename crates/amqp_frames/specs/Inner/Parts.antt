-- Part: inner.
-- What the steps of splitting a delivery make.
use Rattle.std.specs.Prelude.{◌≡◌, ◌≤◌, ◌+◌, ℕ, List, [], ◌∷◌, ◌++◌, length, map, All, true}
use Rattle.amqp_values.specs.Reading.{joined}
use Rattle.amqp_types.specs.declared.performatives.transfer.TransferFragment.TheVariants as text
use Rattle.amqp_types.specs.Transfer.{TransferModel, said_in}
use Rattle.amqp_frames.specs.declared.split.DeliveryPart.{DeliveryPart}
use Rattle.amqp_frames.specs.Split.{IsLater, part_payload}

-- parts of this transfer were added, each with so many bytes off the front of what was left
pub record AddsParts (t : TransferModel) (step : ℕ) (old new : List DeliveryPart) (before after : List ℕ) (taken : ℕ) : Type 0 where
  pub middle : List DeliveryPart
  pub added : new ≡ old ++ middle
  pub are : All (IsLater t) middle
  pub full : All (λ p. length p.payload ≡ step) middle
  pub parts : before ≡ joined (map part_payload middle) ++ after
  pub left : length after + taken ≡ length before

-- a payload in parts: so much in the first, so much in each one in the middle, and the rest in the last
pub record TakesParts (t : TransferModel) (payload : List ℕ) (front step : ℕ) (parts : List DeliveryPart) : Type 0 where
  pub first : DeliveryPart
  pub middle : List DeliveryPart
  pub last : DeliveryPart
  pub parts_are : parts ≡ first ∷ middle ++ last ∷ []
  pub first_is : (first.is_first ≡ true) × (first.transfer ≡ said_in text.First t)
  pub middle_are : All (IsLater (said_in text.Middle t)) middle
  pub last_is : IsLater (said_in text.Last t) last
  pub first_front : length first.payload ≡ front
  pub middle_step : All (λ p. length p.payload ≡ step) middle
  pub last_some : 1 ≤ length last.payload
  pub last_step : length last.payload ≤ step
  pub joined_are : joined (map part_payload parts) ≡ payload
