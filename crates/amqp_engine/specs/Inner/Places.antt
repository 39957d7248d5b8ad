-- Part: inner.
-- The places of sessions in what is kept for handles, and the queue of the Ends that are noted.
use Rattle.std.specs.Prelude.{◌≡◌, ◌⊎◌, ℕ, ◌+◌, ◌≤◌, List, [], ◌∷◌, length, Option, Some, None, Bool, true, false, nat_eq, is_some, sum_by}
use Rattle.std.specs.Ordering.{nat_cmp}
use Rattle.std.specs.Map.{lookup, set_value}
use Rattle.std.specs.FinMap as map
use Rattle.std.specs.BinaryHeap.{IsHeap}
use Rattle.amqp_types.specs.Error.{ErrorModel}
use Rattle.amqp_engine.specs.declared.engine.handle_state.SessionSlot.{SessionSlot}
use Rattle.amqp_connection.specs.declared.numbers.SessionNo.{SessionNo}
use Rattle.amqp_session.specs.declared.error.SessionStateError.TheVariants as ended
use Rattle.amqp_connection.specs.declared.error.ConnectionStateError.{ConnectionStateError}
use Rattle.amqp_connection.specs.declared.error.ConnectionStateError.TheVariants as closed
use Rattle.amqp_engine.specs.declared.engine.step_error.StepError.{StepError}
use Rattle.amqp_engine.specs.declared.engine.step_error.StepError.TheVariants as no
use Rattle.amqp_connection.specs.Channels.{mark}
use Rattle.amqp_engine.specs.Kept.{Outcomes, Wishes, CloseOutcome}

-- ---- what stands in the places

-- the first entry of a number is meant
abbrev pub pick_by : {Y : Type 0} → Option Y → ℕ → map.FinMap nat_cmp Y → map.FinMap nat_cmp Y
pick_by None k m = map.remove m k
pick_by (Some y) k m = map.insert m k y

-- what a value gives, by the numbers of those that give anything
abbrev pub pick : {X Y : Type 0} → (X → Option Y) → List (ℕ × X) → map.FinMap nat_cmp Y
pick f [] = map.empty
pick f (e ∷ es) = pick_by (f e.1) e.0 (pick f es)

-- what is kept, the sessions that have a place, and how many more may get one without memory
pub record KeptView : Type 0 where
  pub outcomes : Outcomes
  pub wishes : Wishes
  pub places : map.FinMap nat_cmp Bool
  pub room : ℕ

abbrev pub kept_view : Option CloseOutcome → Option (Option ErrorModel) → List (ℕ × SessionSlot) → ℕ → KeptView
kept_view outcome close places room = record {
  outcomes = record { connection = outcome; sessions = pick (λ p. p.outcome) places };
  wishes = record { close = close; ends = pick (λ p. p.wish) places };
  places = pick (λ p. Some true) places;
  room = room;
}

-- ---- the queue: it holds 4294967295 less the number, so that the lowest number is the greatest item

-- how often a number stands there
abbrev pub times : ℕ → List ℕ → ℕ
times n items = sum_by (λ y. mark (nat_eq (y + n) 4294967295)) items

abbrev pub has_wish : Option SessionSlot → Bool
has_wish None = false
has_wish (Some p) = is_some p.wish

-- how many Ends are noted
abbrev pub noted : List (ℕ × SessionSlot) → ℕ
noted [] = 0
noted (e ∷ es) = mark (is_some e.1.wish) + noted es

-- a number stands there once where its End is noted, and there is room for all
pub record Queued (places : List (ℕ × SessionSlot)) (queue : List ℕ) (count capacity : ℕ) : Type 0 where
  pub ordered : IsHeap nat_cmp queue
  pub each : (n : ℕ) → times n queue ≡ mark (has_wish (lookup (nat_eq n) places))
  pub counted : count ≡ noted places
  pub room : length places ≤ capacity

-- ---- what the calls do

-- The place of number n, where there is one, gave this, and is changed; the others stay.
abbrev pub Swaps : {Y : Type 0} → (SessionSlot → Option Y) → (SessionSlot → SessionSlot) → ℕ → List (ℕ × SessionSlot) → Option Y → List (ℕ × SessionSlot) → Type 0
Swaps f to n old given new =
    ((p : SessionSlot) × (lookup (nat_eq n) old ≡ Some p) × (given ≡ f p) × (new ≡ set_value (nat_eq n) old (to p)))
    ⊎ ((lookup (nat_eq n) old ≡ None) × (given ≡ None) × (new ≡ old))

-- only the room differs
pub record SameKept (v w : KeptView) : Type 0 where
  pub outcomes_are : w.outcomes ≡ v.outcomes
  pub wishes_are : w.wishes ≡ v.wishes
  pub places_are : w.places ≡ v.places

abbrev pub has_entries : {X : Type 0} → List X → Bool
has_entries [] = false
has_entries (x ∷ xs) = true

-- The End of the lowest number is taken; the others stay.
abbrev pub TakesEnd : Wishes → Option (SessionNo × Option ErrorModel) → Wishes → Type 0
TakesEnd w None w' = (map.entries w.ends ≡ []) × (w' ≡ w)
TakesEnd w (Some e) w' = (map.entries w.ends ≡ (e.0.0, e.1) ∷ map.entries w'.ends) × (w'.close ≡ w.close)

-- ---- in the engine

-- each session has a place, and no other number has
abbrev pub Seated : {X : Type 0} → List (ℕ × X) → map.FinMap nat_cmp Bool → Type 0
Seated es places = (n : ℕ) → is_some (lookup (nat_eq n) es) ≡ is_some (map.get places n)

-- this is the copy of the error that the answer names
abbrev pub IsCloseCopy : Option ConnectionStateError → Option ErrorModel → Type 0
IsCloseCopy (Some (closed.RemoteClosedWithError e)) copy = copy ≡ Some e
IsCloseCopy reply copy = Unit {0}

abbrev pub IsEndCopy : Option StepError → Option ErrorModel → Type 0
IsEndCopy (Some (no.SessionState (ended.RemoteEndedWithError e))) copy = copy ≡ Some e
IsEndCopy reply copy = Unit {0}
