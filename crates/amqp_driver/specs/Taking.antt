-- Part: other calls.
-- `take`: whole frames out of the caller's bytes, and a record of what each says.
use Rattle.std.specs.Prelude.{◌≡◌, ◌≤◌, ◌<◌, ◌+◌, ◌==◌, ◌||◌, ℕ, Bool, true, false, List, [], ◌∷◌, ◌++◌, Option, Some, None, length, take, drop, map}
use Rattle.amqp_values.specs.Reading.{joined}
use Rattle.amqp_types.specs.declared.states.ConnectionState.TheVariants.{End}
use Rattle.amqp_session.specs.Relay.{Relays}
use Rattle.amqp_engine.specs.Entry.{Entry}
use Rattle.amqp_driver.specs.declared.record.Record.{Record}
use Rattle.amqp_driver.specs.declared.status.Status.{Status}
use Rattle.amqp_driver.specs.declared.status.Status.TheVariants as status
use Rattle.amqp_driver.specs.Front.{IsAllowed, IsWhole, IsPart, IsBad, size_at, wanted_at}
use Rattle.amqp_driver.specs.Told.{record_of}
use Rattle.amqp_driver.specs.Driver.{DriverView, Runs, NotRun}

-- A frame with its size; the driver before it; and the entry of the history that it became.
pub record Answered (R : Type 0) : Type 0 where
  pub whole : List ℕ
  pub before : DriverView R
  pub entry : Entry R

-- a frame of an allowed size, which stands in its first four bytes
abbrev pub IsSized : ℕ → List ℕ → Type 0
IsSized limit whole = IsAllowed limit (length whole) × (size_at whole ≡ length whole)

-- Both Closes have passed (AMQP 1.0 part 2, section 2.4.3): nothing comes any more.
abbrev pub IsOver : {R : Type 0} → DriverView R → Type 0
IsOver d = d.engine.connection.state ≡ End

-- each of these frames is run once, in order, without its size, while the connection is not over
abbrev pub RunsEach : {R : Type 0} → Relays R → ℕ → DriverView R → List (Answered R) → DriverView R → Type 0
RunsEach g limit d [] d' = d' ≡ d
RunsEach g limit d (a ∷ rest) d' = (k : DriverView _) × (a.before ≡ d) × (¬ IsOver d) × IsSized limit a.whole × Runs g d (drop 4 a.whole) a.entry k
    × RunsEach g limit k rest d'

abbrev pub listed : {X : Type 0} → Option X → List X
listed None = []
listed (Some x) = x ∷ []

-- the records of frames that stand one after the other, the first at this place
abbrev pub records_of : {R : Type 0} → ℕ → List (Answered R) → List Record
records_of at [] = []
records_of at (a ∷ rest) = listed (record_of a.before.engine at (length a.whole) a.entry) ++ records_of (at + length a.whole) rest

-- a link or a session that the peer begins, and that is to be answered before the frames behind it are taken (sections 2.5.1 and 2.6.3)
abbrev pub is_wanted : ℕ → Bool
is_wanted kind = kind == 4 || kind == 12

abbrev pub wants : Option Record → Bool
wants None = false
wants (Some r) = is_wanted r.kind

-- whether the record of a frame at this place is of such a one
abbrev pub wants_at : {R : Type 0} → ℕ → Answered R → Bool
wants_at at a = wants (record_of a.before.engine at (length a.whole) a.entry)

-- Of frames that stand one after the other, the first at this place, none but the last is to be answered, and whether that one is.
abbrev pub Wants : {R : Type 0} → ℕ → List (Answered R) → Bool → Type 0
Wants at [] wanted = wanted ≡ false
Wants at (a ∷ []) wanted = wants_at at a ≡ wanted
Wants at (a ∷ b ∷ rest) wanted = (wants_at at a ≡ false) × Wants (at + length a.whole) (b ∷ rest) wanted

-- A front of the input is these frames; each was run; and their records, all of them and no other, stand at the front of the records. Only the
-- last frame may be one that is to be answered.
pub record Took {R : Type 0} (g : Relays R) (limit : ℕ) (d : DriverView R) (input : List ℕ) (taken : ℕ) (old : List Record) (written : ℕ)
    (asks : Bool) (d' : DriverView R) (new : List Record) : Type 0 where
  pub answered : List (Answered R)
  pub within : taken ≤ length input
  pub front : take taken input ≡ joined (map (λ a. a.whole) answered)
  pub runs : RunsEach g limit d answered d'
  pub last : Wants 0 answered asks
  pub count : written ≡ length (records_of 0 answered)
  pub fits : written ≤ length old
  pub output : new ≡ records_of 0 answered ++ drop written old

-- It ends for one of six reasons, each by its cause; no other is one of them. How many bytes are wanted is said where a part of a frame is left.
abbrev pub Takes : {R : Type 0} → Relays R → ℕ → DriverView R → List ℕ → List Record → Status → ℕ → ℕ → ℕ → DriverView R → List Record → Type 0
Takes g limit d input old status.Again taken written wanted d' new = Took g limit d input taken old written true d' new × (wanted ≡ 0)
Takes g limit d input old status.Over taken written wanted d' new =
    Took g limit d input taken old written false d' new × IsOver d' × (wanted ≡ 0)
Takes g limit d input old status.Done taken written wanted d' new =
    Took g limit d input taken old written false d' new × (¬ IsOver d') × IsPart limit (drop taken input) × (wanted ≡ wanted_at (drop taken input))
Takes g limit d input old status.Full taken written wanted d' new =
    Took g limit d input taken old written false d' new × (¬ IsOver d') × IsWhole limit (drop taken input) × (written ≡ length old) × (wanted ≡ 0)
Takes g limit d input old status.BadSize taken written wanted d' new =
    Took g limit d input taken old written false d' new × (¬ IsOver d') × IsBad limit (drop taken input) × (wanted ≡ 0)
Takes g limit d input old status.NoMemory taken written wanted d' new = (k : DriverView _)
    × Took g limit d input taken old written false k new × (¬ IsOver k) × IsWhole limit (drop taken input) × (written < length old) × NotRun g k d' × (wanted ≡ 0)
Takes g limit d input old s taken written wanted d' new = ⊥
