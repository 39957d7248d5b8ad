-- Part: other calls; inner.
-- `send`: transfers by their heads and bytes, and what became of each.
use Rattle.std.specs.Prelude.{◌≡◌, ◌≤◌, ◌<◌, ◌+◌, ◌&&◌, ℕ, nat_eq, not, Bool, List, [], ◌∷◌, ◌++◌, Option, Some, None, if◌then◌else◌, length, take, drop, map, slice_get}
use Rattle.amqp_values.specs.Reading.{joined}
use Rattle.amqp_types.specs.Transfer.{TransferModel}
use Rattle.amqp_session.specs.Relay.{Relays}
use Rattle.amqp_session.specs.declared.numbers.InputHandle.{InputHandle}
use Rattle.amqp_engine.specs.declared.engine.input.Input.TheVariants as input
use Rattle.amqp_engine.specs.declared.engine.refusal.Refusal.{Refusal}
use Rattle.amqp_engine.specs.Entry.{Entry}
use Rattle.amqp_engine.specs.EngineView.{EngineView}
use Rattle.amqp_engine.specs.RunOne.{LacksNoMemory}
use Rattle.amqp_driver.specs.declared.head.Broken.{Broken}
use Rattle.amqp_driver.specs.declared.head.TransferHead.{TransferHead}
use Rattle.amqp_driver.specs.declared.head.Sent.{Sent}
use Rattle.amqp_driver.specs.declared.status.Status.{Status}
use Rattle.amqp_driver.specs.declared.status.Status.TheVariants as status
use Rattle.amqp_driver.specs.Driver.{DriverView, NotRun}
use Rattle.amqp_driver.specs.Heads.{has, input_of, refused_as, sent_of, unsendable}
use Rattle.amqp_driver.specs.Requests.{RunsInput}

-- A head with its bytes; the driver before it; the entry of the history that it became, if the engine was asked; and what was told.
pub record Handled (R : Type 0) : Type 0 where
  pub head : TransferHead
  pub bytes : List ℕ
  pub before : DriverView R
  pub entry : Option (Entry R)
  pub sent : Sent

-- the head is of the link whose delivery was broken so
abbrev pub is_of : Broken → TransferHead → Bool
is_of b h = nat_eq b.session h.session && nat_eq b.link h.link

-- a later part of that delivery
abbrev pub goes_on_from : Broken → TransferHead → Bool
goes_on_from b h = not (has h.flags 1) && is_of b h

-- the delivery that was broken before still is, where this head is of another link: it is not that delivery's last part, nor the next delivery
abbrev pub still_broken : Option Broken → TransferHead → Option Broken
still_broken None h = None
still_broken (Some b) h = if is_of b h then None else Some b

-- What is left of a head, and of what was left before it: a refused part, after which more parts of its delivery were to follow, breaks that
-- delivery.
abbrev pub left_behind : Option Broken → TransferHead → Sent → Option Broken
left_behind b h s =
    if has h.flags 4 && not (nat_eq s.refusal 0) then Some (record { session = h.session; link = h.link; refusal = s.refusal }) else still_broken b h

-- why it is refused behind what was left: as the part before it
abbrev pub refused_behind : Option Broken → TransferHead → Option ℕ
refused_behind None h = None
refused_behind (Some b) h = if goes_on_from b h then Some b.refusal else None

abbrev pub why_or : Option ℕ → Option ℕ → Option ℕ
why_or otherwise None = otherwise
why_or otherwise (Some why) = Some why

-- why a head is not sent behind what was left
abbrev pub unsent : {R : Type 0} → EngineView R → Option Broken → TransferHead → List ℕ → Option ℕ
unsent v b h bytes = why_or (unsendable v h bytes) (refused_behind b h)

-- the bytes of a head: its tag, and its payload
abbrev pub size_of : TransferHead → ℕ
size_of h = h.tag_size + h.payload

-- It is not sent, and this is why: the engine is asked nothing. Or its input is run, and what is told is said by its entry.
-- It is never refused for want of memory.
abbrev pub HandlesBy : {R : Type 0} → Relays R → DriverView R → Option Broken → TransferHead → List ℕ → Option (Entry R) → Sent → DriverView R → Type 0
HandlesBy g d b h bytes None sent d' =
    (why : ℕ) × (unsent d.engine b h bytes ≡ Some why) × (sent ≡ refused_as why) × (d' ≡ d)
HandlesBy g d b h bytes (Some e) sent d' =
    (returned : List Refusal) × (unsent d.engine b h bytes ≡ None) × RunsInput g d (input_of d.engine h bytes) e returned d'
    × (sent ≡ sent_of d.engine h e.refusal) × LacksNoMemory e.refusal

-- each of these heads is handled once, in order, behind what the one before it left
abbrev pub HandlesEach : {R : Type 0} → Relays R → DriverView R → Option Broken → List (Handled R) → DriverView R → Type 0
HandlesEach g d b [] d' = d' ≡ d
HandlesEach g d b (x ∷ rest) d' = (k : DriverView _) × (x.before ≡ d) × (length x.bytes ≡ size_of x.head)
    × HandlesBy g d b x.head x.bytes x.entry x.sent k × HandlesEach g k (left_behind b x.head x.sent) rest d'

-- A front of the heads, and of the bytes, are these; each was handled; and what became of them stands at the front of the places, in order.
pub record Posts {R : Type 0} (g : Relays R) (d : DriverView R) (heads : List TransferHead) (bytes : List ℕ) (old : List Sent) (taken used : ℕ)
    (d' : DriverView R) (new : List Sent) : Type 0 where
  pub handled : List (Handled R)
  pub within : taken ≤ length heads
  pub heads_are : take taken heads ≡ map (λ x. x.head) handled
  pub inside : used ≤ length bytes
  pub bytes_are : take used bytes ≡ joined (map (λ x. x.bytes) handled)
  pub each : HandlesEach g d None handled d'
  pub fits : taken ≤ length old
  pub output : new ≡ map (λ x. x.sent) handled ++ drop taken old

-- the head that comes next, and whether its bytes are there
abbrev pub IsNext : List TransferHead → ℕ → TransferHead → Type 0
IsNext heads taken h = slice_get heads taken ≡ Some h

-- It ends for one of four reasons, each by its cause.
abbrev pub Sends : {R : Type 0} → Relays R → DriverView R → List TransferHead → List ℕ → List Sent → Status → ℕ → ℕ → DriverView R → List Sent → Type 0
Sends g d heads bytes old status.Done taken used d' new =
    Posts g d heads bytes old taken used d' new × (taken ≡ length heads)
Sends g d heads bytes old status.Full taken used d' new =
    Posts g d heads bytes old taken used d' new × (taken < length heads) × (taken ≡ length old)
Sends g d heads bytes old status.Short taken used d' new = (h : TransferHead)
    × Posts g d heads bytes old taken used d' new × IsNext heads taken h × (taken < length old) × (length bytes < used + size_of h)
Sends g d heads bytes old status.NoMemory taken used d' new = (h : TransferHead) × (k : DriverView _)
    × Posts g d heads bytes old taken used k new × IsNext heads taken h × (taken < length old) × (used + size_of h ≤ length bytes) × NotRun g k d'
Sends g d heads bytes old s taken used d' new = ⊥

-- ---- parts

-- one head is handled, and this is told; or memory was refused, and it is not taken
abbrev pub Handles : {R : Type 0} → Relays R → DriverView R → Option Broken → TransferHead → List ℕ → Option Sent → DriverView R → Type 0
Handles g d b h bytes None d' = NotRun g d d'
Handles g d b h bytes (Some sent) d' = (e : Option (Entry _)) × HandlesBy g d b h bytes e sent d'

-- what these leave behind
abbrev pub left_by : {R : Type 0} → Option Broken → List (Handled R) → Option Broken
left_by b [] = b
left_by b (x ∷ rest) = left_by (left_behind b x.head x.sent) rest

-- the heads were handled so, and this is what they leave
abbrev pub PostsSo : {R : Type 0} → Relays R → DriverView R → List TransferHead → List ℕ → List Sent → ℕ → ℕ → DriverView R → List Sent → Option Broken → Type 0
PostsSo g d heads bytes old taken used d' new b = (p : Posts g d heads bytes old taken used d' new) × (b ≡ left_by None p.handled)

-- this transfer of a head is run, under this handle of the peer's, and what is told is said by its entry; or memory was refused, and it is
-- not taken
abbrev pub SendsTransfer : {R : Type 0} → Relays R → DriverView R → TransferHead → InputHandle → TransferModel → List ℕ → Option Sent → DriverView R
    → Type 0
SendsTransfer g d h i t payload None d' = NotRun g d d'
SendsTransfer g d h i t payload (Some sent) d' = (e : Entry _) × (returned : List Refusal)
    × RunsInput g d (input.Transfer (record { 0 = h.session }) i t payload (has h.flags 1)) e returned d'
    × (sent ≡ sent_of d.engine h e.refusal) × LacksNoMemory e.refusal
