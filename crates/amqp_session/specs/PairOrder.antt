-- Part: other calls.
-- The calls that a pair has seen, and that each frame arrives once, in the order in which it was sent (AMQP 1.0 part 2, section 2.5.6).
use Rattle.std.specs.Prelude.{◌≡◌, List, [], ◌∷◌, ◌++◌, None}
use Rattle.amqp_types.specs.declared.states.SessionState.TheVariants.{Unmapped}
use Rattle.amqp_session.specs.declared.frame.SessionFrame.{SessionFrame}
use Rattle.amqp_session.specs.declared.frame.SessionFrameBody.{SessionFrameBody}
use Rattle.amqp_session.specs.declared.frame.SessionFrameBody.TheVariants as Body
use Rattle.amqp_session.specs.declared.pair.Side.{Side}
use Rattle.amqp_session.specs.declared.pair.Side.TheVariants.{A, B}
use Rattle.amqp_session.specs.Settings.{SettingsModel}
use Rattle.amqp_session.specs.Relay.{Relays}
use Rattle.amqp_session.specs.Session.{SessionView}
use Rattle.amqp_session.specs.OutgoingFrames.{calls_frames}
use Rattle.amqp_session.specs.History.{SessionCall, SessionChain, Made, LeadsTo, TakesBegin, TakesAttach, TakesFlow, TakesTransfer}
use Rattle.amqp_session.specs.Pair.{PairView}

-- what frames say
abbrev pub bodies : List SessionFrame → List SessionFrameBody
bodies [] = []
bodies (f ∷ fs) = f.body ∷ bodies fs

-- what a call of a session takes from the peer
abbrev pub received_by : {R : Type 0} → SessionCall R → List SessionFrameBody
received_by (TakesBegin channel b result) = Body.Begin b ∷ []
received_by (TakesAttach a asked result) = Body.Attach a ∷ []
received_by (TakesFlow f asked result) = Body.Flow f ∷ []
received_by (TakesTransfer t payload asked result) = Body.Transfer t payload ∷ []
received_by c = []

-- of all, in order
abbrev pub received : {R : Type 0} → List (SessionCall R) → List SessionFrameBody
received [] = []
received (c ∷ cs) = received_by c ++ received cs

-- One side's session makes these calls: what they take comes off the way to it, from the front, and what they hand out goes after
-- what is on the way to the other.
abbrev pub MovesAt : {R : Type 0} → Relays R → List (SessionCall R) → SessionView R → List SessionFrame → List SessionFrame →
    SessionView R → List SessionFrame → List SessionFrame → Type 0
MovesAt g calls v coming going w coming' going' =
    SessionChain g v calls w × (bodies coming ≡ received calls ++ bodies coming') × (going' ≡ going ++ calls_frames calls)

abbrev pub PairMoves : {R : Type 0} → Relays R → Side → List (SessionCall R) → PairView R → PairView R → Type 0
PairMoves g A calls p q = MovesAt g calls p.a p.to_a p.to_b q.a q.to_a q.to_b × (q.b ≡ p.b)
PairMoves g B calls p q = MovesAt g calls p.b p.to_b p.to_a q.b q.to_b q.to_a × (q.a ≡ p.a)

-- a call of this side of a pair
abbrev pub IsMove : {R : Type 0} → Relays R → Side → PairView R → PairView R → Type 0
IsMove {R} g side p q = (calls : List (SessionCall R)) × PairMoves g side calls p q

-- a call of a pair: whose it is, and the calls that its session makes
pub record PairCall (R : Type 0) : Type 0 where
  pub side : Side
  pub calls : List (SessionCall R)

-- calls lead a pair from one view to another
abbrev pub PairChain : {R : Type 0} → Relays R → PairView R → List (PairCall R) → PairView R → Type 0
PairChain g p [] q = q ≡ p
PairChain {R} g p (e ∷ H) q = (m : PairView R) × PairMoves g e.side e.calls p m × PairChain g m H q

-- the calls of one side's session
abbrev pub own : {X : Type 0} → Side → Side → List X → List X
own A A calls = calls
own A B calls = []
own B A calls = []
own B B calls = calls

abbrev pub calls_by : {R : Type 0} → Side → List (PairCall R) → List (SessionCall R)
calls_by side [] = []
calls_by side (e ∷ H) = own side e.side e.calls ++ calls_by side H

-- What each side sent is what the other received, and after it what is still on the way: in order, and each frame once.
pub record ArrivesInOrder {R : Type 0} (H : List (PairCall R)) (p : PairView R) : Type 0 where
  pub to_b : bodies (calls_frames (calls_by A H)) ≡ received (calls_by B H) ++ bodies p.to_b
  pub to_a : bodies (calls_frames (calls_by B H)) ≡ received (calls_by A H) ++ bodies p.to_a

-- a session of a new pair, as its history begins
abbrev pub of_pair : SettingsModel → Made
of_pair s = record { settings = s; channel = 0; state = Unmapped; stop = None }

-- the calls of each side's session are a history of it
abbrev pub AreHistories : {R : Type 0} → Relays R → SettingsModel → SettingsModel → List (PairCall R) → PairView R → Type 0
AreHistories g s t H p = LeadsTo g (of_pair s) (calls_by A H) p.a × LeadsTo g (of_pair t) (calls_by B H) p.b
