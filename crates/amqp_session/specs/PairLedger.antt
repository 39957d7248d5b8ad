-- Part: other calls; inner.
-- What holds of a pair after any calls: each session's numbers go with how far the two runs of frames have come, and the frames
-- on the way lead from what was taken of a run to what was put on it (AMQP 1.0 part 2, section 2.5.6).
use Rattle.std.specs.Prelude.{◌≡◌, ◌+◌, ◌-◌, ◌%◌, ◌^◌, ◌<◌, ◌≤◌, ℕ, min, Bool, true, false, List, [], ◌∷◌, Some}
use Rattle.amqp_types.specs.declared.states.SessionState.{SessionState}
use Rattle.amqp_types.specs.declared.states.SessionState.TheVariants.{Unmapped, BeginSent, BeginReceived, Mapped}
use Rattle.amqp_types.specs.declared.states.SessionState.TheVariants.{EndSent, EndReceived, Discarding}
use Rattle.amqp_session.specs.declared.frame.SessionFrame.{SessionFrame}
use Rattle.amqp_session.specs.declared.frame.SessionFrameBody.{SessionFrameBody}
use Rattle.amqp_session.specs.declared.frame.SessionFrameBody.TheVariants as Body
use Rattle.amqp_session.specs.Settings.{SettingsModel}
use Rattle.amqp_session.specs.Session.{SessionView}

-- a Begin of this session went out, and the session did not end
abbrev pub has_begun : SessionState → Bool
has_begun Unmapped = false
has_begun BeginSent = true
has_begun BeginReceived = false
has_begun Mapped = true
has_begun EndSent = false
has_begun EndReceived = false
has_begun Discarding = false

-- a Begin of the peer was received
abbrev pub has_received : SessionState → Bool
has_received Unmapped = false
has_received BeginSent = false
has_received BeginReceived = true
has_received Mapped = true
has_received EndSent = true
has_received EndReceived = true
has_received Discarding = true

-- A place in the run of frames that one session sends: whether its Begin is among those before, how many transfers are, and how
-- many transfers of the other session the last flow among them says were received (0 where there is none). None of these wraps.
pub record Place : Type 0 where
  pub begun : Bool
  pub sent : ℕ
  pub offered : ℕ

-- the sender of a run, as far as its frames show it: whether it received the other's Begin, its own first number and window, and the
-- first number of the other session
pub record RunOf : Type 0 where
  pub received_begin : Bool
  pub first : ℕ
  pub window : ℕ
  pub others : ℕ

-- a frame leads from one place of its sender's run to the next
abbrev pub Moves : RunOf → Place → SessionFrameBody → Place → Type 0
Moves s p (Body.Begin b) q =
    (p.begun ≡ false) × (b.next_outgoing_id ≡ (s.first + p.sent) % 2 ^ 32) × (b.incoming_window ≡ s.window)
    × (q ≡ record p { begun = true })
Moves s p (Body.Flow f) q =
    (received : ℕ) × (s.received_begin ≡ true) × (p.begun ≡ true) × (p.offered ≤ received)
    × (f.next_incoming_id ≡ Some ((s.others + received) % 2 ^ 32)) × (f.incoming_window ≡ s.window)
    × (f.next_outgoing_id ≡ (s.first + p.sent) % 2 ^ 32) × (q ≡ record p { offered = received })
Moves s p (Body.Transfer t payload) q = (s.received_begin ≡ true) × (p.begun ≡ true) × (q ≡ record p { sent = p.sent + 1 })
Moves s p (Body.Attach a) q = (s.received_begin ≡ true) × (p.begun ≡ true) × (q ≡ p)
Moves s p (Body.Disposition d) q = ⊥
Moves s p (Body.Detach d) q = ⊥
Moves s p (Body.End e) q = ⊥

-- frames lead from one place to another
abbrev pub Leads : RunOf → Place → List SessionFrame → Place → Type 0
Leads s p [] q = p ≡ q
Leads s p (f ∷ L) q = (m : Place) × Moves s p f.body m × Leads s m L q

-- what is read of a session here
pub record Core : Type 0 where
  pub state : SessionState
  pub settings : SettingsModel
  pub next : ℕ  -- the next outgoing id
  pub window : ℕ  -- the remote incoming window
  pub incoming : ℕ  -- the next incoming id
  pub count : ℕ  -- the received transfers that no session flow reported

abbrev pub core : {R : Type 0} → SessionView R → Core
core v = record {
  state = v.state;
  settings = v.settings;
  next = v.sending.next_outgoing_id;
  window = v.sending.remote_incoming_window;
  incoming = v.receiving.next_incoming_id;
  count = v.receiving.unreported;
}

-- A session's numbers go with the place to which it has put its run, and the place to which it has taken the other's: what it sent
-- and may still send is what the other offered, and the other's window.
pub record Keeps (v : Core) (put taken : Place) (other : SettingsModel) : Type 0 where
  pub begun_is : put.begun ≡ has_begun v.state
  pub received_is : taken.begun ≡ has_received v.state
  pub next_is : v.next ≡ (v.settings.next_outgoing_id + put.sent) % 2 ^ 32
  pub incoming_is : taken.begun ≡ true → v.incoming ≡ (other.next_outgoing_id + taken.sent) % 2 ^ 32
  pub window_is : taken.begun ≡ true → put.sent + v.window ≡ taken.offered + other.incoming_window
  pub early : taken.begun ≡ false → (put.sent ≡ 0) × (taken.offered ≡ 0) × (taken.sent ≡ 0)
  pub offers : put.offered ≤ taken.sent
  pub count_is : min (taken.sent - put.offered) 4294967295 ≤ v.count

abbrev pub run_of : Core → SettingsModel → RunOf
run_of v other = record {
  received_begin = has_received v.state;
  first = v.settings.next_outgoing_id;
  window = v.settings.incoming_window;
  others = other.next_outgoing_id;
}

-- its first number and its window are of four bytes
abbrev pub FitsSettings : SettingsModel → Type 0
FitsSettings s = (s.next_outgoing_id < 2 ^ 32) × (s.incoming_window < 2 ^ 32)

pub record Ledger (a b : Core) (to_a to_b : List SessionFrame) (put_a taken_a put_b taken_b : Place) : Type 0 where
  pub a_keeps : Keeps a put_a taken_a b.settings
  pub b_keeps : Keeps b put_b taken_b a.settings
  pub a_comes : Leads (run_of b a.settings) taken_a to_a put_b
  pub b_comes : Leads (run_of a b.settings) taken_b to_b put_a
  pub a_fits : FitsSettings a.settings
  pub b_fits : FitsSettings b.settings

-- two sessions and the frames on the way to each, at some places of the two runs
pub record Tallies (a b : Core) (to_a to_b : List SessionFrame) : Type 0 where
  pub put_a : Place
  pub taken_a : Place
  pub put_b : Place
  pub taken_b : Place
  pub ledger : Ledger a b to_a to_b put_a taken_a put_b taken_b
