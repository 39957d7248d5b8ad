-- Part: other calls; inner.
-- The endpoint of one session, and its calls that go by no stream (AMQP 1.0 part 2, section 2.6).
use Rattle.std.specs.Prelude.{ℕ, ◌≡◌, ◌<◌, Bool, true, false, List, [], Option, Result, Err, length}
use Rattle.std.specs.Coded.{Coded, coded_ℕ}
use Rattle.std.specs.FinMap as map
use Rattle.std.specs.Ordering.{nat_cmp}
use Rattle.amqp_types.specs.declared.definitions.Role.{Role}
use Rattle.amqp_types.specs.declared.definitions.Role.TheVariants.{Sender, Receiver}
use Rattle.amqp_connection.specs.declared.numbers.SessionNo.{SessionNo}
use Rattle.amqp_unsettled.specs.declared.entry.Entry.{Entry}
use Rattle.amqp_links.specs.declared.session.RemoveError.{RemoveError}
use Rattle.amqp_links.specs.declared.session.RemoveError.TheVariants.{NotDetached}
use Rattle.amqp_links.specs.Ends.{end_at}
use Rattle.amqp_links.specs.Session.{LinksView, no_links, HasSameEnds, RemovesEnd}
use Rattle.amqp_links.specs.Settling.{SettlesSent, SettlesReceived, LeavesNext, LeavesSentOfAll, LeavesReceivedOfAll}
use Rattle.amqp_endpoints.specs.declared.late.LateLink.{LateLink}
use Rattle.amqp_endpoints.specs.declared.place.LinkPlace.{LinkPlace}
use Rattle.amqp_endpoints.specs.Places.{place_at}

-- this side's handles by those of the peer
abbrev pub InputTable : Type 0
InputTable = map.FinMap nat_cmp ℕ

abbrev pub input_table_code : Coded InputTable
input_table_code = map.code coded_ℕ coded_ℕ

-- Its session, its links, what is kept of each beside its end, and which links the peer's handles mean; how many transfers it has sent, and the links of which
-- a call waits for the peer's window, the oldest call first.
pub record EndpointView : Type 0 where
  pub session : SessionNo
  pub links : LinksView
  pub places : List LinkPlace
  pub inputs : InputTable
  pub sent : ℕ
  pub late : List LateLink

abbrev pub new_endpoint : SessionNo → EndpointView
new_endpoint n = record { session = n; links = no_links; places = []; inputs = map.empty; sent = 0; late = [] }

-- only the links have changed
abbrev pub OnLinks : (LinksView → LinksView → Type 0) → EndpointView → EndpointView → Type 0
OnLinks Step v w = Step v.links w.links × (w ≡ record v { links = w.links })

-- ---- what is settled, and what is left

abbrev pub SettlesIn : Role → ℕ → ℕ → LinksView → Option Entry → LinksView → Type 0
SettlesIn Sender first last l given m = SettlesSent first last l given m
SettlesIn Receiver first last l given m = SettlesReceived first last l given m

abbrev pub SettlesNext : Role → ℕ → ℕ → EndpointView → Option Entry → EndpointView → Type 0
SettlesNext role first last v given w = OnLinks (λ l m. SettlesIn role first last l given m) v w

abbrev pub LeavesLink : EndpointView → ℕ → Option Entry → EndpointView → Type 0
LeavesLink v h given w = OnLinks (λ l m. LeavesNext (end_at l.ends h) l h given m) v w

abbrev pub LeavesSent : EndpointView → Option Entry → EndpointView → Type 0
LeavesSent v given w = OnLinks (λ l m. LeavesSentOfAll l given m) v w

abbrev pub LeavesReceived : EndpointView → Option Entry → EndpointView → Type 0
LeavesReceived v given w = OnLinks (λ l m. LeavesReceivedOfAll l given m) v w

-- An end goes, unless this side's Detach is still to be sent.
abbrev pub RemovesUnless : Bool → EndpointView → ℕ → Result (Unit {0}) RemoveError → EndpointView → Type 0
RemovesUnless true v h result w = (result ≡ Err NotDetached) × (w ≡ v)
RemovesUnless false v h result w = OnLinks (λ l m. RemovesEnd (end_at l.ends h) l h result m) v w

abbrev pub Removes : EndpointView → ℕ → Result (Unit {0}) RemoveError → EndpointView → Type 0
Removes v h result w = RemovesUnless (place_at v.places h).owes v h result w

-- ---- room for a link

-- Every handle has the end and the place that it had, and nothing else has changed.
pub record Stands (v w : EndpointView) : Type 0 where
  pub session : w.session ≡ v.session
  pub inputs : w.inputs ≡ v.inputs
  pub sent : w.sent ≡ v.sent
  pub late : w.late ≡ v.late
  pub links : HasSameEnds v.links w.links
  pub places : (k : ℕ) → place_at w.places k ≡ place_at v.places k

-- and there is room for a link of this one
pub record HasRoom (v : EndpointView) (h : ℕ) (w : EndpointView) : Type 0 where
  pub stands : Stands v w
  pub of_links : h < length w.links.ends
  pub of_places : h < length w.places
