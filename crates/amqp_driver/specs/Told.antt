-- Part: other calls; inner.
-- The record of an entry of the history: what its frame says, which session and which link it reached, and whether it was refused.
use Rattle.std.specs.Prelude.{ℕ, Bool, true, false, ◌==◌, ◌&&◌, not, is_some, if◌then◌else◌, Option, Some, None, nat_eq}
use Rattle.std.specs.FinMap as map
use Rattle.std.specs.Map.{lookup}
use Rattle.std.specs.Option.{option_map}
use Rattle.amqp_session.specs.declared.error.SessionStateError.TheVariants as ended
use Rattle.amqp_session.specs.declared.error.SessionInnerError.TheVariants as session
use Rattle.amqp_session.specs.declared.numbers.OutputHandle.{OutputHandle}
use Rattle.amqp_session.specs.Links.{LinksView}
use Rattle.amqp_session.specs.Linking.{named_at, output_at}
use Rattle.amqp_session.specs.Session.{SessionView}
use Rattle.amqp_frames.specs.declared.frame.Frame.{Frame}
use Rattle.amqp_frames.specs.declared.frame.FrameBody.{FrameBody}
use Rattle.amqp_frames.specs.declared.frame.FrameBody.TheVariants as body
use Rattle.amqp_connection.specs.declared.error.ConnectionStateError.TheVariants as closed
use Rattle.amqp_connection.specs.declared.error.ConnectionInnerError.TheVariants as routes
use Rattle.amqp_connection.specs.Connection.{ConnectionView}
use Rattle.amqp_engine.specs.declared.engine.step_error.StepError.{StepError}
use Rattle.amqp_engine.specs.declared.engine.step_error.StepError.TheVariants as no
use Rattle.amqp_engine.specs.EngineView.{EngineView}
use Rattle.amqp_engine.specs.Entry.{Entry}
use Rattle.amqp_driver.specs.declared.record.Record.{Record}
use Rattle.amqp_driver.specs.Record.{none, number_or, read_record}
use Rattle.amqp_driver.specs.Refusals.{refusal_number}

-- ---- which link

abbrev pub under : {R : Type 0} → Option ℕ → LinksView R → Option OutputHandle
under None l = None
under (Some h) l = output_at h l

-- This side's handle of the link that a frame names in its session (AMQP 1.0 part 2, section 2.6.2): of the live link that is attached under
-- the peer's handle; of an attach, of the live link of its name.
abbrev pub link_of : {R : Type 0} → FrameBody → LinksView R → Option OutputHandle
link_of (body.Attach p) l = option_map (λ n. n.handle) (named_at p.name l)
link_of (body.Flow p) l = under p.handle l
link_of (body.Transfer p payload) l = under (Some p.handle) l
link_of (body.Detach p) l = under (Some p.handle) l
link_of b l = None

-- of the link under a handle of the peer's, where both are named
abbrev pub link_at : {R : Type 0} → Option ℕ → Option (SessionView R) → Option OutputHandle
link_at h None = None
link_at h (Some s) = under h s.links

abbrev pub link_in : {R : Type 0} → FrameBody → Option (SessionView R) → Option OutputHandle
link_in b None = None
link_in b (Some s) = link_of b s.links

-- the session that has the number, if one has
abbrev pub session_at : {R : Type 0} → EngineView R → Option ℕ → Option (SessionView R)
session_at v None = None
session_at v (Some n) = lookup (nat_eq n) v.sessions

-- what an engine shows of the link that a frame names in the session of this number
abbrev pub output_of : {R : Type 0} → EngineView R → Option ℕ → Option Frame → Option OutputHandle
output_of v reached None = None
output_of v reached (Some f) = link_in f.body (session_at v reached)

-- the record of what is said, of this session and this link
abbrev pub placed : Option ℕ → Option OutputHandle → Record → Record
placed reached link r = record r { session = number_or none reached; output = number_or none (option_map (λ h. h.0) link) }

-- ---- whether it was refused

-- The peer's End and its Close are answered by an error that says how the peer ended or closed: they were taken (sections 2.7.8 and 2.7.9).
abbrev pub is_over : ℕ → StepError → Bool
is_over kind (no.SessionState ended.RemoteEnded) = kind == 9
is_over kind (no.SessionState (ended.RemoteEndedWithError e)) = kind == 9
is_over kind (no.ConnectionState closed.RemoteClosed) = kind == 10
is_over kind (no.ConnectionState (closed.RemoteClosedWithError e)) = kind == 10
is_over kind e = false

-- an attach whose name no link of this side waits for (section 2.6.3)
abbrev pub is_attach_wanted : ℕ → StepError → Bool
is_attach_wanted kind (no.Session session.RemoteAttachingLinkNameNotFound) = kind == 3
is_attach_wanted kind e = false

-- A Begin that answers none, on a channel of the peer's that leads to no session: the peer begins one (section 2.5.1).
abbrev pub begins_on : ConnectionView → ℕ → FrameBody → Bool
begins_on v channel (body.Begin p) = not (is_some p.remote_channel) && not (is_some (map.get v.session_by_incoming_channel channel))
begins_on v channel b = false

abbrev pub begins_anew : {R : Type 0} → EngineView R → Option Frame → Bool
begins_anew v None = false
begins_anew v (Some f) = begins_on v.connection f.channel f.body

-- such a Begin, where it was refused since the engine takes none but the answers to its own
abbrev pub is_begin_wanted : Bool → StepError → Bool
is_begin_wanted anew (no.Connection (routes.NotImplemented text)) = anew
is_begin_wanted anew e = false

-- the kind of a record of such a refusal, by that of what is said, and by whether the peer begins a session
abbrev pub refused_kind : Bool → ℕ → StepError → ℕ
refused_kind anew kind e = if is_attach_wanted kind e then 4 else if is_begin_wanted anew e then 12 else 11

abbrev pub refused_record : Bool → StepError → Record → Record
refused_record anew e r = if is_over r.kind e then r else record r { kind = refused_kind anew r.kind e; refusal = refusal_number e }

-- ---- the record

-- an empty frame, which shows only that the peer is alive (section 2.4.5)
abbrev pub is_empty_body : FrameBody → Bool
is_empty_body body.Empty = true
is_empty_body b = false

abbrev pub is_silent : Option Frame → Bool
is_silent None = false
is_silent (Some f) = is_empty_body f.body

-- what is told, where it was refused or not, is silent or not, and begins a session or not
abbrev pub told_by : Option StepError → Bool → Bool → Record → Option Record
told_by (Some e) silent anew r = Some (refused_record anew e r)
told_by None true anew r = None
told_by None false anew r = Some r

-- The record of an entry whose frame stands at this place of the input, and has so many bytes; `v` is the engine before it. An empty frame has none.
abbrev pub record_of : {R : Type 0} → EngineView R → ℕ → ℕ → Entry R → Option Record
record_of v at size e =
    told_by e.refusal (is_silent e.received) (begins_anew v e.received) (placed e.reached (output_of v e.reached e.received) (read_record at size e.received))
