-- The answer to a Begin of the peer's: its bytes, the steps of it, and its history.
use Rattle.std.proofs.Common.{◌≡◌, ◌⊎◌, ◌<◌, ◌≤◌, ◌^◌, ◌+◌, inl, inr, ℕ, List, [], ◌∷◌, ◌++◌, All, length, min, ◌-◌, nat_eq, true, false, is_ok, Option, Some, None, Result, Ok, Err, refl, ap, sym, subst, ◌∙◌, arith}
use Rattle.std.proofs.lemmas.List.{append-nil}
use Rattle.std.proofs.lemmas.Nat.{from_be_bytes-to_be_bytes_2}
use Rattle.std.specs.Map.{lookup}
use Rattle.std.specs.FinMap as map
use Rattle.amqp_memory.specs.Refusal.{SomeRefused}
use Rattle.amqp_values.specs.Composite.{IsDescriptor, composite_at}
use Rattle.amqp_types.specs.declared.performatives.Performative.TheVariants as performative
use Rattle.amqp_types.specs.declared.performatives.kind.Kind.TheVariants as kind
use Rattle.amqp_types.specs.declared.states.ConnectionState.TheVariants.{Opened}
use Rattle.amqp_types.specs.declared.states.SessionState.TheVariants.{BeginSent}
use Rattle.amqp_session.specs.History as session
use Rattle.amqp_types.specs.Begin.{BeginModel, IsBeginBody, begin_body_at}
use Rattle.amqp_types.specs.Kinds.{KindsAreRead, kind_at}
use Rattle.amqp_types.specs.Performatives.{IsPerformative, ListsAreRead, performative_text}
use Rattle.amqp_session.specs.Relay.{Relays}
use Rattle.amqp_session.specs.Session.{SessionView}
use Rattle.amqp_session.specs.Settings.{SettingsModel}
use Rattle.amqp_connection.specs.declared.numbers.SessionNo.{SessionNo}
use Rattle.amqp_connection.specs.Connection.{ConnectionView, refusal_of}
use Rattle.amqp_frames.specs.declared.frame.Frame.{Frame}
use Rattle.amqp_frames.specs.declared.frame.FrameBody.TheVariants as body
use Rattle.amqp_frames.specs.declared.error.Error.{Error}
use Rattle.amqp_frames.specs.declared.error.Error.TheVariants as unread
use Rattle.amqp_frames.specs.Cut.{Fits}
use Rattle.amqp_frames.specs.Frame.{header_text}
use Rattle.amqp_frames.specs.Piece.{PieceParts, piece_bytes}
use Rattle.amqp_frames.specs.Cut.{ReadBack}
use Rattle.amqp_frames.specs.RoundTrip.{KeepsLimit}
use Rattle.amqp_frames.specs.Wire.{EncodesTo, HasNoSize, sized, wire_of}
use Rattle.amqp_frames.specs.Head.{Opens}
use Rattle.amqp_frames.proofs.FrameHeadLemmas.{opened_from}
use Rattle.amqp_engine.specs.declared.engine.input.Input.TheVariants as input
use Rattle.amqp_engine.specs.declared.engine.step_error.StepError.{StepError}
use Rattle.amqp_engine.specs.declared.engine.refusal.Refusal.{Refusal}
use Rattle.amqp_engine.specs.EngineView.{EngineView}
use Rattle.amqp_engine.specs.Engine.{InputStep, Keeps, Received, ReceivedFrame, Step}
use Rattle.amqp_engine.specs.Entry.{Entry}
use Rattle.amqp_engine.specs.History.{Chain, OutputTaken}
use Rattle.amqp_engine.specs.declared.engine.answer.OutputError.{OutputError}
use Rattle.amqp_engine.specs.declared.engine.answer.OutputError.TheVariants as unsent
use Rattle.amqp_engine.specs.Output.{NextOutput}
use Rattle.amqp_engine.specs.Promise.{IsTaken}
use Rattle.amqp_engine.specs.Stepped.{Stepped}
use Rattle.amqp_engine.specs.RunFrame.{OfRelay, RanFrame, ReadFrom}
use Rattle.amqp_driver.specs.declared.answered.BeginAnswer.{BeginAnswer}
use Rattle.amqp_driver.specs.declared.answered.BeginAnswer.TheVariants as answer
use Rattle.amqp_driver.specs.declared.turning.TurnError.{TurnError}
use Rattle.amqp_driver.specs.declared.turning.TurnError.TheVariants as turn
use Rattle.amqp_driver.specs.Answering.{AnswersBegin, Asks, Awaits, BeginsOwn, FindsBegin, FitsOne, IfFree, IsMapped, IsToAnswer, Loses, Offered, Offers}
use Rattle.amqp_driver.specs.Answering.{Puts, TakesIn, TakesOut, TakesTheirs, channel_in, is_out, own_begin, taken_as, text_size, unread_as}
use Rattle.amqp_driver.specs.Driver.{DriverView, RunsRead, SendsOnly}
use Rattle.amqp_driver.specs.Turn.{EncodesWhole, ReadsBegin, answering, begin_frame}
use Rattle.amqp_driver.proofs.BegunLemmas.{HasBegun, has_begun, takes_begin_in}
use Rattle.amqp_driver.proofs.FieldLemmas.{read_fields}
use Rattle.amqp_driver.proofs.LawLemmas.{no_entries}
use Rattle.amqp_driver.proofs.RunLemmas.{runs_of}

-- ---- the bytes of a Begin

some_there : (n : ℕ) (descriptor list : List ℕ) → IsDescriptor n descriptor → ¬ (descriptor ++ list ≡ [])
some_there n descriptor list d e = empty n descriptor list d e
  where
    empty : (n : ℕ) (descriptor list : List ℕ) → IsDescriptor n descriptor → descriptor ++ list ≡ [] → ⊥
    empty n descriptor list IsDescriptor.described0 e = cc
    empty n descriptor list (IsDescriptor.described_small m) e = cc
    empty n descriptor list (IsDescriptor.described_by_number bytes l) e = cc
    empty n descriptor list (IsDescriptor.described_by_name m name text i v) e = cc

long_enough : (channel : ℕ) (text : List ℕ) → 4 ≤ length (header_text channel ++ text)
long_enough channel text = omega arith

-- the bytes of its frame on a channel are read as that frame
pub begin_reads : KindsAreRead → ListsAreRead → (channel : ℕ) (b : BeginModel) → channel < 2 ^ 16
    → IsPerformative (performative.Begin b) (performative_text (performative.Begin b))
    → ReadFrom (header_text channel ++ performative_text (performative.Begin b)) (Ok (begin_frame channel b))
begin_reads kinds lists channel b lt is =
    let text : List ℕ = performative_text (performative.Begin b) in
    let bytes : List ℕ = header_text channel ++ text in
    let names : kind_at text ≡ Some (kind.Begin, is.list) = ap kind_at is.whole ∙ kinds.again kind.Begin is.descriptor is.list is.coded in
    let some : ¬ (text ≡ []) = λ e. some_there 0x11 is.descriptor is.list is.coded (sym is.whole ∙ e) in
    let opens : Opens bytes is.list (Ok (record { channel = channel; kind = Some kind.Begin })) =
    opened_from kinds bytes bytes text is.list channel refl refl (long_enough channel text) refl refl (sym (from_be_bytes-to_be_bytes_2 channel lt)) (Ok (Some kind.Begin)) (some, names) in
    let fields : composite_at begin_body_at is.list ≡ Some (b, []) =
    ap (composite_at begin_body_at) (sym (append-nil is.list)) ∙ lists.of_begin.again b is.list [] is.body in
    read_fields IsBeginBody begin_body_at lists.of_begin (λ p. performative.Begin p) kind.Begin (λ b f r x. x) (λ b f r x. x) bytes is.list [] channel b opens fields

-- ---- what is to be answered

pub not_read : {R : Type 0} (d : DriverView R) (bytes frame : List ℕ) (e : TurnError) → bytes ≡ frame → ReadsBegin bytes (Err e)
    → FindsBegin d frame (Err (unread_as e))
not_read d bytes frame e same r = by_error e (subst (λ (b : List ℕ). ReadsBegin b (Err e)) same r)
  where
    by_error : (e : TurnError) → ReadsBegin frame (Err e) → FindsBegin d frame (Err (unread_as e))
    by_error (turn.Frame unread.OutOfMemory) r = r.2
    by_error turn.NoBegin r = r
    by_error turn.HasRemoteChannel r = r
    by_error (turn.Frame unread.DecodeError) r = r
    by_error (turn.Frame unread.NotImplemented) r = r
    by_error (turn.Frame unread.TooLarge) r = r
    by_error (turn.Frame (unread.Io text)) r = r

pub found : {R : Type 0} (d : DriverView R) (bytes frame : List ℕ) (remote : ℕ) (theirs : BeginModel) (a : Result (ℕ × BeginModel) BeginAnswer)
    → bytes ≡ frame → ReadsBegin bytes (Ok (remote, theirs)) → IfFree d remote theirs a → FindsBegin d frame a
found d bytes frame remote theirs a same r free = by_answer a (subst (λ (b : List ℕ). ReadsBegin b (Ok (remote, theirs))) same r) free
  where
    by_answer : (a : Result (ℕ × BeginModel) BeginAnswer) → ReadsBegin frame (Ok (remote, theirs)) → IfFree d remote theirs a → FindsBegin d frame a
    by_answer (Ok x) r f =
        let is : IsToAnswer d frame remote theirs = record { read = r; opened = f.1; free = f.2 } in
        subst (λ (y : ℕ × BeginModel). IsToAnswer d frame y.0 y.1) (sym f.0) is
    by_answer (Err answer.NotOpened) r f = ((remote, theirs), r, f)
    by_answer (Err answer.ChannelInUse) r f = ((remote, theirs), r, f.0, f.1)
    by_answer (Err e) r f = absurd f

-- ---- what stays

sends_keep : {R : Type 0} (g : Relays R) (d k : DriverView R) → SendsOnly g d k → k.engine.connection ≡ d.engine.connection
sends_keep g d k x =
    let ran = x.1.1 in
    let c : Chain g d.engine [] k.engine = subst (λ (es : List (Entry _)). Chain g d.engine es k.engine) (no_entries ran.entries ran.promise.taken) ran.steps in
    c.connection_is

pub awaits : {R : Type 0} (g : Relays R) (d d' : DriverView R) (frame : List ℕ) (remote : ℕ) (theirs : BeginModel) (number : SessionNo)
    (settings : SettingsModel) (channel : ℕ) → IsToAnswer d frame remote theirs → Offers g d remote number settings channel d' → Awaits d' remote channel number
awaits g d d' frame remote theirs number settings channel is o =
    let h : HasBegun o.first.engine number.0 settings o.begun = has_begun g o.first.engine o.begun number settings o.begins.stepped in
    let same : o.first.engine.connection ≡ d.engine.connection = sends_keep g d o.first o.sent.sent in
    let k : d'.engine ≡ record o.begun { waiting = [] } = o.taken.0 in
    let on : h.channel ≡ channel = same_channel h.channel channel (sym h.waits ∙ o.begins.handed_out) in
    record {
      opened = ap (λ (x : EngineView _). x.connection.state) k ∙ h.state_stays ∙ ap (λ (x : ConnectionView). x.state) same ∙ is.opened;
      free = ap (λ (x : EngineView _). map.get x.connection.session_by_incoming_channel remote) k
          ∙ ap (λ m. map.get m remote) h.routes_stay ∙ ap (λ (x : ConnectionView). map.get x.session_by_incoming_channel remote) same ∙ is.free;
      held = ap (λ (x : EngineView _). map.get x.connection.session_by_outgoing_channel channel) k
          ∙ subst (λ c. map.get o.begun.connection.session_by_outgoing_channel c ≡ Some number.0) on h.held;
      session = h.session;
      there = ap (λ (x : EngineView _). lookup (nat_eq number.0) x.sessions) k ∙ h.there;
      begun = h.begun;
    }
  where
    same_channel : {b c : BeginModel} (m n : ℕ) → begin_frame m b ∷ [] ≡ begin_frame n c ∷ [] → m ≡ n
    same_channel m n e = ap first_channel e
      where
        first_channel : List Frame → ℕ
        first_channel [] = 0
        first_channel (f ∷ fs) = f.channel

-- ---- the peer's Begin is run

module _ {R : Type 0} (g : Relays R) (u m : EngineView R) (remote : ℕ) (b : BeginModel) (channel n : ℕ) (t : SessionView R) (bytes : List ℕ)
    (remote_is : b.remote_channel ≡ Some channel) (opened : u.connection.state ≡ Opened)
    (held : map.get u.connection.session_by_outgoing_channel channel ≡ Some n) (there : lookup (nat_eq n) u.sessions ≡ Some t)
    (begun : t.state ≡ BeginSent) where
  by_received : (received : Option Frame) (reached : Option ℕ) (calls : List (session.SessionCall R)) (refusal : Option StepError)
      → Received g u bytes received reached calls refusal m → received ≡ Some (begin_frame remote b) → OfRelay g (body.Begin b) refusal
      → (refusal ≡ None) × IsMapped m n
  by_received received reached calls refusal (inl x) is memory = let k : None ≡ Some (begin_frame remote b) = sym x.1 ∙ is in absurd cc
  by_received received reached calls refusal (inr x) is memory =
      let k : Some x.0 ≡ Some (begin_frame remote b) = sym x.3 ∙ is in
      let same : x.0 ≡ begin_frame remote b = cc in
      takes_begin_in g u m remote b channel n t reached calls refusal
      (subst (λ (f : Frame). ReceivedFrame g u f.channel f.body reached calls refusal m) same x.4) remote_is opened held there begun memory

  by_step : (e : Entry R) → e.input ≡ input.Received bytes → Step g u e m → IsTaken e → e.received ≡ Some (begin_frame remote b)
      → OfRelay g (body.Begin b) e.refusal → (e.refusal ≡ None) × IsMapped m n
  by_step e i (inl x) taken is memory = absurd (taken x.1)
  by_step e i (inr x) taken is memory = by_received e.received e.reached e.calls e.refusal
      (subst (λ j. InputStep g u j e.received e.reached e.calls e.refusal m) i x.2) is memory

-- a session that is mapped stays so while frames leave, and as an outcome is kept
mapped_stays : {R : Type 0} (g : Relays R) (m k w : EngineView R) (e : Entry R) (n : ℕ) → IsMapped m n → Keeps e m k → OutputTaken k w → IsMapped w n
mapped_stays g m k w e n (t, there, mapped) keeps taken =
    (t, ap (λ es. lookup (nat_eq n) es) (taken.sessions_is ∙ ap (λ (x : EngineView _). x.sessions) keeps) ∙ there, mapped)

-- what the run of it did: it was accepted, and the session is mapped
pub maps_by_run : {R : Type 0} (g : Relays R) (d d' : DriverView R) (remote : ℕ) (theirs : BeginModel) (channel : ℕ) (number : SessionNo)
    (bytes : List ℕ) (refused : Option StepError) (returned : List Refusal) → Awaits d remote channel number
    → (r : RanFrame g d.engine bytes (Ok (begin_frame remote (answering channel theirs))) refused d.to_send [] d'.engine d'.to_send returned)
    → OfRelay g (body.Begin (answering channel theirs)) refused → (r.one.entry.refusal ≡ None) × IsMapped d'.engine number.0
maps_by_run g d d' remote theirs channel number bytes refused returned a r memory =
    let e : Entry _ = r.one.entry in
    let c : Chain g d.engine (e ∷ []) d'.engine = subst (λ (es : List (Entry _)). Chain g d.engine es d'.engine) r.one.entry_is r.one.ran.steps in
    let all : All IsTaken (e ∷ []) = subst (λ (es : List (Entry _)). All IsTaken es) r.one.entry_is r.one.ran.promise.all_taken in
    let taken : IsTaken e = all 0 e (omega arith) in
    let x = by_step g c.0 c.1 remote (answering channel theirs) channel number.0 a.session bytes refl
    (ap (λ (k : ConnectionView). k.state) c.3.connection_is ∙ a.opened)
    (ap (λ (k : ConnectionView). map.get k.session_by_outgoing_channel channel) c.3.connection_is ∙ a.held)
    (ap (λ es. lookup (nat_eq number.0) es) c.3.sessions_is ∙ a.there) a.begun e r.one.input_is c.4 taken r.received_is
    (subst (λ (o : Option StepError). OfRelay g (body.Begin (answering channel theirs)) o) (sym r.one.refusal_is) memory) in
    (x.0, mapped_stays g c.1 c.2 d'.engine e number.0 x.1 c.5 c.6)

pub takes_theirs : {R : Type 0} (g : Relays R) (d d' : DriverView R) (remote : ℕ) (theirs : BeginModel) (channel : ℕ) (number : SessionNo)
    (bytes : List ℕ) (a : Result (Unit {0}) StepError) → Awaits d remote channel number
    → ReadFrom bytes (Ok (begin_frame remote (answering channel theirs)))
    → RunsRead g d (Ok (begin_frame remote (answering channel theirs))) (Some a) d'
    → (refusal_of a ≡ None) × TakesTheirs g d remote theirs channel number d'
takes_theirs g d d' remote theirs channel number bytes a w from r =
    let f : Frame = begin_frame remote (answering channel theirs) in
    let ran : RanFrame g d.engine bytes (Ok f) (refusal_of a) d.to_send [] d'.engine d'.to_send r.0 = r.2 bytes from in
    let x = maps_by_run g d d' remote theirs channel number bytes (refusal_of a) r.0 w ran r.3 in (
      sym ran.one.refusal_is ∙ x.0,
      record {
        bytes = bytes;
        entry = ran.one.entry;
        runs = runs_of g d d' bytes (Ok f) (refusal_of a) r.0 from ran r.1 r.3;
        received = ran.received_is;
        accepted = x.0;
        mapped = x.1;
      },
    )

-- it is not refused by name
pub not_refused : {R : Type 0} (g : Relays R) (d d' : DriverView R) (remote : ℕ) (theirs : BeginModel) (channel : ℕ) (number : SessionNo)
    (bytes : List ℕ) (e : StepError) → Awaits d remote channel number → ReadFrom bytes (Ok (begin_frame remote (answering channel theirs)))
    → RunsRead g d (Ok (begin_frame remote (answering channel theirs))) (Some (Err e)) d' → ⊥
not_refused g d d' remote theirs channel number bytes e w from r =
    let x : Some e ≡ None = (takes_theirs g d d' remote theirs channel number bytes (Err e) w from r).0 in absurd cc

-- ---- this side's Begin

pub begins_own : {R : Type 0} (g : Relays R) (v w : EngineView R) (n : SessionNo) (settings : SettingsModel) (channel : ℕ)
    → Stepped g v (input.Begin n settings) None w → channel ≡ channel_in (lookup (nat_eq n.0) w.sessions) → BeginsOwn g v n settings channel w
begins_own g v w n settings channel st is =
    let h : HasBegun v n.0 settings w = has_begun g v w n settings st in
    let on : h.channel ≡ channel = sym (is ∙ ap channel_in h.there ∙ h.channel_is) in
    record { stepped = st; handed_out = subst (λ c. w.waiting ≡ begin_frame c (own_begin settings) ∷ []) on h.waits }

no_more : (f g : Frame) (fs : List Frame) → g ∷ fs ≡ f ∷ [] → fs ≡ []
no_more f g fs e = ap others e
  where
    others : List Frame → List Frame
    others [] = []
    others (x ∷ xs) = xs

-- the one frame that waits is taken out, or memory was refused
pub out_by : {R X : Type 0} (view : X → List PieceParts) (v w : EngineView R) (f : Frame) (r : Result (Option X) OutputError) → v.waiting ≡ f ∷ []
    → NextOutput view v r w → is_out r ≡ true → w ≡ record v { waiting = [] }
out_by view v w f (Ok None) is x gone = let k : [] ≡ f ∷ [] = sym x.0 ∙ is in absurd cc
out_by view v w f (Ok (Some y)) is x gone = x.6 ∙ ap (λ (fs : List Frame). record v { waiting = fs }) (no_more f x.0 x.1 (sym x.2 ∙ is))
out_by view v w f (Err (unsent.TooLarge h)) is x gone = x.3 ∙ ap (λ (fs : List Frame). record v { waiting = fs }) (no_more f h x.0 (sym x.1 ∙ is))
out_by view v w f (Err unsent.Memory) is x gone = absurd cc

pub kept_by : {R X : Type 0} (view : X → List PieceParts) (v w : EngineView R) (r : Result (Option X) OutputError)
    → NextOutput view v r w → is_out r ≡ false → (w ≡ v) × SomeRefused
kept_by view v w (Ok y) x kept = absurd cc
kept_by view v w (Err (unsent.TooLarge h)) x kept = absurd cc
kept_by view v w (Err unsent.Memory) x kept = (x.1, x.2)

-- ---- it is put into what is to be sent

pub puts : KeepsLimit → (limit channel : ℕ) (b : BeginModel) (old new : List ℕ) (u : Unit {0}) → 4 ≤ limit
    → EncodesTo (begin_frame channel b) limit old (Ok u) new → (out : List ℕ) × EncodesWhole (begin_frame channel b) limit (Ok out) × (new ≡ old ++ sized out)
puts keeps limit channel b old new u four x = by_pieces x.2.2
  where
    by_pieces : ReadBack (begin_frame channel b) limit x.0 → (out : List ℕ) × EncodesWhole (begin_frame channel b) limit (Ok out) × (new ≡ old ++ sized out)
    by_pieces (inl r) =
        let p : PieceParts = r.1.0 in
        let one : x.0 ≡ p ∷ [] = r.1.1 in
        let all : All (λ q. length (piece_bytes q) ≤ limit) (p ∷ []) =
        subst (λ (qs : List PieceParts). All (λ q. length (piece_bytes q) ≤ limit) qs) one (keeps (begin_frame channel b) limit x.0 four x.2.1) in (
          piece_bytes p,
          (r.1.2, all 0 p (omega arith)),
          x.3 ∙ ap (λ (qs : List PieceParts). old ++ wire_of qs) one
              ∙ ap (λ (ys : List ℕ). old ++ ys) (append-nil (sized (piece_bytes p))),
        )
    by_pieces (inr r) = absurd r.1

fits : (limit channel : ℕ) (b : BeginModel) → FitsOne limit b → Fits (begin_frame channel b) limit
fits limit channel b f = inl (let h : 4 + text_size b ≤ min limit (2 ^ 32 - 5) = f in omega arith)

has_size : (limit channel : ℕ) (b : BeginModel) → FitsOne limit b → ¬ HasNoSize (begin_frame channel b) limit
has_size limit channel b f h = let k : 4 + text_size b ≤ min limit (2 ^ 32 - 5) = f in omega (arith, h)

pub not_put : (limit channel : ℕ) (b : BeginModel) (old new : List ℕ) (e : Error) → FitsOne limit b → EncodesTo (begin_frame channel b) limit old (Err e) new
    → (new ≡ old) × SomeRefused
not_put limit channel b old new unread.OutOfMemory f x = (x.1, by_memory x.0.1)
  where
    by_memory : SomeRefused ⊎ HasNoSize (begin_frame channel b) limit → SomeRefused
    by_memory (inl was) = was
    by_memory (inr none) = absurd (has_size limit channel b f none)
not_put limit channel b old new unread.TooLarge f x = absurd (x.0 (fits limit channel b f))
not_put limit channel b old new unread.DecodeError f x = absurd x.0
not_put limit channel b old new unread.NotImplemented f x = absurd x.0
not_put limit channel b old new (unread.Io text) f x = absurd x.0

-- what became of it, by what the encoder answered
pub puts_so : {R : Type 0} → KeepsLimit → (v : EngineView R) (unfit limit channel : ℕ) (b : BeginModel) (out out' : List ℕ) (r : Result (Unit {0}) Error)
    → 4 ≤ limit → FitsOne limit b → EncodesTo (begin_frame channel b) limit out r out'
    → Puts (record { engine = v; to_send = out; unfit = unfit }) limit channel b (is_ok r) (record { engine = v; to_send = out'; unfit = unfit })
puts_so keeps v unfit limit channel b out out' (Ok u) four f x =
    let y = puts keeps limit channel b out out' u four x in (y.0, y.1, ap (λ (o : List ℕ). record { engine = v; to_send = o; unfit = unfit }) y.2)
puts_so keeps v unfit limit channel b out out' (Err e) four f x =
    let y = not_put limit channel b out out' e f x in (ap (λ (o : List ℕ). record { engine = v; to_send = o; unfit = unfit }) y.0, y.1)

-- ---- it is offered, or why not

module _ {R : Type 0} (g : Relays R) (d first own d' : DriverView R) (remote : ℕ) (number : SessionNo) (settings : SettingsModel)
    (sent : SendsOnly g d first) (none : first.engine.waiting ≡ []) where
  pub offered : (channel limit : ℕ) (b : BeginModel) → Asks g first number settings (Ok channel) own → Puts own limit channel b true d'
      → limit ≡ d.engine.limit → b ≡ answering remote (own_begin settings) → Offers g d remote number settings channel d'
  offered channel limit b asks put l is = record {
    first = first;
    sent = record { sent = sent; none_waits = none };
    begun = asks.0;
    begins = asks.1;
    taken = subst (λ (v : EngineView _). TakesOut g asks.0 v) (sym (ap (λ (x : DriverView _). x.engine) put.2)) asks.2;
    out = put.0;
    turned = subst (λ m. EncodesWhole (begin_frame channel (answering remote (own_begin settings))) m (Ok put.0)) l
        (subst (λ (x : BeginModel). EncodesWhole (begin_frame channel x) limit (Ok put.0)) is put.1);
    to_send = ap (λ (x : DriverView _). x.to_send) put.2 ∙ ap (λ (x : List ℕ). x ++ sized put.0) asks.3;
    unfit = ap (λ (x : DriverView _). x.unfit) put.2 ∙ asks.4;
  }

  pub lost : (channel limit : ℕ) (b : BeginModel) → Asks g first number settings (Ok channel) own → Puts own limit channel b false d'
      → Loses g d number settings d'
  lost channel limit b asks put = record {
    channel = channel;
    first = first;
    sent = record { sent = sent; none_waits = none };
    begun = asks.0;
    begins = asks.1;
    left = inr (subst (λ (v : EngineView _). TakesOut g asks.0 v) (sym (ap (λ (x : DriverView _). x.engine) put.0)) asks.2);
    to_send = ap (λ (x : DriverView _). x.to_send) put.0 ∙ asks.3;
    unfit = ap (λ (x : DriverView _). x.unfit) put.0 ∙ asks.4;
    memory = put.1;
  }

pub not_begun : {R : Type 0} (g : Relays R) (d first d' : DriverView R) (remote : ℕ) (number : SessionNo) (settings : SettingsModel) (why : BeginAnswer)
    → SendsOnly g d first → first.engine.waiting ≡ [] → Asks g first number settings (Err why) d' → Offered g d remote number settings (Err why) d'
not_begun g d first d' remote number settings (answer.Refused e) sent none x = record {
  first = first;
  sent = record { sent = sent; none_waits = none };
  stepped = x.0;
  to_send = x.1;
  unfit = x.2;
}
not_begun g d first d' remote number settings answer.Lost sent none x = record {
  channel = x.0;
  first = first;
  sent = record { sent = sent; none_waits = none };
  begun = d'.engine;
  begins = x.1;
  left = inl refl;
  to_send = x.2;
  unfit = x.3;
  memory = x.4;
}
not_begun g d first d' remote number settings answer.Done sent none x = absurd x
not_begun g d first d' remote number settings (answer.Unread e) sent none x = absurd x
not_begun g d first d' remote number settings answer.NotOpened sent none x = absurd x
not_begun g d first d' remote number settings answer.ChannelInUse sent none x = absurd x
not_begun g d first d' remote number settings answer.TooLarge sent none x = absurd x
not_begun g d first d' remote number settings answer.NoMemory sent none x = absurd x
not_begun g d first d' remote number settings answer.Broken sent none x = absurd x

-- ---- the whole

pub takes_in : {R : Type 0} (g : Relays R) (d d' : DriverView R) (remote : ℕ) (theirs : BeginModel) (channel : ℕ) (number : SessionNo)
    (bytes : List ℕ) (a : Option (Result (Unit {0}) StepError)) → Awaits d remote channel number
    → ReadFrom bytes (Ok (begin_frame remote (answering channel theirs)))
    → RunsRead g d (Ok (begin_frame remote (answering channel theirs))) a d' → TakesIn g d remote theirs channel number (taken_as a) d'
takes_in g d d' remote theirs channel number bytes None w from (inl was, sends) = inl (was, sends)
takes_in g d d' remote theirs channel number bytes None w from (inr is, sends) = absurd cc
takes_in g d d' remote theirs channel number bytes (Some (Ok u)) w from r = (takes_theirs g d d' remote theirs channel number bytes (Ok u) w from r).1
takes_in g d d' remote theirs channel number bytes (Some (Err e)) w from r = absurd (not_refused g d d' remote theirs channel number bytes e w from r)

pub answers : {R : Type 0} (g : Relays R) (d between d' : DriverView R) (frame : List ℕ) (remote : ℕ) (theirs : BeginModel) (number : SessionNo)
    (settings : SettingsModel) (channel : ℕ) (a : BeginAnswer) → IsToAnswer d frame remote theirs → Offers g d remote number settings channel between
    → TakesIn g between remote theirs channel number a d' → AnswersBegin g d frame number settings a d'
answers g d between d' frame remote theirs number settings channel answer.Done is o x =
    record { remote = remote; theirs = theirs; is = is; channel = channel; between = between; offers = o; takes = x }
answers g d between d' frame remote theirs number settings channel answer.Broken is o x =
    record { remote = remote; theirs = theirs; is = is; channel = channel; between = between; offers = o; why = x }
answers g d between d' frame remote theirs number settings channel (answer.Unread e) is o x = absurd x
answers g d between d' frame remote theirs number settings channel answer.NotOpened is o x = absurd x
answers g d between d' frame remote theirs number settings channel answer.ChannelInUse is o x = absurd x
answers g d between d' frame remote theirs number settings channel answer.TooLarge is o x = absurd x
answers g d between d' frame remote theirs number settings channel answer.NoMemory is o x = absurd x
answers g d between d' frame remote theirs number settings channel (answer.Refused e) is o x = absurd x
answers g d between d' frame remote theirs number settings channel answer.Lost is o x = absurd x
