-- A transfer that is one piece at its widest is one frame on the wire.
use Rattle.std.proofs.Common.{◌≡◌, ◌≤◌, ◌+◌, ◌%◌, ◌^◌, ◌++◌, ℕ, zero, suc, List, [], ◌∷◌, length, take, Option, Some, None, refl, ap, sym, subst, ◌∙◌, inl, inr, arith, append_assoc}
use Rattle.amqp_types.specs.declared.states.ConnectionState.{ConnectionState}
use Rattle.amqp_types.specs.Open.{OpenModel}
use Rattle.amqp_frames.specs.declared.frame.Frame.{Frame}
use Rattle.amqp_frames.specs.declared.frame.FrameBody.{FrameBody}
use Rattle.amqp_frames.specs.declared.frame.FrameBody.TheVariants as body
use Rattle.amqp_frames.specs.Cut.{Whole}
use Rattle.amqp_frames.proofs.TransferLengthLemmas.{number_under}
use Rattle.amqp_session.specs.declared.frame.SessionFrame.{SessionFrame}
use Rattle.amqp_session.specs.declared.frame.SessionFrameBody.{SessionFrameBody}
use Rattle.amqp_session.specs.declared.frame.SessionFrameBody.TheVariants as said
use Rattle.amqp_session.specs.OutgoingFrames.{call_frames, calls_frames}
use Rattle.amqp_session.specs.Transfers.{RequestedTransfer, first_of, numbered}
use Rattle.amqp_session.specs.Headline as single
use Rattle.amqp_session.specs.History as session
use Rattle.amqp_session.specs.Relay.{Relays}
use Rattle.amqp_engine.specs.declared.engine.answer.Answer.{Answer}
use Rattle.amqp_engine.specs.declared.engine.answer.Answer.TheVariants.{Done, Refused, Out, TooLarge}
use Rattle.amqp_engine.specs.declared.engine.step_error.StepError.{StepError}
use Rattle.amqp_engine.specs.declared.engine.step_error.StepError.TheVariants as no
use Rattle.amqp_engine.specs.ByHistory.{begun, limit_by, of_session, waiting_by}
use Rattle.amqp_engine.specs.Inner.ByHistory.{last_frames_from}
use Rattle.amqp_engine.specs.EngineView.{EngineView}
use Rattle.amqp_engine.specs.Entry.{Entry}
use Rattle.amqp_engine.specs.Event.{Event, SentOpen, SentClose, event}
use Rattle.amqp_engine.specs.Headline.{Asked, Headline, own_frames}
use Rattle.amqp_engine.specs.Legal.{Legal}
use Rattle.amqp_engine.specs.OneFrame.{AreInFrames, InOneFrame, NoLimitBelow, SpeaksInFrames, TransfersAreFrames}
use Rattle.amqp_engine.specs.Output.{IsOut, IsOuts, OutputOf}
use Rattle.amqp_engine.specs.Views.{Stands}
use Rattle.amqp_engine.specs.Waits as waits
use Rattle.amqp_engine.proofs.BareHistoryLemmas.{apart}
use Rattle.amqp_engine.proofs.OnChannelLemmas.{calls_here, of_both}
use Rattle.amqp_engine.proofs.RequestedTransferLemmas.{EachOnePiece, keeps_short}
use Rattle.amqp_engine.specs.EngineView.{new_engine}

-- each transfer that a session accepted is short
abbrev Keeps : {R : Type 0} → ℕ → List (Entry R) → Type 0
Keeps m T = (n : ℕ) → EachOnePiece m (single.accepted (of_session n T))

-- ---- frames that are whole where they are transfers

abbrev ShortBody : FrameBody → Frame → ℕ → Type 0
ShortBody (body.Transfer t payload) f m = Whole f m
ShortBody b f m = Unit {0}

abbrev Shorts : ℕ → List Frame → Type 0
Shorts m [] = Unit {0}
Shorts m (f ∷ fs) = ShortBody f.body f m × Shorts m fs

front : (m : ℕ) (xs ys : List Frame) → Shorts m (xs ++ ys) → Shorts m xs
front m [] ys s = tt
front m (f ∷ xs) ys s = (s.0, front m xs ys s.1)

back : (m : ℕ) (xs ys : List Frame) → Shorts m (xs ++ ys) → Shorts m ys
back m [] ys s = s
back m (f ∷ xs) ys s = back m xs ys s.1

both : (m : ℕ) (xs ys : List Frame) → Shorts m xs → Shorts m ys → Shorts m (xs ++ ys)
both m [] ys s t = t
both m (f ∷ xs) ys s t = (s.0, both m xs ys s.1 t)

-- ---- the answers of such frames

one_out : (m limit : ℕ) (b : FrameBody) (f : Frame) (a : Answer) → m ≤ limit → ShortBody b f m → IsOut limit f a → InOneFrame b f a
one_out m limit (body.Transfer t payload) f (Out pieces) le s o =
    let whole : Whole f limit = omega arith in
    elim o.1 [
      | inl one ↦ one.1
      | inr cut ↦ absurd (cut.0 whole)
    ]
one_out m limit (body.Transfer t payload) f (TooLarge g) le s o = let whole : Whole f limit = omega arith in absurd (o.0 (inl whole))
one_out m limit (body.Transfer t payload) f Done le s o = absurd o
one_out m limit (body.Transfer t payload) f (Refused e) le s o = absurd o
one_out m limit b f a le s o = tt

all_out : (m limit : ℕ) (fs : List Frame) (outs : List Answer) → m ≤ limit → Shorts m fs → IsOuts limit fs outs → AreInFrames fs outs
all_out m limit [] outs le s o = o
all_out m limit (f ∷ fs) outs le s o = (o.0, o.1, o.2, one_out m limit f.body f o.0 le s.0 o.3, all_out m limit fs o.1 le s.1 o.4)

-- ---- the frames of a session's calls

abbrev FromSession : ℕ → List SessionFrame → Type 0
FromSession m [] = Unit {0}
FromSession m (f ∷ fs) = ShortBody (waits.body_of f.body) (waits.frame_of f) m × FromSession m fs

session_front : (m : ℕ) (xs ys : List SessionFrame) → FromSession m (xs ++ ys) → FromSession m xs
session_front m [] ys s = tt
session_front m (f ∷ xs) ys s = (s.0, session_front m xs ys s.1)

session_back : (m : ℕ) (xs ys : List SessionFrame) → FromSession m (xs ++ ys) → FromSession m ys
session_back m [] ys s = s
session_back m (f ∷ xs) ys s = session_back m xs ys s.1

taken : (m k : ℕ) (hs : List RequestedTransfer) → EachOnePiece m hs → EachOnePiece m (take k hs)
taken m zero hs a = tt
taken m (suc k) [] a = tt
taken m (suc k) (h ∷ hs) a = (a.0, taken m k hs a.1)

-- whatever numbers they get
numbered_short : (m c n : ℕ) (hs : List RequestedTransfer) → EachOnePiece m hs → FromSession m (numbered c n hs)
numbered_short m c n [] a = tt
numbered_short m c n (h ∷ hs) a = (let u = number_under (n % 2 ^ 32) h.is_first h.transfer in let s = a.0 in omega arith, numbered_short m c (n + first_of h) hs a.1)

-- where the transfers among frames are short
all_of : (m : ℕ) (fs : List SessionFrame) → FromSession m (single.transfers_in fs) → Shorts m (waits.sent fs)
all_of m [] s = tt
all_of m (f ∷ fs) s = (let h = first f.body refl s in h.0, all_of m fs (let h = first f.body refl s in h.1))
  where
    first : (b : SessionFrameBody) → f.body ≡ b → FromSession m (single.transfer_in b f ++ single.transfers_in fs)
        → ShortBody (waits.body_of f.body) (waits.frame_of f) m × FromSession m (single.transfers_in fs)
    first (said.Transfer t payload) e h = h
    first (said.Attach p) e h = (subst (λ b. ShortBody (waits.body_of b) (waits.frame_of f) m) (sym e) tt, h)
    first (said.Flow p) e h = (subst (λ b. ShortBody (waits.body_of b) (waits.frame_of f) m) (sym e) tt, h)
    first (said.Disposition p) e h = (subst (λ b. ShortBody (waits.body_of b) (waits.frame_of f) m) (sym e) tt, h)
    first (said.Detach p) e h = (subst (λ b. ShortBody (waits.body_of b) (waits.frame_of f) m) (sym e) tt, h)
    first (said.Begin p) e h = (subst (λ b. ShortBody (waits.body_of b) (waits.frame_of f) m) (sym e) tt, h)
    first (said.End p) e h = (subst (λ b. ShortBody (waits.body_of b) (waits.frame_of f) m) (sym e) tt, h)

transfers_both : (xs ys : List SessionFrame) → single.transfers_in (xs ++ ys) ≡ single.transfers_in xs ++ single.transfers_in ys
transfers_both [] ys = refl
transfers_both (f ∷ xs) ys =
    ap (λ (fs : List SessionFrame). single.transfer_in f.body f ++ fs) (transfers_both xs ys) ∙ sym (append_assoc (single.transfer_in f.body f) (single.transfers_in xs) (single.transfers_in ys))

-- the transfers that calls hand out are those among their frames
handed_is : {R : Type 0} (cs : List (session.SessionCall R)) → single.handed cs ≡ single.transfers_in (calls_frames cs)
handed_is [] = refl
handed_is (c ∷ cs) = ap (λ (fs : List SessionFrame). single.transfers_in (call_frames c) ++ fs) (handed_is cs) ∙ sym (transfers_both (call_frames c) (calls_frames cs))

handed_both : {R : Type 0} (xs ys : List (session.SessionCall R)) → single.handed (xs ++ ys) ≡ single.handed xs ++ single.handed ys
handed_both [] ys = refl
handed_both (c ∷ xs) ys =
    ap (λ (fs : List SessionFrame). single.transfers_in (call_frames c) ++ fs) (handed_both xs ys) ∙ sym (append_assoc (single.transfers_in (call_frames c)) (single.handed xs) (single.handed ys))

-- ---- the frames of an entry

session_short : {R : Type 0} (m : ℕ) (s : ConnectionState) (o : OpenModel) (T : List (Entry R)) → Headline s o T → Keeps m T → (n : ℕ) → FromSession m (single.handed (of_session n T))
session_short m s o T head short n = go (begun s n T) refl
  where
    go : (b : Option session.Made) → begun s n T ≡ b → FromSession m (single.handed (of_session n T))
    go None e = subst (λ (cs : List (session.SessionCall _)). FromSession m (single.handed cs)) (sym (head.unknown n e)) tt
    go (Some made) e =
        let a = (head.each n made e).accounts in
        subst (FromSession m) (sym a.handed_out) (numbered_short m made.channel 0 (take (length (single.handed (of_session n T))) (single.accepted (of_session n T)))
        (taken m (length (single.handed (of_session n T))) (single.accepted (of_session n T)) (short n)))

part_short : {R : Type 0} (m : ℕ) (s : ConnectionState) (o : OpenModel) (T : List (Entry R)) → Headline s o T → Keeps m T → (n : ℕ) (before after : List (Entry R)) (e : Entry R) → T ≡ before ++ e ∷ after → e.reached ≡ Some n → FromSession m (single.handed e.calls)
part_short m s o T head short n before after e is r =
    let split : of_session n T ≡ of_session n before ++ of_session n (e ∷ after) = ap (of_session n) is ∙ of_both n before (e ∷ after) in
    let all = subst (λ (cs : List (session.SessionCall _)). FromSession m (single.handed cs)) split (session_short m s o T head short n) in
    let rest = session_back m (single.handed (of_session n before)) (single.handed (of_session n (e ∷ after)))
    (subst (FromSession m) (handed_both (of_session n before) (of_session n (e ∷ after))) all) in
    let cs = ap (λ (xs : List (session.SessionCall _)). xs ++ of_session n after) (calls_here n e r) in
    session_front m (single.handed e.calls) (single.handed (of_session n after))
    (subst (FromSession m) (ap single.handed cs ∙ handed_both e.calls (of_session n after)) rest)

calls_short : {R : Type 0} (m : ℕ) (s : ConnectionState) (o : OpenModel) (T : List (Entry R)) → Headline s o T → Keeps m T → (before after : List (Entry R)) (e : Entry R) → T ≡ before ++ e ∷ after → (r : Option ℕ) → e.reached ≡ r → Shorts m (waits.sent (calls_frames e.calls))
calls_short m s o T head short before after e is None r =
    let none : e.calls ≡ [] = subst (λ x. Asked before x e) r (head.all_asked before after e is) in
    subst (λ (cs : List (session.SessionCall _)). Shorts m (waits.sent (calls_frames cs))) (sym none) tt
calls_short m s o T head short before after e is (Some n) r = all_of m (calls_frames e.calls) (subst (FromSession m) (handed_is e.calls) (part_short m s o T head short n before after e is r))

own_short : (m : ℕ) (o : OpenModel) → (ev : Event) → Shorts m (own_frames o ev)
own_short m o SentOpen = (tt, tt)
own_short m o (SentClose error) = (tt, tt)
own_short m o ev = tt

entry_short : {R : Type 0} (m : ℕ) (s : ConnectionState) (o : OpenModel) (T : List (Entry R)) → Headline s o T → Keeps m T → (before after : List (Entry R)) (e : Entry R) → T ≡ before ++ e ∷ after → Shorts m e.frames
entry_short m s o T head short before after e is =
    subst (Shorts m) (sym (head.frames_are before after e is))
    (both m (own_frames o (event e)) (waits.sent (calls_frames e.calls)) (own_short m o (event e)) (calls_short m s o T head short before after e is e.reached refl))

-- ---- the frames of all entries, and those that wait

abbrev EachShort : {R : Type 0} → ℕ → List (Entry R) → Type 0
EachShort m [] = Unit {0}
EachShort m (e ∷ es) = Shorts m e.frames × EachShort m es

each_short : {R : Type 0} (m : ℕ) (s : ConnectionState) (o : OpenModel) (T : List (Entry R)) → Headline s o T → Keeps m T
    → (before es : List (Entry R)) → T ≡ before ++ es → EachShort m es
each_short m s o T head short before [] is = tt
each_short m s o T head short before (e ∷ es) is =
    (entry_short m s o T head short before es e is, each_short m s o T head short (before ++ e ∷ []) es (is ∙ sym (append_assoc before (e ∷ []) es)))

waits_short : {R : Type 0} (m : ℕ) (old : List Frame) (es : List (Entry R)) → Shorts m old → EachShort m es → Shorts m (last_frames_from old es)
waits_short m old [] s a = s
waits_short m old (e ∷ es) s a = waits_short m (waiting_by e.refusal e old) es (by e.refusal) a.1
  where
    by : (r : Option StepError) → Shorts m (waiting_by r e old)
    by (Some no.OutputWaiting) = s
    by r = a.0

each_front : {R : Type 0} (m : ℕ) (xs ys : List (Entry R)) → EachShort m (xs ++ ys) → EachShort m xs
each_front m [] ys a = tt
each_front m (e ∷ xs) ys a = (a.0, each_front m xs ys a.1)

each_back : {R : Type 0} (m : ℕ) (xs ys : List (Entry R)) → EachShort m (xs ++ ys) → EachShort m ys
each_back m [] ys a = a
each_back m (e ∷ xs) ys a = each_back m xs ys a.1

-- ---- what a run puts out

speaks : {R : Type 0} (m limit : ℕ) (waiting left : List Frame) (es : List (Entry R)) (out : List Answer) → NoLimitBelow m limit es → Shorts m waiting → EachShort m es
    → OutputOf limit waiting es left out → SpeaksInFrames waiting es left out
speaks m limit waiting left [] out le s a p = (p.gone, p.left, all_out m limit p.gone out le (front m p.gone left (subst (Shorts m) p.left s)) p.answers)
speaks m limit waiting left (e ∷ es) out le s a p =
    (p.0, p.1, p.2, all_out m limit waiting p.0 le.0 s p.3, speaks m (limit_by limit (event e)) e.frames left es p.1 le.1 a.0 a.1 p.4)

abbrev pub ViewsLaw : {R : Type 0} → Relays R → Type 0
ViewsLaw g = (s : ConnectionState) (o : OpenModel) (H : List (Entry _)) (w : EngineView _) → Legal g s o H w → Stands s o H w

pub are_frames : {R : Type 0} (g : Relays R) → ViewsLaw g → TransfersAreFrames g
unfolding Legal
are_frames g views s o H wished entries v w inputs left answers after legal p m asked le =
    let goes = (p.goes_on s o H legal).0 in
    let chain = apart g (H ++ (wished ++ entries)) (new_engine goes.0 s o) w goes.1 in
    let short : Keeps m (H ++ (wished ++ entries)) = λ n. keeps_short g m n (H ++ (wished ++ entries)) (new_engine goes.0 s o) w chain asked in
    let head = (p.goes_on s o H legal).1 in
    let all = each_short m s o (H ++ (wished ++ entries)) head short [] (H ++ (wished ++ entries)) refl in
    let waiting = (views s o H v legal).waiting_is in
    let old = subst (Shorts m) waiting.1 (waits_short m [] H tt (each_front m H (wished ++ entries) all)) in
    speaks m v.limit v.waiting w.waiting (wished ++ entries) p.out le (back m waiting.0 v.waiting old) (each_back m H (wished ++ entries) all) p.said
