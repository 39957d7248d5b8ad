-- Each frame that a session hands out in a run is on its channel.
use Rattle.std.proofs.Common.{◌≡◌, ◌++◌, ℕ, List, [], ◌∷◌, Some, refl, ap, sym, subst, ◌∙◌, inl, inr, cond, nat_eq, append_assoc, true, arith}
use Rattle.std.proofs.lemmas.Bool.Decides.{nat_tests}
use Rattle.amqp_types.specs.declared.states.ConnectionState.{ConnectionState}
use Rattle.amqp_types.specs.Open.{OpenModel}
use Rattle.amqp_session.specs.declared.frame.SessionFrame.{SessionFrame}
use Rattle.amqp_session.specs.Relay.{Relays}
use Rattle.amqp_session.specs.Session.{SessionView}
use Rattle.amqp_session.specs.OutgoingFrames.{call_frames, calls_frames, OnChannel}
use Rattle.amqp_session.specs.History as session
use Rattle.amqp_frames.specs.declared.frame.Frame.{Frame}
use Rattle.amqp_engine.specs.Waits.{sent}
use Rattle.amqp_connection.specs.Connection.{new_connection}
use Rattle.amqp_engine.specs.EngineView.{EngineView, new_engine}
use Rattle.amqp_engine.specs.Entry.{Entry}
use Rattle.amqp_engine.proofs.BareHistoryLemmas.{Chain, LeadsTo}
use Rattle.amqp_engine.specs.Event.{is_number}
use Rattle.amqp_engine.specs.ByHistory.{calls_at, of_session, begun}
use Rattle.amqp_engine.specs.Headline.{AllOn, OnItsChannel}
use Rattle.amqp_engine.proofs.BegunSessionLemmas.{some_none}
use Rattle.amqp_engine.proofs.StepChainLemmas.{passage, chain_split}
use Rattle.amqp_engine.proofs.SessionProjectionLemmas.{Legal, legal, same_some}

pub of_both : {R : Type 0} (n : ℕ) (xs ys : List (Entry R)) → of_session n (xs ++ ys) ≡ of_session n xs ++ of_session n ys
of_both n [] ys = refl
of_both n (e ∷ xs) ys = ap (λ (cs : List (session.SessionCall _)). calls_at n e ++ cs) (of_both n xs ys) ∙ sym (append_assoc (calls_at n e) (of_session n xs) (of_session n ys))

frames_both : {R : Type 0} (xs ys : List (session.SessionCall R)) → calls_frames (xs ++ ys) ≡ calls_frames xs ++ calls_frames ys
frames_both [] ys = refl
frames_both (c ∷ xs) ys = ap (λ (fs : List SessionFrame). call_frames c ++ fs) (frames_both xs ys) ∙ sym (append_assoc (call_frames c) (calls_frames xs) (calls_frames ys))

front_on : (c : ℕ) (xs ys : List SessionFrame) → OnChannel c (xs ++ ys) → OnChannel c xs
front_on c [] ys a = tt
front_on c (f ∷ xs) ys a = (a.0, front_on c xs ys a.1)

back_on : (c : ℕ) (xs ys : List SessionFrame) → OnChannel c (xs ++ ys) → OnChannel c ys
back_on c [] ys a = a
back_on c (f ∷ xs) ys a = back_on c xs ys a.1

sent_on : (c : ℕ) (fs : List SessionFrame) → OnChannel c fs → AllOn c (sent fs)
sent_on c [] a = tt
sent_on c (f ∷ fs) a = (a.0, sent_on c fs a.1)

pub calls_here : {R : Type 0} (n : ℕ) (e : Entry R) → e.reached ≡ Some n → calls_at n e ≡ e.calls
calls_here n e r =
    let yes : nat_eq n n ≡ true = grind (arith, nat_tests) in
    ap (λ o. cond (is_number n o) e.calls []) r ∙ ap (λ b. cond b e.calls []) yes

-- the frames of one entry, among those of its session
part_on : {R : Type 0} (c n : ℕ) (before after : List (Entry R)) (e : Entry R) → e.reached ≡ Some n → OnChannel c (calls_frames (of_session n (before ++ e ∷ after))) → OnChannel c (calls_frames e.calls)
part_on c n before after e r a =
    let all = subst (λ (cs : List (session.SessionCall _)). OnChannel c (calls_frames cs)) (of_both n before (e ∷ after)) a in
    let rest = back_on c (calls_frames (of_session n before)) (calls_frames (of_session n (e ∷ after))) (subst (λ (fs : List SessionFrame). OnChannel c fs) (frames_both (of_session n before) (of_session n (e ∷ after))) all) in
    let here = front_on c (calls_frames (calls_at n e)) (calls_frames (of_session n after)) (subst (λ (fs : List SessionFrame). OnChannel c fs) (frames_both (calls_at n e) (of_session n after)) rest) in
    subst (λ (cs : List (session.SessionCall _)). OnChannel c (calls_frames cs)) (calls_here n e r) here

abbrev pub ChannelsLaw : {R : Type 0} → Relays R → Type 0
ChannelsLaw g = (m : session.Made) (h : List (session.SessionCall _)) (v : SessionView _) → session.LeadsTo g m h v → OnChannel m.channel (calls_frames h)

pub on_channel : {R : Type 0} (g : Relays R) → ChannelsLaw g → (made : ConnectionState) (o : OpenModel) (H : List (Entry R)) (w : EngineView R) → LeadsTo g made o H w → OnItsChannel made H
on_channel g law made o H w l before after e is n m b r =
    let x = chain_split g before (e ∷ after) (new_engine l.0 made o) w (subst (λ (es : List (Entry _)). Chain g (new_engine l.0 made o) es w) is l.1) in
    let p = passage g x.2.0 x.2.1 e x.2.3 in
    subst (λ (fs : List Frame). AllOn m.channel fs) (sym (p.session_frames n r)) (sent_on m.channel (calls_frames e.calls) (by (legal g H n (new_engine l.0 made o) w l.1 refl)))
  where
    by : Legal g n (new_connection l.0 made o) H w → OnChannel m.channel (calls_frames e.calls)
    by (inl a) = absurd (some_none (sym b ∙ a.unbegun))
    by (inr p) =
        let same = same_some p.made m (begun made n H) p.begun_is b in
        let all : OnChannel p.made.channel (calls_frames (of_session n H)) = law p.made (of_session n H) p.last p.legal in
        let on : OnChannel m.channel (calls_frames (of_session n H)) = subst (λ (x : session.Made). OnChannel x.channel (calls_frames (of_session n H))) same all in
        part_on m.channel n before after e r (subst (λ (es : List (Entry _)). OnChannel m.channel (calls_frames (of_session n es))) is on)
