-- Dispositions that go out in turn, in answer to one of the peer's.
use Rattle.std.proofs.Common.{◌≡◌, ◌-◌, ◌<◌, ◌+◌, ℕ, List, [], ◌∷◌, ◌++◌, length, map, Bool, refl, ap, sym, subst, ◌∙◌, arith, append_assoc}
use Rattle.std.proofs.lemmas.List.{append-nil}
use Rattle.amqp_types.specs.Disposition.{DispositionModel}
use Rattle.amqp_session.specs.declared.frame.SessionFrame.{SessionFrame}
use Rattle.amqp_session.specs.declared.frame.SessionFrameBody.TheVariants as said
use Rattle.amqp_session.specs.Relay.{Relays}
use Rattle.amqp_session.specs.Session.{SessionView}
use Rattle.amqp_session.specs.Disposing.{SendDispositionStep}
use Rattle.amqp_session.specs.OutgoingFrames.{call_frames, calls_frames}
use Rattle.amqp_session.specs.History as session
use Rattle.amqp_engine.specs.Calls.{SentEach}
use Rattle.amqp_engine.specs.Sessions.{SendsAll}
use Rattle.amqp_engine.specs.Waits.{disposition_frame}

sent_push : {R : Type 0} (ds : List DispositionModel) (calls : List (session.SessionCall R)) (d : DispositionModel) (terminal : Bool) (f : SessionFrame) →
    SentEach ds calls → SentEach (ds ++ d ∷ []) (calls ++ session.SendsDisposition d terminal f ∷ [])
sent_push [] calls d terminal f s = (terminal, f, [], ap (λ cs. cs ++ session.SendsDisposition d terminal f ∷ []) s, refl)
sent_push (x ∷ ds) calls d terminal f s = (
  s.0,
  s.1,
  s.2 ++ session.SendsDisposition d terminal f ∷ [],
  ap (λ cs. cs ++ session.SendsDisposition d terminal f ∷ []) s.3,
  sent_push ds s.2 d terminal f s.4,
)

chain_push : {R : Type 0} (g : Relays R) (v m w : SessionView R) (calls : List (session.SessionCall R)) (e : session.SessionCall R) →
    session.SessionChain g v calls m → session.SessionStep g m e w → session.SessionChain g v (calls ++ e ∷ []) w
chain_push g v m w [] e c s = (w, subst (λ (x : SessionView _). session.SessionStep g x e w) c s, refl)
chain_push g v m w (x ∷ xs) e c s = (c.0, c.1, chain_push g c.0 m w xs e c.2 s)

frames_push : {R : Type 0} (calls : List (session.SessionCall R)) (e : session.SessionCall R) → calls_frames (calls ++ e ∷ []) ≡ calls_frames calls ++ call_frames e
frames_push [] e = append-nil (call_frames e)
frames_push (x ∷ xs) e = ap (λ fs. call_frames x ++ fs) (frames_push xs e) ∙ sym (append_assoc (call_frames x) (calls_frames xs) (call_frames e))

map_push : (c : ℕ) (ds : List DispositionModel) (d : DispositionModel) → map (disposition_frame c) (ds ++ d ∷ []) ≡ map (disposition_frame c) ds ++ disposition_frame c d ∷ []
map_push c [] d = refl
map_push c (x ∷ ds) d = ap (λ fs. disposition_frame c x ∷ fs) (map_push c ds d)

-- one more goes out
pub sends_more : {R : Type 0} (g : Relays R) (v m w : SessionView R) (ds : List DispositionModel) (d : DispositionModel) (terminal : Bool) (f : SessionFrame) →
    SendsAll g v ds m → SendDispositionStep m d terminal f w → SendsAll g v (ds ++ d ∷ []) w
sends_more g v m w ds d terminal f all step =
    let e = session.SendsDisposition d terminal f in
    let frame : f ≡ disposition_frame v.outgoing_channel d = step.1 ∙ ap (λ c. disposition_frame c d) all.4 in (
      all.0 ++ e ∷ [],
      sent_push ds all.0 d terminal f all.1,
      chain_push g v m w all.0 e all.2 step,
      frames_push all.0 e ∙ ap (λ fs. fs ++ f ∷ []) all.3 ∙ ap (λ x. map (disposition_frame v.outgoing_channel) ds ++ x ∷ []) frame ∙ sym (map_push v.outgoing_channel ds d),
      ap (λ (x : SessionView _). x.outgoing_channel) step.2 ∙ all.4,
    )

-- The dispositions that went out, and those that are still to go: they stand in the ring the other way round.
pub record Turning {R : Type 0} (g : Relays R) (v w : SessionView R) (ds items : List DispositionModel) (left : ℕ) : Type 0 where
  pub done : List DispositionModel
  pub todo : List DispositionModel
  pub all : ds ≡ done ++ todo
  pub turned : items ≡ todo ++ done
  pub count : length todo ≡ left
  pub sent : SendsAll g v done w

pub turning_start : {R : Type 0} (g : Relays R) (v : SessionView R) (ds items : List DispositionModel) → items ≡ ds → Turning g v v ds items (length items)
turning_start g v ds items is = record {
  done = [];
  todo = ds;
  all = refl;
  turned = is ∙ sym (append-nil ds);
  count = ap length (sym is);
  sent = ([], refl, refl, refl, refl);
}

-- the first one goes to the end of the ring, as it went out
pub turning_more : {R : Type 0} (g : Relays R) (v m w : SessionView R) (ds items rest items' : List DispositionModel) (i n : ℕ) (d d' : DispositionModel) (terminal : Bool) (f : SessionFrame) →
    i < n → Turning g v m ds items (n - i) → items ≡ d ∷ rest → SendDispositionStep m d terminal f w → d' ≡ d → items' ≡ rest ++ d' ∷ [] → Turning g v w ds items' (n - (i + 1))
turning_more g v m w ds items rest items' i n d d' terminal f lt t popped step same pushed = by t.todo t.all t.turned t.count
  where
    heads : (a b : DispositionModel) (xs ys : List DispositionModel) → a ∷ xs ≡ b ∷ ys → (a ≡ b) × (xs ≡ ys)
    heads a b xs ys e = (cc, cc)

    by : (todo : List DispositionModel) → ds ≡ t.done ++ todo → items ≡ todo ++ t.done → length todo ≡ n - i → Turning g v w ds items' (n - (i + 1))
    by [] all turned count = absurd (omega (arith, lt, count))
    by (x ∷ xs) all turned count =
        let h = heads x d (xs ++ t.done) rest (sym turned ∙ popped) in
        record {
          done = t.done ++ d ∷ [];
          todo = xs;
          all = all ∙ ap (λ y. t.done ++ y ∷ xs) h.0 ∙ sym (append_assoc t.done (d ∷ []) xs);
          turned = pushed ∙ ap (λ y. rest ++ y ∷ []) same ∙ ap (λ ys. ys ++ d ∷ []) (sym h.1) ∙ append_assoc xs t.done (d ∷ []);
          count = omega (arith, lt, count);
          sent = sends_more g v m w t.done d terminal f t.sent step;
        }

-- all went out, and stand as they stood
pub turning_end : {R : Type 0} (g : Relays R) (v w : SessionView R) (ds items : List DispositionModel) (left : ℕ) → left ≡ 0 → Turning g v w ds items left → (items ≡ ds) × SendsAll g v ds w
turning_end g v w ds items left none t = by t.todo t.all t.turned (t.count ∙ none)
  where
    by : (todo : List DispositionModel) → ds ≡ t.done ++ todo → items ≡ todo ++ t.done → length todo ≡ 0 → (items ≡ ds) × SendsAll g v ds w
    by [] all turned count = (turned ∙ sym (all ∙ append-nil t.done), subst (λ xs. SendsAll g v xs w) (sym (all ∙ append-nil t.done)) t.sent)
    by (x ∷ xs) all turned count = absurd (omega (arith, count))

pub same_disposition : (a b : DispositionModel) → said.Disposition a ≡ said.Disposition b → a ≡ b
same_disposition a b e = cc
