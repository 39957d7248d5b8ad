-- What is put out, step by step.
use Rattle.std.proofs.Common.{◌⊎◌, None, nat_eq, inl, inr, ◌≡◌, ℕ, List, [], ◌∷◌, ◌++◌, refl, ap, sym, subst, ◌∙◌, append_assoc, Some}
use Rattle.std.proofs.lemmas.List.{append-nil}
use Rattle.amqp_frames.specs.declared.frame.Frame.{Frame}
use Rattle.amqp_frames.specs.Cut.{Fits}
use Rattle.amqp_engine.specs.declared.engine.answer.Answer.{Answer}
use Rattle.amqp_engine.specs.Waits.{FirstIs}
use Rattle.amqp_engine.specs.EngineView.{EngineView}
use Rattle.amqp_engine.specs.Entry.{Entry}
use Rattle.amqp_engine.specs.History.{IsClosed, IsEnded, OutcomesTaken, OutputTaken, OnlyLeft}
use Rattle.amqp_engine.specs.Kept.{Outcomes}
use Rattle.amqp_connection.specs.Connection.{ConnectionView}
use Rattle.amqp_session.specs.Session.{SessionView}
use Rattle.std.specs.Map.{lookup}
use Rattle.std.specs.FinMap as map
use Rattle.amqp_types.specs.declared.states.SessionState.TheVariants.{Unmapped}
use Rattle.amqp_engine.specs.Event.{event}
use Rattle.amqp_engine.specs.ByHistory.{limit_by, limit_after}
use Rattle.amqp_engine.specs.Output.{FirstFits, IsOut, IsOuts, PutOut, OutputOf, NextAnswer, answer_of}

-- ---- what leaves

outcomes_same : {R : Type 0} (v w : EngineView R) → w.outcomes ≡ v.outcomes → OutcomesTaken v w
outcomes_same v w e = record { close = inl (ap (λ (o : Outcomes). o.connection) e); ends = λ n. inl (ap (λ (o : Outcomes). map.get o.sessions n) e) }

-- what is gone once stays gone, and connection and sessions stayed meanwhile
outcomes_more : {R : Type 0} (u v w : EngineView R) → v.connection ≡ u.connection → v.sessions ≡ u.sessions → OutcomesTaken u v → OutcomesTaken v w → OutcomesTaken u w
outcomes_more u v w k ss s t = record { close = close s.close t.close; ends = λ n. ended n (s.ends n) (t.ends n) }
  where
    close : (v.outcomes.connection ≡ u.outcomes.connection) ⊎ (IsClosed u × (v.outcomes.connection ≡ None)) →
        (w.outcomes.connection ≡ v.outcomes.connection) ⊎ (IsClosed v × (w.outcomes.connection ≡ None)) →
        (w.outcomes.connection ≡ u.outcomes.connection) ⊎ (IsClosed u × (w.outcomes.connection ≡ None))
    close (inl a) (inl b) = inl (b ∙ a)
    close (inr a) (inl b) = inr (a.0, b ∙ a.1)
    close a (inr b) = inr (ap (λ (x : ConnectionView). x.state) (sym k) ∙ b.0, b.1)

    ended : (n : ℕ) → (map.get v.outcomes.sessions n ≡ map.get u.outcomes.sessions n) ⊎ (IsEnded n u × (map.get v.outcomes.sessions n ≡ None)) →
        (map.get w.outcomes.sessions n ≡ map.get v.outcomes.sessions n) ⊎ (IsEnded n v × (map.get w.outcomes.sessions n ≡ None)) →
        (map.get w.outcomes.sessions n ≡ map.get u.outcomes.sessions n) ⊎ (IsEnded n u × (map.get w.outcomes.sessions n ≡ None))
    ended n (inl a) (inl b) = inl (b ∙ a)
    ended n (inr a) (inl b) = inr (a.0, b ∙ a.1)
    ended n a (inr b) = inr (subst (λ (es : List (ℕ × SessionView _)). (x : SessionView _) × (lookup (nat_eq n) es ≡ Some x) × (x.state ≡ Unmapped)) ss b.0, b.1)

pub OutputTaken-none : {R : Type 0} (v : EngineView R) → OutputTaken v v
OutputTaken-none v = record { gone = []; left = refl; connection_is = refl; sessions_is = refl; forgotten_is = refl; limit_is = refl; outcomes_are = outcomes_same v v refl }

pub OutputTaken-more : {R : Type 0} (u v w : EngineView R) → OutputTaken u v → OutputTaken v w → OutputTaken u w
OutputTaken-more u v w s t = record {
  gone = s.gone ++ t.gone;
  left = s.left ∙ ap (λ (ts : List Frame). s.gone ++ ts) t.left ∙ sym (append_assoc s.gone t.gone w.waiting);
  connection_is = t.connection_is ∙ s.connection_is;
  sessions_is = t.sessions_is ∙ s.sessions_is;
  forgotten_is = t.forgotten_is ∙ s.forgotten_is;
  limit_is = t.limit_is ∙ s.limit_is;
  outcomes_are = outcomes_more u v w s.connection_is s.sessions_is s.outcomes_are t.outcomes_are;
}

pub outs_more : (limit : ℕ) (fs : List Frame) (f : Frame) (outs : List Answer) (a : Answer) → IsOuts limit fs outs → IsOut limit f a → IsOuts limit (fs ++ f ∷ []) (outs ++ a ∷ [])
outs_more limit [] f outs a h o = (a, [], ap (λ (xs : List Answer). xs ++ a ∷ []) h, o, refl)
outs_more limit (g ∷ fs) f outs a h o = (h.0, h.1 ++ a ∷ [], ap (λ (xs : List Answer). xs ++ a ∷ []) h.2, h.3, outs_more limit fs f h.1 a h.4 o)

-- the first one fits where what was lent as the first one does
pub first_fits : (limit : ℕ) (fs : List Frame) (f : Frame) → FirstIs f fs → Fits f limit → FirstFits limit fs
first_fits limit [] f is fits = absurd is
first_fits limit (g ∷ fs) f is fits = subst (λ x. Fits x limit) is fits

-- what was lent as the first one is what was then taken out
pub first_taken : (fs fs' : List Frame) (f g : Frame) → FirstIs f fs → fs ≡ g ∷ fs' → f ≡ g
first_taken fs fs' f g is e = subst (λ (gs : List Frame). FirstIs f gs) e is

-- what a loop has put out so far
pub record PutSoFar {R : Type 0} (v : EngineView R) (answers : List Answer) (w : EngineView R) (answers' : List Answer) : Type 0 where
  pub out : List Answer
  pub appended : answers' ≡ answers ++ out
  pub put : PutOut v.limit v.waiting w.waiting out
  pub taken : OnlyLeft v w

pub put_none : {R : Type 0} (v : EngineView R) (answers : List Answer) → PutSoFar v answers v answers
put_none v answers = record {
  out = [];
  appended = sym (append-nil answers);
  put = record { gone = []; left = refl; answers = refl };
  taken = record { taken = OutputTaken-none v; outcomes_stay = refl; wishes_stay = refl };
}

pub put_more : {R : Type 0} (v u w : EngineView R) (answers answers1 answers2 : List Answer) (a : Answer) → PutSoFar v answers u answers1 → NextAnswer u a w → answers2 ≡ answers1 ++ a ∷ [] → PutSoFar v answers w answers2
put_more v u w answers answers1 answers2 a p n pushed =
    let f : Frame = n.0 in
    let same : w.waiting ≡ n.1 = ap (λ (x : EngineView _). x.waiting) n.4 in
    let left : v.waiting ≡ (p.put.gone ++ f ∷ []) ++ w.waiting =
    p.put.left ∙ ap (λ (xs : List Frame). p.put.gone ++ xs) (n.2 ∙ ap (λ (xs : List Frame). f ∷ xs) (sym same)) ∙ sym (append_assoc p.put.gone (f ∷ []) w.waiting) in
    let out : IsOut v.limit f a = subst (λ k. IsOut k f a) p.taken.taken.limit_is n.3 in
    let more : OutputTaken u w = record {
      gone = f ∷ [];
      left = n.2 ∙ ap (λ (xs : List Frame). f ∷ xs) (sym same);
      connection_is = ap (λ (x : EngineView _). x.connection) n.4;
      sessions_is = ap (λ (x : EngineView _). x.sessions) n.4;
      forgotten_is = ap (λ (x : EngineView _). x.forgotten) n.4;
      limit_is = ap (λ (x : EngineView _). x.limit) n.4;
      outcomes_are = outcomes_same u w (ap (λ (x : EngineView _). x.outcomes) n.4);
    } in
    record {
      out = p.out ++ a ∷ [];
      appended = pushed ∙ ap (λ (xs : List Answer). xs ++ a ∷ []) p.appended ∙ append_assoc answers p.out (a ∷ []);
      put = record { gone = p.put.gone ++ f ∷ []; left = left; answers = outs_more v.limit p.put.gone f p.out a p.put.answers out };
      taken = record {
        taken = OutputTaken-more v u w p.taken.taken more;
        outcomes_stay = ap (λ (x : EngineView _). x.outcomes) n.4 ∙ p.taken.outcomes_stay;
        wishes_stay = ap (λ (x : EngineView _). x.wishes) n.4 ∙ p.taken.wishes_stay;
      };
    }

pub put_none_more : {R : Type 0} (v u w : EngineView R) (answers answers1 answers2 : List Answer) → PutSoFar v answers u answers1 → w ≡ u → answers2 ≡ answers1 → PutSoFar v answers w answers2
put_none_more v u w answers answers1 answers2 p same pushed = subst (λ (x : EngineView _). PutSoFar v answers x answers2) (sym same) (subst (λ (xs : List Answer). PutSoFar v answers u xs) (sym pushed) p)

-- ---- one more entry

whole : (limit : ℕ) (waiting : List Frame) (out : List Answer) → PutOut limit waiting [] out → IsOuts limit waiting out
whole limit waiting out p = subst (λ (fs : List Frame). IsOuts limit fs out) (sym (p.left ∙ append-nil p.gone)) p.answers

pub speaks_more : {R : Type 0} (limit : ℕ) (waiting : List Frame) (es : List (Entry R)) (out : List Answer) (e : Entry R) (waiting' : List Frame) (out' : List Answer) →
    OutputOf limit waiting es [] out → PutOut (limit_by (limit_after limit es) (event e)) e.frames waiting' out' → OutputOf limit waiting (es ++ e ∷ []) waiting' (out ++ answer_of e.refusal ∷ out')
speaks_more limit waiting [] out e waiting' out' s p = (out, out', refl, whole limit waiting out s, p)
speaks_more limit waiting (x ∷ es) out e waiting' out' s p = (
  s.0,
  s.1 ++ answer_of e.refusal ∷ out',
  ap (λ (xs : List Answer). xs ++ answer_of e.refusal ∷ out') s.2 ∙ append_assoc s.0 (answer_of x.refusal ∷ s.1) (answer_of e.refusal ∷ out'),
  s.3,
  speaks_more (limit_by limit (event x)) x.frames es s.1 e waiting' out' s.4 p,
)

pub limit_more : {R : Type 0} (limit : ℕ) (es : List (Entry R)) (e : Entry R) → limit_after limit (es ++ e ∷ []) ≡ limit_by (limit_after limit es) (event e)
limit_more limit [] e = refl
limit_more limit (x ∷ es) e = limit_more (limit_by limit (event x)) es e
