-- Engines that are the same in each field.
use Rattle.std.proofs.Common.{◌≡◌, ℕ, List, [], ◌∷◌, ◌++◌, true, false, refl, ap, ◌∙◌, nat_eq}
use Rattle.amqp_frames.specs.declared.frame.Frame.{Frame}
use Rattle.amqp_connection.specs.Connection.{ConnectionView}
use Rattle.std.specs.Map.{set_value}
use Rattle.amqp_session.specs.Session.{SessionModel}
use Rattle.amqp_engine.specs.Waits.{has_frames}
use Rattle.amqp_engine.specs.Kept.{Outcomes, Wishes}
use Rattle.amqp_numbers.specs.Ranges.{Numbers}
use Rattle.amqp_engine.specs.EngineView.{EngineView, views_of, walks_of}
use Rattle.amqp_engine.proofs.SessionListLemmas.{viewed_set, viewed_push, walked_set, walked_push}

-- the engine of these sessions
abbrev pub parts : {R : Type 0} → Numbers → Outcomes → Wishes → ConnectionView → List (ℕ × SessionModel R) → ℕ → List Frame → EngineView R
parts p o q k es limit fs = record { connection = k; sessions = views_of es; walks = walks_of es; forgotten = p; limit = limit; waiting = fs; outcomes = o; wishes = q }

pub same_engine : {R : Type 0} {p : Numbers} {o : Outcomes} {q : Wishes} (k k' : ConnectionView) (es es' : List (ℕ × SessionModel R)) (limit : ℕ) (fs fs' : List Frame) → k ≡ k' → es ≡ es' → fs ≡ fs' →
    parts p o q k es limit fs ≡ parts p o q k' es' limit fs'
same_engine {p = p} {o = o} {q = q} k k' es es' limit fs fs' e f h =
    ap (λ x. parts p o q x es limit fs) e ∙ ap (λ (x : List (ℕ × SessionModel _)). parts p o q k' x limit fs) f ∙ ap (λ (x : List Frame). parts p o q k' es' limit x) h

-- one session went on
pub one_called : {R : Type 0} {p : Numbers} {o : Outcomes} {q : Wishes} (k : ConnectionView) (es es' : List (ℕ × SessionModel R)) (limit n : ℕ) (after : SessionModel R) (fs fs' : List Frame) → es' ≡ set_value (nat_eq n) es after → fs ≡ fs' →
    parts p o q k es' limit fs ≡ record (parts p o q k es limit fs') { sessions = set_value (nat_eq n) (views_of es) after.view; walks = set_value (nat_eq n) (walks_of es) after.last_walk }
one_called {p = p} {o = o} {q = q} k es es' limit n after fs fs' e h =
    same_engine k k es' (set_value (nat_eq n) es after) limit fs fs' refl e h
    ∙ ap (λ x. record (parts p o q k es limit fs') { sessions = x; walks = walks_of (set_value (nat_eq n) es after) }) (viewed_set n es after)
    ∙ ap (λ x. record (parts p o q k es limit fs') { sessions = set_value (nat_eq n) (views_of es) after.view; walks = x }) (walked_set n es after)

-- one session came
pub one_more : {R : Type 0} {p : Numbers} {o o' : Outcomes} {q q' : Wishes} (k : ConnectionView) (es es' : List (ℕ × SessionModel R)) (limit n : ℕ) (new : SessionModel R) (fs fs' : List Frame) → es' ≡ es ++ (n, new) ∷ [] → fs ≡ fs' → o ≡ o' → q ≡ q' →
    parts p o q k es' limit fs ≡ record (parts p o' q' k es limit fs') { sessions = views_of es ++ (n, new.view) ∷ []; walks = walks_of es ++ (n, new.last_walk) ∷ [] }
one_more {p = p} {o = o} {o' = o'} {q = q} {q' = q'} k es es' limit n new fs fs' e h i j =
    same_engine k k es' (es ++ (n, new) ∷ []) limit fs fs' refl e h
    ∙ ap (λ x. parts p x q k (es ++ (n, new) ∷ []) limit fs') i ∙ ap (λ x. parts p o' x k (es ++ (n, new) ∷ []) limit fs') j
    ∙ ap (λ x. record (parts p o' q' k es limit fs') { sessions = x; walks = walks_of (es ++ (n, new) ∷ []) }) (viewed_push es n new)
    ∙ ap (λ x. record (parts p o' q' k es limit fs') { sessions = views_of es ++ (n, new.view) ∷ []; walks = x }) (walked_push es n new)

-- with what is kept
pub same_keeping : {R : Type 0} {p : Numbers} {o o' : Outcomes} {q q' : Wishes} (k k' : ConnectionView) (es es' : List (ℕ × SessionModel R)) (limit : ℕ) (fs : List Frame) → k ≡ k' → es ≡ es' → o ≡ o' → q ≡ q' →
    parts p o q k es limit fs ≡ parts p o' q' k' es' limit fs
same_keeping {p = p} {o = o} {o' = o'} {q = q} {q' = q'} k k' es es' limit fs e f i j =
    same_engine k k' es es' limit fs fs e f refl ∙ ap (λ x. parts p x q k' es' limit fs) i ∙ ap (λ x. parts p o' x k' es' limit fs) j

-- frames wait, or none does
pub idle : (fs : List Frame) → has_frames fs ≡ false → fs ≡ []
idle [] e = refl
idle (f ∷ fs) e = absurd cc

pub busy : (fs : List Frame) → has_frames fs ≡ true → ¬ (fs ≡ [])
busy [] e = absurd cc
busy (f ∷ fs) e = λ h. cc
