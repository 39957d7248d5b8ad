-- The sessions of an engine, without the counts of their walks.
use Rattle.std.proofs.Common.{◌≡◌, ℕ, List, [], ◌∷◌, ◌++◌, Bool, true, false, Option, Some, None, IfSome, IsSome, is_some, refl, ap, sym, subst, ◌∙◌, nat_eq, Bor}
use Rattle.std.specs.Option.{option_map, option_copied}
use Rattle.std.specs.Map.{lookup, set_value}
use Rattle.std.specs.FinMap as map
use Rattle.std.specs.Ordering.{nat_cmp}
use Rattle.amqp_session.specs.Session.{SessionModel}
use Rattle.amqp_engine.specs.EngineView.{views_of, walks_of}
use Rattle.amqp_engine.specs.Inner.Places.{Seated}

pub viewed : {R : Type 0} (n : ℕ) (es : List (ℕ × SessionModel R)) → lookup (nat_eq n) (views_of es) ≡ option_map (λ o. o.view) (lookup (nat_eq n) es)
viewed n [] = refl
viewed n (e ∷ es) = by (viewed n es) (nat_eq n e.0) refl
  where
    by : lookup (nat_eq n) (views_of es) ≡ option_map (λ o. o.view) (lookup (nat_eq n) es) → (b : Bool) → nat_eq n e.0 ≡ b → lookup (nat_eq n) (views_of (e ∷ es)) ≡ option_map (λ o. o.view) (lookup (nat_eq n) (e ∷ es))
    by rest true p = rw p refl
    by rest false p = rw p rest

-- the session that stands under a number
pub viewed_some : {R : Type 0} (n : ℕ) (es : List (ℕ × SessionModel R)) (o : SessionModel R) → lookup (nat_eq n) es ≡ Some o → lookup (nat_eq n) (views_of es) ≡ Some o.view
viewed_some n es o is = viewed n es ∙ ap (option_map (λ x. x.view)) is

pub viewed_none : {R : Type 0} (n : ℕ) (es : List (ℕ × SessionModel R)) → lookup (nat_eq n) es ≡ None → lookup (nat_eq n) (views_of es) ≡ None
viewed_none n es is = viewed n es ∙ ap (option_map (λ x. x.view)) is

-- where no view stands, no session does
pub unviewed : {R : Type 0} (n : ℕ) (es : List (ℕ × SessionModel R)) → lookup (nat_eq n) (views_of es) ≡ None → lookup (nat_eq n) es ≡ None
unviewed {R = R} n es is = by (lookup (nat_eq n) es) (sym (viewed n es) ∙ is)
  where
    by : (o : Option (SessionModel R)) → option_map (λ x. x.view) o ≡ None → o ≡ None
    by None e = refl
    by (Some x) e = absurd cc

-- one session goes on
pub viewed_set : {R : Type 0} (n : ℕ) (es : List (ℕ × SessionModel R)) (o : SessionModel R) → views_of (set_value (nat_eq n) es o) ≡ set_value (nat_eq n) (views_of es) o.view
viewed_set n [] o = refl
viewed_set n (e ∷ es) o = by (viewed_set n es o) (nat_eq n e.0) refl
  where
    by : views_of (set_value (nat_eq n) es o) ≡ set_value (nat_eq n) (views_of es) o.view → (b : Bool) → nat_eq n e.0 ≡ b → views_of (set_value (nat_eq n) (e ∷ es) o) ≡ set_value (nat_eq n) (views_of (e ∷ es)) o.view
    by rest true p = rw p refl
    by rest false p = rw p (ap (λ xs. (e.0, e.1.view) ∷ xs) rest)

-- one more session comes
pub viewed_push : {R : Type 0} (es : List (ℕ × SessionModel R)) (n : ℕ) (o : SessionModel R) → views_of (es ++ (n, o) ∷ []) ≡ views_of es ++ (n, o.view) ∷ []
viewed_push [] n o = refl
viewed_push (e ∷ es) n o = ap (λ xs. (e.0, e.1.view) ∷ xs) (viewed_push es n o)

-- a session that was found, or none
pub found_in : {R : Type 0} (r : Option (Bor (SessionModel R))) (n : ℕ) (es : List (ℕ × SessionModel R)) → option_copied r ≡ lookup (nat_eq n) es → IfSome r (λ s. lookup (nat_eq n) (views_of es) ≡ Some s.now.view)
found_in None n es e = tt
found_in (Some s) n es e = viewed_some n es s.now (sym e)

pub known_in : {R : Type 0} (r : Option (Bor (SessionModel R))) (n : ℕ) (es : List (ℕ × SessionModel R)) → option_copied r ≡ lookup (nat_eq n) es → is_some r ≡ is_some (lookup (nat_eq n) (views_of es))
known_in None n es e = ap is_some (sym (viewed_none n es (sym e)))
known_in (Some s) n es e = ap is_some (sym (viewed_some n es s.now (sym e)))

pub viewed_there : {R : Type 0} (n : ℕ) (es : List (ℕ × SessionModel R)) (o : Option (SessionModel R)) (b : Bool) → lookup (nat_eq n) es ≡ o → b ≡ is_some o → b ≡ true → IsSome (lookup (nat_eq n) (views_of es))
viewed_there n es None b is e t = absurd cc
viewed_there n es (Some o) b is e t = subst IsSome (sym (viewed_some n es o is)) refl

-- ---- the counts of their walks

pub walked : {R : Type 0} (n : ℕ) (es : List (ℕ × SessionModel R)) → lookup (nat_eq n) (walks_of es) ≡ option_map (λ o. o.last_walk) (lookup (nat_eq n) es)
walked n [] = refl
walked n (e ∷ es) = by (walked n es) (nat_eq n e.0) refl
  where
    by : lookup (nat_eq n) (walks_of es) ≡ option_map (λ o. o.last_walk) (lookup (nat_eq n) es) → (b : Bool) → nat_eq n e.0 ≡ b → lookup (nat_eq n) (walks_of (e ∷ es)) ≡ option_map (λ o. o.last_walk) (lookup (nat_eq n) (e ∷ es))
    by rest true p = rw p refl
    by rest false p = rw p rest

pub walked_set : {R : Type 0} (n : ℕ) (es : List (ℕ × SessionModel R)) (o : SessionModel R) → walks_of (set_value (nat_eq n) es o) ≡ set_value (nat_eq n) (walks_of es) o.last_walk
walked_set n [] o = refl
walked_set n (e ∷ es) o = by (walked_set n es o) (nat_eq n e.0) refl
  where
    by : walks_of (set_value (nat_eq n) es o) ≡ set_value (nat_eq n) (walks_of es) o.last_walk → (b : Bool) → nat_eq n e.0 ≡ b → walks_of (set_value (nat_eq n) (e ∷ es) o) ≡ set_value (nat_eq n) (walks_of (e ∷ es)) o.last_walk
    by rest true p = rw p refl
    by rest false p = rw p (ap (λ xs. (e.0, e.1.last_walk) ∷ xs) rest)

pub walked_push : {R : Type 0} (es : List (ℕ × SessionModel R)) (n : ℕ) (o : SessionModel R) → walks_of (es ++ (n, o) ∷ []) ≡ walks_of es ++ (n, o.last_walk) ∷ []
walked_push [] n o = refl
walked_push (e ∷ es) n o = ap (λ xs. (e.0, e.1.last_walk) ∷ xs) (walked_push es n o)

pub walk_in : {R : Type 0} (r : Option (Bor (SessionModel R))) (n : ℕ) (es : List (ℕ × SessionModel R)) → option_copied r ≡ lookup (nat_eq n) es → IfSome r (λ s. lookup (nat_eq n) (walks_of es) ≡ Some s.now.last_walk)
walk_in None n es e = tt
walk_in (Some s) n es e = walked n es ∙ ap (option_map (λ x. x.last_walk)) (sym e)

-- a value that is changed leaves who is there
some_set : {X : Type 0} (t u : ℕ → Bool) (es : List (ℕ × X)) (w : X) → is_some (lookup u (set_value t es w)) ≡ is_some (lookup u es)
some_set t u [] w = refl
some_set t u (e ∷ es) w = by (some_set t u es w) (t e.0) refl (u e.0) refl
  where
    by : is_some (lookup u (set_value t es w)) ≡ is_some (lookup u es) → (b : Bool) → t e.0 ≡ b → (c : Bool) → u e.0 ≡ c →
        is_some (lookup u (set_value t (e ∷ es) w)) ≡ is_some (lookup u (e ∷ es))
    by rest true p true q = rw (p, q) refl
    by rest true p false q = rw (p, q) refl
    by rest false p true q = rw (p, q) refl
    by rest false p false q = rw (p, q) rest

pub seated_set : {X : Type 0} (es es' : List (ℕ × X)) (n : ℕ) (w : X) (places : map.FinMap nat_cmp Bool) → es' ≡ set_value (nat_eq n) es w → Seated es places → Seated es' places
seated_set es es' n w places is seated k = ap (λ xs. is_some (lookup (nat_eq k) xs)) is ∙ some_set (nat_eq n) (nat_eq k) es w ∙ seated k
