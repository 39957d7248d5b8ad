-- Each session's part of an engine's history is a legal history of that session.
use Rattle.std.proofs.Common.{◌≡◌, ◌⊎◌, ◌++◌, ℕ, List, [], ◌∷◌, Option, Some, None, refl, ap, sym, subst, ◌∙◌, inl, inr, cond, nat_eq, is_some, Bool, true, false, arith}
use Rattle.std.proofs.lemmas.Bool.Decides.{nat_tests}
use Rattle.std.specs.Map.{lookup, set_value}
use Rattle.std.specs.Cmp.{nat_cmp_total}
use Rattle.std.specs.Ordering.{nat_cmp}
use Rattle.std.specs.FinMap as map
use Rattle.amqp_types.specs.Open.{OpenModel}
use Rattle.amqp_types.specs.declared.states.ConnectionState.{ConnectionState}
use Rattle.amqp_types.specs.declared.states.SessionState.TheVariants.{Unmapped}
use Rattle.amqp_session.specs.declared.stop.ConnectionStopReason.{ConnectionStopReason}
use Rattle.amqp_session.specs.Relay.{Relays}
use Rattle.amqp_session.specs.declared.keys.KeyHash.{KeyHash}
use Rattle.amqp_session.specs.Session.{SessionView, new_session}
use Rattle.amqp_session.specs.History as session
use Rattle.amqp_connection.specs.Connection.{ConnectionView, new_connection}
use Rattle.amqp_session.proofs.FiniteMapLemmas.{same_test}
use Rattle.amqp_numbers.specs.Ranges.{Numbers}
use Rattle.amqp_engine.specs.EngineView.{EngineView, new_engine}
use Rattle.amqp_engine.specs.Entry.{Entry}
use Rattle.amqp_engine.proofs.BareHistoryLemmas.{Chain, LeadsTo}
use Rattle.amqp_engine.specs.Event.{Event, Began, Forgot, event, is_number}
use Rattle.amqp_engine.specs.ByHistory.{calls_at, of_session, state_by, reason_by, begun_by, begun_from, begun, live, is_forgotten, forgotten_by, numbers_by}
use Rattle.amqp_engine.specs.Inner.ByHistory.{forgotten_from}
use Rattle.amqp_engine.proofs.BegunSessionLemmas.{some_none}
use Rattle.amqp_engine.proofs.StepEffectLemmas.{Moved, Effect, Stays, Changes, NoneMoves}
use Rattle.amqp_engine.proofs.StepChainLemmas.{Passage, passage, by_history, moved_state, moved_reason}

pub same_number : (n k : ℕ) → nat_eq n k ≡ true → n ≡ k
same_number n k p = grind (arith, nat_tests)

pub same_some : {X : Type 0} (x y : X) (o : Option X) → o ≡ Some x → o ≡ Some y → x ≡ y
same_some x y o p q = cc

cond_same : {X : Type 0} (b : Bool) (x : X) → cond b x x ≡ x
cond_same true x = refl
cond_same false x = refl

-- a value that is put in the place of one that stands there
pub put_there : {X : Type 0} (es : List (ℕ × X)) (k : ℕ) (x y : X) → lookup (nat_eq k) es ≡ Some x → lookup (nat_eq k) (set_value (nat_eq k) es y) ≡ Some y
put_there [] k x y h = absurd (some_none (sym h))
put_there (e ∷ es) k x y h = by (put_there es k x y) (nat_eq k e.0) refl h
  where
    by : (lookup (nat_eq k) es ≡ Some x → lookup (nat_eq k) (set_value (nat_eq k) es y) ≡ Some y) → (b : Bool) → nat_eq k e.0 ≡ b → cond (nat_eq k e.0) (Some e.1) (lookup (nat_eq k) es) ≡ Some x → lookup (nat_eq k) (set_value (nat_eq k) (e ∷ es) y) ≡ Some y
    by rest true p q = rw (p, p) refl
    by rest false p q = rw (p, p) (rest (sym (ap (λ b. cond b (Some e.1) (lookup (nat_eq k) es)) p) ∙ q))

pub put_other : {X : Type 0} (es : List (ℕ × X)) (n k : ℕ) (y : X) → nat_eq n k ≡ false → lookup (nat_eq n) (set_value (nat_eq k) es y) ≡ lookup (nat_eq n) es
put_other [] n k y h = refl
put_other (e ∷ es) n k y h = by (put_other es n k y h) (nat_eq k e.0) refl
  where
    by : lookup (nat_eq n) (set_value (nat_eq k) es y) ≡ lookup (nat_eq n) es → (b : Bool) → nat_eq k e.0 ≡ b → lookup (nat_eq n) (set_value (nat_eq k) (e ∷ es) y) ≡ lookup (nat_eq n) (e ∷ es)
    by rest true p = let no : nat_eq n e.0 ≡ false = ap (nat_eq n) (sym (same_number k e.0 p)) ∙ h in rw (p, no) refl
    by rest false p = rw p (ap (cond (nat_eq n e.0) (Some e.1)) rest)

pub at_end : {X : Type 0} (es : List (ℕ × X)) (n k : ℕ) (y : X) → lookup (nat_eq n) es ≡ None → lookup (nat_eq n) (es ++ (k, y) ∷ []) ≡ cond (nat_eq n k) (Some y) None
at_end [] n k y h = refl
at_end (e ∷ es) n k y h = by (at_end es n k y) (nat_eq n e.0) refl h
  where
    by : (lookup (nat_eq n) es ≡ None → lookup (nat_eq n) (es ++ (k, y) ∷ []) ≡ cond (nat_eq n k) (Some y) None) → (b : Bool) → nat_eq n e.0 ≡ b → cond (nat_eq n e.0) (Some e.1) (lookup (nat_eq n) es) ≡ None → lookup (nat_eq n) ((e ∷ es) ++ (k, y) ∷ []) ≡ cond (nat_eq n k) (Some y) None
    by rest true p q = absurd (some_none (sym (ap (λ b. cond b (Some e.1) (lookup (nat_eq n) es)) p) ∙ q))
    by rest false p q = rw p (rest (sym (ap (λ b. cond b (Some e.1) (lookup (nat_eq n) es)) p) ∙ q))

pub before_end : {X : Type 0} (es : List (ℕ × X)) (n k : ℕ) (x y : X) → lookup (nat_eq n) es ≡ Some x → lookup (nat_eq n) (es ++ (k, y) ∷ []) ≡ Some x
before_end [] n k x y h = absurd (some_none (sym h))
before_end (e ∷ es) n k x y h = by (before_end es n k x y) (nat_eq n e.0) refl h
  where
    by : (lookup (nat_eq n) es ≡ Some x → lookup (nat_eq n) (es ++ (k, y) ∷ []) ≡ Some x) → (b : Bool) → nat_eq n e.0 ≡ b → cond (nat_eq n e.0) (Some e.1) (lookup (nat_eq n) es) ≡ Some x → lookup (nat_eq n) ((e ∷ es) ++ (k, y) ∷ []) ≡ Some x
    by rest true p q = rw p (sym (ap (λ b. cond b (Some e.1) (lookup (nat_eq n) es)) p) ∙ q)
    by rest false p q = rw p (rest (sym (ap (λ b. cond b (Some e.1) (lookup (nat_eq n) es)) p) ∙ q))

-- ---- the calls of one session

not_number : {R : Type 0} (n : ℕ) (e : Entry R) → e.calls ≡ [] → calls_at n e ≡ []
not_number n e c = ap (λ (cs : List (session.SessionCall _)). cond (is_number n e.reached) cs []) c ∙ cond_same (is_number n e.reached) []

pub calls_there : {R : Type 0} (n k : ℕ) (e : Entry R) (b : Bool) → e.reached ≡ Some k → nat_eq n k ≡ b → calls_at n e ≡ cond b e.calls []
calls_there n k e b r p = ap (λ o. cond (is_number n o) e.calls []) r ∙ ap (λ x. cond x e.calls []) p

chain_append : {R : Type 0} (g : Relays R) (xs ys : List (session.SessionCall R)) (v m w : SessionView R) → session.SessionChain g v xs m → session.SessionChain g m ys w → session.SessionChain g v (xs ++ ys) w
chain_append g [] ys v m w c d = subst (λ (x : SessionView _). session.SessionChain g x ys w) c d
chain_append g (e ∷ xs) ys v m w c d = (c.0, c.1, chain_append g xs ys c.0 m w c.2 d)

-- no call leaves a session as it is
none_made : {R : Type 0} (g : Relays R) (s : SessionView R) (cs : List (session.SessionCall R)) → cs ≡ [] → session.SessionChain g s cs s
none_made g s cs e = subst (λ (xs : List (session.SessionCall _)). session.SessionChain g s xs s) (sym e) refl

-- what the calls leave of a session that is there: another view, or nothing where it is forgotten
abbrev pub Goes : {R : Type 0} → Relays R → EngineView R → ℕ → Bool → SessionView R → List (session.SessionCall R) → Type 0
Goes g m n gone s calls = (t : SessionView _) × (lookup (nat_eq n) m.sessions ≡ cond gone None (Some t)) × session.SessionChain g s calls t

-- ---- which numbers are used up

pub not_gone : (n : ℕ) (ev : Event) (old : Bool) → NoneMoves ev → forgotten_by n ev old ≡ old
not_gone n (Forgot k) old m = absurd m
not_gone n ev old m = refl

gone_more : (n : ℕ) (ev : Event) (old : Bool) → forgotten_by n ev false ≡ true → forgotten_by n ev old ≡ true
gone_more n (Forgot k) old e = by (nat_eq n k) refl e
  where
    by : (b : Bool) → nat_eq n k ≡ b → cond (nat_eq n k) true false ≡ true → cond (nat_eq n k) true old ≡ true
    by true p h = rw p refl
    by false p h = absurd (let y : false ≡ true = sym (ap (λ b. cond b true false) p) ∙ h in cc)
gone_more n ev old e = absurd (let y : false ≡ true = e in cc)

still_gone : (n : ℕ) (ev : Event) → forgotten_by n ev true ≡ true
still_gone n (Forgot k) = cond_same (nat_eq n k) true
still_gone n ev = refl

pub gone_from : {R : Type 0} (n : ℕ) (es : List (Entry R)) → forgotten_from n true es ≡ true
gone_from n [] = refl
gone_from n (e ∷ es) = ap (λ b. forgotten_from n b es) (still_gone n (event e)) ∙ gone_from n es

one_number : (n : ℕ) (ev : Event) (old : Numbers) → is_some (map.get (numbers_by ev old) n) ≡ forgotten_by n ev (is_some (map.get old n))
one_number n (Forgot k) old = ap is_some (map.get-insert nat_cmp_total old k true n ∙ ap (λ b. cond b (Some true) (map.get old n)) (same_test n k)) ∙ by (nat_eq n k)
  where
    by : (b : Bool) → is_some (cond b (Some true) (map.get old n)) ≡ cond b true (is_some (map.get old n))
    by true = refl
    by false = refl
one_number n ev old = refl

step_number : {R : Type 0} (g : Relays R) (n : ℕ) (v w : EngineView R) (e : Entry R) → Passage g v e w → is_some (map.get w.forgotten n) ≡ forgotten_by n (event e) (is_some (map.get v.forgotten n))
step_number g n v w e p = ap (λ (m : Numbers). is_some (map.get m n)) p.forgotten_is ∙ one_number n (event e) v.forgotten

pub numbers_law : {R : Type 0} (g : Relays R) (n : ℕ) (es : List (Entry R)) (v w : EngineView R) → Chain g v es w → is_some (map.get w.forgotten n) ≡ forgotten_from n (is_some (map.get v.forgotten n)) es
numbers_law g n = by_history g (λ v. is_some (map.get v.forgotten n)) (λ e b. forgotten_by n (event e) b) (forgotten_from n) (λ x. refl) (λ x e es. refl)
    (λ v w t. ap (λ (m : Numbers). is_some (map.get m n)) t.forgotten_is) (λ v w e p. step_number g n v w e p)

pub numbers_are : {R : Type 0} (g : Relays R) (n : ℕ) (made : ConnectionState) (o : OpenModel) (H : List (Entry R)) (w : EngineView R) → LeadsTo g made o H w → is_some (map.get w.forgotten n) ≡ is_forgotten n H
numbers_are g n made o H w l = numbers_law g n H (new_engine l.0 made o) w l.1 ∙ ap (λ (x : Option Bool). forgotten_from n (is_some x) H) (map.get-empty nat_cmp n)

-- one step, for a session that is there
changed : {R : Type 0} (g : Relays R) (n : ℕ) (u m : EngineView R) (e : Entry R) (s : SessionView R) → Stays u e m ⊎ Changes g u e m → lookup (nat_eq n) u.sessions ≡ Some s → Goes g m n false s (calls_at n e)
changed g n u m e s (inl x) h = (s, ap (lookup (nat_eq n)) x.sessions_is ∙ h, none_made g s (calls_at n e) (not_number n e x.no_calls))
changed g n u m e s (inr x) h = by (nat_eq n x.number) refl
  where
    by : (b : Bool) → nat_eq n x.number ≡ b → Goes g m n false s (calls_at n e)
    by true p =
        let same = same_number n x.number p in
        let from : x.before ≡ s = same_some x.before s _ x.known (ap (λ k. lookup (nat_eq k) u.sessions) (sym same) ∙ h) in (
          x.after,
          ap (λ k. lookup (nat_eq k) m.sessions) same ∙ ap (lookup (nat_eq x.number)) x.put ∙ put_there u.sessions x.number x.before x.after x.known,
          subst (λ (cs : List (session.SessionCall _)). session.SessionChain g s cs x.after) (sym (calls_there n x.number e true x.reached_is p)) (subst (λ (y : SessionView _). session.SessionChain g y e.calls x.after) from x.chain),
        )
    by false p = (s, ap (lookup (nat_eq n)) x.put ∙ put_other u.sessions n x.number x.after p ∙ h, none_made g s (calls_at n e) (calls_there n x.number e false x.reached_is p))

other : (n k : ℕ) → nat_eq n k ≡ false → nat_eq k n ≡ false
other n k p = grind (arith, nat_tests)

pub one : {R : Type 0} (g : Relays R) (n : ℕ) (u m : EngineView R) (e : Entry R) (s : SessionView R) → Effect g u e m → lookup (nat_eq n) u.sessions ≡ Some s → Goes g m n (forgotten_by n (event e) false) s (calls_at n e)
one g n u m e s (inl x) h = subst (λ b. Goes g m n b s (calls_at n e)) (sym (not_gone n (event e) false x.0)) (changed g n u m e s x.1 h)
one g n u m e s (inr (inl x)) h = subst (λ b. Goes g m n b s (calls_at n e)) (sym (ap (λ ev. forgotten_by n ev false) x.event_is)) (by (nat_eq n x.number) refl)
  where
    by : (b : Bool) → nat_eq n x.number ≡ b → Goes g m n false s (calls_at n e)
    by true p = absurd (some_none (sym h ∙ ap (λ k. lookup (nat_eq k) u.sessions) (same_number n x.number p) ∙ x.absent))
    by false p = (s, ap (lookup (nat_eq n)) x.sessions_is ∙ before_end u.sessions n x.number s x.after h, none_made g s (calls_at n e) (calls_there n x.number e false x.reached_is p))
one g n u m e s (inr (inr x)) h = (s, by (nat_eq n x.number) refl, none_made g s (calls_at n e) (not_number n e x.no_calls))
  where
    said : (b : Bool) → nat_eq n x.number ≡ b → forgotten_by n (event e) false ≡ cond b true false
    said b p = ap (λ ev. forgotten_by n ev false) x.event_is ∙ ap (λ c. cond c true false) p

    by : (b : Bool) → nat_eq n x.number ≡ b → lookup (nat_eq n) m.sessions ≡ cond (forgotten_by n (event e) false) None (Some s)
    by true p = ap (λ k. lookup (nat_eq k) m.sessions) (same_number n x.number p) ∙ x.without.gone ∙ sym (ap (λ b. cond b None (Some s)) (said true p))
    by false p = x.without.others n (other n x.number p) ∙ h ∙ sym (ap (λ b. cond b None (Some s)) (said false p))

-- a session that was forgotten is not there, and has no call
gone_step : {R : Type 0} (g : Relays R) (n : ℕ) (u m : EngineView R) (e : Entry R) → Effect g u e m → lookup (nat_eq n) u.sessions ≡ None → is_some (map.get u.forgotten n) ≡ true → (lookup (nat_eq n) m.sessions ≡ None) × (calls_at n e ≡ [])
gone_step g n u m e (inl x) h used = stay x.1
  where
    stay : Stays u e m ⊎ Changes g u e m → (lookup (nat_eq n) m.sessions ≡ None) × (calls_at n e ≡ [])
    stay (inl y) = (ap (lookup (nat_eq n)) y.sessions_is ∙ h, not_number n e y.no_calls)
    stay (inr y) = by (nat_eq n y.number) refl
      where
        by : (b : Bool) → nat_eq n y.number ≡ b → (lookup (nat_eq n) m.sessions ≡ None) × (calls_at n e ≡ [])
        by true p = absurd (some_none (sym y.known ∙ ap (λ k. lookup (nat_eq k) u.sessions) (sym (same_number n y.number p)) ∙ h))
        by false p = (ap (lookup (nat_eq n)) y.put ∙ put_other u.sessions n y.number y.after p ∙ h, calls_there n y.number e false y.reached_is p)
gone_step g n u m e (inr (inl x)) h used = by (nat_eq n x.number) refl
  where
    by : (b : Bool) → nat_eq n x.number ≡ b → (lookup (nat_eq n) m.sessions ≡ None) × (calls_at n e ≡ [])
    by true p = absurd (let y : false ≡ true = sym (ap (λ k. is_some (map.get u.forgotten k)) (same_number n x.number p) ∙ ap is_some x.unused) ∙ used in cc)
    by false p = (ap (lookup (nat_eq n)) x.sessions_is ∙ at_end u.sessions n x.number x.after h ∙ ap (λ b. cond b (Some x.after) None) p, calls_there n x.number e false x.reached_is p)
gone_step g n u m e (inr (inr x)) h used = (by (nat_eq n x.number) refl, not_number n e x.no_calls)
  where
    by : (b : Bool) → nat_eq n x.number ≡ b → lookup (nat_eq n) m.sessions ≡ None
    by true p = ap (λ k. lookup (nat_eq k) m.sessions) (same_number n x.number p) ∙ x.without.gone
    by false p = x.without.others n (other n x.number p) ∙ h

gone : {R : Type 0} (g : Relays R) (es : List (Entry R)) (n : ℕ) (v w : EngineView R) → Chain g v es w → lookup (nat_eq n) v.sessions ≡ None → is_some (map.get v.forgotten n) ≡ true → (lookup (nat_eq n) w.sessions ≡ None) × (of_session n es ≡ [])
gone g [] n v w c h used = (ap (lookup (nat_eq n)) c.sessions_is ∙ h, refl)
gone g (e ∷ es) n v w c h used =
    let p = passage g c.0 c.1 e c.3 in
    let before : is_some (map.get c.0.forgotten n) ≡ true = ap (λ (m : Numbers). is_some (map.get m n)) c.2.forgotten_is ∙ used in
    let a = gone_step g n c.0 c.1 e p.effect (ap (lookup (nat_eq n)) c.2.sessions_is ∙ h) before in
    let r = gone g es n c.1 w c.4 a.0 (step_number g n c.0 c.1 e p ∙ ap (forgotten_by n (event e)) before ∙ still_gone n (event e)) in
    (r.0, ap (λ (cs : List (session.SessionCall _)). cs ++ of_session n es) a.1 ∙ r.1)

-- the part of a session that is there is legal
pub part : {R : Type 0} (g : Relays R) (es : List (Entry R)) (n : ℕ) (v w : EngineView R) (s : SessionView R) → Chain g v es w → lookup (nat_eq n) v.sessions ≡ Some s → Goes g w n (forgotten_from n false es) s (of_session n es)
part g [] n v w s c h = (s, ap (lookup (nat_eq n)) c.sessions_is ∙ h, refl)
part g (e ∷ es) n v w s c h =
    by (λ t x. part g es n c.1 w t c.4 x) (forgotten_by n (event e) false) refl (one g n c.0 c.1 e s p.effect (ap (lookup (nat_eq n)) c.2.sessions_is ∙ h))
  where
    p : Passage g c.0 e c.1
    p = passage g c.0 c.1 e c.3

    by : ((t : SessionView _) → lookup (nat_eq n) c.1.sessions ≡ Some t → Goes g w n (forgotten_from n false es) t (of_session n es)) →
        (b : Bool) → forgotten_by n (event e) false ≡ b → Goes g c.1 n b s (calls_at n e) → Goes g w n (forgotten_from n b es) s (calls_at n e ++ of_session n es)
    by rest false q a = let r = rest a.0 a.1 in (r.0, r.1, chain_append g (calls_at n e) (of_session n es) s a.0 r.0 a.2 r.2)
    by rest true q a =
        let r = gone g es n c.1 w c.4 a.1 (step_number g n c.0 c.1 e p ∙ gone_more n (event e) (is_some (map.get c.0.forgotten n)) q) in (
          a.0,
          r.0 ∙ sym (ap (λ b. cond b None (Some a.0)) (gone_from n es)),
          chain_append g (calls_at n e) (of_session n es) s a.0 a.0 a.2 (none_made g a.0 (of_session n es) r.1),
        )

-- ---- a session that was not there is begun once, and its part is legal from then on, or it has none

-- how the connection stands
abbrev Stood : Type 0
Stood = ConnectionState × Option ConnectionStopReason

abbrev begun_at : {R : Type 0} → ℕ → ConnectionView → List (Entry R) → Option session.Made
begun_at n k es = begun_from n k.state k.stop_reason es

pub record Part {R : Type 0} (g : Relays R) (n : ℕ) (k : ConnectionView) (es : List (Entry R)) (w : EngineView R) : Type 0 where
  pub made : session.Made
  pub last : SessionView R
  pub begun_is : begun_at n k es ≡ Some made
  pub unmapped : made.state ≡ Unmapped
  pub legal : session.LeadsTo g made (of_session n es) last
  pub there : lookup (nat_eq n) w.sessions ≡ cond (forgotten_from n false es) None (Some last)

pub record Absent {R : Type 0} (n : ℕ) (k : ConnectionView) (es : List (Entry R)) (w : EngineView R) : Type 0 where
  pub unbegun : begun_at n k es ≡ None
  pub no_calls : of_session n es ≡ []
  pub unforgotten : forgotten_from n false es ≡ false
  pub unknown : lookup (nat_eq n) w.sessions ≡ None

abbrev pub Legal : {R : Type 0} → Relays R → ℕ → ConnectionView → List (Entry R) → EngineView R → Type 0
Legal g n k es w = Absent n k es w ⊎ Part g n k es w

-- an entry that neither begins the session nor calls it
same_rest : {R : Type 0} (g : Relays R) (n : ℕ) (e : Entry R) (k l : ConnectionView) (es : List (Entry R)) (w : EngineView R) → calls_at n e ≡ [] → begun_at n k (e ∷ es) ≡ begun_at n l es → forgotten_by n (event e) false ≡ false → Legal g n l es w → Legal g n k (e ∷ es) w
same_rest g n e k l es w se be fo (inl a) = inl (record {
  unbegun = be ∙ a.unbegun;
  no_calls = ap (λ (xs : List (session.SessionCall _)). xs ++ of_session n es) se ∙ a.no_calls;
  unforgotten = ap (λ b. forgotten_from n b es) fo ∙ a.unforgotten;
  unknown = a.unknown;
})
same_rest g n e k l es w se be fo (inr p) = inr (record {
  made = p.made;
  last = p.last;
  begun_is = be ∙ p.begun_is;
  unmapped = p.unmapped;
  legal = subst (λ (xs : List (session.SessionCall _)). session.LeadsTo g p.made (xs ++ of_session n es) p.last) (sym se) p.legal;
  there = p.there ∙ sym (ap (λ b. cond (forgotten_from n b es) None (Some p.last)) fo);
})

-- what the history says of the connection is how it then stands
stands_on : {R : Type 0} (g : Relays R) (n : ℕ) (k : ConnectionView) (u m : EngineView R) (e : Entry R) (es : List (Entry R)) → k ≡ u.connection → Moved u.connection (event e) m.connection → begun_at n k (e ∷ es) ≡ begun_by n k.stop_reason (event e) (begun_at n m.connection es)
stands_on g n k u m e es is p =
    ap (λ s. begun_by n k.stop_reason (event e) (begun_from n s (reason_by k.state (event e) k.stop_reason) es)) (ap (λ (x : ConnectionView). state_by x.state (event e)) is ∙ sym (moved_state u.connection m.connection (event e) p))
    ∙ ap (λ r. begun_by n k.stop_reason (event e) (begun_from n m.connection.state r es)) (ap (λ (x : ConnectionView). reason_by x.state (event e) x.stop_reason) is ∙ sym (moved_reason u.connection m.connection (event e) p))

none_moves : (n : ℕ) (stop : Option ConnectionStopReason) (ev : Event) (later : Option session.Made) → NoneMoves ev → begun_by n stop ev later ≡ later
none_moves n stop (Began k settings c) later i = absurd i
none_moves n stop ev later i = refl

pub legal : {R : Type 0} (g : Relays R) (es : List (Entry R)) (n : ℕ) (v w : EngineView R) → Chain g v es w → lookup (nat_eq n) v.sessions ≡ None → Legal g n v.connection es w
legal g [] n v w c h = inl (record { unbegun = refl; no_calls = refl; unforgotten = refl; unknown = ap (lookup (nat_eq n)) c.sessions_is ∙ h })
legal g (e ∷ es) n v w c h =
    by (λ x. legal g es n c.1 w c.4 x) (λ s x. part g es n c.1 w s c.4 x) p.effect (ap (lookup (nat_eq n)) c.2.sessions_is ∙ h)
  where
    p : Passage g c.0 e c.1
    p = passage g c.0 c.1 e c.3

    later : begun_at n v.connection (e ∷ es) ≡ begun_by n v.connection.stop_reason (event e) (begun_at n c.1.connection es)
    later = stands_on g n v.connection c.0 c.1 e es (sym c.2.connection_is) p.moved

    by : (lookup (nat_eq n) c.1.sessions ≡ None → Legal g n c.1.connection es w) → ((s : SessionView _) → lookup (nat_eq n) c.1.sessions ≡ Some s → Goes g w n (forgotten_from n false es) s (of_session n es)) →
        Effect g c.0 e c.1 → lookup (nat_eq n) c.0.sessions ≡ None → Legal g n v.connection (e ∷ es) w
    by rest more (inl s) x = stay s.1
      where
        none : begun_at n v.connection (e ∷ es) ≡ begun_at n c.1.connection es
        none = later ∙ none_moves n v.connection.stop_reason (event e) (begun_at n c.1.connection es) s.0

        there : forgotten_by n (event e) false ≡ false
        there = not_gone n (event e) false s.0

        stay : Stays c.0 e c.1 ⊎ Changes g c.0 e c.1 → Legal g n v.connection (e ∷ es) w
        stay (inl y) = same_rest g n e v.connection c.1.connection es w (not_number n e y.no_calls) none there (rest (ap (lookup (nat_eq n)) y.sessions_is ∙ x))
        stay (inr y) = apart (nat_eq n y.number) refl
          where
            apart : (b : Bool) → nat_eq n y.number ≡ b → Legal g n v.connection (e ∷ es) w
            apart true z = absurd (some_none (sym y.known ∙ ap (λ k. lookup (nat_eq k) c.0.sessions) (sym (same_number n y.number z)) ∙ x))
            apart false z = same_rest g n e v.connection c.1.connection es w (calls_there n y.number e false y.reached_is z) none there (rest (ap (lookup (nat_eq n)) y.put ∙ put_other c.0.sessions n y.number y.after z ∙ x))
    by rest more (inr (inl s)) x = apart (nat_eq n s.number) refl
      where
        there : lookup (nat_eq n) c.1.sessions ≡ cond (nat_eq n s.number) (Some s.after) None
        there = ap (lookup (nat_eq n)) s.sessions_is ∙ at_end c.0.sessions n s.number s.after x

        how : session.Made
        how = record { settings = s.settings; channel = s.channel; state = Unmapped; stop = v.connection.stop_reason }

        said : (b : Bool) → nat_eq n s.number ≡ b → begun_at n v.connection (e ∷ es) ≡ cond b (Some how) (begun_at n c.1.connection es)
        said b z = later ∙ ap (λ ev. begun_by n v.connection.stop_reason ev (begun_at n c.1.connection es)) s.event_is ∙ ap (λ t. cond t (Some how) (begun_at n c.1.connection es)) z

        apart : (b : Bool) → nat_eq n s.number ≡ b → Legal g n v.connection (e ∷ es) w
        apart true z =
            let r = more s.after (there ∙ ap (λ b. cond b (Some s.after) None) z) in
            let began : session.SessionChain g (new_session v.connection.hash s.settings s.channel Unmapped v.connection.stop_reason) e.calls s.after =
            subst (λ (k : ConnectionView). session.SessionChain g (new_session k.hash s.settings s.channel Unmapped k.stop_reason) e.calls s.after) c.2.connection_is s.chain in
            inr (record {
              made = how;
              last = r.0;
              begun_is = said true z;
              unmapped = refl;
              legal = (
                v.connection.hash,
                s.fits,
                subst (λ (xs : List (session.SessionCall _)). session.SessionChain g (new_session v.connection.hash s.settings s.channel Unmapped v.connection.stop_reason) (xs ++ of_session n es) r.0) (sym (calls_there n s.number e true s.reached_is z)) (chain_append g e.calls (of_session n es) _ s.after r.0 began r.2),
              );
              there = r.1 ∙ sym (ap (λ ev. cond (forgotten_from n (forgotten_by n ev false) es) None (Some r.0)) s.event_is);
            })
        apart false z = same_rest g n e v.connection c.1.connection es w (calls_there n s.number e false s.reached_is z) (said false z) (ap (λ ev. forgotten_by n ev false) s.event_is) (rest (there ∙ ap (λ b. cond b (Some s.after) None) z))
    by rest more (inr (inr s)) x = apart (nat_eq n s.number) refl
      where
        same : begun_at n v.connection (e ∷ es) ≡ begun_at n c.1.connection es
        same = later ∙ ap (λ ev. begun_by n v.connection.stop_reason ev (begun_at n c.1.connection es)) s.event_is

        apart : (b : Bool) → nat_eq n s.number ≡ b → Legal g n v.connection (e ∷ es) w
        apart true z = absurd (some_none (sym s.known ∙ ap (λ k. lookup (nat_eq k) c.0.sessions) (sym (same_number n s.number z)) ∙ x))
        apart false z = same_rest g n e v.connection c.1.connection es w (not_number n e s.no_calls) same (ap (λ ev. forgotten_by n ev false) s.event_is ∙ ap (λ b. cond b true false) z)
            (rest (s.without.others n (other n s.number z) ∙ x))

-- ---- what is there is what was begun and not forgotten

-- a session that is there, with its part of the history
pub record Living {R : Type 0} (g : Relays R) (s : ConnectionState) (n : ℕ) (H : List (Entry R)) (w : EngineView R) : Type 0 where
  pub made : session.Made
  pub last : SessionView R
  pub live_is : live s n H ≡ Some made
  pub unmapped : made.state ≡ Unmapped
  pub legal : session.LeadsTo g made (of_session n H) last
  pub there : lookup (nat_eq n) w.sessions ≡ Some last

abbrev pub Lives : {R : Type 0} → Relays R → ConnectionState → ℕ → List (Entry R) → EngineView R → Type 0
Lives g s n H w = ((live s n H ≡ None) × (lookup (nat_eq n) w.sessions ≡ None)) ⊎ Living g s n H w

pub lives : {R : Type 0} (g : Relays R) (hash : KeyHash) (s : ConnectionState) (o : OpenModel) (n : ℕ) (H : List (Entry R)) (w : EngineView R) → Legal g n (new_connection hash s o) H w → Lives g s n H w
lives g hash s o n H w (inl a) = inl (ap (λ b. cond b None (begun s n H)) a.unforgotten ∙ a.unbegun, a.unknown)
lives g hash s o n H w (inr p) = by (is_forgotten n H) refl
  where
    by : (b : Bool) → is_forgotten n H ≡ b → Lives g s n H w
    by true e = inl (ap (λ b. cond b None (begun s n H)) e, p.there ∙ ap (λ b. cond b None (Some p.last)) e)
    by false e = inr (record {
      made = p.made;
      last = p.last;
      live_is = ap (λ b. cond b None (begun s n H)) e ∙ p.begun_is;
      unmapped = p.unmapped;
      legal = p.legal;
      there = p.there ∙ ap (λ b. cond b None (Some p.last)) e;
    })
