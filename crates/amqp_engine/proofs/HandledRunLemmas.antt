-- The wishes that a run has asked for so far, and the run of the inputs after them.
use Rattle.std.proofs.Common.{◌≡◌, ℕ, List, All, [], ◌∷◌, ◌++◌, refl, ap, sym, subst, ◌∙◌, append_assoc, Option, Some, None, Result, Ok, Err, inl, inr, false, map as each}
use Rattle.std.proofs.lemmas.List.{append-nil}
use Rattle.std.proofs.lemmas.List.Elements.{All-nil, All-push}
use Rattle.std.specs.FinMap as finite
use Rattle.amqp_types.specs.Error.{ErrorModel}
use Rattle.amqp_session.specs.declared.deliveries.WalkCount.{WalkCount}
use Rattle.amqp_session.specs.Relay.{Relays}
use Rattle.amqp_engine.specs.declared.engine.input.Input.{Input}
use Rattle.amqp_engine.specs.declared.engine.input.Input.TheVariants as input
use Rattle.amqp_engine.specs.declared.engine.answer.Answer.{Answer}
use Rattle.amqp_engine.specs.declared.engine.answer.Answer.TheVariants.{Done}
use Rattle.amqp_engine.specs.declared.engine.answer.Stopped.{Stopped}
use Rattle.amqp_engine.specs.declared.engine.step_error.StepError.{StepError}
use Rattle.amqp_engine.specs.Kept.{Wishes}
use Rattle.amqp_engine.specs.Inner.Places.{TakesEnd, has_entries}
use Rattle.amqp_engine.specs.EngineView.{EngineView}
use Rattle.amqp_engine.specs.Engine.{Steps}
use Rattle.amqp_engine.specs.Entry.{Entry}
use Rattle.amqp_engine.specs.History.{OutputTaken, OnlyLeft, Chain}
use Rattle.amqp_engine.specs.Inner.Running.{Running}
use Rattle.amqp_engine.specs.Output.{PutOut}
use Rattle.amqp_engine.specs.Promise.{IsTaken, inputs_of, Ends, NoneLeft}
use Rattle.amqp_engine.specs.Ran.{Ran}
use Rattle.amqp_engine.specs.HandledRun.{end_request, accepted, if_accepted, NoWishes, Flushes, HandledRan}
use Rattle.amqp_engine.specs.Inner.Flushing.{AskedSo, Asked, Flushing, IsWish}
use Rattle.amqp_engine.proofs.OutputLemmas.{OutputTaken-none}
use Rattle.amqp_engine.proofs.StepChainLemmas.{taken}
use Rattle.amqp_engine.proofs.KeptStateLemmas.{step_wishes}
use Rattle.amqp_engine.proofs.RefusedWishLemmas.{refused_same}
use Rattle.amqp_engine.proofs.RunLemmas.{Chain-append, Running-append, running_ran, ran_running, HeadlineLaw, StandsLaw}
use Rattle.amqp_engine.proofs.RunSoFarLemmas.{Chain-end, Running-start, Running-more, entry_of}

-- wishes are no part of a history
pub rewished : {R : Type 0} (v : EngineView R) (w : Wishes) → OutputTaken v (record v { wishes = w })
rewished v w = let t = OutputTaken-none v in record {
  gone = t.gone;
  left = t.left;
  connection_is = t.connection_is;
  sessions_is = t.sessions_is;
  forgotten_is = t.forgotten_is;
  limit_is = t.limit_is;
  outcomes_are = record { close = t.outcomes_are.close; ends = t.outcomes_are.ends };
}

-- nor are the counts of walks
rewalked : {R : Type 0} (v : EngineView R) (w : List (ℕ × WalkCount)) → OutputTaken v (record v { walks = w })
rewalked v w = let t = OutputTaken-none v in record {
  gone = t.gone;
  left = t.left;
  connection_is = t.connection_is;
  sessions_is = t.sessions_is;
  forgotten_is = t.forgotten_is;
  limit_is = t.limit_is;
  outcomes_are = record { close = t.outcomes_are.close; ends = t.outcomes_are.ends };
}

running_rewalked : {R : Type 0} (g : Relays R) (v : EngineView R) (es : List (Entry R)) (answers : List Answer) (u : EngineView R) (answers' : List Answer) (w : List (ℕ × WalkCount)) →
    Running g v es answers u answers' → Running g v es answers (record u { walks = w }) answers'
running_rewalked g v es answers u answers' w r = record {
  all_taken = r.all_taken;
  chain = Chain-end g es v u (record u { walks = w }) r.chain (rewalked u w);
  limit_is = r.limit_is;
  outcomes_are = r.outcomes_are;
  out = r.out;
  appended = r.appended;
  said = r.said;
}

-- the entries of wishes that were asked for
pub record Flushed {R : Type 0} (g : Relays R) (v : EngineView R) (flushed : List (Entry R)) (answers : List Answer) (v' : EngineView R) (answers' : List Answer) : Type 0 where
  pub all_taken : All IsTaken flushed
  pub asked : Chain g v flushed v'
  pub running : Running g v (accepted flushed) answers v' answers'

pub flushed_start : {R : Type 0} (g : Relays R) (v v' : EngineView R) (answers answers' out : List Answer) → OnlyLeft v v' → answers' ≡ answers ++ out → PutOut v.limit v.waiting v'.waiting out → Flushed g v [] answers v' answers'
flushed_start g v v' answers answers' out t a p = record { all_taken = All-nil IsTaken; asked = t.taken; running = Running-start g v v' answers answers' out t a p }

flushed_rewished : {R : Type 0} (g : Relays R) (v : EngineView R) (flushed : List (Entry R)) (answers : List Answer) (v' : EngineView R) (answers' : List Answer) (w : Wishes) →
    Flushed g v flushed answers v' answers' → Flushed g v flushed answers (record v' { wishes = w }) answers'
flushed_rewished g v flushed answers v' answers' w h = record {
  all_taken = h.all_taken;
  asked = Chain-end g flushed v v' (record v' { wishes = w }) h.asked (rewished v' w);
  running = record {
    all_taken = h.running.all_taken;
    chain = Chain-end g (accepted flushed) v v' (record v' { wishes = w }) h.running.chain (rewished v' w);
    limit_is = h.running.limit_is;
    outcomes_are = h.running.outcomes_are;
    out = h.running.out;
    appended = h.running.appended;
    said = h.running.said;
  };
}

accepted-push : {R : Type 0} (es : List (Entry R)) (e : Entry R) → accepted (es ++ e ∷ []) ≡ accepted es ++ if_accepted e.refusal e []
accepted-push [] e = refl
accepted-push {R} (x ∷ es) e = by (accepted-push es e) x.refusal
  where
    by : accepted (es ++ e ∷ []) ≡ accepted es ++ if_accepted e.refusal e [] → (r : Option StepError) →
        if_accepted r x (accepted (es ++ e ∷ [])) ≡ if_accepted r x (accepted es) ++ if_accepted e.refusal e []
    by rest None = ap (λ (ys : List (Entry R)). x ∷ ys) rest
    by rest (Some y) = rest

inputs_of-push : {R : Type 0} (es : List (Entry R)) (e : Entry R) → inputs_of (es ++ e ∷ []) ≡ inputs_of es ++ e.input ∷ []
inputs_of-push [] e = refl
inputs_of-push (x ∷ es) e = ap (λ (is' : List (Input _)). x.input ∷ is') (inputs_of-push es e)

-- one more was asked for: its entry
pub record OneMore {R : Type 0} (g : Relays R) (v : EngineView R) (flushed : List (Entry R)) (answers : List Answer) (i : Input R) (u v' : EngineView R) (answers' : List Answer) : Type 0 where
  pub entry : Entry R
  pub input_is : entry.input ≡ i
  pub now : Flushed g v (flushed ++ entry ∷ []) answers v' answers'
  pub wishes_stay : v'.wishes ≡ u.wishes

one_more : {R : Type 0} (g : Relays R) (v : EngineView R) (flushed : List (Entry R)) (answers : List Answer) (i : Input R) (u v' : EngineView R) (answers1 answers' : List Answer) →
    Flushed g v flushed answers u answers1 → u.waiting ≡ [] → IsWish i → Asked g u i answers1 v' answers' → OneMore g v flushed answers i u v' answers'
one_more {R} g v flushed answers i u v' answers1 answers' h idle is a = by a.refusal a.step a.so
  where
    by : (r : Option StepError) → Steps g u i r a.stepped → AskedSo r a.stepped answers1 v' answers' → OneMore g v flushed answers i u v' answers'
    by None s so =
        let e : Entry R = entry_of g u i None a.stepped s in
        let now = taken g u s.done e idle s.step in
        let run = Running-more g v u a.stepped v' (accepted flushed) answers answers1 (answers1 ++ Done ∷ []) answers' so.0 i None h.running idle s refl so.2 so.1 so.3 in
        record {
          entry = e;
          input_is = refl;
          now = record {
            all_taken = All-push IsTaken flushed e h.all_taken now.0;
            asked = Chain-append g flushed (e ∷ []) v u v' h.asked (u, s.done, a.stepped, OutputTaken-none u, s.step, s.keeps, so.2.taken);
            running = subst (λ (es : List (Entry R)). Running g v es answers v' answers') (sym (accepted-push flushed e)) run;
          };
          wishes_stay = so.2.wishes_stay ∙ ap (λ (x : EngineView _). x.wishes) s.keeps ∙ step_wishes g u s.done e s.step;
        }
    by (Some r) s so =
        let e : Entry R = entry_of g u i (Some r) a.stepped s in
        let now = taken g u s.done e idle s.step in
        let same : v' ≡ record u { walks = a.stepped.walks } = so.0 ∙ refused_same g u a.stepped i r is idle s in
        record {
          entry = e;
          input_is = refl;
          now = record {
            all_taken = All-push IsTaken flushed e h.all_taken now.0;
            asked = Chain-append g flushed (e ∷ []) v u v' h.asked (u, s.done, a.stepped, OutputTaken-none u, s.step, s.keeps, subst (λ (x : EngineView _). OutputTaken a.stepped x) (sym so.0) (OutputTaken-none a.stepped));
            running = subst (λ (es : List (Entry R)). Running g v es answers v' answers') (sym (accepted-push flushed e ∙ append-nil (accepted flushed)))
                (subst (λ (x : EngineView _). Running g v (accepted flushed) answers x answers') (sym same)
                (running_rewalked g v (accepted flushed) answers u answers' a.stepped.walks (subst (λ (xs : List Answer). Running g v (accepted flushed) answers u xs) (sym so.1) h.running)));
          };
          wishes_stay = ap (λ (x : EngineView _). x.wishes) same;
        }

-- what is asked for leaves the wishes
pub asked_wishes : {R : Type 0} (g : Relays R) (u v' : EngineView R) (i : Input R) (answers answers' : List Answer) → Asked g u i answers v' answers' → v'.wishes ≡ u.wishes
asked_wishes g u v' i answers answers' a = by a.refusal a.step a.so
  where
    by : (r : Option StepError) → Steps g u i r a.stepped → AskedSo r a.stepped answers v' answers' → v'.wishes ≡ u.wishes
    by None s so = so.2.wishes_stay ∙ ap (λ (x : EngineView _). x.wishes) s.keeps ∙ step_wishes g u s.done _ s.step
    by (Some r) s so = ap (λ (x : EngineView _). x.wishes) (so.0 ∙ s.keeps) ∙ step_wishes g u s.done _ s.step

-- ---- the Ends

pub record HearingEnds {R : Type 0} (g : Relays R) (v : EngineView R) (answers : List Answer) (v' : EngineView R) (answers' : List Answer) : Type 0 where
  pub flushed : List (Entry R)
  pub ends : List (ℕ × Option ErrorModel)
  pub ends_first : finite.entries v.wishes.ends ≡ ends ++ finite.entries v'.wishes.ends
  pub close_is : v'.wishes.close ≡ v.wishes.close
  pub are : inputs_of flushed ≡ each end_request ends
  pub now : Flushed g v flushed answers v' answers'

pub ends_start : {R : Type 0} (g : Relays R) (v v' : EngineView R) (answers answers' out : List Answer) → OnlyLeft v v' → answers' ≡ answers ++ out → PutOut v.limit v.waiting v'.waiting out → HearingEnds g v answers v' answers'
ends_start g v v' answers answers' out t a p = record {
  flushed = [];
  ends = [];
  ends_first = ap (λ (w : Wishes). finite.entries w.ends) (sym t.wishes_stay);
  close_is = ap (λ (w : Wishes). w.close) t.wishes_stay;
  are = refl;
  now = flushed_start g v v' answers answers' out t a p;
}

each-push : {R : Type 0} (xs : List (ℕ × Option ErrorModel)) (x : ℕ × Option ErrorModel) → each (end_request {R = R}) (xs ++ x ∷ []) ≡ each end_request xs ++ end_request x ∷ []
each-push [] x = refl
each-push (y ∷ xs) x = ap (λ (is' : List (Input _)). end_request y ∷ is') (each-push xs x)

pub ends_more : {R : Type 0} (g : Relays R) (v v1 v2 v3 : EngineView R) (answers answers1 answers3 : List Answer) (e : ℕ × Option ErrorModel) →
    HearingEnds g v answers v1 answers1 → v1.waiting ≡ [] → TakesEnd v1.wishes (Some (record { 0 = e.0 }, e.1)) v2.wishes → v2 ≡ record v1 { wishes = v2.wishes } → Asked g v2 (end_request e) answers1 v3 answers3 →
    HearingEnds g v answers v3 answers3
ends_more g v v1 v2 v3 answers answers1 answers3 e h idle takes same asked =
    let before = subst (λ (x : EngineView _). Flushed g v h.flushed answers x answers1) (sym same) (flushed_rewished g v h.flushed answers v1 answers1 v2.wishes h.now) in
    let more = one_more g v h.flushed answers (end_request e) v2 v3 answers1 answers3 before (ap (λ (x : EngineView _). x.waiting) same ∙ idle) tt asked in
    record {
      flushed = h.flushed ++ more.entry ∷ [];
      ends = h.ends ++ e ∷ [];
      ends_first = h.ends_first ∙ ap (λ xs. h.ends ++ xs) (takes.0 ∙ ap (λ (w : Wishes). e ∷ finite.entries w.ends) (sym more.wishes_stay))
          ∙ sym (append_assoc h.ends (e ∷ []) (finite.entries v3.wishes.ends));
      close_is = ap (λ (w : Wishes). w.close) more.wishes_stay ∙ takes.1 ∙ h.close_is;
      are = inputs_of-push h.flushed more.entry ∙ ap (λ (xs : List (Input _)). xs ++ more.entry.input ∷ []) h.are ∙ ap (λ (x : Input _). each end_request h.ends ++ x ∷ []) more.input_is ∙ sym (each-push h.ends e);
      now = more.now;
    }

flushed_runs : {R : Type 0} (g : Relays R) (v v' : EngineView R) (flushed : List (Entry R)) (answers answers' : List Answer) → (w : Flushes v.wishes flushed v'.wishes) → Flushed g v flushed answers v' answers' → Flushing g v answers v' answers'
flushed_runs g v v' flushed answers answers' w h = record { flushed = flushed; flushes = w; all_taken = h.all_taken; asked = h.asked; running = h.running }

-- the Close was not come to
pub ends_flushed : {R : Type 0} (g : Relays R) (v v' : EngineView R) (answers answers' : List Answer) → HearingEnds g v answers v' answers' → Flushing g v answers v' answers'
ends_flushed g v v' answers answers' h =
    flushed_runs g v v' h.flushed answers answers'
    (record { ends = h.ends; close = None; ends_first = h.ends_first; close_last = h.close_is; are = h.are ∙ sym (append-nil (each end_request h.ends)) }) h.now

-- ---- the Close

pub close_flushed : {R : Type 0} (g : Relays R) (v v1 v2 v3 : EngineView R) (answers answers1 answers3 : List Answer) (error : Option ErrorModel) →
    HearingEnds g v answers v1 answers1 → v1.waiting ≡ [] → finite.entries v1.wishes.ends ≡ [] → v1.wishes.close ≡ Some error → v2 ≡ record v1 { wishes = record v1.wishes { close = None } } →
    Asked g v2 (input.Close error) answers1 v3 answers3 → Flushing g v answers v3 answers3
close_flushed g v v1 v2 v3 answers answers1 answers3 error h idle none noted same asked =
    let before = subst (λ (x : EngineView _). Flushed g v h.flushed answers x answers1) (sym same) (flushed_rewished g v h.flushed answers v1 answers1 (record v1.wishes { close = None }) h.now) in
    let more = one_more g v h.flushed answers (input.Close error) v2 v3 answers1 answers3 before (ap (λ (x : EngineView _). x.waiting) same ∙ idle) tt asked in
    let left : v3.wishes ≡ record v1.wishes { close = None } = more.wishes_stay ∙ ap (λ (x : EngineView _). x.wishes) same in
    let ends : finite.entries v3.wishes.ends ≡ [] = ap (λ (w : Wishes). finite.entries w.ends) left ∙ none in
    flushed_runs g v v3 (h.flushed ++ more.entry ∷ []) answers answers3
    (record {
      ends = h.ends;
      close = Some error;
      ends_first = h.ends_first ∙ ap (λ xs. h.ends ++ xs) (none ∙ sym ends);
      close_last = (sym h.close_is ∙ noted, (ends, ap (λ (w : Wishes). w.close) left));
      are = inputs_of-push h.flushed more.entry ∙ ap (λ (xs : List (Input _)). xs ++ more.entry.input ∷ []) h.are ∙ ap (λ (x : Input _). each end_request h.ends ++ x ∷ []) more.input_is;
    }) more.now

pub close_left : {R : Type 0} (v1 v2 v3 : EngineView R) → finite.entries v1.wishes.ends ≡ [] → v2 ≡ record v1 { wishes = record v1.wishes { close = None } } → v3.wishes ≡ v2.wishes → NoWishes v3.wishes
close_left v1 v2 v3 none same stays =
    let left = stays ∙ ap (λ (x : EngineView _). x.wishes) same in
    (ap (λ (w : Wishes). finite.entries w.ends) left ∙ none, ap (λ (w : Wishes). w.close) left)

-- ---- the inputs

-- these entries, and then the inputs after them
ran_both : {R : Type 0} (g : Relays R) (v u w : EngineView R) (es : List (Entry R)) (inputs inputs' : List (Input R)) (answers answers1 answers2 : List Answer) → HeadlineLaw g → StandsLaw g →
    Running g v es answers u answers1 → Ran g [] u inputs answers1 w inputs' answers2 → Ran g es v inputs answers w inputs' answers2
ran_both g v u w es inputs inputs' answers answers1 answers2 law views a r =
    let b = ran_running g u w [] inputs inputs' answers1 answers2 r in
    running_ran g v w es r.entries inputs inputs' answers answers2 law views r.promise.taken
    (subst (λ (xs : List Answer). Running g v (es ++ r.entries) answers w xs) (sym b.appended) (Running-append g v u w es r.entries answers answers1 answers1 answers2 a b))

-- these entries, and no input
ran_none : {R : Type 0} (g : Relays R) (v v' : EngineView R) (es : List (Entry R)) (inputs : List (Input R)) (answers answers' : List Answer) → HeadlineLaw g → StandsLaw g → Running g v es answers v' answers' → Ran g es v inputs answers v' inputs answers'
ran_none {R} g v v' es inputs answers answers' law views a =
    running_ran g v v' es [] inputs inputs answers answers' law views refl (subst (λ (xs : List (Entry R)). Running g v xs answers v' answers') (sym (append-nil es)) a)

-- memory was refused meanwhile: no input is taken
pub flushed_short : {R : Type 0} (g : Relays R) (v v' : EngineView R) (inputs : List (Input R)) (answers answers' : List Answer) → HeadlineLaw g → StandsLaw g → Flushing g v answers v' answers' →
    HandledRan g v inputs answers v' inputs answers'
unfolding ran_none running_ran
flushed_short {R} g v v' inputs answers answers' law views h = record {
  flushed = h.flushed;
  flushes = h.flushes;
  ran = ran_none g v v' (accepted h.flushed) inputs answers answers' law views h.running;
  all_taken = h.all_taken;
  asked = subst (λ (es : List (Entry R)). Chain g v es v') (sym (append-nil h.flushed)) h.asked;
  wishes_first = inl refl;
}

-- all were asked for, and then the inputs are run
pub flushed_all : {R : Type 0} (g : Relays R) (v u w : EngineView R) (inputs inputs' : List (Input R)) (answers answers1 answers2 : List Answer) → HeadlineLaw g → StandsLaw g →
    Flushing g v answers u answers1 → NoWishes u.wishes → Ran g [] u inputs answers1 w inputs' answers2 → w.wishes ≡ u.wishes → HandledRan g v inputs answers w inputs' answers2
unfolding ran_both running_ran
flushed_all {R} g v u w inputs inputs' answers answers1 answers2 law views h none r stays = record {
  flushed = h.flushed;
  flushes = subst (λ (x : Wishes). Flushes v.wishes h.flushed x) (sym stays) h.flushes;
  ran = ran_both g v u w (accepted h.flushed) inputs inputs' answers answers1 answers2 law views h.running r;
  all_taken = h.all_taken;
  asked = Chain-append g h.flushed r.entries v u w h.asked r.steps;
  wishes_first = inr (subst NoWishes (sym stays) none);
}

-- how the run of the inputs ended, where no wish is left
pub ends_wished : {R : Type 0} (u w : EngineView R) (inputs inputs' : List (Input R)) (result : Result (Unit {0}) Stopped) → NoWishes u.wishes → w.wishes ≡ u.wishes → Ends (NoneLeft inputs' w) inputs inputs' result →
    Ends (NoneLeft inputs' w × NoWishes w.wishes) inputs inputs' result
ends_wished u w inputs inputs' (Ok x) none stays e = (e, subst NoWishes (sym stays) none)
ends_wished u w inputs inputs' (Err x) none stays e = (e.0, λ p. e.1 p.0, e.2)

pub no_more : {X : Type 0} (xs : List X) → has_entries xs ≡ false → xs ≡ []
no_more [] e = refl
no_more (x ∷ xs) e = absurd cc
