-- Tries of a run, one after the other: together they are one run of the engine, whose output is written.
use Rattle.std.proofs.Common.{◌≡◌, ℕ, ◌+◌, ◌-◌, ◌≤◌, ◌<◌, ◌^◌, List, [], ◌∷◌, ◌++◌, length, map, true, false, Bool, Result, Ok, Err, IfErr, Option, Some, None, refl, ap, sym, subst, ◌∙◌, append_assoc, inl, inr, arith}
use Rattle.std.proofs.lemmas.List.{append-nil, length-append, length-map}
use Rattle.std.specs.Io.KnownBytes.{Appends, Keeps}
use Rattle.std.specs.declared.io.Error.{Error}
use Rattle.std.specs.Result.{is_ok, IsErr}
use Rattle.amqp_memory.specs.Refusal.{SomeRefused}
use Rattle.amqp_types.specs.declared.states.ConnectionState.{ConnectionState}
use Rattle.amqp_types.specs.Open.{OpenModel}
use Rattle.amqp_session.specs.Relay.{Relays}
use Rattle.amqp_engine.specs.declared.engine.input.Input.{Input}
use Rattle.amqp_engine.specs.declared.engine.answer.Answer.{Answer}
use Rattle.amqp_engine.specs.declared.engine.answer.Stopped.{Stopped}
use Rattle.amqp_engine.specs.declared.engine.refusal.Refusal.{Refusal}
use Rattle.amqp_engine.specs.EngineView.{EngineView}
use Rattle.amqp_engine.specs.Entry.{Entry}
use Rattle.amqp_engine.specs.Headline.{Headline}
use Rattle.amqp_engine.specs.Legal.{Legal}
use Rattle.amqp_engine.specs.Promise.{Ends, NoneLeft, inputs_of}
use Rattle.amqp_engine.specs.Ran.{Ran}
use Rattle.amqp_engine.specs.RunInto.{RanInto, sent_of, refusals_of}
use Rattle.amqp_engine.specs.TwoRuns.{TwoRunsAreOne}
use Rattle.amqp_engine.specs.Views.{Stands}
use Rattle.amqp_transport.specs.Failing.{WriteFailed, NoMemory}
use Rattle.amqp_transport.specs.Running.{Work, Writes, Runs, RunEnds, Tries, TryEnds, with_input, counted_on, work}
use Rattle.amqp_transport.proofs.PlaceLemmas.{in_output, inputs_in, refused_both, sent_both}
use Rattle.amqp_transport.proofs.WriteLemmas.{both, nothing}

abbrev pub HistoriesLaw : {R : Type 0} → Relays R → Type 0
HistoriesLaw g = (s : ConnectionState) (o : OpenModel) (H : List (Entry _)) (w : EngineView _) → Legal g s o H w → Headline s o H

abbrev pub ViewsLaw : {R : Type 0} → Relays R → Type 0
ViewsLaw g = (s : ConnectionState) (o : OpenModel) (H : List (Entry _)) (w : EngineView _) → Legal g s o H w → Stands s o H w

-- ---- no try yet

-- nothing was run
idle : {R : Type 0} (g : Relays R) → HistoriesLaw g → ViewsLaw g → (v : EngineView R) (inputs : List (Input R)) → Ran g [] v inputs [] v inputs []
idle g law views v inputs = record {
  entries = [];
  promise = record {
    taken = refl;
    all_taken = λ k d h same. omega (arith, h);
    out = [];
    appended = refl;
    said = record { gone = []; left = refl; answers = refl };
    limit_is = refl;
    goes_on = λ s o H l. subst (λ T. Legal g s o T v × Headline s o T) (sym (append-nil H)) (l, law s o H v l);
  };
  views = record { stands = λ s o H l. views s o H v l; outcomes_are = refl };
  steps = record {
    gone = [];
    left = refl;
    connection_is = refl;
    sessions_is = refl;
    forgotten_is = refl;
    limit_is = refl;
    outcomes_are = record { close = inl refl; ends = λ n. inl refl };
  };
}

-- ---- some tries

-- So far it is one run; its refusals are told, and a front of what is to be sent is written.
pub record SoFar {R : Type 0} (g : Relays R) (old new : Work R) : Type 0 where
  pub answers : List Answer
  pub ran : Ran g [] old.engine old.inputs [] new.engine new.inputs answers
  pub told : new.refusals ≡ old.refusals ++ refusals_of None answers
  pub sent : List ℕ
  pub all_is : old.out ++ sent_of answers ≡ sent ++ new.out
  pub appended : Appends old.written new.written sent

pub none : {R : Type 0} (g : Relays R) → HistoriesLaw g → ViewsLaw g → (w : Work R) → SoFar g w w
none g law views w = record {
  answers = [];
  ran = idle g law views w.engine w.inputs;
  told = sym (append-nil w.refusals);
  sent = [];
  all_is = append-nil w.out;
  appended = nothing w.written;
}

-- two runs in a row
ran_both : {R : Type 0} (g : Relays R) → TwoRunsAreOne g → (v u w : EngineView R) (inputs left rest : List (Input R)) (first second : List Answer)
    → Ran g [] v inputs [] u left first → Ran g [] u left [] w rest second → Ran g [] v inputs [] w rest (first ++ second)
ran_both g two v u w inputs left rest first second a b =
    subst (λ (xs : List (Input _)). Ran g [] v xs [] w rest (first ++ second)) (append-nil inputs)
    (two [] v u w inputs left [] rest [] [] first second a (subst (λ (xs : List (Input _)). Ran g [] u xs [] w rest second) (sym (append-nil left)) b))

-- how many inputs a run took
took : {R : Type 0} (g : Relays R) (v w : EngineView R) (inputs left : List (Input R)) (answers : List Answer) → Ran g [] v inputs [] w left answers
    → inputs_in answers + length left ≡ length inputs
took g v w inputs left answers r =
    let es = r.entries in
    let out = ap inputs_in r.promise.appended ∙ in_output v.limit v.waiting es w.waiting r.promise.out r.promise.said in
    let all = ap length r.promise.taken ∙ length-append (inputs_of es) left in
    let each = length-map es (λ (e : Entry _). e.input) in
    omega (arith, out, all, each)

told_both : {R : Type 0} (g : Relays R) (v u w : EngineView R) (inputs left rest : List (Input R)) (first second : List Answer) (taken : ℕ)
    → Ran g [] v inputs [] u left first → Ran g [] u left [] w rest second → length inputs < 2 ^ 64 → taken ≡ length inputs - length left
    → refusals_of None (first ++ second) ≡ refusals_of None first ++ map (counted_on taken) (refusals_of None second)
told_both g v u w inputs left rest first second taken a b few t =
    let one = took g v u inputs left first a in
    let two = took g u w left rest second b in
    refused_both first second taken (omega (arith, one, t)) (omega (arith, one, two, t, few))

-- what one more try leaves, whether it was written or not
pub record OneMore {R : Type 0} (g : Relays R) (old mid new : Work R) (more : List Answer) : Type 0 where
  pub answers : List Answer
  pub ran : Ran g [] old.engine old.inputs [] new.engine new.inputs answers
  pub told : new.refusals ≡ old.refusals ++ refusals_of None answers
  pub written : Writes mid more new → Writes old answers new

writes_both : {R : Type 0} (g : Relays R) (old mid new : Work R) (s : SoFar g old mid) (more : List Answer) → Writes mid more new → Writes old (s.answers ++ more) new
writes_both g old mid new s more w = (
  subst (λ (bytes : List ℕ). Appends old.written new.written bytes)
      (sym (append_assoc s.sent mid.out (sent_of more)) ∙ ap (λ (bytes : List ℕ). bytes ++ sent_of more) (sym s.all_is)
      ∙ append_assoc old.out (sent_of s.answers) (sent_of more) ∙ ap (λ (bytes : List ℕ). old.out ++ bytes) (sym (sent_both s.answers more)))
      (both old.written mid.written new.written s.sent (mid.out ++ sent_of more) s.appended w.0),
  w.1,
)

one_more : {R : Type 0} (g : Relays R) → TwoRunsAreOne g → (old mid new : Work R) (taken : ℕ) (r : Result Bool Error) → SoFar g old mid → (t : Tries g taken mid new r)
    → length old.inputs < 2 ^ 64 → taken ≡ length old.inputs - length mid.inputs → OneMore g old mid new t.answers
one_more g two old mid new taken r s t few at = record {
  answers = s.answers ++ t.answers;
  ran = ran_both g two old.engine mid.engine new.engine old.inputs mid.inputs new.inputs s.answers t.answers s.ran t.ran;
  told = t.told ∙ ap (λ (rs : List Refusal). rs ++ map (counted_on taken) (refusals_of None t.answers)) s.told
      ∙ append_assoc old.refusals (refusals_of None s.answers) (map (counted_on taken) (refusals_of None t.answers))
      ∙ ap (λ (rs : List Refusal). old.refusals ++ rs)
      (sym (told_both g old.engine mid.engine new.engine old.inputs mid.inputs new.inputs s.answers t.answers taken s.ran t.ran few at));
  written = λ w. writes_both g old mid new s t.answers w;
}

-- all so far is written, and something is left
pub goes_on : {R : Type 0} (g : Relays R) → TwoRunsAreOne g → (old mid new : Work R) (taken : ℕ) (r : Result Bool Error) → SoFar g old mid → Tries g taken mid new r
    → length old.inputs < 2 ^ 64 → taken ≡ length old.inputs - length mid.inputs → r ≡ Ok false → SoFar g old new
goes_on g two old mid new taken r s t few at is =
    let m = one_more g two old mid new taken r s t few at in
    let e = subst (TryEnds mid t.answers new) is t.ends in
    let w = m.written e.1 in
    record {
      answers = m.answers;
      ran = m.ran;
      told = m.told;
      sent = old.out ++ sent_of m.answers;
      all_is = sym (ap (λ (bytes : List ℕ). (old.out ++ sent_of m.answers) ++ bytes) w.1 ∙ append-nil (old.out ++ sent_of m.answers));
      appended = w.0;
    }

-- the writer failed
failed_ends : {R X : Type 0} (old new : Work R) (answers : List Answer) (f : Result X Error) → IsErr f → IfErr f (λ e. WriteFailed e) → RunEnds old answers new f
failed_ends old new answers (Ok x) is w = absurd (let no : false ≡ true = is in cc)
failed_ends old new answers (Err e) is w = inl w

pub fails : {R X : Type 0} (g : Relays R) → TwoRunsAreOne g → (old mid new : Work R) (taken : ℕ) (r : Result Bool Error) (f : Result X Error) → SoFar g old mid → Tries g taken mid new r
    → length old.inputs < 2 ^ 64 → taken ≡ length old.inputs - length mid.inputs → IsErr f → IfErr f (λ e. WriteFailed e) → Runs g old new f
fails g two old mid new taken r f s t few at is failed =
    let m = one_more g two old mid new taken r s t few at in
    record { answers = m.answers; ran = m.ran; told = m.told; ends = failed_ends old new m.answers f is failed }

-- the last try met refused memory
pub gives_up : {R X : Type 0} (g : Relays R) → TwoRunsAreOne g → (old mid new : Work R) (taken : ℕ) (r : Result Bool Error) (e : Error) → SoFar g old mid → Tries g taken mid new r
    → length old.inputs < 2 ^ 64 → taken ≡ length old.inputs - length mid.inputs → r ≡ Ok false
    → (SomeRefused → NoMemory e) → Runs {X = X} g old new (Err e)
gives_up g two old mid new taken r e s t few at is says =
    let m = one_more g two old mid new taken r s t few at in
    let ends = subst (TryEnds mid t.answers new) is t.ends in
    record { answers = m.answers; ran = m.ran; told = m.told; ends = inr (ends.0, m.written ends.1, says ends.2) }

-- all is done, and the writer is flushed or not
keeps_on : (old mid new : Option (List ℕ)) (bytes : List ℕ) → Appends old mid bytes → Keeps mid new → Appends old new bytes
keeps_on None mid new bytes a k = tt
keeps_on (Some xs) None new bytes a k = absurd a
keeps_on (Some xs) (Some ys) None bytes a k = absurd k
keeps_on (Some xs) (Some ys) (Some zs) bytes a k = k ∙ a

done_ends : {R X : Type 0} (old new : Work R) (answers : List Answer) (f : Result X Error) → NoneLeft new.inputs new.engine × Writes old answers new
    → IfErr f (λ e. WriteFailed e) → RunEnds old answers new f
done_ends old new answers (Ok x) d w = d
done_ends old new answers (Err e) d w = inl w

pub done : {R X : Type 0} (g : Relays R) → TwoRunsAreOne g → (old mid new : Work R) (written : Option (List ℕ)) (taken : ℕ) (r : Result Bool Error) (f : Result X Error)
    → SoFar g old mid → Tries g taken mid new r → length old.inputs < 2 ^ 64 → taken ≡ length old.inputs - length mid.inputs → r ≡ Ok true
    → Keeps new.written written → IfErr f (λ e. WriteFailed e) → Runs g old (record new { written = written }) f
done g two old mid new written taken r f s t few at is keeps failed =
    let m = one_more g two old mid new taken r s t few at in
    let e = subst (TryEnds mid t.answers new) is t.ends in
    let w = m.written e.1 in
    let all : NoneLeft new.inputs new.engine × Writes old m.answers (record new { written = written }) =
    (e.0, (keeps_on old.written new.written written (old.out ++ sent_of m.answers) w.0 keeps, w.1)) in
    record { answers = m.answers; ran = m.ran; told = m.told; ends = done_ends old (record new { written = written }) m.answers f all failed }

-- ---- one try

tried_ends : {R : Type 0} (old new : Work R) (answers : List Answer) (inputs : List (Input R)) (o : Result (Unit {0}) Stopped) (r : Bool) → r ≡ is_ok o
    → Ends (NoneLeft new.inputs new.engine) inputs new.inputs o → Writes old answers new → TryEnds old answers new (Ok r)
tried_ends old new answers inputs (Ok u) r is e w = subst (λ (b : Bool). TryEnds old answers new (Ok b)) (sym is) (e, w)
tried_ends old new answers inputs (Err s) r is e w = subst (λ (b : Bool). TryEnds old answers new (Ok b)) (sym is) (e.1, w, e.2)

pub tried : {R : Type 0} (g : Relays R) (taken : ℕ) (old new : Work R) (out : List ℕ) (refusals : List Refusal) (o : Result (Unit {0}) Stopped) (r : Bool)
    → (a : RanInto g old.engine old.inputs old.out old.refusals new.engine new.inputs out refusals)
    → Ends (NoneLeft new.inputs new.engine) old.inputs new.inputs o → r ≡ is_ok o
    → new.refusals ≡ old.refusals ++ map (counted_on taken) (refusals_of None a.0) → Appends old.written new.written out → new.out ≡ [] → Tries g taken old new (Ok r)
tried g taken old new out refusals o r a e is told w empty = record {
  answers = a.0;
  ran = a.1;
  told = told;
  ends = tried_ends old new a.0 old.inputs o r is e (subst (λ (bytes : List ℕ). Appends old.written new.written bytes) a.2 w, empty);
}

pub try_failed : {R : Type 0} (g : Relays R) (taken : ℕ) (old new : Work R) (out : List ℕ) (refusals : List Refusal) (e : Error)
    → (a : RanInto g old.engine old.inputs old.out old.refusals new.engine new.inputs out refusals)
    → new.refusals ≡ old.refusals ++ map (counted_on taken) (refusals_of None a.0) → WriteFailed e → Tries g taken old new (Err e)
try_failed g taken old new out refusals e a told w = record { answers = a.0; ran = a.1; told = told; ends = w }

-- ---- one more input

pub run_with : {R X : Type 0} (g : Relays R) (old new : Work R) (i : Input R) (inputs : List (Input R)) (r : Result X Error) → inputs ≡ old.inputs ++ i ∷ []
    → Runs g (record old { inputs = inputs }) new r → Runs g (with_input i old) new r
run_with g old new i inputs r e runs = subst (λ (is' : List (Input _)). Runs g (record old { inputs = is' }) new r) e runs

pub as_before : {R : Type 0} (old : Work R) (inputs : List (Input R)) → inputs ≡ old.inputs → record old { inputs = inputs } ≡ old
as_before old inputs e = ap (λ (is' : List (Input _)). record old { inputs = is' }) e
