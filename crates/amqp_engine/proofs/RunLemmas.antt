-- Entries that were run, and then more: what is said of both. So two runs in a row are one.
use Rattle.std.proofs.Common.{◌≡◌, ℕ, List, [], ◌∷◌, ◌++◌, refl, ap, sym, subst, ◌∙◌, append_assoc, inl}
use Rattle.std.proofs.lemmas.List.{append-nil, append_cancel_left}
use Rattle.std.proofs.lemmas.List.Elements.{All-append}
use Rattle.amqp_types.specs.declared.states.ConnectionState.{ConnectionState}
use Rattle.amqp_types.specs.Open.{OpenModel}
use Rattle.amqp_frames.specs.declared.frame.Frame.{Frame}
use Rattle.amqp_session.specs.Relay.{Relays}
use Rattle.amqp_engine.specs.declared.engine.input.Input.{Input}
use Rattle.amqp_engine.specs.declared.engine.answer.Answer.{Answer}
use Rattle.amqp_engine.specs.EngineView.{EngineView, new_engine}
use Rattle.amqp_engine.specs.Entry.{Entry}
use Rattle.amqp_engine.specs.Kept.{Outcomes, outcomes_after}
use Rattle.amqp_engine.specs.History.{OutputTaken, Chain}
use Rattle.amqp_engine.specs.Legal.{Legal}
use Rattle.amqp_engine.specs.Event.{event}
use Rattle.amqp_engine.specs.ByHistory.{limit_by, limit_after}
use Rattle.amqp_engine.specs.Output.{IsOuts, PutOut, OutputOf, answer_of}
use Rattle.amqp_engine.specs.Headline.{Headline}
use Rattle.amqp_engine.specs.Views.{Stands, outcomes_from}
use Rattle.amqp_engine.specs.Promise.{IsTaken, inputs_of}
use Rattle.amqp_engine.specs.Ran.{Ran}
use Rattle.amqp_engine.specs.TwoRuns.{OnlyWished, TwoRunsAreOne, WishedRunsAreOne}
use Rattle.amqp_engine.specs.Inner.Running.{Running}
use Rattle.amqp_engine.proofs.OutputLemmas.{OutputTaken-more}

pub inputs_of-append : {R : Type 0} (xs ys : List (Entry R)) → inputs_of (xs ++ ys) ≡ inputs_of xs ++ inputs_of ys
inputs_of-append [] ys = refl
inputs_of-append (e ∷ xs) ys = ap (λ (is' : List (Input _)). e.input ∷ is') (inputs_of-append xs ys)

Chain-later : {R : Type 0} (gives : Relays R) (u v w : EngineView R) (es : List (Entry R)) → OutputTaken u v → Chain gives v es w → Chain gives u es w
Chain-later gives u v w [] t c = OutputTaken-more u v w t c
Chain-later gives u v w (e ∷ es) t c = (c.0, c.1, c.2, OutputTaken-more u v c.0 t c.3, c.4, c.5, c.6)

pub Chain-append : {R : Type 0} (gives : Relays R) (xs ys : List (Entry R)) (u v w : EngineView R) → Chain gives u xs v → Chain gives v ys w → Chain gives u (xs ++ ys) w
Chain-append gives [] ys u v w c d = Chain-later gives u v w ys c d
Chain-append gives (e ∷ xs) ys u v w c d = (c.0, c.1, c.2, c.3, c.4, c.5, Chain-append gives xs ys c.2 v w c.6 d)

pub outcomes_from-append : {R : Type 0} (o : Outcomes) (xs ys : List (Entry R)) → outcomes_from o (xs ++ ys) ≡ outcomes_from (outcomes_from o xs) ys
outcomes_from-append o [] ys = refl
outcomes_from-append o (e ∷ xs) ys = outcomes_from-append (outcomes_after e.input e.received e.reached e.refusal o) xs ys

limit_after-append : {R : Type 0} (limit : ℕ) (xs ys : List (Entry R)) → limit_after limit (xs ++ ys) ≡ limit_after (limit_after limit xs) ys
limit_after-append limit [] ys = refl
limit_after-append limit (e ∷ xs) ys = limit_after-append (limit_by limit (event e)) xs ys

-- ---- what is put out

outs_append : (limit : ℕ) (fs gs : List Frame) (outs more : List Answer) → IsOuts limit fs outs → IsOuts limit gs more → IsOuts limit (fs ++ gs) (outs ++ more)
outs_append limit [] gs outs more h k = subst (λ (xs : List Answer). IsOuts limit gs (xs ++ more)) (sym h) k
outs_append limit (f ∷ fs) gs outs more h k = (h.0, h.1 ++ more, ap (λ (xs : List Answer). xs ++ more) h.2, h.3, outs_append limit fs gs h.1 more h.4 k)

-- a front of what waits is put out, and then the rest by the first entry after it
put_then : {R : Type 0} (limit : ℕ) (waiting waiting1 : List Frame) (es : List (Entry R)) (waiting2 : List Frame) (out more : List Answer) →
    PutOut limit waiting waiting1 out → OutputOf limit waiting1 es waiting2 more → OutputOf limit waiting es waiting2 (out ++ more)
put_then limit waiting waiting1 [] waiting2 out more p q = record {
  gone = p.gone ++ q.gone;
  left = p.left ∙ ap (λ (fs : List Frame). p.gone ++ fs) q.left ∙ sym (append_assoc p.gone q.gone waiting2);
  answers = outs_append limit p.gone q.gone out more p.answers q.answers;
}
put_then limit waiting waiting1 (e ∷ es) waiting2 out more p s = (
  out ++ s.0,
  s.1,
  ap (λ (xs : List Answer). out ++ xs) s.2 ∙ sym (append_assoc out s.0 (answer_of e.refusal ∷ s.1)),
  subst (λ (fs : List Frame). IsOuts limit fs (out ++ s.0)) (sym p.left) (outs_append limit p.gone waiting1 out s.0 p.answers s.3),
  s.4,
)

speaks_append : {R : Type 0} (limit : ℕ) (waiting : List Frame) (es fs : List (Entry R)) (waiting1 waiting2 : List Frame) (out more : List Answer) →
    OutputOf limit waiting es waiting1 out → OutputOf (limit_after limit es) waiting1 fs waiting2 more → OutputOf limit waiting (es ++ fs) waiting2 (out ++ more)
speaks_append limit waiting [] fs waiting1 waiting2 out more s t = put_then limit waiting waiting1 fs waiting2 out more s t
speaks_append limit waiting (e ∷ es) fs waiting1 waiting2 out more s t = (
  s.0,
  s.1 ++ more,
  ap (λ (xs : List Answer). xs ++ more) s.2 ∙ append_assoc s.0 (answer_of e.refusal ∷ s.1) more,
  s.3,
  speaks_append (limit_by limit (event e)) e.frames es fs waiting1 waiting2 s.1 more s.4 t,
)

-- ---- entries, and then more

pub Running-append : {R : Type 0} (gives : Relays R) (v u w : EngineView R) (es fs : List (Entry R)) (answers answers1 others others' : List Answer) →
    Running gives v es answers u answers1 → (b : Running gives u fs others w others') → Running gives v (es ++ fs) answers w (answers1 ++ b.out)
Running-append gives v u w es fs answers answers1 others others' a b = record {
  all_taken = All-append IsTaken es fs a.all_taken b.all_taken;
  chain = Chain-append gives es fs v u w a.chain b.chain;
  limit_is = b.limit_is ∙ ap (λ k. limit_after k fs) a.limit_is ∙ sym (limit_after-append v.limit es fs);
  outcomes_are = b.outcomes_are ∙ ap (λ o. outcomes_from o fs) a.outcomes_are ∙ sym (outcomes_from-append v.outcomes es fs);
  out = a.out ++ b.out;
  appended = ap (λ (xs : List Answer). xs ++ b.out) a.appended ∙ append_assoc answers a.out b.out;
  said = speaks_append v.limit v.waiting es fs u.waiting w.waiting a.out b.out a.said (subst (λ k. OutputOf k u.waiting fs w.waiting b.out) a.limit_is b.said);
}

-- ---- what is said of it at the end

abbrev pub HeadlineLaw : {R : Type 0} → Relays R → Type 0
HeadlineLaw gives = (state : ConnectionState) (o : OpenModel) (H : List (Entry _)) (w : EngineView _) → Legal gives state o H w → Headline state o H

abbrev pub StandsLaw : {R : Type 0} → Relays R → Type 0
StandsLaw gives = (state : ConnectionState) (o : OpenModel) (H : List (Entry _)) (w : EngineView _) → Legal gives state o H w → Stands state o H w

-- a legal history goes on by a chain
pub legal_more : {R : Type 0} (gives : Relays R) (state : ConnectionState) (o : OpenModel) (H es : List (Entry R)) (v w : EngineView R) → Legal gives state o H v → Chain gives v es w → Legal gives state o (H ++ es) w
unfolding Legal
legal_more gives state o H es v w l c = (l.0, Chain-append gives H es (new_engine l.0 state o) v w l.1 c)

unfoldable pub running_ran : {R : Type 0} (gives : Relays R) (v v' : EngineView R) (wished entries : List (Entry R)) (inputs inputs' : List (Input R)) (answers answers' : List Answer) → HeadlineLaw gives → StandsLaw gives →
    inputs ≡ inputs_of entries ++ inputs' → Running gives v (wished ++ entries) answers v' answers' → Ran gives wished v inputs answers v' inputs' answers'
running_ran gives v v' wished entries inputs inputs' answers answers' law views taken g = record {
  entries = entries;
  promise = record {
    taken = taken;
    all_taken = g.all_taken;
    out = g.out;
    appended = g.appended;
    said = g.said;
    limit_is = g.limit_is;
    goes_on = λ state o H l. let all = legal_more gives state o H (wished ++ entries) v v' l g.chain in (all, law state o (H ++ (wished ++ entries)) v' all);
  };
  views = record { stands = λ state o H l. views state o H v' l; outcomes_are = g.outcomes_are };
  steps = g.chain;
}

pub ran_running : {R : Type 0} (gives : Relays R) (v v' : EngineView R) (wished : List (Entry R)) (inputs inputs' : List (Input R)) (answers answers' : List Answer) →
    (r : Ran gives wished v inputs answers v' inputs' answers') → Running gives v (wished ++ r.entries) answers v' answers'
ran_running gives v v' wished inputs inputs' answers answers' r = record {
  all_taken = r.promise.all_taken;
  chain = r.steps;
  limit_is = r.promise.limit_is;
  outcomes_are = r.views.outcomes_are;
  out = r.promise.out;
  appended = r.promise.appended;
  said = r.promise.said;
}

-- ---- two runs in a row

both_taken : {R : Type 0} (es fs : List (Entry R)) (inputs left more rest : List (Input R)) → inputs ≡ inputs_of es ++ left → left ++ more ≡ inputs_of fs ++ rest → inputs ++ more ≡ inputs_of (es ++ fs) ++ rest
both_taken es fs inputs left more rest a b =
    ap (λ (xs : List (Input _)). xs ++ more) a ∙ append_assoc (inputs_of es) left more ∙ ap (λ (xs : List (Input _)). inputs_of es ++ xs) b
    ∙ sym (append_assoc (inputs_of es) (inputs_of fs) rest) ∙ ap (λ (xs : List (Input _)). xs ++ rest) (sym (inputs_of-append es fs))

pub two_runs : {R : Type 0} (gives : Relays R) → HeadlineLaw gives → StandsLaw gives → TwoRunsAreOne gives
two_runs {R} gives law views wished v u w inputs left more rest answers others first second a b =
    let x = ran_running gives v u wished inputs left answers (answers ++ first) a in
    let y = ran_running gives u w [] (left ++ more) rest others (others ++ second) b in
    let same : second ≡ y.out = append_cancel_left others second y.out y.appended in
    let joined : (answers ++ first) ++ y.out ≡ answers ++ (first ++ second) =
    append_assoc answers first y.out ∙ ap (λ (xs : List Answer). answers ++ (first ++ xs)) (sym same) in
    let both = Running-append gives v u w (wished ++ a.entries) b.entries answers (answers ++ first) others (others ++ second) x y in
    running_ran gives v w wished (a.entries ++ b.entries) (inputs ++ more) rest answers (answers ++ (first ++ second)) law views
    (both_taken a.entries b.entries inputs left more rest a.promise.taken b.promise.taken)
    (subst (λ (xs : List Answer). Running gives v (wished ++ (a.entries ++ b.entries)) answers w xs) joined
    (subst (λ (es : List (Entry R)). Running gives v es answers w ((answers ++ first) ++ y.out)) (append_assoc wished a.entries b.entries) both))

-- ---- a second run with wishes of its own

left_wished : {R : Type 0} (u t : EngineView R) → OnlyWished u t → OutputTaken u t
left_wished u t o = subst (λ (x : EngineView _). OutputTaken u x) (sym o) (record {
  gone = [];
  left = refl;
  connection_is = refl;
  sessions_is = refl;
  forgotten_is = refl;
  limit_is = refl;
  outcomes_are = record { close = inl refl; ends = λ n. inl refl };
})

-- what a chain leads to, where wishes were noted before it
chain_wished : {R : Type 0} (gives : Relays R) (u t w : EngineView R) (es : List (Entry R)) → OnlyWished u t → Chain gives t es w → Chain gives u es w
chain_wished gives u t w es o c = Chain-later gives u t w es (left_wished u t o) c

running_wished : {R : Type 0} (gives : Relays R) (u t w : EngineView R) (es : List (Entry R)) (answers answers' : List Answer) → OnlyWished u t →
    Running gives t es answers w answers' → Running gives u es answers w answers'
running_wished gives u t w es answers answers' o b = record {
  all_taken = b.all_taken;
  chain = chain_wished gives u t w es o b.chain;
  limit_is = b.limit_is ∙ ap (λ (x : EngineView _). limit_after x.limit es) o;
  outcomes_are = b.outcomes_are ∙ ap (λ (x : EngineView _). outcomes_from x.outcomes es) o;
  out = b.out;
  appended = b.appended;
  said = subst (λ (x : EngineView _). OutputOf x.limit x.waiting es w.waiting b.out) o b.said;
}

pub wished_runs : {R : Type 0} (gives : Relays R) → HeadlineLaw gives → StandsLaw gives → WishedRunsAreOne gives
wished_runs {R} gives law views wished own v u t w inputs left more rest answers others first second a o b =
    let x = ran_running gives v u wished inputs left answers (answers ++ first) a in
    let y = running_wished gives u t w (own ++ b.entries) others (others ++ second) o (ran_running gives t w own (left ++ more) rest others (others ++ second) b) in
    let same : second ≡ y.out = append_cancel_left others second y.out y.appended in
    let joined : (answers ++ first) ++ y.out ≡ answers ++ (first ++ second) =
    append_assoc answers first y.out ∙ ap (λ (xs : List Answer). answers ++ (first ++ xs)) (sym same) in
    let all : List (Entry R) = (wished ++ a.entries) ++ (own ++ b.entries) in
    let both = Running-append gives v u w (wished ++ a.entries) (own ++ b.entries) answers (answers ++ first) others (others ++ second) x y in (
      both_taken a.entries b.entries inputs left more rest a.promise.taken b.promise.taken,
      running_ran gives v w all [] [] [] answers (answers ++ (first ++ second)) law views refl
          (subst (λ (xs : List Answer). Running gives v (all ++ []) answers w xs) joined
          (subst (λ (es : List (Entry R)). Running gives v es answers w ((answers ++ first) ++ y.out)) (sym (append-nil all)) both)),
    )
