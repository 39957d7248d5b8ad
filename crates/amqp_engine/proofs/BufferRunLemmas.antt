-- A run that sends into a buffer, in the words of the list of answers that a run gives.
use Rattle.std.proofs.Common.{◌≡◌, ℕ, ◌+◌, ◌-◌, ◌<◌, ◌^◌, List, [], ◌∷◌, ◌++◌, length, refl, ap, sym, subst, ◌∙◌, arith, append_assoc, Option, Some, None}
use Rattle.std.specs.Prelude.{Vec, Ok}
use Rattle.std.specs.declared.alloc.Global.{Global}
use Rattle.std.proofs.lemmas.List.{append-nil}
use Rattle.amqp_frames.specs.declared.frame.Frame.{Frame}
use Rattle.amqp_frames.specs.Wire.{EncodesTo, wire_of}
use Rattle.amqp_session.specs.Relay.{Relays}
use Rattle.amqp_engine.specs.declared.engine.input.Input.{Input}
use Rattle.amqp_engine.specs.declared.engine.answer.Answer.{Answer}
use Rattle.amqp_engine.specs.declared.engine.answer.Answer.TheVariants as answer
use Rattle.amqp_engine.specs.declared.engine.refusal.Refusal.{Refusal}
use Rattle.amqp_engine.specs.declared.engine.refusal.Refusal.TheVariants as refusal
use Rattle.amqp_engine.specs.declared.engine.step_error.StepError.{StepError}
use Rattle.amqp_engine.specs.EngineView.{EngineView}
use Rattle.amqp_engine.specs.Engine.{Steps}
use Rattle.amqp_engine.specs.History.{OnlyLeft}
use Rattle.amqp_engine.specs.Output.{IsOut, IsOuts, PutOut, answer_of}
use Rattle.amqp_engine.specs.Inner.Putting.{DropsFirst}
use Rattle.amqp_engine.specs.Waits.{FirstIs, TakesFirst}
use Rattle.amqp_engine.specs.RunInto.{HandsBack, RanInto, SendsFirst, Tells, next_place, refusal_at, refusals_of, sent_of}
use Rattle.amqp_engine.proofs.OutputLemmas.{PutSoFar, first_taken, put_none, put_more}
use Rattle.amqp_engine.proofs.RunLemmas.{HeadlineLaw, StandsLaw}
use Rattle.amqp_engine.proofs.RunSoFarLemmas.{Taking, Taking-start, Taking-more, Taking-Ran}

-- ---- answers, one list after another

pub sent_of-append : (xs ys : List Answer) → sent_of (xs ++ ys) ≡ sent_of xs ++ sent_of ys
sent_of-append [] ys = refl
sent_of-append (answer.Done ∷ xs) ys = sent_of-append xs ys
sent_of-append (answer.Refused e ∷ xs) ys = sent_of-append xs ys
sent_of-append (answer.Out pieces ∷ xs) ys =
    ap (λ (bytes : List ℕ). wire_of pieces.items ++ bytes) (sent_of-append xs ys) ∙ sym (append_assoc (wire_of pieces.items) (sent_of xs) (sent_of ys))
sent_of-append (answer.TooLarge f ∷ xs) ys = sent_of-append xs ys

-- the place of the last of them
abbrev pub place_after : Option ℕ → List Answer → Option ℕ
place_after before [] = before
place_after before (answer.Done ∷ rest) = place_after (Some (next_place before)) rest
place_after before (answer.Refused e ∷ rest) = place_after (Some (next_place before)) rest
place_after before (answer.Out pieces ∷ rest) = place_after before rest
place_after before (answer.TooLarge f ∷ rest) = place_after before rest

pub refusals_of-append : (before : Option ℕ) (xs ys : List Answer) → refusals_of before (xs ++ ys) ≡ refusals_of before xs ++ refusals_of (place_after before xs) ys
refusals_of-append before [] ys = refl
refusals_of-append before (answer.Done ∷ xs) ys = refusals_of-append (Some (next_place before)) xs ys
refusals_of-append before (answer.Refused e ∷ xs) ys = ap (λ (rs : List Refusal). refusal.Input (next_place before) e ∷ rs) (refusals_of-append (Some (next_place before)) xs ys)
refusals_of-append before (answer.Out pieces ∷ xs) ys = refusals_of-append before xs ys
refusals_of-append before (answer.TooLarge f ∷ xs) ys = ap (λ (rs : List Refusal). refusal.Frame before f ∷ rs) (refusals_of-append before xs ys)

pub place_after-append : (before : Option ℕ) (xs ys : List Answer) → place_after before (xs ++ ys) ≡ place_after (place_after before xs) ys
place_after-append before [] ys = refl
place_after-append before (answer.Done ∷ xs) ys = place_after-append (Some (next_place before)) xs ys
place_after-append before (answer.Refused e ∷ xs) ys = place_after-append (Some (next_place before)) xs ys
place_after-append before (answer.Out pieces ∷ xs) ys = place_after-append before xs ys
place_after-append before (answer.TooLarge f ∷ xs) ys = place_after-append before xs ys

tells_more : (before : Option ℕ) (xs ys : List Answer) (out out1 out2 : List ℕ) (refs refs1 refs2 : List Refusal)
    → Tells before xs out refs out1 refs1 → Tells (place_after before xs) ys out1 refs1 out2 refs2 → Tells before (xs ++ ys) out refs out2 refs2
tells_more before xs ys out out1 out2 refs refs1 refs2 a b = (
  b.0 ∙ ap (λ (bytes : List ℕ). bytes ++ sent_of ys) a.0 ∙ append_assoc out (sent_of xs) (sent_of ys) ∙ ap (λ (bytes : List ℕ). out ++ bytes) (sym (sent_of-append xs ys)),
  b.1 ∙ ap (λ (rs : List Refusal). rs ++ refusals_of (place_after before xs) ys) a.1 ∙ append_assoc refs (refusals_of before xs) (refusals_of (place_after before xs) ys)
      ∙ ap (λ (rs : List Refusal). refs ++ rs) (sym (refusals_of-append before xs ys)),
)

-- answers of frames are of the input before them
out_place : (before : Option ℕ) (limit : ℕ) (f : Frame) (a : Answer) → IsOut limit f a → (rest : List Answer) → place_after before (a ∷ rest) ≡ place_after before rest
out_place before limit f answer.Done o rest = absurd o
out_place before limit f (answer.Refused e) o rest = absurd o
out_place before limit f (answer.Out pieces) o rest = refl
out_place before limit f (answer.TooLarge g) o rest = refl

pub outs_place : (before : Option ℕ) (limit : ℕ) (fs : List Frame) (outs : List Answer) → IsOuts limit fs outs → place_after before outs ≡ before
outs_place before limit [] outs o = ap (place_after before) o
outs_place before limit (f ∷ fs) outs o = ap (place_after before) o.2 ∙ out_place before limit f o.0 o.3 o.1 ∙ outs_place before limit fs o.1 o.4

-- ---- what waits goes out

-- what a loop has sent so far
pub record SentSoFar {R : Type 0} (place : Option ℕ) (v : EngineView R) (out : List ℕ) (refs : List Refusal) (w : EngineView R) (out' : List ℕ) (refs' : List Refusal) : Type 0 where
  pub answers : List Answer
  pub so_far : PutSoFar v [] w answers
  pub tells : Tells place answers out refs out' refs'

tells_none : (place : Option ℕ) (out : List ℕ) (refs : List Refusal) → Tells place [] out refs out refs
tells_none place out refs = (sym (append-nil out), sym (append-nil refs))

pub sent_none : {R : Type 0} (place : Option ℕ) (v : EngineView R) (out : List ℕ) (refs : List Refusal) → SentSoFar place v out refs v out refs
sent_none place v out refs = record { answers = []; so_far = put_none v []; tells = tells_none place out refs }

answers_place : {R : Type 0} (place : Option ℕ) (v w : EngineView R) (answers : List Answer) → PutSoFar v [] w answers → place_after place answers ≡ place
answers_place place v w answers p = ap (place_after place) p.appended ∙ outs_place place v.limit p.put.gone p.out p.put.answers

pub sent_more : {R : Type 0} (place : Option ℕ) (v u w : EngineView R) (out out1 out2 : List ℕ) (refs refs1 refs2 : List Refusal)
    → SentSoFar place v out refs u out1 refs1 → SendsFirst place u out1 refs1 w out2 refs2 → SentSoFar place v out refs w out2 refs2
sent_more place v u w out out1 out2 refs refs1 refs2 s n =
    let same = sym (answers_place place v u s.answers s.so_far) in
    record {
      answers = s.answers ++ n.0 ∷ [];
      so_far = put_more v u w [] s.answers (s.answers ++ n.0 ∷ []) n.0 s.so_far n.1 refl;
      tells = tells_more place s.answers (n.0 ∷ []) out out1 out2 refs refs1 refs2 s.tells
          (subst (λ (p : Option ℕ). Tells p (n.0 ∷ []) out1 refs1 out2 refs2) same n.2);
    }

pub sent_same : {R : Type 0} (place : Option ℕ) (v u w : EngineView R) (out out1 out2 : List ℕ) (refs refs1 refs2 : List Refusal)
    → SentSoFar place v out refs u out1 refs1 → w ≡ u → out2 ≡ out1 → refs2 ≡ refs1 → SentSoFar place v out refs w out2 refs2
sent_same place v u w out out1 out2 refs refs1 refs2 s e o r =
    subst (λ (x : EngineView _). SentSoFar place v out refs x out2 refs2) (sym e)
    (subst (λ (bytes : List ℕ). SentSoFar place v out refs u bytes refs2) (sym o) (subst (λ (rs : List Refusal). SentSoFar place v out refs u out1 rs) (sym r) s))

pub sent_out : {R : Type 0} (place : Option ℕ) (v w : EngineView R) (out out' : List ℕ) (refs refs' : List Refusal) → SentSoFar place v out refs w out' refs'
    → (outs : List Answer) × PutOut v.limit v.waiting w.waiting outs × Tells place outs out refs out' refs'
sent_out place v w out out' refs refs' s = (s.so_far.out, s.so_far.put, subst (λ (as_is : List Answer). Tells place as_is out refs out' refs') s.so_far.appended s.tells)

-- ---- one frame

-- a list of so many items, as the value of a `Vec`
vec_of : {X Y Z : Type 0} → Vec Y Z → (xs : List X) → length xs < 2 ^ 63 → Vec X Z
vec_of v xs h = record { ptr = v.ptr; len = length xs; cap = length xs; alloc = v.alloc; items = xs; ok = (refl, omega arith); small = h }

first_gone : (fs fs' : List Frame) (f : Frame) (x : Option Frame) → FirstIs f fs → TakesFirst fs x fs' → fs ≡ f ∷ fs'
first_gone fs fs' f None is t = absurd (subst (λ (gs : List Frame). FirstIs f gs) t.0 is)
first_gone fs fs' f (Some g) is t = t ∙ ap (λ (h : Frame). h ∷ fs') (sym (first_taken fs fs' f g is t))

-- what was sent of the first one is its answer
pub sends_first : {R : Type 0} (refusals : Vec Refusal Global) (place : Option ℕ) (v w : EngineView R) (out out' : List ℕ) (refs refs' : List Refusal) (u : Unit {0}) (f : Frame)
    → FirstIs f v.waiting → EncodesTo f v.limit out (Ok u) out' → DropsFirst v.waiting w.waiting → w ≡ record v { waiting = w.waiting } → refs' ≡ refs → SendsFirst place v out refs w out' refs'
unfolding vec_of
sends_first refusals place v w out out' refs refs' u f is e d same none = (
  answer.Out (vec_of refusals e.0 e.1),
  (f, w.waiting, first_gone v.waiting w.waiting f d.0 is d.1, e.2, same),
  (e.3 ∙ ap (λ (bytes : List ℕ). out ++ bytes) (sym (append-nil (wire_of e.0))), none ∙ sym (append-nil refs)),
)

-- one that is handed back is its answer
pub sends_back : {R : Type 0} (place : Option ℕ) (v w : EngineView R) (out out' : List ℕ) (refs mid refs' : List Refusal) → HandsBack place v mid w refs' → out' ≡ out → mid ≡ refs → SendsFirst place v out refs w out' refs'
sends_back place v w out out' refs mid refs' h same none =
    (answer.TooLarge h.0, h.1, (same ∙ sym (append-nil out), h.2 ∙ ap (λ (rs : List Refusal). rs ++ refusal.Frame place h.0 ∷ []) none))

-- ---- inputs

-- the inputs that have been run so far
pub record Sending {R : Type 0} (gives : Relays R) (v : EngineView R) (inputs : List (Input R)) (out : List ℕ) (refs : List Refusal)
    (v' : EngineView R) (inputs' : List (Input R)) (out' : List ℕ) (refs' : List Refusal) : Type 0 where
  pub answers : List Answer
  pub taking : Taking gives v inputs [] v' inputs' answers
  pub tells : Tells None answers out refs out' refs'
  pub place : next_place (place_after None answers) + length inputs' ≡ length inputs

pub Sending-start : {R : Type 0} (gives : Relays R) (v v' : EngineView R) (inputs : List (Input R)) (out out' : List ℕ) (refs refs' : List Refusal) (outs : List Answer)
    → OnlyLeft v v' → PutOut v.limit v.waiting v'.waiting outs → Tells None outs out refs out' refs' → Sending gives v inputs out refs v' inputs out' refs'
Sending-start gives v v' inputs out out' refs refs' outs t p told = record {
  answers = outs;
  taking = Taking-start gives v v' inputs [] outs outs t refl p;
  tells = told;
  place = omega (arith, ap next_place (outs_place None v.limit p.gone outs p.answers));
}

-- the answer of an input sends nothing, and its refusal has the next place
answer_told : (before : Option ℕ) (r : Option StepError) (out : List ℕ) (refs : List Refusal) → Tells before (answer_of r ∷ []) out refs out (refs ++ refusal_at (next_place before) r)
answer_told before None out refs = (sym (append-nil out), refl)
answer_told before (Some e) out refs = (sym (append-nil out), refl)

answer_place : (before : Option ℕ) (r : Option StepError) → place_after before (answer_of r ∷ []) ≡ Some (next_place before)
answer_place before None = refl
answer_place before (Some e) = refl

pub Sending-more : {R : Type 0} (gives : Relays R) (v v1 v2 v3 : EngineView R) (inputs inputs1 inputs2 : List (Input R)) (out out1 out3 : List ℕ) (refs refs1 refs2 refs3 : List Refusal)
    (outs : List Answer) (input : Input R) (r : Option StepError) (place : ℕ)
    → Sending gives v inputs out refs v1 inputs1 out1 refs1 → v1.waiting ≡ [] → inputs1 ≡ input ∷ inputs2 → Steps gives v1 input r v2
    → place ≡ length inputs - length inputs1 → refs2 ≡ refs1 ++ refusal_at place r
    → OnlyLeft v2 v3 → PutOut v2.limit v2.waiting v3.waiting outs → Tells (Some place) outs out1 refs2 out3 refs3 → Sending gives v inputs out refs v3 inputs2 out3 refs3
Sending-more gives v v1 v2 v3 inputs inputs1 inputs2 out out1 out3 refs refs1 refs2 refs3 outs input r place s idle popped step at noted t put told =
    let before : Option ℕ = place_after None s.answers in
    let here : place ≡ next_place before = omega (arith, at, s.place) in
    let asked : List Answer = s.answers ++ answer_of r ∷ [] in
    let told1 : Tells before (answer_of r ∷ []) out1 refs1 out1 refs2 =
    subst (λ (rs : List Refusal). Tells before (answer_of r ∷ []) out1 refs1 out1 rs) (ap (λ (n : ℕ). refs1 ++ refusal_at n r) (sym here) ∙ sym noted) (answer_told before r out1 refs1) in
    let there : place_after None asked ≡ Some place = place_after-append None s.answers (answer_of r ∷ []) ∙ answer_place before r ∙ ap (λ (n : ℕ). Some n) (sym here) in
    let last : place_after None (asked ++ outs) ≡ Some place =
    place_after-append None asked outs ∙ outs_place (place_after None asked) v2.limit put.gone outs put.answers ∙ there in
    record {
      answers = asked ++ outs;
      taking = Taking-more gives v v1 v2 v3 inputs inputs1 inputs2 [] s.answers asked (asked ++ outs) outs input r s.taking idle popped step refl t refl put;
      tells = tells_more None asked outs out out1 out3 refs refs2 refs3
          (tells_more None s.answers (answer_of r ∷ []) out out1 out1 refs refs1 refs2 s.tells told1)
          (subst (λ (p : Option ℕ). Tells p outs out1 refs2 out3 refs3) (sym there) told);
      place = omega (arith, ap next_place last, at, s.place, ap length popped);
    }

pub Sending-RanInto : {R : Type 0} (gives : Relays R) (v v' : EngineView R) (inputs inputs' : List (Input R)) (out out' : List ℕ) (refs refs' : List Refusal) → HeadlineLaw gives → StandsLaw gives
    → Sending gives v inputs out refs v' inputs' out' refs' → RanInto gives v inputs out refs v' inputs' out' refs'
Sending-RanInto gives v v' inputs inputs' out out' refs refs' law views s =
    (s.answers, Taking-Ran gives v v' inputs inputs' [] s.answers law views s.taking, s.tells.0, s.tells.1)
