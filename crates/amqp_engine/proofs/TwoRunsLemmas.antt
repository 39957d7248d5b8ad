-- Two runs into a buffer, one after the other: their bytes and refusals are those of one run.
use Rattle.std.proofs.Common.{◌≡◌, ℕ, zero, suc, ◌+◌, List, [], ◌∷◌, ◌++◌, length, map, Option, Some, None, refl, ap, sym, ◌∙◌, arith}
use Rattle.std.proofs.lemmas.List.{append_cancel_left, length-append, length-map}
use Rattle.amqp_frames.specs.declared.frame.Frame.{Frame}
use Rattle.amqp_session.specs.Relay.{Relays}
use Rattle.amqp_engine.specs.declared.engine.input.Input.{Input}
use Rattle.amqp_engine.specs.declared.engine.answer.Answer.{Answer}
use Rattle.amqp_engine.specs.declared.engine.answer.Answer.TheVariants as answer
use Rattle.amqp_engine.specs.declared.engine.refusal.Refusal.{Refusal}
use Rattle.amqp_engine.specs.declared.engine.refusal.Refusal.TheVariants as refusal
use Rattle.amqp_engine.specs.declared.engine.step_error.StepError.{StepError}
use Rattle.amqp_engine.specs.EngineView.{EngineView}
use Rattle.amqp_engine.specs.Entry.{Entry}
use Rattle.amqp_engine.specs.Event.{event}
use Rattle.amqp_engine.specs.ByHistory.{limit_by}
use Rattle.amqp_engine.specs.Output.{OutputOf, answer_of}
use Rattle.amqp_engine.specs.Promise.{inputs_of}
use Rattle.amqp_engine.specs.Ran.{Ran}
use Rattle.amqp_engine.specs.RunInto.{next_place, refusals_of, sent_of}
use Rattle.amqp_engine.specs.TwoRuns.{RunsIntoAreOne, TwoRunsAreOne, counted_on, refused_on}
use Rattle.amqp_engine.proofs.BufferRunLemmas.{outs_place, place_after, place_after-append, refusals_of-append, sent_of-append}

-- ---- places that are counted on

next_on : (taken : ℕ) (before : Option ℕ) → next_place (counted_on taken before) ≡ taken + next_place before
next_on taken (Some place) = omega arith
next_on zero None = omega arith
next_on (suc last) None = omega arith

refused_from : (taken : ℕ) (before : Option ℕ) (xs : List Answer) → refusals_of (counted_on taken before) xs ≡ map (refused_on taken) (refusals_of before xs)
refused_from taken before [] = refl
refused_from taken before (answer.Done ∷ xs) =
    ap (λ (n : ℕ). refusals_of (Some n) xs) (next_on taken before) ∙ refused_from taken (Some (next_place before)) xs
refused_from taken before (answer.Refused e ∷ xs) =
    ap (λ (n : ℕ). refusal.Input n e ∷ refusals_of (Some n) xs) (next_on taken before)
    ∙ ap (λ (rs : List Refusal). refusal.Input (taken + next_place before) e ∷ rs) (refused_from taken (Some (next_place before)) xs)
refused_from taken before (answer.Out pieces ∷ xs) = refused_from taken before xs
refused_from taken before (answer.TooLarge f ∷ xs) =
    ap (λ (rs : List Refusal). refusal.Frame (counted_on taken before) f ∷ rs) (refused_from taken before xs)

-- ---- the place of the last of so many entries

answer_next : (before : Option ℕ) (r : Option StepError) (rest : List Answer) → place_after before (answer_of r ∷ rest) ≡ place_after (Some (next_place before)) rest
answer_next before None rest = refl
answer_next before (Some e) rest = refl

last_on : {R : Type 0} (taken limit : ℕ) (waiting : List Frame) (es : List (Entry R)) (waiting' : List Frame) (out : List Answer)
    → OutputOf limit waiting es waiting' out → place_after (counted_on taken None) out ≡ counted_on (taken + length es) None
last_on taken limit waiting [] waiting' out p =
    let same : taken ≡ taken + 0 = omega arith in
    outs_place (counted_on taken None) limit p.gone out p.answers ∙ ap (λ (n : ℕ). counted_on n None) same
last_on taken limit waiting (e ∷ es) waiting' out s =
    let before : Option ℕ = counted_on taken None in
    let here : next_place before ≡ taken = next_on taken None ∙ (omega arith) in
    let more : suc taken + length es ≡ taken + suc (length es) = omega arith in
    ap (place_after before) s.2 ∙ place_after-append before s.0 (answer_of e.refusal ∷ s.1)
    ∙ ap (λ (b : Option ℕ). place_after b (answer_of e.refusal ∷ s.1)) (outs_place before limit waiting s.0 s.3)
    ∙ answer_next before e.refusal s.1 ∙ ap (λ (n : ℕ). place_after (Some n) s.1) here
    ∙ last_on (suc taken) (limit_by limit (event e)) e.frames es waiting' s.1 s.4 ∙ ap (λ (n : ℕ). counted_on n None) more

-- ---- two runs

took : {R : Type 0} (g : Relays R) (v w : EngineView R) (inputs left : List (Input R)) (answers : List Answer) (taken : ℕ)
    → (r : Ran g [] v inputs [] w left answers) → length inputs ≡ taken + length left → length r.entries ≡ taken
took g v w inputs left answers taken r e =
    let all = ap length r.promise.taken ∙ length-append (inputs_of r.entries) left in
    let each = length-map r.entries (λ (x : Entry _). x.input) in
    omega (arith, all, each, e)

last_place : {R : Type 0} (g : Relays R) (v w : EngineView R) (inputs left : List (Input R)) (answers : List Answer) (taken : ℕ)
    → Ran g [] v inputs [] w left answers → length inputs ≡ taken + length left → place_after None answers ≡ counted_on taken None
last_place g v w inputs left answers taken r e =
    let all = took g v w inputs left answers taken r e in
    let same : 0 + length r.entries ≡ taken = omega (arith, all) in
    ap (place_after None) r.promise.appended ∙ last_on 0 v.limit v.waiting r.entries w.waiting r.promise.out r.promise.said
    ∙ ap (λ (n : ℕ). counted_on n None) same

pub runs_into : {R : Type 0} (g : Relays R) → TwoRunsAreOne g → RunsIntoAreOne g
runs_into {R} g two v u w inputs left more rest taken out others sent sent' refusals noted told told' e a b = (
  a.0 ++ b.0,
  two [] v u w inputs left more rest [] [] a.0 b.0 a.1 b.1,
  ap (λ (bytes : List ℕ). out ++ bytes) (ap (λ (bytes : List ℕ). bytes ++ sent') (append_cancel_left out sent (sent_of a.0) a.2)
      ∙ ap (λ (bytes : List ℕ). sent_of a.0 ++ bytes) (append_cancel_left others sent' (sent_of b.0) b.2) ∙ sym (sent_of-append a.0 b.0)),
  ap (λ (rs : List Refusal). refusals ++ rs) (ap (λ (rs : List Refusal). rs ++ map (refused_on taken) told') (append_cancel_left refusals told (refusals_of None a.0) a.3)
      ∙ ap (λ (rs : List Refusal). refusals_of None a.0 ++ map (refused_on taken) rs) (append_cancel_left noted told' (refusals_of None b.0) b.3)
      ∙ ap (λ (rs : List Refusal). refusals_of None a.0 ++ rs) (sym (refused_from taken None b.0))
      ∙ ap (λ (p : Option ℕ). refusals_of None a.0 ++ refusals_of p b.0) (sym (last_place g v u inputs left a.0 taken a.1 e))
      ∙ sym (refusals_of-append None a.0 b.0)),
)
