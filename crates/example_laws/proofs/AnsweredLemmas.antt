-- The answers of a run, without the frames, are one for each entry.
use Rattle.std.proofs.Common.{◌≡◌, ℕ, List, [], ◌∷◌, ◌++◌, map, Option, Some, None, refl, ap, sym, ◌∙◌}
use Rattle.std.proofs.lemmas.List.{append-nil}
use Rattle.fe2o3_amqp.specs.amqp_frames.declared.frame.Frame.{Frame}
use Rattle.fe2o3_amqp.specs.amqp_engine.declared.engine.answer.Answer.{Answer}
use Rattle.fe2o3_amqp.specs.amqp_engine.declared.engine.answer.Answer.TheVariants.{Done, Refused, Out, TooLarge}
use Rattle.fe2o3_amqp.specs.amqp_engine.declared.engine.step_error.StepError.{StepError}
use Rattle.fe2o3_amqp.specs.amqp_engine.Entry.{Entry}
use Rattle.fe2o3_amqp.specs.amqp_engine.Event.{event}
use Rattle.fe2o3_amqp.specs.amqp_engine.ByHistory.{limit_by}
use Rattle.fe2o3_amqp.specs.amqp_engine.Output.{IsOut, IsOuts, OutputOf, answer_of}
use Rattle.example_laws.specs.Answered.{own}

frame : (limit : ℕ) (f : Frame) (a : Answer) (rest : List Answer) → IsOut limit f a → own (a ∷ rest) ≡ own rest
frame limit f (Out pieces) rest p = refl
frame limit f (TooLarge g) rest p = refl
frame limit f Done rest p = absurd p
frame limit f (Refused e) rest p = absurd p

frames : (limit : ℕ) (fs : List Frame) (outs ys : List Answer) → IsOuts limit fs outs → own (outs ++ ys) ≡ own ys
frames limit [] outs ys p = ap (λ (xs : List Answer). own (xs ++ ys)) p
frames limit (f ∷ fs) outs ys p = ap (λ (xs : List Answer). own (xs ++ ys)) p.2 ∙ frame limit f p.0 (p.1 ++ ys) p.3 ∙ frames limit fs p.1 ys p.4

answer : (r : Option StepError) (rest : List Answer) → own (answer_of r ∷ rest) ≡ answer_of r ∷ own rest
answer None rest = refl
answer (Some e) rest = refl

pub one_each : {R : Type 0} (limit : ℕ) (waiting : List Frame) (es : List (Entry R)) (waiting' : List Frame) (out : List Answer)
    → OutputOf limit waiting es waiting' out → own out ≡ map (λ (e : Entry R). answer_of e.refusal) es
one_each limit waiting [] waiting' out p = ap own (sym (append-nil out)) ∙ frames limit p.gone out [] p.answers
one_each limit waiting (e ∷ es) waiting' out p =
    ap own p.2 ∙ frames limit waiting p.0 (answer_of e.refusal ∷ p.1) p.3 ∙ answer e.refusal p.1
    ∙ ap (λ (xs : List Answer). answer_of e.refusal ∷ xs) (one_each (limit_by limit (event e)) e.frames es waiting' p.1 p.4)
