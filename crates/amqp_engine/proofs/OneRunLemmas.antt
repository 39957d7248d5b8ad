-- One input that is run alone.
use Rattle.std.proofs.Common.{◌≡◌, ℕ, List, [], ◌∷◌, ◌++◌, refl, ap, sym, subst, ◌∙◌, append_assoc, Option, Some, None}
use Rattle.amqp_session.specs.Relay.{Relays}
use Rattle.amqp_frames.specs.declared.frame.Frame.{Frame}
use Rattle.amqp_engine.specs.declared.engine.input.Input.{Input}
use Rattle.amqp_engine.specs.declared.engine.answer.Answer.{Answer}
use Rattle.amqp_engine.specs.declared.engine.answer.Answer.TheVariants as answer
use Rattle.amqp_engine.specs.declared.engine.refusal.Refusal.{Refusal}
use Rattle.amqp_engine.specs.declared.engine.refusal.Refusal.TheVariants as refusal
use Rattle.amqp_engine.specs.declared.engine.step_error.StepError.{StepError}
use Rattle.amqp_engine.specs.EngineView.{EngineView}
use Rattle.amqp_engine.specs.Engine.{Steps}
use Rattle.amqp_engine.specs.History.{OnlyLeft}
use Rattle.amqp_engine.specs.Output.{IsOut, IsOuts, PutOut, answer_of}
use Rattle.amqp_engine.specs.RunInto.{RanInto, Tells, refusals_of, sent_of}
use Rattle.amqp_engine.specs.RunOne.{RanOne, handed_back}
use Rattle.amqp_engine.proofs.RunLemmas.{HeadlineLaw, StandsLaw, running_ran}
use Rattle.amqp_engine.proofs.RunSoFarLemmas.{Running-start, Running-more, entry_of}
use Rattle.amqp_engine.proofs.BufferRunLemmas.{Sending-start, Sending-RanInto, outs_place, refusals_of-append, sent_of-append}

-- ---- frames that are handed back

handed_back-append : (xs ys : List Refusal) → handed_back (xs ++ ys) ≡ handed_back xs ++ handed_back ys
handed_back-append [] ys = refl
handed_back-append (refusal.Input place e ∷ xs) ys = handed_back-append xs ys
handed_back-append (refusal.Frame place f ∷ xs) ys = ap (λ (rs : List Refusal). refusal.Frame place f ∷ rs) (handed_back-append xs ys)

one_back : (place : Option ℕ) (limit : ℕ) (f : Frame) (a : Answer) (rest : List Answer) → IsOut limit f a → handed_back (refusals_of place rest) ≡ refusals_of place rest
    → handed_back (refusals_of place (a ∷ rest)) ≡ refusals_of place (a ∷ rest)
one_back place limit f answer.Done rest o h = absurd o
one_back place limit f (answer.Refused e) rest o h = absurd o
one_back place limit f (answer.Out pieces) rest o h = h
one_back place limit f (answer.TooLarge g) rest o h = ap (λ (rs : List Refusal). refusal.Frame place g ∷ rs) h

-- what answers of frames refuse is handed back
outs_back : (place : Option ℕ) (limit : ℕ) (fs : List Frame) (outs : List Answer) → IsOuts limit fs outs → handed_back (refusals_of place outs) ≡ refusals_of place outs
outs_back place limit [] outs o = subst (λ (xs : List Answer). handed_back (refusals_of place xs) ≡ refusals_of place xs) (sym o) refl
outs_back place limit (f ∷ fs) outs o =
    subst (λ (xs : List Answer). handed_back (refusals_of place xs) ≡ refusals_of place xs) (sym o.2) (one_back place limit f o.0 o.1 o.3 (outs_back place limit fs o.1 o.4))

-- the answer of the frame itself hands nothing back, and sends nothing
own_back : (r : Option StepError) (more : List Answer) → handed_back (refusals_of None (answer_of r ∷ more)) ≡ handed_back (refusals_of (Some 0) more)
own_back None more = refl
own_back (Some e) more = refl

own_sent : (r : Option StepError) (more : List Answer) → sent_of (answer_of r ∷ more) ≡ sent_of more
own_sent None more = refl
own_sent (Some e) more = refl

all_back : (limit limit' : ℕ) (fs gs : List Frame) (outs more : List Answer) (r : Option StepError) → IsOuts limit fs outs → IsOuts limit' gs more
    → handed_back (refusals_of None (outs ++ answer_of r ∷ more)) ≡ refusals_of None outs ++ refusals_of (Some 0) more
all_back limit limit' fs gs outs more r o p =
    ap handed_back (refusals_of-append None outs (answer_of r ∷ more))
    ∙ ap (λ (place : Option ℕ). handed_back (refusals_of None outs ++ refusals_of place (answer_of r ∷ more))) (outs_place None limit fs outs o)
    ∙ handed_back-append (refusals_of None outs) (refusals_of None (answer_of r ∷ more))
    ∙ ap (λ (rs : List Refusal). rs ++ handed_back (refusals_of None (answer_of r ∷ more))) (outs_back None limit fs outs o)
    ∙ ap (λ (rs : List Refusal). refusals_of None outs ++ rs) (own_back r more ∙ outs_back (Some 0) limit' gs more p)

all_sent : (outs more : List Answer) (r : Option StepError) → sent_of (outs ++ answer_of r ∷ more) ≡ sent_of outs ++ sent_of more
all_sent outs more r = sent_of-append outs (answer_of r ∷ more) ∙ ap (λ (bytes : List ℕ). sent_of outs ++ bytes) (own_sent r more)

-- ---- the run

-- what waited is sent, the input is a step, and what it hands out is sent
pub ran_one : {R : Type 0} (g : Relays R) (v u m w : EngineView R) (input : Input R) (r : Option StepError) (out out1 out2 : List ℕ) (refs refs1 refs2 : List Refusal)
    (outs more : List Answer) → HeadlineLaw g → StandsLaw g → OnlyLeft v u → PutOut v.limit v.waiting u.waiting outs → Tells None outs out refs out1 refs1 → u.waiting ≡ []
    → (step : Steps g u input r m)
    → OnlyLeft m w → PutOut m.limit m.waiting w.waiting more → Tells (Some 0) more out1 refs1 out2 refs2
    → (one : RanOne g v input r out refs w out2 refs2) × (one.entry.received ≡ step.received)
unfolding running_ran
ran_one g v u m w input r out out1 out2 refs refs1 refs2 outs more law views t put told idle step t2 put2 told2 =
    let answers : List Answer = outs ++ answer_of r ∷ more in
    let start = Running-start g v u [] outs outs t refl put in
    let all = Running-more g v u m w [] [] outs (outs ++ answer_of r ∷ []) answers more input r start idle step refl t2 (sym (append_assoc outs (answer_of r ∷ []) more)) put2 in (
      record {
        answers = answers;
        ran = running_ran g v w [] (entry_of g u input r m step ∷ []) (input ∷ []) [] [] answers law views refl all;
        entry = entry_of g u input r m step;
        entry_is = refl;
        input_is = refl;
        refusal_is = refl;
        sent = told2.0 ∙ ap (λ (bs : List ℕ). bs ++ sent_of more) told.0 ∙ append_assoc out (sent_of outs) (sent_of more) ∙ ap (λ (bs : List ℕ). out ++ bs) (sym (all_sent outs more r));
        back = told2.1 ∙ ap (λ (rs : List Refusal). rs ++ refusals_of (Some 0) more) told.1 ∙ append_assoc refs (refusals_of None outs) (refusals_of (Some 0) more)
            ∙ ap (λ (rs : List Refusal). refs ++ rs) (sym (all_back v.limit m.limit put.gone put2.gone outs more r put.answers put2.answers));
      },
      refl,
    )

-- only what waited was sent, and what was tried after that changed nothing
pub ran_none : {R : Type 0} (g : Relays R) (v u w : EngineView R) (out out1 : List ℕ) (refs refs1 : List Refusal) (outs : List Answer) → HeadlineLaw g → StandsLaw g
    → OnlyLeft v u → PutOut v.limit v.waiting u.waiting outs → Tells None outs out refs out1 refs1 → w ≡ u → RanInto g v [] out refs w [] out1 refs1
ran_none g v u w out out1 refs refs1 outs law views t put told same =
    subst (λ (x : EngineView _). RanInto g v [] out refs x [] out1 refs1) (sym same)
    (Sending-RanInto g v u [] [] out out1 refs refs1 law views (Sending-start g v u [] out out1 refs refs1 outs t put told))
