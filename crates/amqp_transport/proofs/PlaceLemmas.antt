-- Places of refusals: those of a later run, counted from the first input of an earlier one.
use Rattle.std.proofs.Common.{◌≡◌, ℕ, zero, suc, ◌+◌, ◌-◌, ◌<◌, ◌^◌, min, List, [], ◌∷◌, ◌++◌, length, map, take, drop, set, get_or, Option, Some, None, refl, ap, sym, ◌∙◌, arith, append_assoc, Bool, true, false, nat_eq, if◌then◌else◌}
use Rattle.std.proofs.lemmas.Bool.Decides.{nat_tests}
use Rattle.std.proofs.lemmas.Grind.{common_steps}
use Rattle.amqp_frames.specs.declared.frame.Frame.{Frame}
use Rattle.amqp_engine.specs.declared.engine.answer.Answer.{Answer}
use Rattle.amqp_engine.specs.declared.engine.answer.Answer.TheVariants as answer
use Rattle.amqp_engine.specs.declared.engine.refusal.Refusal.{Refusal}
use Rattle.amqp_engine.specs.declared.engine.refusal.Refusal.TheVariants as refusal
use Rattle.amqp_engine.specs.declared.engine.step_error.StepError.{StepError}
use Rattle.amqp_engine.specs.Entry.{Entry}
use Rattle.amqp_engine.specs.Event.{event}
use Rattle.amqp_engine.specs.ByHistory.{limit_by}
use Rattle.amqp_engine.specs.Output.{IsOut, IsOuts, PutOut, OutputOf, answer_of}
use Rattle.amqp_engine.specs.RunInto.{next_place, sent_of, refusals_of}
use Rattle.amqp_frames.specs.Wire.{wire_of}
use Rattle.amqp_transport.specs.Running.{counted_on, place_on}

-- ---- how many inputs are answered

abbrev pub inputs_in : List Answer → ℕ
inputs_in [] = 0
inputs_in (answer.Done ∷ rest) = suc (inputs_in rest)
inputs_in (answer.Refused e ∷ rest) = suc (inputs_in rest)
inputs_in (answer.Out pieces ∷ rest) = inputs_in rest
inputs_in (answer.TooLarge f ∷ rest) = inputs_in rest

in_both : (xs ys : List Answer) → inputs_in (xs ++ ys) ≡ inputs_in xs + inputs_in ys
in_both [] ys = omega arith
in_both (answer.Done ∷ xs) ys = let more = in_both xs ys in omega (arith, more)
in_both (answer.Refused e ∷ xs) ys = let more = in_both xs ys in omega (arith, more)
in_both (answer.Out pieces ∷ xs) ys = in_both xs ys
in_both (answer.TooLarge f ∷ xs) ys = in_both xs ys

in_out : (limit : ℕ) (f : Frame) (a : Answer) (rest : List Answer) → IsOut limit f a → inputs_in (a ∷ rest) ≡ inputs_in rest
in_out limit f answer.Done rest o = absurd o
in_out limit f (answer.Refused e) rest o = absurd o
in_out limit f (answer.Out pieces) rest o = refl
in_out limit f (answer.TooLarge g) rest o = refl

in_outs : (limit : ℕ) (fs : List Frame) (outs : List Answer) → IsOuts limit fs outs → inputs_in outs ≡ 0
in_outs limit [] outs o = ap inputs_in o
in_outs limit (f ∷ fs) outs o = ap inputs_in o.2 ∙ in_out limit f o.0 o.1 o.3 ∙ in_outs limit fs o.1 o.4

in_answer : (r : Option StepError) (rest : List Answer) → inputs_in (answer_of r ∷ rest) ≡ suc (inputs_in rest)
in_answer None rest = refl
in_answer (Some e) rest = refl

-- each entry has one answer
pub in_output : {R : Type 0} (limit : ℕ) (waiting : List Frame) (es : List (Entry R)) (waiting' : List Frame) (out : List Answer)
    → OutputOf limit waiting es waiting' out → inputs_in out ≡ length es
in_output limit waiting [] waiting' out p = in_outs limit p.gone out p.answers
in_output limit waiting (e ∷ es) waiting' out s =
    let all = ap inputs_in s.2 in
    let split = in_both s.0 (answer_of e.refusal ∷ s.1) in
    let front = in_outs limit waiting s.0 s.3 in
    let one = in_answer e.refusal s.1 in
    let more = in_output (limit_by limit (event e)) e.frames es waiting' s.1 s.4 in
    omega (arith, all, split, front, one, more)

-- ---- what answers send

pub sent_both : (xs ys : List Answer) → sent_of (xs ++ ys) ≡ sent_of xs ++ sent_of ys
sent_both [] ys = refl
sent_both (answer.Done ∷ xs) ys = sent_both xs ys
sent_both (answer.Refused e ∷ xs) ys = sent_both xs ys
sent_both (answer.Out pieces ∷ xs) ys =
    ap (λ (bytes : List ℕ). wire_of pieces.items ++ bytes) (sent_both xs ys) ∙ sym (append_assoc (wire_of pieces.items) (sent_of xs) (sent_of ys))
sent_both (answer.TooLarge f ∷ xs) ys = sent_both xs ys

-- ---- the place of the last of so many inputs

abbrev pub place_of : ℕ → Option ℕ
place_of zero = None
place_of (suc n) = Some n

next_of : (n : ℕ) → next_place (place_of n) ≡ n
next_of zero = refl
next_of (suc n) = omega arith

more_of : (n : ℕ) (xs : List Answer) → refusals_of (Some (next_place (place_of n))) xs ≡ refusals_of (place_of (suc n)) xs
more_of n xs = ap (λ (k : ℕ). refusals_of (Some k) xs) (next_of n)

-- refusals of answers, and then of more
next_from : (n : ℕ) (xs ys : List Answer) → refusals_of (place_of (suc n)) (xs ++ ys) ≡ refusals_of (place_of (suc n)) xs ++ refusals_of (place_of (suc n + inputs_in xs)) ys
    → refusals_of (Some (next_place (place_of n))) (xs ++ ys) ≡ refusals_of (Some (next_place (place_of n))) xs ++ refusals_of (place_of (n + suc (inputs_in xs))) ys
next_from n xs ys more =
    let same : suc n + inputs_in xs ≡ n + suc (inputs_in xs) = omega arith in
    more_of n (xs ++ ys) ∙ more ∙ ap (λ (rs : List Refusal). rs ++ refusals_of (place_of (suc n + inputs_in xs)) ys) (sym (more_of n xs))
    ∙ ap (λ (k : ℕ). refusals_of (Some (next_place (place_of n))) xs ++ refusals_of (place_of k) ys) same

both_from : (n : ℕ) (xs ys : List Answer) → refusals_of (place_of n) (xs ++ ys) ≡ refusals_of (place_of n) xs ++ refusals_of (place_of (n + inputs_in xs)) ys
both_from n [] ys = let same : n ≡ n + 0 = omega arith in ap (λ (k : ℕ). refusals_of (place_of k) ys) same
both_from n (answer.Done ∷ xs) ys = next_from n xs ys (both_from (suc n) xs ys)
both_from n (answer.Refused e ∷ xs) ys = ap (λ (rs : List Refusal). refusal.Input (next_place (place_of n)) e ∷ rs) (next_from n xs ys (both_from (suc n) xs ys))
both_from n (answer.Out pieces ∷ xs) ys = both_from n xs ys
both_from n (answer.TooLarge f ∷ xs) ys = ap (λ (rs : List Refusal). refusal.Frame (place_of n) f ∷ rs) (both_from n xs ys)

-- a place that is counted on from so many inputs
input_on : (n k : ℕ) (e : StepError) → n + k < 2 ^ 64 → refusal.Input (next_place (place_of (n + k))) e ≡ counted_on k (refusal.Input (next_place (place_of n)) e)
input_on n k e h =
    let a = next_of (n + k) in
    let b = next_of n in
    let same : next_place (place_of (n + k)) ≡ min (2 ^ 64 - 1) (next_place (place_of n) + k) = omega (arith, a, b, h) in
    ap (λ (p : ℕ). refusal.Input p e) same

no_test : (k : ℕ) → nat_eq (suc k) 0 ≡ false
no_test k = grind (arith, nat_tests, common_steps)

place_of_sum : (n k : ℕ) → n + k < 2 ^ 64 → place_of (n + k) ≡ place_on k (place_of n)
place_of_sum zero zero h = refl
place_of_sum zero (suc k) h =
    let at : 0 + suc k ≡ suc k = omega arith in
    let last : k ≡ suc k - 1 = omega arith in
    ap place_of at ∙ ap (λ (p : ℕ). Some p) last ∙ sym (ap (λ (b : Bool). if b then None else Some (suc k - 1)) (no_test k))
place_of_sum (suc n) k h =
    let at : suc n + k ≡ suc (n + k) = omega arith in
    let same : n + k ≡ min (2 ^ 64 - 1) (n + k) = omega (arith, h) in
    ap place_of at ∙ ap (λ (p : ℕ). Some p) same

-- all of them
counted_next : (n k : ℕ) (xs : List Answer) → refusals_of (place_of (suc n + k)) xs ≡ map (counted_on k) (refusals_of (place_of (suc n)) xs)
    → refusals_of (Some (next_place (place_of (n + k)))) xs ≡ map (counted_on k) (refusals_of (Some (next_place (place_of n))) xs)
counted_next n k xs more =
    let same : suc (n + k) ≡ suc n + k = omega arith in
    more_of (n + k) xs ∙ ap (λ (p : ℕ). refusals_of (place_of p) xs) same ∙ more ∙ ap (λ (rs : List Refusal). map (counted_on k) rs) (sym (more_of n xs))

counted_from : (n k : ℕ) (xs : List Answer) → n + k + inputs_in xs < 2 ^ 64 → refusals_of (place_of (n + k)) xs ≡ map (counted_on k) (refusals_of (place_of n) xs)
counted_from n k [] h = refl
counted_from n k (answer.Done ∷ xs) h = counted_next n k xs (counted_from (suc n) k xs (omega (arith, h)))
counted_from n k (answer.Refused e ∷ xs) h =
    let few : n + k < 2 ^ 64 = omega (arith, h) in
    ap (λ (r : Refusal). r ∷ refusals_of (Some (next_place (place_of (n + k)))) xs) (input_on n k e few)
    ∙ ap (λ (rs : List Refusal). counted_on k (refusal.Input (next_place (place_of n)) e) ∷ rs) (counted_next n k xs (counted_from (suc n) k xs (omega (arith, h))))
counted_from n k (answer.Out pieces ∷ xs) h = counted_from n k xs h
counted_from n k (answer.TooLarge f ∷ xs) h =
    let few : n + k < 2 ^ 64 = omega (arith, h) in
    ap (λ (p : Option ℕ). refusal.Frame p f ∷ refusals_of (place_of (n + k)) xs) (place_of_sum n k few)
    ∙ ap (λ (rs : List Refusal). refusal.Frame (place_on k (place_of n)) f ∷ rs) (counted_from n k xs h)

-- the refusals of two runs in a row are those of one
pub refused_both : (xs ys : List Answer) (taken : ℕ) → inputs_in xs ≡ taken → taken + inputs_in ys < 2 ^ 64
    → refusals_of None (xs ++ ys) ≡ refusals_of None xs ++ map (counted_on taken) (refusals_of None ys)
refused_both xs ys taken e h =
    let same : 0 + inputs_in xs ≡ 0 + taken = omega (arith, e) in
    let few : 0 + taken + inputs_in ys < 2 ^ 64 = omega (arith, h) in
    both_from 0 xs ys ∙ ap (λ (k : ℕ). refusals_of None xs ++ refusals_of (place_of k) ys) same
    ∙ ap (λ (rs : List Refusal). refusals_of None xs ++ rs) (counted_from 0 taken ys few)

-- ---- a list that is counted on from the front

pub counted_more : (f : Refusal → Refusal) (old : List Refusal) (i : ℕ) (x : Refusal) → i < length old
    → set (map f (take i old) ++ drop i old) i (f (get_or (map f (take i old) ++ drop i old) i x)) ≡ map f (take (suc i) old) ++ drop (suc i) old
counted_more f [] i x h = absurd (omega (arith, h))
counted_more f (r ∷ old) zero x h = refl
counted_more f (r ∷ old) (suc i) x h = ap (λ (rs : List Refusal). f r ∷ rs) (counted_more f old i x (omega (arith, h)))
