-- No delivery is begun past the limit of the receiver's last flow.
use Rattle.std.proofs.Common.{◌&&◌, not, nat_eq}
use Rattle.std.proofs.Common.{◌≡◌, ◌+◌, ◌-◌, ◌<◌, ◌≤◌, ◌||◌, ℕ, Bool, true, false, List, [], ◌∷◌, ◌++◌, Option, Some, None}
use Rattle.std.proofs.Common.{Ok, Err, refl, sym, ap, ap₂, ◌∙◌, subst, arith, true≢false, if◌then◌else◌}
use Rattle.amqp_credit.specs.Chain.{Chain}
use Rattle.amqp_credit.specs.Serial.{advanced, past}
use Rattle.amqp_credit.specs.Sender.{SenderView, flowed, is_drain_wanted, left_of, new_sender, seen_or, taken_from}
use Rattle.amqp_credit.specs.SenderHistory.{SenderCall, SenderStep}
use Rattle.amqp_credit.specs.SenderHistory as credit
use Rattle.amqp_credit.specs.declared.part.PartEnd.{PartEnd}
use Rattle.amqp_credit.specs.declared.part.PartEnd.TheVariants.{More, Last, Aborted}
use Rattle.amqp_credit.proofs.ChainLemmas.{joined, kept, or_left, or_right, split_of}
use Rattle.amqp_links.specs.declared.life.Life.{Life}
use Rattle.amqp_links.specs.declared.life.Life.TheVariants.{Attaching, Refused, Attached, Detaching, Detached}
use Rattle.amqp_links.specs.declared.sending.CreditFlow.{CreditFlow}
use Rattle.amqp_links.specs.declared.sending.SenderFlow.{SenderFlow}
use Rattle.amqp_links.specs.Sending.{SendingView, new_sending, drained, flowing, is_drained, is_none, told_of}
use Rattle.amqp_links.specs.Sending.{AnsweredIf, AttachedAnswer, AttachedSend, BegunBy, SizedStep, WithinStep, is_too_large, size_with}
use Rattle.amqp_links.specs.SendingHistory.{SendingCall, SendingStep, OfSendings, busy_after, busy_by, counted_by, counted_in, life_after}
use Rattle.amqp_links.specs.SendingHistory.{Attaches, Flows, Sends, Answers, Detaches, Ends, AsksLife, AsksCredit, AsksCount, AsksUnderWay}
use Rattle.amqp_links.specs.SendingCredit.{BegunBeforeLimit, CreditIs, FlowsSay, NoneBegunBefore, credit_after, credit_by, flowed_if, has_given}
use Rattle.amqp_links.proofs.SendingLemmas.{MadeBy, is_busy, limit_credit, made_by, ok≢err, refused}

-- ---- credit that is left, and what has gone out past what the receiver had seen

-- what is left comes up to the limit, or nothing is left
abbrev Within : ℕ → ℕ → SenderView → Type 0
Within seen granted v = 0 < v.credit → v.credit + past v.count seen ≤ granted

one_less : (n seen granted c : ℕ) → 0 < c → c + past n seen ≤ granted → (c - 1) + past (advanced n 1) seen ≤ granted
one_less n seen granted c p q = omega (arith, p, q)

used_less : (n seen granted c used : ℕ) → 0 < c - used → c + past n seen ≤ granted → (c - used) + past (advanced n used) seen ≤ granted
used_less n seen granted c used p q = omega (arith, p, q)

some_left : (c used : ℕ) → 0 < c - used → 0 < c
some_left c used p = omega (arith, p)

at_first : (granted n : ℕ) → 0 < granted - n → (granted - n) + n ≤ granted
at_first granted n p = omega (arith, p)

before_limit : (c n granted : ℕ) → 0 < c → c + n ≤ granted → n < granted
before_limit c n granted p q = omega (arith, p, q)

within_same : (seen granted : ℕ) (v m : SenderView) → m ≡ v → Within seen granted v → Within seen granted m
within_same seen granted v m e w = subst (Within seen granted) (sym e) w

step_within : (seen granted : ℕ) (v m : SenderView) (c : SenderCall) → credit.gives c ≡ false → SenderStep v c m → Within seen granted v →
    Within seen granted m
step_within seen granted v m (credit.Flows said (Some n) drain) g h w = absurd (true≢false g)
step_within seen granted v m (credit.Flows said None drain) g h w = within_same seen granted v m h w
step_within seen granted v m (credit.Sends (Ok done)) g h w =
    λ p. subst (λ (x : SenderView). x.credit + past x.count seen ≤ granted) (sym h.1) (one_less v.count seen granted v.credit h.0 (w h.0))
step_within seen granted v m (credit.Sends (Err refused)) g h w = within_same seen granted v m h.1 w
step_within seen granted v m (credit.UsesUp used) g h w =
    λ p. let some : 0 < v.credit - used = subst (λ (x : SenderView). 0 < x.credit) h.1 p in
    subst (λ (x : SenderView). x.credit + past x.count seen ≤ granted) (sym h.1)
    (used_less v.count seen granted v.credit used some (w (some_left v.credit used some)))
step_within seen granted v m (credit.AsksCredit n) g h w = within_same seen granted v m h.1 w
step_within seen granted v m (credit.AsksCount n) g h w = within_same seen granted v m h.1 w
step_within seen granted v m (credit.AsksDrain answer) g h w = within_same seen granted v m h.1 w

chain_within : (seen granted : ℕ) (v w : SenderView) (cs : List SenderCall) → credit.has_given cs ≡ false → Chain SenderStep v cs w →
    Within seen granted v → Within seen granted w
chain_within seen granted v w [] g h p = within_same seen granted v w h p
chain_within seen granted v w (c ∷ cs) g h p =
    chain_within seen granted h.0 w cs (or_right (credit.gives c) (credit.has_given cs) g) h.2
    (step_within seen granted v h.0 c (or_left (credit.gives c) (credit.has_given cs) g) h.1 p)

-- a flow with a credit is among the calls of a sender's credit where it is among those that count
given_in : (cs : List SenderCall) → credit.has_given cs ≡ has_given (counted_in cs)
given_in [] = refl
given_in (credit.Flows said (Some n) drain ∷ cs) = refl
given_in (credit.Flows said None drain ∷ cs) = given_in cs
given_in (credit.Sends (Ok done) ∷ cs) = given_in cs
given_in (credit.Sends (Err e) ∷ cs) = given_in cs
given_in (credit.UsesUp n ∷ cs) = given_in cs
given_in (credit.AsksCredit n ∷ cs) = given_in cs
given_in (credit.AsksCount n ∷ cs) = given_in cs
given_in (credit.AsksDrain answer ∷ cs) = given_in cs

none_given : (v w : SendingView) (H : List SendingCall) (life : Life) (busy : Bool) (m : MadeBy v w H) → v.life ≡ life → is_busy v.under_way ≡ busy →
    has_given (counted_by life busy H) ≡ false → credit.has_given m.calls ≡ false
none_given v w H life busy m l b g =
    given_in m.calls ∙ ap has_given (m.same ∙ ap₂ (λ x y. counted_by x y H) l b) ∙ g

-- ---- the initial count stays

step_initial : (n : ℕ) (v m : SenderView) (c : SenderCall) → v.initial ≡ n → SenderStep v c m → m.initial ≡ n
step_initial n v m (credit.Flows said (Some granted) drain) p h = ap (λ (x : SenderView). x.initial) h ∙ p
step_initial n v m (credit.Flows said None drain) p h = ap (λ (x : SenderView). x.initial) h ∙ p
step_initial n v m (credit.Sends (Ok done)) p h = ap (λ (x : SenderView). x.initial) h.1 ∙ p
step_initial n v m (credit.Sends (Err refused)) p h = ap (λ (x : SenderView). x.initial) h.1 ∙ p
step_initial n v m (credit.UsesUp used) p h = ap (λ (x : SenderView). x.initial) h.1 ∙ p
step_initial n v m (credit.AsksCredit k) p h = ap (λ (x : SenderView). x.initial) h.1 ∙ p
step_initial n v m (credit.AsksCount k) p h = ap (λ (x : SenderView). x.initial) h.1 ∙ p
step_initial n v m (credit.AsksDrain answer) p h = ap (λ (x : SenderView). x.initial) h.1 ∙ p

-- ---- a delivery is begun where there is credit

begun_credit : (end : PartEnd) (v m : SendingView) (whole : ℕ) → BegunBy v whole end (Ok tt) m → 0 < v.credit.credit
begun_credit More v m whole h = h.1.0
begun_credit Last v m whole h = h.1.0
begun_credit Aborted v m whole h = absurd (ok≢err h.1.0)

within_credit : (u : Option ℕ) (v m : SendingView) (whole : ℕ) (end : PartEnd) → is_busy u ≡ false → WithinStep u v whole end (Ok tt) m →
    0 < v.credit.credit
within_credit None v m whole end idle h = begun_credit end v m whole h
within_credit (Some n) v m whole end idle h = absurd (true≢false idle)

sized_credit : (b : Bool) (v m : SendingView) (whole : ℕ) (end : PartEnd) → is_busy v.under_way ≡ false → SizedStep b v whole end (Ok tt) m →
    0 < v.credit.credit
sized_credit true v m whole end idle h = absurd (ok≢err h.0)
sized_credit false v m whole end idle h = within_credit v.under_way v m whole end idle h

sent_credit : (life : Life) (v m : SendingView) (size : ℕ) (end : PartEnd) → is_busy v.under_way ≡ false → AttachedSend life v size end (Ok tt) m →
    0 < v.credit.credit
sent_credit Attached v m size end idle h =
    sized_credit (is_too_large v.limit (size_with v.under_way size end) end) v m (size_with v.under_way size end) end idle h
sent_credit Attaching v m size end idle h = absurd (ok≢err h.0)
sent_credit Refused v m size end idle h = absurd (ok≢err h.0)
sent_credit Detaching v m size end idle h = absurd (ok≢err h.0)
sent_credit Detached v m size end idle h = absurd (ok≢err h.0)

-- ---- the credit, by the history

abbrev Credits : SendingView → SendingCall → SendingView → Type 0
Credits v c m = m.credit ≡ credit_after c v.life (is_busy v.under_way) v.credit

flowing_credit : (life : Life) (f : CreditFlow) (v : SendingView) → (flowing life f v).credit ≡ flowed_if life f v.credit
flowing_credit Attached f v = refl
flowing_credit Attaching f v = refl
flowing_credit Refused f v = refl
flowing_credit Detaching f v = refl
flowing_credit Detached f v = refl

begun_takes : (end : PartEnd) (v m : SendingView) (whole : ℕ) → BegunBy v whole end (Ok tt) m → m.credit ≡ taken_from 1 v.credit
begun_takes More v m whole h = ap (λ (x : SendingView). x.credit) h.2 ∙ ap (λ (x : SendingView). x.credit) h.1.1
begun_takes Last v m whole h = ap (λ (x : SendingView). x.credit) h.2 ∙ ap (λ (x : SendingView). x.credit) h.1.1
begun_takes Aborted v m whole h = absurd (ok≢err h.1.0)

within_takes : (u : Option ℕ) (v m : SendingView) (size whole : ℕ) (end : PartEnd) → v.under_way ≡ u → WithinStep u v whole end (Ok tt) m →
    Credits v (Sends size end (Ok tt)) m
within_takes None v m size whole end is h =
    begun_takes end v m whole h ∙ ap (λ o. if is_busy o then v.credit else taken_from 1 v.credit) (sym is)
within_takes (Some n) v m size whole end is h =
    ap (λ (x : SendingView). x.credit) h ∙ ap (λ o. if is_busy o then v.credit else taken_from 1 v.credit) (sym is)

sized_takes : (b : Bool) (v m : SendingView) (size whole : ℕ) (end : PartEnd) → SizedStep b v whole end (Ok tt) m → Credits v (Sends size end (Ok tt)) m
sized_takes true v m size whole end h = absurd (ok≢err h.0)
sized_takes false v m size whole end h = within_takes v.under_way v m size whole end refl h

sent_takes : (life : Life) (v m : SendingView) (size : ℕ) (end : PartEnd) → AttachedSend life v size end (Ok tt) m → Credits v (Sends size end (Ok tt)) m
sent_takes Attached v m size end h =
    sized_takes (is_too_large v.limit (size_with v.under_way size end) end) v m size (size_with v.under_way size end) end h
sent_takes Attaching v m size end h = absurd (ok≢err h.0)
sent_takes Refused v m size end h = absurd (ok≢err h.0)
sent_takes Detaching v m size end h = absurd (ok≢err h.0)
sent_takes Detached v m size end h = absurd (ok≢err h.0)

abbrev is_nothing : {A : Type 0} → Option A → Type 0
is_nothing None = Unit {0}
is_nothing (Some a) = ⊥

none≢some : {A : Type 0} {a : A} → None ≡ Some a → ⊥
none≢some e = subst is_nothing e tt

idle_is : (u : Option ℕ) → is_none u ≡ not (is_busy u)
idle_is None = refl
idle_is (Some n) = refl

drained_as : (v : SendingView) (available : ℕ) →
    is_drained available v ≡ ((nat_eq available 0 && not (is_busy v.under_way)) && is_drain_wanted v.credit)
drained_as v available = ap (λ b. (nat_eq available 0 && b) && is_drain_wanted v.credit) (idle_is v.under_way)

answered_takes : (b : Bool) (v m : SendingView) (available : ℕ) (answer : Option SenderFlow) → AnsweredIf b available v answer m →
    Credits v (Answers available answer) m
answered_takes true v m available (Some told) h =
    ap (λ (x : SendingView). x.credit) h.0 ∙ ap (λ b. drained b v.credit) (drained_as v available)
answered_takes true v m available None h = absurd (none≢some h.1)
answered_takes false v m available (Some told) h = absurd (none≢some (sym h.0))
answered_takes false v m available None h = ap (λ (x : SendingView). x.credit) h.1

idle_takes : (v m : SendingView) (available : ℕ) (answer : Option SenderFlow) → answer ≡ None → m ≡ v → Credits v (Answers available answer) m
idle_takes v m available None is e = ap (λ (x : SendingView). x.credit) e
idle_takes v m available (Some told) is e = absurd (none≢some (sym is))

answer_takes : (life : Life) (v m : SendingView) (available : ℕ) (answer : Option SenderFlow) → AttachedAnswer life available v answer m →
    Credits v (Answers available answer) m
answer_takes Attached v m available answer h = answered_takes (is_drained available v || v.echo) v m available answer h
answer_takes Attaching v m available answer h = idle_takes v m available answer h.0 h.1
answer_takes Refused v m available answer h = idle_takes v m available answer h.0 h.1
answer_takes Detaching v m available answer h = idle_takes v m available answer h.0 h.1
answer_takes Detached v m available answer h = idle_takes v m available answer h.0 h.1

credit_step : (v m : SendingView) (c : SendingCall) → SendingStep v c m → Credits v c m
credit_step v m (Attaches accepts limit) h = ap (λ (x : SendingView). x.credit) h ∙ limit_credit v.life limit v
credit_step v m (Flows f) h = ap (λ (x : SendingView). x.credit) h ∙ flowing_credit v.life f v
credit_step v m (Sends size end (Ok done)) h = sent_takes v.life v m size end h
credit_step v m (Sends size end (Err e)) h = ap (λ (x : SendingView). x.credit) (refused v.life v m size end e h)
credit_step v m (Answers available answer) h = answer_takes v.life v m available answer h
credit_step v m Detaches h = ap (λ (x : SendingView). x.credit) h
credit_step v m (Ends told) h = ap (λ (x : SendingView). x.credit) h.1
credit_step v m (AsksLife answer) h = ap (λ (x : SendingView). x.credit) h.1
credit_step v m (AsksCredit n) h = ap (λ (x : SendingView). x.credit) h.1
credit_step v m (AsksCount n) h = ap (λ (x : SendingView). x.credit) h.1
credit_step v m (AsksUnderWay answer) h = ap (λ (x : SendingView). x.credit) h.1

credit_chain : (v w : SendingView) (H : List SendingCall) → Chain SendingStep v H w → w.credit ≡ credit_by v.life (is_busy v.under_way) v.credit H
credit_chain v w [] h = ap (λ (x : SendingView). x.credit) h
credit_chain v w (c ∷ cs) h =
    let one = made_by v h.0 (c ∷ []) (h.0, h.1, refl) in
    credit_chain h.0 w cs h.2
    ∙ ap₂ (λ l b. credit_by l b h.0.credit cs) one.life one.busy
    ∙ ap (λ k. credit_by (life_after c v.life) (busy_after c (is_busy v.under_way)) k cs) (credit_step v h.0 c h.1)

pub credit_is : OfSendings (λ initial H v. CreditIs initial H v)
credit_is initial H v h = credit_chain (new_sending initial) v H h.1

-- ---- what is told in a flow

abbrev told_or : SenderFlow → Option SenderFlow → SenderFlow
told_or f None = f
told_or f (Some told) = told

abbrev Says : SenderFlow → SenderView → Type 0
Says told c = (told.delivery_count ≡ c.count) × (told.link_credit ≡ c.credit)

answered_says : (b : Bool) (v m : SendingView) (available : ℕ) (told : SenderFlow) → AnsweredIf b available v (Some told) m → Says told m.credit
answered_says true v m available told h =
    let is : told ≡ told_of available m = ap (told_or told) h.1 in
    (ap (λ (x : SenderFlow). x.delivery_count) is, ap (λ (x : SenderFlow). x.link_credit) is)
answered_says false v m available told h = absurd (none≢some (sym h.0))

answer_says : (life : Life) (v m : SendingView) (available : ℕ) (told : SenderFlow) → AttachedAnswer life available v (Some told) m → Says told m.credit
answer_says Attached v m available told h = answered_says (is_drained available v || v.echo) v m available told h
answer_says Attaching v m available told h = absurd (none≢some (sym h.0))
answer_says Refused v m available told h = absurd (none≢some (sym h.0))
answer_says Detaching v m available told h = absurd (none≢some (sym h.0))
answer_says Detached v m available told h = absurd (none≢some (sym h.0))

pub flows_say : OfSendings (λ initial H v. FlowsSay initial H)
flows_say initial H v h before after available told e =
    let s = split_of SendingStep (new_sending initial) v H before after (Answers available (Some told)) h.1 e in
    subst (Says told) (credit_chain (new_sending initial) s.next (before ++ Answers available (Some told) ∷ [])
    (joined SendingStep (new_sending initial) s.at s.next before (Answers available (Some told) ∷ []) s.reached (s.next, s.step, refl)))
    (answer_says s.at.life s.at s.next available told s.step)

-- ---- the law

-- right after a flow that says so much
abbrev Flown : SendingView → CreditFlow → ℕ → SendingView → Type 0
Flown v f granted m = m.credit ≡ record v.credit { credit = left_of granted (seen_or v.credit.initial f.delivery_count) v.credit.count; drain = f.drain }

flown : (v m : SendingView) (f : CreditFlow) (granted : ℕ) → v.life ≡ Attached → f.link_credit ≡ Some granted → SendingStep v (Flows f) m →
    Flown v f granted m
flown v m f granted life says h =
    ap (λ (x : SendingView). x.credit) h ∙ ap (λ l. (flowing l f v).credit) life ∙ ap (λ o. flowed f.delivery_count o f.drain v.credit) says

flown_within : (v m : SendingView) (f : CreditFlow) (granted initial : ℕ) → v.credit.initial ≡ initial → Flown v f granted m →
    Within (seen_or initial f.delivery_count) granted m.credit
flown_within v m f granted initial is e =
    subst (λ n. Within (seen_or n f.delivery_count) granted m.credit) is
    (subst (Within (seen_or v.credit.initial f.delivery_count) granted) (sym e)
    (at_first granted (past v.credit.count (seen_or v.credit.initial f.delivery_count))))

pub begun_before_limit : OfSendings (λ initial H v. BegunBeforeLimit initial H)
begun_before_limit initial H v h before since after f granted size end e life says none idle =
    let s = split_of SendingStep (new_sending initial) v H before (since ++ Sends size end (Ok tt) ∷ after) (Flows f) h.1 e in
    let t = split_of SendingStep s.next v (since ++ Sends size end (Ok tt) ∷ after) since after (Sends size end (Ok tt)) s.onward refl in
    let made = made_by (new_sending initial) s.at before s.reached in
    let one = made_by s.at s.next (Flows f ∷ []) (s.next, s.step, refl) in
    let on = made_by s.next t.at since t.reached in
    let is_attached : s.next.life ≡ Attached = one.life ∙ made.life ∙ life in
    let was_busy : is_busy s.next.under_way ≡ busy_by false before = one.busy ∙ made.busy in
    let first : s.at.credit.initial ≡ initial =
    kept SenderStep (λ x. x.initial ≡ initial) (step_initial initial) (new_sender initial) s.at.credit made.calls refl made.leads in
    let within : Within (seen_or initial f.delivery_count) granted t.at.credit =
    chain_within (seen_or initial f.delivery_count) granted s.next.credit t.at.credit on.calls
    (none_given s.next t.at since Attached (busy_by false before) on is_attached was_busy none) on.leads
    (flown_within s.at s.next f granted initial first (flown s.at s.next f granted (made.life ∙ life) says s.step)) in
    let some = sent_credit t.at.life t.at t.next size end (on.busy ∙ ap (λ b. busy_by b since) was_busy ∙ idle) t.step in
    let is = credit_chain (new_sending initial) t.at (before ++ Flows f ∷ since)
    (joined SendingStep (new_sending initial) s.at t.at before (Flows f ∷ since) s.reached (s.next, s.step, t.reached)) in
    subst (λ (c : SenderView). past c.count (seen_or initial f.delivery_count) < granted) is
    (before_limit t.at.credit.credit (past t.at.credit.count (seen_or initial f.delivery_count)) granted some (within some))

none_left : (n : ℕ) → n ≤ 0 → 0 < n → ⊥
none_left n p q = omega (arith, p, q)

sum_left : (c n : ℕ) → c + n ≤ 0 → c ≤ 0
sum_left c n p = omega (arith, p)

pub none_begun_before : OfSendings (λ initial H v. NoneBegunBefore H)
none_begun_before initial H v h before after size end e none idle =
    let s = split_of SendingStep (new_sending initial) v H before after (Sends size end (Ok tt)) h.1 e in
    let made = made_by (new_sending initial) s.at before s.reached in
    let some = sent_credit s.at.life s.at s.next size end (made.busy ∙ idle) s.step in
    let within : Within 0 0 s.at.credit =
    chain_within 0 0 (new_sender initial) s.at.credit made.calls
    (none_given (new_sending initial) s.at before Attaching false made refl refl none) made.leads (λ p. absurd (none_left 0 (omega arith) p)) in
    none_left s.at.credit.credit (sum_left s.at.credit.credit (past s.at.credit.count 0) (within some)) some
