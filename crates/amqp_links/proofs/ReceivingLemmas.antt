-- What each call of a receiving end makes of its life, of the parts that it tells, and of its credit.
use Rattle.std.proofs.Common.{◌≡◌, ◌<◌, ◌&&◌, ℕ, zero, suc, nat_eq, Bool, true, false, List, [], ◌∷◌, Option, Some, None, if◌then◌else◌}
use Rattle.std.proofs.Common.{Result, Ok, Err, refl, sym, ap, ◌∙◌, subst, arith, true≢false}
use Rattle.std.proofs.lemmas.Bool.{eqb-true}
use Rattle.amqp_credit.specs.Chain.{Chain}
use Rattle.amqp_credit.specs.Assembly.{AssemblyView, is_none, PartStep, TriedStep, belongs, with_part, fits, end_of, part_of, number_in}
use Rattle.amqp_credit.specs.AssemblyHistory.{AssemblyStep}
use Rattle.amqp_credit.specs.Receiver.{granted, told_by, taken_off, or_zero, used_up}
use Rattle.amqp_credit.specs.ReceiverHistory.{ReceiverCall, ReceiverStep}
use Rattle.amqp_credit.specs.ReceiverHistory as credit
use Rattle.amqp_credit.specs.declared.part.Part.{Part}
use Rattle.amqp_credit.specs.declared.part.PartHead.{PartHead}
use Rattle.amqp_credit.specs.declared.part.PartError.{PartError}
use Rattle.amqp_credit.specs.declared.part.PartError.TheVariants.{TooLarge}
use Rattle.amqp_credit.specs.declared.part.PartEnd.{PartEnd}
use Rattle.amqp_credit.specs.declared.assembly.Delivery.{Delivery}
use Rattle.amqp_credit.specs.declared.receiver.Grant.{Grant}
use Rattle.amqp_links.specs.declared.life.Life.{Life}
use Rattle.amqp_links.specs.declared.life.Life.TheVariants.{Attaching, Refused, Attached, Detaching, Detached}
use Rattle.amqp_links.specs.declared.receiving.LinkFault.{LinkFault}
use Rattle.amqp_links.specs.declared.receiving.LinkFault.TheVariants as fault
use Rattle.amqp_links.specs.declared.receiving.TransferError.{TransferError}
use Rattle.amqp_links.specs.declared.receiving.TransferError.TheVariants as transfer
use Rattle.amqp_links.specs.Receiving.{ReceivingView, with_count, IfAttached, RenewsIfAttached, HeardIfAttached, HeardOf, AnswersIfAttached}
use Rattle.amqp_links.specs.Receiving.{AnsweredIf, TakesIfAttached, TakenAs, CountsIf, is_over}
use Rattle.amqp_links.specs.ReceivingHistory.{ReceivingCall, life_after, parts_of}
use Rattle.amqp_links.specs.ReceivingHistory.{credit_of, if_attached}
use Rattle.amqp_links.specs.ReceivingHistory.{Grants, Drains, Renews, Hears, Answers, Takes, AsksCredit, AsksUnderWay}

-- what is done is not refused, and what is there is not nothing
abbrev is_done : {A B : Type 0} → Result A B → Type 0
is_done (Ok a) = Unit {0}
is_done (Err b) = ⊥

abbrev is_refused : {A B : Type 0} → Result A B → Type 0
is_refused (Ok a) = ⊥
is_refused (Err b) = Unit {0}

pub ok≢err : {A B : Type 0} {a : A} {b : B} → Ok a ≡ Err b → ⊥
ok≢err e = subst is_done e tt

err≢ok : {A B : Type 0} {a : A} {b : B} → Err b ≡ Ok a → ⊥
err≢ok e = subst is_refused e tt

abbrev is_nothing : {A : Type 0} → Option A → Type 0
is_nothing None = Unit {0}
is_nothing (Some a) = ⊥

pub none≢some : {A : Type 0} {a : A} → None ≡ Some a → ⊥
none≢some e = subst is_nothing e tt

abbrev or_else : {A : Type 0} → A → Option A → A
or_else d None = d
or_else d (Some a) = a

some_is : {A : Type 0} {a b : A} → Some a ≡ Some b → a ≡ b
some_is {A} {a} {b} e = ap (or_else a) e

abbrev is_told : Result ℕ LinkFault → Option ℕ
is_told (Ok n) = Some n
is_told (Err f) = None

-- the faults differ
past≢over : {A : Type 0} (r : Result A LinkFault) → r ≡ Err fault.CountPastLimit → r ≡ Err fault.OverCredit → ⊥
past≢over r e f = cc

part≢over : {A : Type 0} (r : Result A LinkFault) (q : PartError) → r ≡ Err (fault.Part q) → r ≡ Err fault.OverCredit → ⊥
part≢over r q e f = cc

part≢past : {A : Type 0} (r : Result A LinkFault) (q : PartError) → r ≡ Err (fault.Part q) → r ≡ Err fault.CountPastLimit → ⊥
part≢past r q e f = cc

part_is : {A : Type 0} (r : Result A LinkFault) (p q : PartError) → r ≡ Err (fault.Part p) → r ≡ Err (fault.Part q) → p ≡ q
part_is r p q e f = cc

fault≢apart : {A : Type 0} (r : Result A TransferError) (f : LinkFault) → r ≡ Err (transfer.Fault f) → r ≡ Err transfer.NotAttached → ⊥
fault≢apart r f e g = cc

ok_is : {A B : Type 0} (r : Result A B) (a b : A) → r ≡ Ok a → r ≡ Ok b → a ≡ b
ok_is r a b e f = cc

-- What a call makes of the parts, of the credit and of the life. An Attach is told apart: it may begin the credit anew.
pub record Made (v m : ReceivingView) (c : ReceivingCall) : Type 0 where
  pub parts : Chain AssemblyStep v.parts (parts_of c) m.parts
  pub credit : Chain ReceiverStep v.credit (if_attached v.life (credit_of c)) m.credit
  pub life : m.life ≡ life_after c v.life
  pub rule : m.renewal ≡ v.renewal

-- what changes nothing
idle : (v m : ReceivingView) (c : ReceivingCall) → m ≡ v → [] ≡ parts_of c → [] ≡ if_attached v.life (credit_of c) → v.life ≡ life_after c v.life →
    Made v m c
idle v m c e p q l = record {
  parts = subst (λ cs. Chain AssemblyStep v.parts cs m.parts) p (ap (λ (x : ReceivingView). x.parts) e);
  credit = subst (λ cs. Chain ReceiverStep v.credit cs m.credit) q (ap (λ (x : ReceivingView). x.credit) e);
  life = ap (λ (x : ReceivingView). x.life) e ∙ l;
  rule = ap (λ (x : ReceivingView). x.renewal) e;
}

-- on a link that is not attached no call counts
abbrev apart : Life → Bool
apart Attached = false
apart Attaching = true
apart Refused = true
apart Detaching = true
apart Detached = true

none_counts : (life : Life) (cs : List ReceiverCall) → apart life ≡ true → [] ≡ if_attached life cs
none_counts Attached cs h = absurd (true≢false (sym h))
none_counts Attaching cs h = refl
none_counts Refused cs h = refl
none_counts Detaching cs h = refl
none_counts Detached cs h = refl

-- one call of the credit, on a link that is attached
once : (v m : ReceivingView) (c : ReceiverCall) → v.life ≡ Attached → ReceiverStep v.credit c m.credit →
    Chain ReceiverStep v.credit (if_attached v.life (c ∷ [])) m.credit
once v m c h s = subst (λ l. Chain ReceiverStep v.credit (if_attached l (c ∷ [])) m.credit) (sym h) (m.credit, s, refl)

pub never : (v m : ReceivingView) → v.life ≡ Attached → m.credit ≡ v.credit → Chain ReceiverStep v.credit (if_attached v.life []) m.credit
never v m h e = subst (λ l. Chain ReceiverStep v.credit (if_attached l []) m.credit) (sym h) e

none_of : (life : Life) → [] ≡ if_attached life []
none_of Attached = refl
none_of Attaching = refl
none_of Refused = refl
none_of Detaching = refl
none_of Detached = refl

-- ---- calls of credit

saying : (v m : ReceivingView) (c : ReceivingCall) (call : ReceiverCall) → v.life ≡ Attached → m ≡ record v { credit = m.credit } →
    ReceiverStep v.credit call m.credit → [] ≡ parts_of c → (call ∷ []) ≡ credit_of c → v.life ≡ life_after c v.life → Made v m c
saying v m c call h e s p q l = record {
  parts = subst (λ cs. Chain AssemblyStep v.parts cs m.parts) p (ap (λ (x : ReceivingView). x.parts) e);
  credit = subst (λ cs. Chain ReceiverStep v.credit (if_attached v.life cs) m.credit) q (once v m call h s);
  life = ap (λ (x : ReceivingView). x.life) e ∙ l;
  rule = ap (λ (x : ReceivingView). x.renewal) e;
}

apart_idle : (life : Life) (v m : ReceivingView) (c : ReceivingCall) → v.life ≡ life → apart life ≡ true → m ≡ v → [] ≡ parts_of c →
    v.life ≡ life_after c v.life → Made v m c
apart_idle life v m c h a e p l = idle v m c e p (none_counts v.life (credit_of c) (ap apart h ∙ a)) l

pub grants : (life : Life) (v m : ReceivingView) (n : ℕ) (answer : Option Grant) → v.life ≡ life →
    IfAttached life (λ c told d. (told ≡ told_by d) × (d ≡ granted n c)) v answer m → Made v m (Grants n answer)
grants Attached v m n (Some told) h s = saying v m (Grants n (Some told)) (credit.Grants n told) h s.1 s.0 refl refl refl
grants Attached v m n None h s = absurd s
grants Attaching v m n answer h s = apart_idle Attaching v m (Grants n answer) h refl s.1 refl refl
grants Refused v m n answer h s = apart_idle Refused v m (Grants n answer) h refl s.1 refl refl
grants Detaching v m n answer h s = apart_idle Detaching v m (Grants n answer) h refl s.1 refl refl
grants Detached v m n answer h s = apart_idle Detached v m (Grants n answer) h refl s.1 refl refl

pub drains : (life : Life) (v m : ReceivingView) (answer : Option Grant) → v.life ≡ life →
    IfAttached life (λ c told d. (told ≡ told_by d) × (d ≡ record c { draining = true })) v answer m → Made v m (Drains answer)
drains Attached v m (Some told) h s = saying v m (Drains (Some told)) (credit.Drains told) h s.1 s.0 refl refl refl
drains Attached v m None h s = absurd s
drains Attaching v m answer h s = apart_idle Attaching v m (Drains answer) h refl s.1 refl refl
drains Refused v m answer h s = apart_idle Refused v m (Drains answer) h refl s.1 refl refl
drains Detaching v m answer h s = apart_idle Detaching v m (Drains answer) h refl s.1 refl refl
drains Detached v m answer h s = apart_idle Detached v m (Drains answer) h refl s.1 refl refl

pub renews : (life : Life) (v m : ReceivingView) (answer : Option Grant) → v.life ≡ life → RenewsIfAttached life v answer m → Made v m (Renews answer)
renews Attached v m answer h s = saying v m (Renews answer) (credit.Renews answer) h s.1 s.0 refl refl refl
renews Attaching v m answer h s = apart_idle Attaching v m (Renews answer) h refl s.1 refl refl
renews Refused v m answer h s = apart_idle Refused v m (Renews answer) h refl s.1 refl refl
renews Detaching v m answer h s = apart_idle Detaching v m (Renews answer) h refl s.1 refl refl
renews Detached v m answer h s = apart_idle Detached v m (Renews answer) h refl s.1 refl refl

-- ---- a flow of the sender

hears_of : (u : Option ℕ) (v m : ReceivingView) (count : Option ℕ) (echo : Bool) (answer : Result ℕ LinkFault) → v.life ≡ Attached →
    used_up v.credit count ≡ u → HeardOf u v count echo answer m → Made v m (Hears count echo answer)
hears_of (Some used) v m count echo (Ok told) h u s = record {
  parts = ap (λ (x : ReceivingView). x.parts) s.1;
  credit = once v m (credit.Hears count (Ok told)) h
      (ap is_told s.0 ∙ sym u, ap (λ (x : ReceivingView). x.credit) s.1 ∙ ap (λ w. taken_off (or_zero w) v.credit) (sym u));
  life = ap (λ (x : ReceivingView). x.life) s.1;
  rule = ap (λ (x : ReceivingView). x.renewal) s.1;
}
hears_of (Some used) v m count echo (Err f) h u s = absurd (err≢ok s.0)
hears_of None v m count echo (Ok told) h u s = absurd (ok≢err s.0)
hears_of None v m count echo (Err f) h u s = record {
  parts = ap (λ (x : ReceivingView). x.parts) s.1;
  credit = once v m (credit.Hears count (Err (record {}))) h
      (sym u, ap (λ (x : ReceivingView). x.credit) s.1 ∙ ap (λ w. taken_off (or_zero w) v.credit) (sym u));
  life = ap (λ (x : ReceivingView). x.life) s.1;
  rule = ap (λ (x : ReceivingView). x.renewal) s.1;
}

unheard : (life : Life) (v m : ReceivingView) (count : Option ℕ) (echo : Bool) (answer : Result ℕ LinkFault) → v.life ≡ life → apart life ≡ true →
    (answer ≡ Ok 0) × (m ≡ v) → Made v m (Hears count echo answer)
unheard life v m count echo (Ok used) h a s = apart_idle life v m (Hears count echo (Ok used)) h a s.1 refl refl
unheard life v m count echo (Err f) h a s = absurd (err≢ok s.0)

pub hears : (life : Life) (v m : ReceivingView) (count : Option ℕ) (echo : Bool) (answer : Result ℕ LinkFault) → v.life ≡ life →
    HeardIfAttached life v count echo answer m → Made v m (Hears count echo answer)
hears Attached v m count echo answer h s = hears_of (used_up v.credit count) v m count echo answer h refl s
hears Attaching v m count echo answer h s = unheard Attaching v m count echo answer h refl s
hears Refused v m count echo answer h s = unheard Refused v m count echo answer h refl s
hears Detaching v m count echo answer h s = unheard Detaching v m count echo answer h refl s
hears Detached v m count echo answer h s = unheard Detached v m count echo answer h refl s

-- ---- what is answered

answered : (b : Bool) (v m : ReceivingView) (answer : Option Grant) → v.life ≡ Attached → AnsweredIf b v answer m → Made v m (Answers answer)
answered true v m (Some told) h s = record {
  parts = ap (λ (x : ReceivingView). x.parts) s.1;
  credit = once v m (credit.AsksFlowState told) h (some_is s.0, ap (λ (x : ReceivingView). x.credit) s.1);
  life = ap (λ (x : ReceivingView). x.life) s.1;
  rule = ap (λ (x : ReceivingView). x.renewal) s.1;
}
answered true v m None h s = absurd (none≢some s.0)
answered false v m (Some told) h s = absurd (none≢some (sym s.0))
answered false v m None h s = record {
  parts = ap (λ (x : ReceivingView). x.parts) s.1;
  credit = never v m h (ap (λ (x : ReceivingView). x.credit) s.1);
  life = ap (λ (x : ReceivingView). x.life) s.1;
  rule = ap (λ (x : ReceivingView). x.renewal) s.1;
}

pub answers : (life : Life) (v m : ReceivingView) (answer : Option Grant) → v.life ≡ life → AnswersIfAttached life v answer m → Made v m (Answers answer)
answers Attached v m answer h s = answered v.echo v m answer h s
answers Attaching v m answer h s = apart_idle Attaching v m (Answers answer) h refl s.1 refl refl
answers Refused v m answer h s = apart_idle Refused v m (Answers answer) h refl s.1 refl refl
answers Detaching v m answer h s = apart_idle Detaching v m (Answers answer) h refl s.1 refl refl
answers Detached v m answer h s = apart_idle Detached v m (Answers answer) h refl s.1 refl refl

-- ---- a transfer

-- what the credit makes of a part that is told
first_or_not : (p : Part) (b : Bool) (v m : ReceivingView) → v.life ≡ Attached → (b ≡ true → 0 < v.credit.credit) →
    m.credit ≡ (if b then taken_off 1 v.credit else v.credit) →
    Chain ReceiverStep v.credit (if_attached v.life (if b then credit.Takes (Ok tt) ∷ [] else [])) m.credit
first_or_not p true v m h f e = once v m (credit.Takes (Ok tt)) h (f refl, e)
first_or_not p false v m h f e = never v m h e

-- a part that is told as the first one came where none was under way, and so there was credit
first_means : (o : Bool) (n : ℕ) → (o && nat_eq n 0) ≡ false → o ≡ true → 0 < n
first_means true zero h e = absurd (true≢false h)
first_means true (suc n) h e = omega arith
first_means false n h e = absurd (true≢false (sym e))

taken_first : (b : Bool) (v : AssemblyView) (d : Delivery) (end : PartEnd) (p : Part) →
    Ok p ≡ (if b then Ok (part_of d (is_none v.current) end) else Err TooLarge) → p.is_first ≡ is_none v.current
taken_first true v d end p e = ap (λ (x : Part). x.is_first) (ok_is _ p (part_of d (is_none v.current) end) refl e)
taken_first false v d end p e = absurd (ok≢err e)

tried_first : (r : Result Delivery PartError) (v : AssemblyView) (head : PartHead) (p : Part) (w : AssemblyView) →
    TriedStep v head r (Ok p) w → p.is_first ≡ is_none v.current
tried_first (Ok d) v head p w s =
    let at = with_part d head in
    taken_first (fits v.limit at.size (end_of head.more head.aborted)) v at (end_of head.more head.aborted) p s.0
tried_first (Err e) v head p w s = absurd (ok≢err s.0)

told_first : (v : AssemblyView) (head : PartHead) (p : Part) (w : AssemblyView) → PartStep v head (Ok p) w → p.is_first ≡ is_none v.current
told_first v head p w s = tried_first (belongs v.current head) v head p w s

pub counts : (b : Bool) (v k : ReceivingView) (head : PartHead) (p : Part) → v.life ≡ Attached → is_over v ≡ b → CountsIf b v head (Ok p) k →
    Made v k (Takes head (Ok p))
counts true v k head p h o s = absurd (ok≢err s.0)
counts false v k head p h o (Ok q, step, same, e) = record {
  parts = (k.parts, subst (λ x. PartStep v.parts head (Ok x) k.parts) (sym (ok_is _ p q refl same)) step, refl);
  credit = first_or_not p p.is_first v k h
      (λ f. first_means (is_none v.parts.current) v.credit.credit o
      (sym (told_first v.parts head p k.parts (subst (λ x. PartStep v.parts head (Ok x) k.parts) (sym (ok_is _ p q refl same)) step)) ∙ f))
      (ap (λ (x : ReceivingView). x.credit) e ∙ ap (λ (x : Part). if x.is_first then taken_off 1 v.credit else v.credit) (sym (ok_is _ p q refl same)));
  life = ap (λ (x : ReceivingView). x.life) e;
  rule = ap (λ (x : ReceivingView). x.renewal) e;
}
counts false v k head p h o (Err q, step, same, e) = absurd (ok≢err same)

-- what the sender may not do
none_left : (o : Bool) (n : ℕ) → (o && nat_eq n 0) ≡ true → n ≡ 0
none_left true n h = eqb-true n 0 h
none_left false n h = absurd (true≢false (sym h))

faulty : (b : Bool) (v k m : ReceivingView) (head : PartHead) (f : LinkFault) → v.life ≡ Attached → is_over v ≡ b → CountsIf b v head (Err f) k →
    m ≡ record k { life = Detaching } → Made v m (Takes head (Err (transfer.Fault f)))
faulty true v k m head fault.OverCredit h o s e = record {
  parts = ap (λ (x : ReceivingView). x.parts) e ∙ ap (λ (x : ReceivingView). x.parts) s.1;
  credit = once v m (credit.Takes (Err (record {}))) h
      (none_left (is_none v.parts.current) v.credit.credit o, ap (λ (x : ReceivingView). x.credit) e ∙ ap (λ (x : ReceivingView). x.credit) s.1);
  life = ap (λ (x : ReceivingView). x.life) e;
  rule = ap (λ (x : ReceivingView). x.renewal) e ∙ ap (λ (x : ReceivingView). x.renewal) s.1;
}
faulty true v k m head fault.CountPastLimit h o s e = absurd (past≢over _ refl s.0)
faulty true v k m head (fault.Part q) h o s e = absurd (part≢over _ q refl s.0)
faulty false v k m head fault.OverCredit h o (Ok q, step, same, g) e = absurd (err≢ok same)
faulty false v k m head fault.OverCredit h o (Err q, step, same, g) e = absurd (part≢over _ q same refl)
faulty false v k m head fault.CountPastLimit h o (Ok q, step, same, g) e = absurd (err≢ok same)
faulty false v k m head fault.CountPastLimit h o (Err q, step, same, g) e = absurd (part≢past _ q same refl)
faulty false v k m head (fault.Part r) h o (Ok q, step, same, g) e = absurd (err≢ok same)
faulty false v k m head (fault.Part r) h o (Err q, step, same, g) e = record {
  parts = (k.parts, subst (λ x. PartStep v.parts head (Err x) k.parts) (sym (part_is _ r q refl same)) step, ap (λ (x : ReceivingView). x.parts) e);
  credit = never v m h (ap (λ (x : ReceivingView). x.credit) e ∙ ap (λ (x : ReceivingView). x.credit) g);
  life = ap (λ (x : ReceivingView). x.life) e;
  rule = ap (λ (x : ReceivingView). x.renewal) e ∙ ap (λ (x : ReceivingView). x.renewal) g;
}

taken : (v m : ReceivingView) (head : PartHead) (answer : Result Part TransferError) → v.life ≡ Attached → TakenAs v head answer m →
    Made v m (Takes head answer)
taken v m head (Ok p) h s = counts (is_over v) v m head p h refl s
taken v m head (Err (transfer.Fault f)) h s = faulty (is_over v) v s.0 m head f h refl s.1 s.2
taken v m head (Err transfer.NotAttached) h s = absurd s

untaken : (life : Life) (v m : ReceivingView) (head : PartHead) (answer : Result Part TransferError) → v.life ≡ life → apart life ≡ true →
    (answer ≡ Err transfer.NotAttached) × (m ≡ v) → Made v m (Takes head answer)
untaken life v m head (Ok p) h a s = absurd (ok≢err s.0)
untaken life v m head (Err (transfer.Fault f)) h a s = absurd (fault≢apart _ f refl s.0)
untaken life v m head (Err transfer.NotAttached) h a s = apart_idle life v m (Takes head (Err transfer.NotAttached)) h a s.1 refl refl

pub takes : (life : Life) (v m : ReceivingView) (head : PartHead) (answer : Result Part TransferError) → v.life ≡ life →
    TakesIfAttached life v head answer m → Made v m (Takes head answer)
takes Attached v m head answer h s = taken v m head answer h s
takes Attaching v m head answer h s = untaken Attaching v m head answer h refl s
takes Refused v m head answer h s = untaken Refused v m head answer h refl s
takes Detaching v m head answer h s = untaken Detaching v m head answer h refl s
takes Detached v m head answer h s = untaken Detached v m head answer h refl s

-- ---- each call

pub stands : (v m : ReceivingView) (c : ReceivingCall) (life : Life) → m ≡ record v { life = life } → [] ≡ parts_of c → [] ≡ credit_of c →
    life ≡ life_after c v.life → Made v m c
stands v m c life e p q l = record {
  parts = subst (λ cs. Chain AssemblyStep v.parts cs m.parts) p (ap (λ (x : ReceivingView). x.parts) e);
  credit = subst (λ cs. Chain ReceiverStep v.credit (if_attached v.life cs) m.credit) q
      (subst (λ cs. Chain ReceiverStep v.credit cs m.credit) (none_of v.life) (ap (λ (x : ReceivingView). x.credit) e));
  life = ap (λ (x : ReceivingView). x.life) e ∙ l;
  rule = ap (λ (x : ReceivingView). x.renewal) e;
}

pub asks_credit : (life : Life) (v m : ReceivingView) (n : ℕ) → v.life ≡ life → (n ≡ v.credit.credit) × (m ≡ v) → Made v m (AsksCredit n)
asks_credit Attached v m n h s = record {
  parts = ap (λ (x : ReceivingView). x.parts) s.1;
  credit = once v m (credit.AsksCredit n) h (s.0, ap (λ (x : ReceivingView). x.credit) s.1);
  life = ap (λ (x : ReceivingView). x.life) s.1;
  rule = ap (λ (x : ReceivingView). x.renewal) s.1;
}
asks_credit Attaching v m n h s = apart_idle Attaching v m (AsksCredit n) h refl s.1 refl refl
asks_credit Refused v m n h s = apart_idle Refused v m (AsksCredit n) h refl s.1 refl refl
asks_credit Detaching v m n h s = apart_idle Detaching v m (AsksCredit n) h refl s.1 refl refl
asks_credit Detached v m n h s = apart_idle Detached v m (AsksCredit n) h refl s.1 refl refl

pub asks_number : (v m : ReceivingView) (answer : Option ℕ) → (answer ≡ number_in v.parts.current) × (m ≡ v) → Made v m (AsksUnderWay answer)
asks_number v m answer s = record {
  parts = (m.parts, (s.0, ap (λ (x : ReceivingView). x.parts) s.1), refl);
  credit = subst (λ cs. Chain ReceiverStep v.credit cs m.credit) (none_of v.life) (ap (λ (x : ReceivingView). x.credit) s.1);
  life = ap (λ (x : ReceivingView). x.life) s.1;
  rule = ap (λ (x : ReceivingView). x.renewal) s.1;
}

-- ---- an Attach

count_parts : (life : Life) (n : ℕ) (v : ReceivingView) → (with_count life n v).parts ≡ v.parts
count_parts Attaching n v = refl
count_parts Refused n v = refl
count_parts Attached n v = refl
count_parts Detaching n v = refl
count_parts Detached n v = refl

count_rule : (life : Life) (n : ℕ) (v : ReceivingView) → (with_count life n v).renewal ≡ v.renewal
count_rule Attaching n v = refl
count_rule Refused n v = refl
count_rule Attached n v = refl
count_rule Detaching n v = refl
count_rule Detached n v = refl
