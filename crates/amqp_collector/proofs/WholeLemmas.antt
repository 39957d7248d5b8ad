-- What is collected is the payloads of the parts, and no more than the bound.
use Rattle.std.proofs.Common.{◌≡◌, ◌+◌, ◌≤◌, ◌++◌, ℕ, length, nat_le, Bool, true, false, List, [], ◌∷◌, Option, Some}
use Rattle.std.proofs.Common.{None, Result, Ok, Err}
use Rattle.std.proofs.Common.{refl, sym, ap, ◌∙◌, subst, arith, true≢false}
use Rattle.std.proofs.lemmas.List.{append-nil, length-append}
use Rattle.std.proofs.lemmas.Bool.Decides.{nat_tests}
use Rattle.std.proofs.lemmas.Grind.{common_steps}
use Rattle.amqp_links.specs.amqp_credit.Chain.{Chain}
use Rattle.amqp_links.specs.amqp_credit.declared.part.Part.{Part}
use Rattle.amqp_links.specs.amqp_credit.declared.part.PartEnd.{PartEnd}
use Rattle.amqp_links.specs.amqp_credit.declared.part.PartEnd.TheVariants.{More, Last, Aborted}
use Rattle.amqp_collector.specs.declared.collector.CollectError.{CollectError}
use Rattle.amqp_collector.specs.declared.collector.CollectError.TheVariants.{OutOfMemory, TooLarge}
use Rattle.amqp_collector.specs.Collector.{Collects, CollectsBy, CollectorView, EndsIf, EndsUnless, KeepsIf}
use Rattle.amqp_collector.specs.Collector.{KeepsUnless, before, begun, new_collector}
use Rattle.amqp_collector.specs.History.{AllGoOn, CollectorCall, CollectorStep, Comes, HeldWithin, OfCollectors}
use Rattle.amqp_collector.specs.History.{WholeIsParts, added, added_by}

abbrev Told : Type 0
Told = Result (Option (List ℕ)) CollectError

abbrev Same : Told → Told → Type 0
Same a b = a ≡ b

abbrev is_done : Told → Type 0
is_done (Ok a) = Unit {0}
is_done (Err b) = ⊥

abbrev is_some : Told → Type 0
is_some (Ok (Some a)) = Unit {0}
is_some (Ok None) = ⊥
is_some (Err e) = ⊥

some≢none : (whole : List ℕ) → Same (Ok (Some whole)) (Ok None) → ⊥
some≢none whole e = subst is_some e tt

some≢err : (whole : List ℕ) (error : CollectError) → Same (Ok (Some whole)) (Err error) → ⊥
some≢err whole error e = subst is_some e tt

none≢err : (error : CollectError) → Same (Ok None) (Err error) → ⊥
none≢err error e = subst is_done e tt

-- ---- the last part

of_fit : (b : Bool) (v w : CollectorView) (z whole : List ℕ) → EndsIf b v z (Ok (Some whole)) w → whole ≡ v.held ++ z
of_fit true v w z whole h = h.0
of_fit false v w z whole h = absurd (some≢err whole TooLarge h.0)

of_last : (lost : Bool) (v w : CollectorView) (z whole : List ℕ) → v.lost ≡ lost →
    EndsUnless lost v z (Ok (Some whole)) w →
    (v.lost ≡ false) × (whole ≡ v.held ++ z)
of_last true v w z whole e h = absurd (some≢none whole h.0)
of_last false v w z whole e h = (e, of_fit (nat_le (length v.held + length z) v.most) v w z whole h)

not_kept : (b : Bool) (v w : CollectorView) (z whole : List ℕ) → KeepsIf b v z (Ok (Some whole)) w → ⊥
not_kept true v w z whole h = h
not_kept false v w z whole h = some≢err whole TooLarge h.0

not_more : (lost : Bool) (v w : CollectorView) (z whole : List ℕ) → KeepsUnless lost v z (Ok (Some whole)) w → ⊥
not_more true v w z whole h = some≢none whole h.0
not_more false v w z whole h = not_kept (nat_le (length v.held + length z) v.most) v w z whole h

by_end : (end : PartEnd) (v w : CollectorView) (z whole : List ℕ) → CollectsBy end v z (Ok (Some whole)) w →
    (v.lost ≡ false) × (whole ≡ v.held ++ z)
by_end More v w z whole h = absurd (not_more v.lost v w z whole h)
by_end Last v w z whole h = of_last v.lost v w z whole refl h
by_end Aborted v w z whole h = absurd (some≢none whole h.0)

last_is : (v w : CollectorView) (q : Part) (z whole : List ℕ) → q.is_first ≡ false → Collects v q z (Ok (Some whole)) w
    → (v.lost ≡ false) × (whole ≡ v.held ++ z)
last_is v w q z whole later h =
    by_end q.end v w z whole (subst (λ b. CollectsBy q.end (before b v) z (Ok (Some whole)) w) later h)

-- ---- a part that goes on

-- it adds to what is held, where the delivery is not lost after it
pub record Adds (v : CollectorView) (xs : List ℕ) (k : CollectorView) : Type 0 where
  pub was : v.lost ≡ false
  pub is : k.held ≡ v.held ++ xs

kept_adds : (b : Bool) (r : Told) (p : Part) (v k : CollectorView) (x : List ℕ) → KeepsIf b v x r k → v.lost ≡ false →
    k.lost ≡ false →
    Adds v (added (Comes p x r)) k
kept_adds true (Ok None) p v k x h was is = record { was = was; is = ap (λ (y : CollectorView). y.held) h }
kept_adds true (Ok (Some a)) p v k x h was is = absurd h
kept_adds true (Err OutOfMemory) p v k x h was is =
    record { was = was; is = ap (λ (y : CollectorView). y.held) h.0 ∙ sym (append-nil v.held) }
kept_adds true (Err TooLarge) p v k x h was is = absurd h
kept_adds false r p v k x h was is = absurd (true≢false (sym (ap (λ (y : CollectorView). y.lost) h.1) ∙ is))

more_adds : (lost : Bool) (r : Told) (p : Part) (v k : CollectorView) (x : List ℕ) → v.lost ≡ lost →
    KeepsUnless lost v x r k → k.lost ≡ false →
    Adds v (added (Comes p x r)) k
more_adds true r p v k x e h is = absurd (true≢false (sym e ∙ sym (ap (λ (y : CollectorView). y.lost) h.1) ∙ is))
more_adds false r p v k x e h is = kept_adds (nat_le (length v.held + length x) v.most) r p v k x h e is

adds : (v k : CollectorView) (p : Part) (x : List ℕ) (r : Told) → p.is_first ≡ false → p.end ≡ More → Collects v p x r k
    → k.lost ≡ false →
    Adds v (added (Comes p x r)) k
adds v k p x r later more h is =
    more_adds v.lost r p v k x refl
    (subst (λ e. CollectsBy e v x r k) more (subst (λ b. CollectsBy p.end (before b v) x r k) later h)) is

-- ---- from a part on to the last one

append_more : (a b c d : List ℕ) → (a ++ b) ++ (c ++ d) ≡ a ++ ((b ++ c) ++ d)
append_more [] b c d = inner b c d
  where
    inner : (b c d : List ℕ) → b ++ (c ++ d) ≡ (b ++ c) ++ d
    inner [] c d = refl
    inner (x ∷ b) c d = ap (λ xs. x ∷ xs) (inner b c d)
append_more (x ∷ a) b c d = ap (λ xs. x ∷ xs) (append_more a b c d)

step_to : (v k : CollectorView) (xs ys z whole : List ℕ) → Adds v xs k → whole ≡ k.held ++ (ys ++ z) →
    whole ≡ v.held ++ ((xs ++ ys) ++ z)
step_to v k xs ys z whole a e = e ∙ ap (λ h. h ++ (ys ++ z)) a.is ∙ append_more v.held xs ys z

walk : (v m w : CollectorView) (mid : List CollectorCall) (q : Part) (z whole : List ℕ) → AllGoOn mid →
    q.is_first ≡ false →
    Chain CollectorStep v mid m → Collects m q z (Ok (Some whole)) w →
    (v.lost ≡ false) × (whole ≡ v.held ++ (added_by mid ++ z))
walk v m w [] q z whole all later chain h =
    let r = last_is m w q z whole later h in (
      subst (λ (x : CollectorView). x.lost ≡ false) chain r.0,
      subst (λ (x : CollectorView). whole ≡ x.held ++ z) chain
          r.1,
    )
walk v m w (Comes p x r ∷ cs) q z whole all later chain h =
    let on = walk chain.0 m w cs q z whole all.1 later chain.2 h in
    let a = adds v chain.0 p x r all.0.0 all.0.1 chain.1 on.0 in
    (a.was, step_to v chain.0 (added (Comes p x r)) (added_by cs) z whole a on.1)

-- ---- the first part

first_fits : (b : Bool) (v k : CollectorView) (a : List ℕ) → KeepsIf b (begun v) a (Ok None) k → k.held ≡ a
first_fits true v k a h = ap (λ (y : CollectorView). y.held) h
first_fits false v k a h = absurd (none≢err TooLarge h.0)

first_is : (v k : CollectorView) (p : Part) (a : List ℕ) → p.is_first ≡ true → p.end ≡ More → Collects v p a (Ok None) k
    → k.held ≡ a
first_is v k p a first more h =
    first_fits (nat_le (length (begun v).held + length a) v.most) v k a
    (subst (λ e. CollectsBy e (begun v) a (Ok None) k) more
    (subst (λ b. CollectsBy p.end (before b v) a (Ok None) k) first h))

-- ---- among other calls

pub record Split (v : CollectorView) (c : CollectorCall) (rest : List CollectorCall) (w : CollectorView) : Type 0 where
  pub at : CollectorView
  pub next : CollectorView
  pub step : CollectorStep at c next
  pub onward : Chain CollectorStep next rest w

split : (v w : CollectorView) (xs rest : List CollectorCall) (c : CollectorCall) →
    Chain CollectorStep v (xs ++ c ∷ rest) w → Split v c rest w
split v w [] rest c h = record { at = v; next = h.0; step = h.1; onward = h.2 }
split v w (x ∷ xs) rest c h =
    let s = split h.0 w xs rest c h.2 in record { at = s.at; next = s.next; step = s.step; onward = s.onward }

pub record Reaches (v : CollectorView) (xs : List CollectorCall) (c : CollectorCall) : Type 0 where
  pub at : CollectorView
  pub next : CollectorView
  pub reached : Chain CollectorStep v xs at
  pub step : CollectorStep at c next

reaches : (v w : CollectorView) (xs rest : List CollectorCall) (c : CollectorCall) →
    Chain CollectorStep v (xs ++ c ∷ rest) w → Reaches v xs c
reaches v w [] rest c h = record { at = v; next = h.0; reached = refl; step = h.1 }
reaches v w (x ∷ xs) rest c h =
    let s = reaches h.0 w xs rest c h.2 in record
    { at = s.at; next = s.next; reached = (h.0, h.1, s.reached); step = s.step }

pub whole_is_parts : OfCollectors (λ most H v. WholeIsParts H)
whole_is_parts most H v h xs mid after p q a z whole e first more all later =
    let s = split (new_collector most) v xs (mid ++ Comes q z (Ok (Some whole)) ∷ after) (Comes p a (Ok None))
    (subst (λ ys. Chain CollectorStep (new_collector most) ys v) e h) in
    let t = reaches s.next v mid after (Comes q z (Ok (Some whole))) s.onward in
    let on = walk s.next t.at t.next mid q z whole all later t.reached t.step in
    on.1 ∙ ap (λ ys. ys ++ (added_by mid ++ z)) (first_is s.at s.next p a first more s.step)

-- ---- the bound

pub record Bounded (most : ℕ) (v : CollectorView) : Type 0 where
  pub same : v.most ≡ most
  pub held : length v.held ≤ most

nothing_held : (most : ℕ) (v w : CollectorView) → v.most ≡ most → w.most ≡ v.most → w.held ≡ [] → Bounded most w
nothing_held most v w e f g = record { same = f ∙ e; held = subst (λ xs. length xs ≤ most) (sym g) (omega arith) }

as_it_was : (most : ℕ) (v w : CollectorView) → Bounded most v → w ≡ v → Bounded most w
as_it_was most v w b e = subst (Bounded most) (sym e) b

fits_in : (a b n : ℕ) → nat_le (a + b) n ≡ true → a + b ≤ n
fits_in a b n e = grind (arith, nat_tests, common_steps)

kept_bound : (b : Bool) (r : Told) (most : ℕ) (v w : CollectorView) (x : List ℕ) →
    nat_le (length v.held + length x) v.most ≡ b → Bounded most v →
    KeepsIf b v x r w → Bounded most w
kept_bound true (Ok None) most v w x e b h = record {
  same = ap (λ (y : CollectorView). y.most) h ∙ b.same;
  held = subst (λ (y : CollectorView). length y.held ≤ most) (sym h)
      (subst (λ n. n ≤ most) (sym (length-append v.held x))
      (subst (λ n. length v.held + length x ≤ n) b.same (fits_in (length v.held) (length x) v.most e)));
}
kept_bound true (Ok (Some a)) most v w x e b h = absurd h
kept_bound true (Err OutOfMemory) most v w x e b h = as_it_was most v w b h.0
kept_bound true (Err TooLarge) most v w x e b h = absurd h
kept_bound false r most v w x e b h =
    nothing_held most v w b.same (ap (λ (y : CollectorView). y.most) h.1) (ap (λ (y : CollectorView). y.held) h.1)

more_bound : (lost : Bool) (r : Told) (most : ℕ) (v w : CollectorView) (x : List ℕ) → Bounded most v →
    KeepsUnless lost v x r w → Bounded most w
more_bound true r most v w x b h = as_it_was most v w b h.1
more_bound false r most v w x b h = kept_bound (nat_le (length v.held + length x) v.most) r most v w x refl b h

begun_bound : (most : ℕ) (v w : CollectorView) → Bounded most v → w ≡ begun v → Bounded most w
begun_bound most v w b e =
    nothing_held most v w b.same (ap (λ (y : CollectorView). y.most) e) (ap (λ (y : CollectorView). y.held) e)

ends_bound : (b : Bool) (r : Told) (most : ℕ) (v w : CollectorView) (x : List ℕ) → Bounded most v → EndsIf b v x r w →
    Bounded most w
ends_bound true (Ok (Some a)) most v w x b h = begun_bound most v w b h.1
ends_bound true (Ok None) most v w x b h = absurd h
ends_bound true (Err OutOfMemory) most v w x b h = as_it_was most v w b h.0
ends_bound true (Err TooLarge) most v w x b h = absurd h
ends_bound false r most v w x b h = begun_bound most v w b h.1

last_bound : (lost : Bool) (r : Told) (most : ℕ) (v w : CollectorView) (x : List ℕ) → Bounded most v →
    EndsUnless lost v x r w → Bounded most w
last_bound true r most v w x b h = begun_bound most v w b h.1
last_bound false r most v w x b h = ends_bound (nat_le (length v.held + length x) v.most) r most v w x b h

by_bound : (end : PartEnd) (r : Told) (most : ℕ) (v w : CollectorView) (x : List ℕ) → Bounded most v →
    CollectsBy end v x r w → Bounded most w
by_bound More r most v w x b h = more_bound v.lost r most v w x b h
by_bound Last r most v w x b h = last_bound v.lost r most v w x b h
by_bound Aborted r most v w x b h = begun_bound most v w b h.1

before_bound : (first : Bool) (most : ℕ) (v : CollectorView) → Bounded most v → Bounded most (before first v)
before_bound true most v b = begun_bound most v (begun v) b refl
before_bound false most v b = b

bounded : (most : ℕ) (v w : CollectorView) (H : List CollectorCall) → Bounded most v → Chain CollectorStep v H w →
    Bounded most w
bounded most v w [] b h = as_it_was most v w b h
bounded most v w (Comes p x r ∷ cs) b h =
    bounded most h.0 w cs (by_bound p.end r most (before p.is_first v) h.0 x (before_bound p.is_first most v b) h.1) h.2

pub held_within : OfCollectors (λ most H v. HeldWithin most v)
held_within most H v h = (bounded most (new_collector most) v H (record { same = refl; held = omega arith }) h).held
