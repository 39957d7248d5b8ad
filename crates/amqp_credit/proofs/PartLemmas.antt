-- What a history of parts says of each part that is accepted or refused.
use Rattle.std.proofs.Common.{◌≡◌, ℕ, zero, suc, Bool, true, false, List, [], ◌∷◌}
use Rattle.std.proofs.Common.{◌++◌, Option, Some, None, Ok, Err, refl, sym, ap, ◌∙◌}
use Rattle.std.proofs.Common.{subst, arith, true≢false, inl, inr}
use Rattle.std.proofs.lemmas.Bool.Decides.{nat_tests}
use Rattle.std.proofs.lemmas.Grind.{common_steps}
use Rattle.amqp_credit.specs.declared.part.PartHead.{PartHead}
use Rattle.amqp_credit.specs.declared.part.PartEnd.{PartEnd}
use Rattle.amqp_credit.specs.declared.part.PartEnd.TheVariants.{More, Last, Aborted}
use Rattle.amqp_credit.specs.declared.part.Part.{Part}
use Rattle.amqp_credit.specs.declared.assembly.Delivery.{Delivery}
use Rattle.amqp_credit.specs.Chain.{Chain}
use Rattle.amqp_credit.specs.Assembly.{AssemblyView, new_assembly, end_of, fits, is_none}
use Rattle.amqp_credit.specs.Assembly.{left_under_way, number_in}
use Rattle.amqp_credit.specs.AssemblyHistory.{AssemblyCall, AssemblyStep, OfAssemblies, unless_ended, parts_after}
use Rattle.amqp_credit.specs.AssemblyHistory.{parts_by, is_accepted, has_accepted, Comes, AsksNumber}
use Rattle.amqp_credit.specs.AssemblyLaws.{AreOf, IsWithin, Reason, Follows, number_of}
use Rattle.amqp_credit.specs.AssemblyLaws.{BelongToOne, InARow, SizesAddUp, NoneTooLarge, RefusedForReason}
use Rattle.amqp_credit.specs.AssemblyLaws.{UnderWayIsExact}
use Rattle.amqp_credit.proofs.ChainLemmas.{split_of, or_left, or_right}
use Rattle.amqp_credit.proofs.AssemblyLemmas.{Has, Matches, Accepted, outcome}

-- ---- a chain of calls

-- what is known of a view after these parts
pub record Stands (limit : Option ℕ) (parts : List PartHead) (v : AssemblyView) : Type 0 where
  pub matches : Matches v.current parts
  pub limit_is : v.limit ≡ limit

ended : (end : PartEnd) (d : Delivery) (parts : List PartHead) → Has d parts →
    Matches (left_under_way end d) (unless_ended end parts)
ended More d parts h = h
ended Last d parts h = refl
ended Aborted d parts h = refl

after_part : (limit : Option ℕ) (parts : List PartHead) (v w : AssemblyView) (head : PartHead) (part : Part) →
    Stands limit parts v → Accepted v parts head part w → Stands limit (unless_ended part.end (parts ++ head ∷ [])) w
after_part limit parts v w head part s a =
    let end = end_of head.more head.aborted in record {
      matches = subst (λ e. Matches w.current (unless_ended e (parts ++ head ∷ [])))
          (sym (ap (λ (x : Part). x.end) a.part_is))
          (subst (λ c. Matches c (unless_ended end (parts ++ head ∷ [])))
          (sym (ap (λ (x : AssemblyView). x.current) a.after_is))
          (ended end a.delivery (parts ++ head ∷ []) a.has));
      limit_is = ap (λ (x : AssemblyView). x.limit) a.after_is ∙ s.limit_is;
    }

stands_step : (limit : Option ℕ) (parts : List PartHead) (v w : AssemblyView) (c : AssemblyCall) →
    Stands limit parts v → AssemblyStep v c w → Stands limit (parts_after parts c) w
stands_step limit parts v w (Comes head (Ok part)) s h =
    after_part limit parts v w head part s (outcome v w parts head (Ok part) s.matches h)
stands_step limit parts v w (Comes head (Err error)) s h =
    subst (Stands limit parts) (sym (outcome v w parts head (Err error) s.matches h).1) s
stands_step limit parts v w (AsksNumber answer) s h = subst (Stands limit parts) (sym h.1) s

stands_chain : (limit : Option ℕ) (parts : List PartHead) (v w : AssemblyView) (cs : List AssemblyCall) →
    Stands limit parts v → Chain AssemblyStep v cs w → Stands limit (parts_by parts cs) w
stands_chain limit parts v w [] s h = subst (Stands limit parts) (sym h) s
stands_chain limit parts v w (c ∷ cs) s h =
    stands_chain limit (parts_after parts c) h.0 w cs (stands_step limit parts v h.0 c s h.1) h.2

new_stands : (limit : Option ℕ) → Stands limit [] (new_assembly limit)
new_stands limit = record { matches = refl; limit_is = refl }

-- a view at which a call is made, after these parts
pub record At (limit : Option ℕ) (parts : List PartHead) (c : AssemblyCall) : Type 0 where
  pub at : AssemblyView
  pub next : AssemblyView
  pub step : AssemblyStep at c next
  pub known : Stands limit parts at

each : (limit : Option ℕ) (H : List AssemblyCall) (v : AssemblyView) → Chain AssemblyStep (new_assembly limit) H v →
    (before after : List AssemblyCall) (c : AssemblyCall) → H ≡ before ++ c ∷ after → At limit (parts_by [] before) c
each limit H v h before after c e =
    let s = split_of AssemblyStep (new_assembly limit) v H before after c h e in record {
      at = s.at;
      next = s.next;
      step = s.step;
      known = stands_chain limit [] (new_assembly limit) s.at before (new_stands limit) s.reached;
    }

-- ---- each part

each_part : (limit : Option ℕ) (H : List AssemblyCall) (v : AssemblyView) →
    Chain AssemblyStep (new_assembly limit) H v → (before after : List AssemblyCall) (head : PartHead) (part : Part) →
    H ≡ before ++ Comes head (Ok part) ∷ after →
    (a : At limit (parts_by [] before) (Comes head (Ok part)))
    × Accepted a.at (parts_by [] before) head part a.next
each_part limit H v h before after head part e =
    let a = each limit H v h before after (Comes head (Ok part)) e in
    (a, outcome a.at a.next (parts_by [] before) head (Ok part) a.known.matches a.step)

pub belong_to_one : OfAssemblies (λ limit H. BelongToOne H)
belong_to_one limit H v h before after head part e =
    let a = (each_part limit H v h before after head part e).1 in (
      ap (λ (x : Part). x.is_first) a.part_is ∙ a.is_first,
      subst (λ n. AreOf n (parts_by [] before ++ head ∷ [])) (sym (ap (λ (x : Part). x.number) a.part_is)) a.has.are_of,
      ap (λ (x : Part). x.end) a.part_is,
    )

pub sizes_add_up : OfAssemblies (λ limit H. SizesAddUp H)
sizes_add_up limit H v h before after head part e =
    let a = (each_part limit H v h before after head part e).1 in (
      ap (λ (x : Part). x.size) a.part_is ∙ a.has.size_is,
      ap (λ (x : Part). x.settled) a.part_is ∙ a.has.settled_is,
    )

is_within : (limit : Option ℕ) (size : ℕ) (more aborted : Bool) → aborted ≡ false →
    fits limit size (end_of more aborted) ≡ true → IsWithin limit size
is_within limit size more true p f = absurd (true≢false p)
is_within None size more false p f = tt
is_within (Some zero) size more false p f = tt
is_within (Some (suc n)) size true false p f = grind (arith, nat_tests, common_steps)
is_within (Some (suc n)) size false false p f = grind (arith, nat_tests, common_steps)

pub none_too_large : OfAssemblies (λ limit H. NoneTooLarge limit H)
none_too_large limit H v h before after head part e whole =
    let p = each_part limit H v h before after head part e in
    subst (IsWithin limit) (sym (ap (λ (x : Part). x.size) p.1.part_is))
    (subst (λ l. IsWithin l p.1.delivery.size) p.0.known.limit_is
    (is_within p.0.at.limit p.1.delivery.size head.more head.aborted whole p.1.fits_is))

pub refused_for_reason : OfAssemblies (λ limit H. RefusedForReason limit H)
refused_for_reason limit H v h before after head error e =
    let a = each limit H v h before after (Comes head (Err error)) e in
    let o = outcome a.at a.next (parts_by [] before) head (Err error) a.known.matches a.step in
    subst (λ l. Reason l (parts_by [] before) head error) a.known.limit_is o.0

number_is : (current : Option Delivery) (parts : List PartHead) → Matches current parts →
    number_in current ≡ number_of parts
number_is None parts m = ap number_of (sym m)
number_is (Some d) parts m = by parts m.are_of
  where
    by : (parts : List PartHead) → AreOf d.number parts → Some d.number ≡ number_of parts
    by [] a = absurd a
    by (p ∷ parts) a = sym a.0

pub under_way_is_exact : OfAssemblies (λ limit H. UnderWayIsExact H)
under_way_is_exact limit H v h before after answer e =
    let a = each limit H v h before after (AsksNumber answer) e in
    a.step.0 ∙ number_is a.at.current (parts_by [] before) a.known.matches

-- ---- parts in a row

-- a call that accepts no part changes nothing
unaccepted : (limit : Option ℕ) (parts : List PartHead) (v w : AssemblyView) (c : AssemblyCall) →
    Stands limit parts v → is_accepted c ≡ false → AssemblyStep v c w → w ≡ v
unaccepted limit parts v w (Comes head (Ok part)) s n h = absurd (true≢false n)
unaccepted limit parts v w (Comes head (Err error)) s n h = (outcome v w parts head (Err error) s.matches h).1
unaccepted limit parts v w (AsksNumber answer) s n h = h.1

all_unaccepted : (limit : Option ℕ) (parts : List PartHead) (v w : AssemblyView) (cs : List AssemblyCall) →
    Stands limit parts v → has_accepted cs ≡ false → Chain AssemblyStep v cs w → w ≡ v
all_unaccepted limit parts v w [] s n h = h
all_unaccepted limit parts v w (c ∷ cs) s n h =
    let first = unaccepted limit parts v h.0 c s (or_left (is_accepted c) (has_accepted cs) n) h.1 in
    all_unaccepted limit parts h.0 w cs (subst (Stands limit parts) (sym first) s)
    (or_right (is_accepted c) (has_accepted cs) n) h.2 ∙ first

follows : (end : PartEnd) (d : Delivery) (v : AssemblyView) (part next : Part) → part.end ≡ end →
    part.number ≡ d.number → v.current ≡ left_under_way end d → next.is_first ≡ is_none v.current →
    ((number : ℕ) → number_in v.current ≡ Some number → next.number ≡ number) → Follows part next
follows More d v part next e n c f g = inl (e, f ∙ ap is_none c, g d.number (ap number_in c) ∙ sym n)
follows Last d v part next e n c f g = inr (inl e, f ∙ ap is_none c)
follows Aborted d v part next e n c f g = inr (inr e, f ∙ ap is_none c)

pub in_a_row : OfAssemblies (λ limit H. InARow H)
in_a_row limit H v h before between after head following part next e n =
    let new = new_assembly limit in
    let last = Comes following (Ok next) in
    let s = split_of AssemblyStep new v H before (between ++ last ∷ after) (Comes head (Ok part)) h e in
    let parts = parts_by [] before in
    let known = stands_chain limit [] new s.at before (new_stands limit) s.reached in
    let a = outcome s.at s.next parts head (Ok part) known.matches s.step in
    let t = split_of AssemblyStep s.next v (between ++ last ∷ after) between after last s.onward refl in
    let now = unless_ended part.end (parts ++ head ∷ []) in
    let begun = after_part limit parts s.at s.next head part known a in
    let same = all_unaccepted limit now s.next t.at between begun n t.reached in
    let b = outcome t.at t.next now following (Ok next) (subst (Stands limit now) (sym same) begun).matches t.step in
    follows (end_of head.more head.aborted) a.delivery t.at part next
    (ap (λ (x : Part). x.end) a.part_is)
    (ap (λ (x : Part). x.number) a.part_is)
    (ap (λ (x : AssemblyView). x.current) (same ∙ a.after_is))
    (ap (λ (x : Part). x.is_first) b.part_is)
    (λ number m. ap (λ (x : Part). x.number) b.part_is ∙ b.number_is number m)
