-- A part that is prepared and then cancelled leaves all as it was.
use Rattle.std.proofs.Common.{ℕ, ◌^◌, ◌<◌, ◌≡◌, ◌++◌, cond, nat_eq, Bool, true, false, List, [], ◌∷◌, Option, Some, None, Ok, refl, sym, ap, subst, ◌∙◌}
use Rattle.std.proofs.lemmas.Bool.{eqb-true, eq-eqb}
use Rattle.amqp_unsettled.specs.declared.entry.Entry.{Entry}
use Rattle.amqp_unsettled.specs.Serial.{is_after}
use Rattle.amqp_unsettled.specs.Table.{has_number, without_first}
use Rattle.amqp_unsettled.specs.Inner.Order.{Each}
use Rattle.amqp_unsettled.proofs.NextLemmas.{each_passes}
use Rattle.amqp_unsettled.proofs.TableLemmas.{after_other}
use Rattle.amqp_links.specs.declared.end.End.{End}
use Rattle.amqp_links.specs.declared.end.End.TheVariants.{Sending, Receiving}
use Rattle.amqp_links.specs.declared.session.sending.PreparedPart.{PreparedPart}
use Rattle.amqp_links.specs.declared.session.sending.SentPart.{SentPart}
use Rattle.amqp_links.specs.Preparing.{CancelRestores, CancelsIf, CancelsSend, NotesIf, PreparesAt, entry_in, opens, prepared_of}
use Rattle.amqp_links.specs.Sending.{is_none}
use Rattle.amqp_links.specs.Session.{LinksView}
use Rattle.amqp_links.specs.Ends.{end_at}
use Rattle.amqp_links.proofs.ReceivingLemmas.{ok≢err}
use Rattle.amqp_links.proofs.SessionLemmas.{same_part}

-- an entry that came after all others is taken out
taken_off : (n : ℕ) (e : Entry) (t : List Entry) → e.number ≡ n → n < 2 ^ 32 → Each (λ x. is_after x.number n ≡ true) t
    → without_first (has_number n) (t ++ e ∷ []) ≡ t
taken_off n e [] q small h = ap (λ b. cond b [] (e ∷ [])) (eq-eqb e.number n q)
taken_off n e (x ∷ xs) q small h = by (nat_eq x.number n) refl (taken_off n e xs q small h.1)
  where
    by : (b : Bool) → nat_eq x.number n ≡ b → without_first (has_number n) (xs ++ e ∷ []) ≡ xs
        → cond (nat_eq x.number n) (xs ++ e ∷ []) (x ∷ without_first (has_number n) (xs ++ e ∷ [])) ≡ x ∷ xs
    by true t rest = let is : x.number ≡ n = eqb-true x.number n t in absurd (after_other x.number n (subst (λ k. k < 2 ^ 32) (sym is) small) h.0 is)
    by false f rest = ap (λ b. cond b (xs ++ e ∷ []) (x ∷ without_first (has_number n) (xs ++ e ∷ []))) f ∙ ap (λ ys. x ∷ ys) rest

restores : (b : Bool) (q r : PreparedPart) (v m w : LinksView) → q.part.number < 2 ^ 32 → NotesIf b q v (Ok r) m → CancelsIf b q m w → w ≡ v
restores false q r v m w small notes cancels = cancels ∙ notes.1
restores true q r v m w small notes cancels =
    let n = q.part.number in
    let each = each_passes (λ x. is_after x.number n) v.sent notes.1.0 in
    let back : without_first (has_number n) m.sent ≡ v.sent =
    ap (λ t. without_first (has_number n) t) notes.1.1 ∙ taken_off n (entry_in q) v.sent refl small each in
    cancels ∙ ap (λ t. record m { sent = t }) back ∙ ap (λ (x : LinksView). record x { sent = v.sent }) notes.2

pub cancelled : (v m w : LinksView) (h : ℕ) (p : SentPart) (r : PreparedPart) (e : Option End) → p.number < 2 ^ 32 → PreparesAt e v h p (Ok r) m
    → CancelsSend r m w → w ≡ v
cancelled v m w h p r None small prepares cancels = absurd (ok≢err prepares.0)
cancelled v m w h p r (Some (Receiving s)) small prepares cancels = absurd (ok≢err prepares.0)
cancelled v m w h p r (Some (Sending s)) small prepares cancels =
    let q = prepared_of s prepares.0 h p in
    let b = opens (is_none s.under_way) p in
    restores b q r v m w small prepares.2 (subst (λ x. CancelsSend x m w) (same_part b q r v m prepares.2) cancels)

pub cancel_restores : CancelRestores
cancel_restores v m w h p q small prepares cancels = cancelled v m w h p q (end_at v.ends h) small prepares cancels
