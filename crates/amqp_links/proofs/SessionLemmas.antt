-- A part that is sent: it is prepared, and then finished.
use Rattle.std.proofs.Common.{ℕ, ◌≡◌, ◌&&◌, ◌++◌, List, [], ◌∷◌, Bool, true, false, not, Option, Some, None, Ok, refl, sym, ap, subst, ◌∙◌}
use Rattle.amqp_unsettled.specs.declared.entry.Entry.{Entry}
use Rattle.amqp_unsettled.specs.Table.{is_next}
use Rattle.amqp_links.proofs.PreparingLemmas.{sent_is}
use Rattle.amqp_links.proofs.ReceivingLemmas.{ok≢err}
use Rattle.amqp_links.specs.declared.end.End.{End}
use Rattle.amqp_links.specs.declared.end.End.TheVariants.{Sending, Receiving}
use Rattle.amqp_links.specs.declared.session.sending.PreparedPart.{PreparedPart}
use Rattle.amqp_links.specs.declared.session.sending.SentPart.{SentPart}
use Rattle.amqp_links.specs.Ends.{Puts, end_at}
use Rattle.amqp_links.specs.Noting.{GivesBack, Notes, entry_of}
use Rattle.amqp_links.specs.Preparing.{FinishesAt, GivesIf, NotesIf, PreparesAt, entry_in, prepared_of}
use Rattle.amqp_links.specs.Sending.{SendingView, is_none}
use Rattle.amqp_links.specs.SendingParts.{SendsAt, settles}
use Rattle.amqp_links.specs.Session.{LinksView}

-- ---- both halves

-- nothing but the sent ones stands between
puts_rest : (t : SendingView) (v m w : LinksView) (h : ℕ) (mid : List Entry) → m ≡ record v { sent = mid } → Puts m.ends h (Some (Sending t)) w.ends
    → w ≡ record m { ends = w.ends; sent = w.sent } → Puts v.ends h (Some (Sending t)) w.ends × (w ≡ record v { ends = w.ends; sent = w.sent })
puts_rest t v m w h mid e puts same = (
  subst (λ x. Puts x h (Some (Sending t)) w.ends) (ap (λ (x : LinksView). x.ends) e) puts,
  same ∙ ap (λ (x : LinksView). record x { ends = w.ends; sent = w.sent }) e,
)

-- what both halves do is what the whole does
whole : (first settled : Bool) (t : SendingView) (v m w : LinksView) (h : ℕ) (p : SentPart) (given : Option ℕ) (q r : PreparedPart)
    → q ≡ record { handle = h; part = p; sendable = record { is_first = first; under_way = t.under_way } } → NotesIf (first && not settled) q v (Ok r) m → GivesIf first settled q m given w
    → Puts m.ends h (Some (Sending t)) w.ends → w ≡ record m { ends = w.ends; sent = w.sent }
    → Notes first settled v.sent (entry_of p.number h p.given) (Ok given) w.sent × Puts v.ends h (Some (Sending t)) w.ends
    × (w ≡ record v { ends = w.ends; sent = w.sent })
whole true false t v m w h p given q r e notes gives puts same =
    let rest = puts_rest t v m w h m.sent notes.2 puts same in
    let entry = ap entry_in e in
    ((gives.0, (subst (λ x. is_next x.number v.sent ≡ true) entry notes.1.0, gives.1 ∙ notes.1.1 ∙ ap (λ x. v.sent ++ x ∷ []) entry)), rest.0, rest.1)
whole true true t v m w h p given q r e notes gives puts same =
    let rest = puts_rest t v m w h v.sent notes.1 puts same in
    ((ap Ok gives.0, gives.1 ∙ ap (λ (x : LinksView). x.sent) notes.1), rest.0, rest.1)
whole false false t v m w h p given q r e notes gives puts same =
    let rest = puts_rest t v m w h v.sent notes.1 puts same in
    ((ap Ok gives.0, gives.1 ∙ ap (λ (x : LinksView). x.sent) notes.1), rest.0, rest.1)
whole false true t v m w h p given q r e notes gives puts same =
    let rest = puts_rest t v m w h v.sent notes.1 puts same in (
      subst (λ x. GivesBack x h p.number given w.sent) (ap (λ (x : LinksView). x.sent) notes.1)
          (subst (λ x. GivesBack m.sent x.handle x.part.number given w.sent) e gives),
      rest.0,
      rest.1,
    )

-- the part that is prepared is the one that was asked for
pub same_part : (b : Bool) (q r : PreparedPart) (v m : LinksView) → NotesIf b q v (Ok r) m → r ≡ q
same_part true q r v m s = s.0
same_part false q r v m s = s.0

-- and no end has changed
same_ends : (b : Bool) (q r : PreparedPart) (v m : LinksView) → NotesIf b q v (Ok r) m → m.ends ≡ v.ends
same_ends true q r v m s = ap (λ x. x.ends) s.2
same_ends false q r v m s = ap (λ x. x.ends) s.1

pub sends_by : (v m w : LinksView) (h : ℕ) (p : SentPart) (r : PreparedPart) (given : Option ℕ) (e : Option End) → end_at v.ends h ≡ e
    → PreparesAt e v h p (Ok r) m → FinishesAt (end_at m.ends r.handle) r m given w → SendsAt e v h p (Ok given) w
sends_by v m w h p r given None q prepares finishes = absurd (ok≢err prepares.0)
sends_by v m w h p r given (Some (Receiving s)) q prepares finishes = absurd (ok≢err prepares.0)
sends_by v m w h p r given (Some (Sending s)) q prepares finishes =
    let t = prepares.0 in
    let first = is_none s.under_way in
    let r_is = same_part (first && not (settles p)) (prepared_of s t h p) r v m prepares.2 in
    let there : end_at m.ends h ≡ Some (Sending s) = ap (λ x. end_at x h) (same_ends (first && not (settles p)) (prepared_of s t h p) r v m prepares.2) ∙ q in
    let done : FinishesAt (Some (Sending s)) (prepared_of s t h p) m given w =
    subst (λ x. FinishesAt x (prepared_of s t h p) m given w) there (subst (λ x. FinishesAt (end_at m.ends x.handle) x m given w) r_is finishes) in
    let puts : Puts m.ends h (Some (Sending t)) w.ends =
    subst (λ x. Puts m.ends h (Some (Sending x)) w.ends) (sym (sent_is s t p.size p.end prepares.1)) done.1 in
    (t, prepares.1, whole first (settles p) t v m w h p given (prepared_of s t h p) r refl prepares.2 done.0 puts done.2)
