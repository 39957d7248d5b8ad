-- What was written of a buffer so far.
use Rattle.std.proofs.Common.{◌≡◌, ℕ, List, [], ◌++◌, Option, Some, None, refl, ap, sym, subst, ◌∙◌, append_assoc}
use Rattle.std.proofs.lemmas.List.{append-nil}
use Rattle.std.specs.Io.KnownBytes.{Appends}

pub record Written (old new : Option (List ℕ)) (all left : List ℕ) : Type 0 where
  pub sent : List ℕ
  pub all_is : all ≡ sent ++ left
  pub appended : Appends old new sent

pub nothing : (old : Option (List ℕ)) → Appends old old []
nothing None = tt
nothing (Some xs) = sym (append-nil xs)

pub both : (old mid new : Option (List ℕ)) (xs ys : List ℕ) → Appends old mid xs → Appends mid new ys → Appends old new (xs ++ ys)
both None mid new xs ys a b = tt
both (Some s) None new xs ys a b = absurd a
both (Some s) (Some t) None xs ys a b = absurd b
both (Some s) (Some t) (Some u) xs ys a b = b ∙ ap (λ (r : List ℕ). r ++ ys) a ∙ append_assoc s xs ys

pub written_none : (old : Option (List ℕ)) (all : List ℕ) → Written old old all all
written_none old all = record { sent = []; all_is = refl; appended = nothing old }

pub written_more : (old mid new : Option (List ℕ)) (all left rest chunk : List ℕ) → Written old mid all left → left ≡ chunk ++ rest → Appends mid new chunk → Written old new all rest
written_more old mid new all left rest chunk w e a = record {
  sent = w.sent ++ chunk;
  all_is = w.all_is ∙ ap (λ (r : List ℕ). w.sent ++ r) e ∙ sym (append_assoc w.sent chunk rest);
  appended = both old mid new w.sent chunk w.appended a;
}

pub written_all : (old new : Option (List ℕ)) (all left : List ℕ) → Written old new all left → left ≡ [] → Appends old new all
written_all old new all left w e = subst (Appends old new) (sym (w.all_is ∙ ap (λ (r : List ℕ). w.sent ++ r) e ∙ append-nil w.sent)) w.appended
