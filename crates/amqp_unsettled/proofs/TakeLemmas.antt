-- A row's cells: the item that is meant, and the first one.
use Rattle.std.proofs.Common.{◌≡◌, ℕ, suc, ◌+◌, ◌<◌, arith, List, [], ◌∷◌, ◌++◌, length, take, drop}
use Rattle.std.proofs.Common.{ap, sym, ◌∙◌, refl, Bool, true, Some, None}
use Rattle.std.specs.Prelude.{slice_get}
use Rattle.std.specs.List.{find}
use Rattle.amqp_unsettled.specs.Table.{without_first}
use Rattle.amqp_unsettled.specs.declared.cells.Cell.{Cell}
use Rattle.amqp_unsettled.specs.Inner.Order.{NonePasses}
use Rattle.amqp_unsettled.specs.Inner.Rows.{there}
use Rattle.amqp_unsettled.specs.Inner.Rows.{IsFullRow, IsAt, Takes}
use Rattle.amqp_unsettled.proofs.ListLemmas.{none_found}
use Rattle.amqp_unsettled.proofs.PlaceLemmas.{item_at, from_item}
use Rattle.amqp_unsettled.proofs.RowLemmas.{drop_there}
use Rattle.amqp_unsettled.proofs.CellLemmas.{there_more, there_at, there_few}
use Rattle.amqp_unsettled.proofs.CellLemmas.{all_there}

-- the first that passes, after some that do not
pub first_after : {X : Type 0} (p : X → Bool) (xs : List X) (x : X) (ys : List X) → NonePasses p xs → p x ≡ true →
    (find p (xs ++ x ∷ ys) ≡ Some x) × (without_first p (xs ++ x ∷ ys) ≡ xs ++ ys)
first_after p [] x ys h t = (rw t refl, rw t refl)
first_after p (z ∷ zs) x ys h t =
    let r = first_after p zs x ys h.1 t in
    (rw h.0 r.0, rw h.0 (ap (λ ws. z ∷ ws) r.1))

module _ {X : Type 0} (p : X → Bool) (cs : List (Cell X)) (at : ℕ) (is : IsAt p cs at) where
  pub at_found : (c : Cell X) → slice_get cs at ≡ Some c → Some c.item ≡ find p (there cs)
  at_found c e = sym (ap (find p) (there_at cs at c e (is.is c e))
      ∙ (first_after p (there (take at cs)) c.item (there (drop (suc at) cs)) is.before (is.meant c e)).0)

  pub at_taken : (x : X) → slice_get (there (drop at cs)) 0 ≡ Some x → (ys : List X) →
      ys ≡ there (take at cs) ++ there (drop (at + 1) cs) → Takes p (there cs) (Some x) ys
  at_taken x e ys left =
      let it = item_at cs at is.within in
      let whole = there_at cs at it.0 it.1 (is.is it.0 it.1) in
      let r = first_after p (there (take at cs)) it.0.item (there (drop (suc at) cs)) is.before (is.meant it.0 it.1) in
      let here : Some it.0.item ≡ Some x = sym (ap (λ ds. slice_get (there ds) 0) (from_item at cs it.0 it.1)
      ∙ ap (λ xs. slice_get xs 0) (there_more it.0 (drop (suc at) cs) (is.is it.0 it.1))) ∙ e in (
        sym here ∙ at_found it.0 it.1,
        left
            ∙ ap (λ n. there (take at cs) ++ there (drop n cs)) (let k : at + 1 ≡ suc at = omega arith in k)
            ∙ sym (ap (without_first p) whole ∙ r.1),
      )

pub none_taken : {X : Type 0} (p : X → Bool) (xs : List X) → NonePasses p xs → (None ≡ find p xs) × (xs ≡ without_first
    p xs)
none_taken p xs h = let r = none_found p xs h in (sym r.0, sym r.1)

-- where none has gone each is there, and the first one goes at once
pub skip_row : {X : Type 0} (f : X → ℕ) (cs : List (Cell X)) → 0 < length (there cs) → IsFullRow f cs 0 → IsFullRow f
    (drop 1 cs) 0
skip_row f [] h r = absurd (omega (arith, h))
skip_row f (c ∷ cs) h r =
    let counts = r.loose.counts in
    let all = all_there (c ∷ cs) (omega (arith, counts)) in
    record {
      loose = drop_there f c cs 0 (all 0 c refl) r.loose;
      front = λ d e. all 1 d e;
      back = λ i e d k. all (suc i) d k;
    }

pub skip_items : {X : Type 0} (f : X → ℕ) (cs : List (Cell X)) → 0 < length (there cs) → IsFullRow f cs 0 →
    there (drop 1 cs) ≡ drop 1 (there cs)
skip_items f [] h r = absurd (omega (arith, h))
skip_items f (c ∷ cs) h r =
    let counts = r.loose.counts in
    let all = all_there (c ∷ cs) (omega (arith, counts)) in
    sym (ap (drop 1) (there_more c cs (all 0 c refl)))

pub some_used : {X : Type 0} (cs : List (Cell X)) → 0 < length (there cs) → 0 < length cs
some_used cs h = let few = there_few cs in omega (arith, few, h)
