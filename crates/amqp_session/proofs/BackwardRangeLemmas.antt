-- Dispositions over a backward range.
use Rattle.std.proofs.Common.{◌≡◌, ℕ, List, [], ◌∷◌, length, refl, ap, sym, ◌∙◌, subst, arith, cond, Bool, true, false, is_some, Option, Some, None, Ok}
use Rattle.amqp_types.specs.Disposition.{DispositionModel}
use Rattle.amqp_types.specs.declared.definitions.Role.{Role}
use Rattle.amqp_types.specs.declared.definitions.Role.TheVariants.{Sender, Receiver}
use Rattle.amqp_session.specs.declared.deliveries.Delivery.{Delivery}
use Rattle.amqp_session.specs.declared.deliveries.WalkCount.{WalkCount}
use Rattle.amqp_session.specs.Deliveries.{nothing_read, OpenView, of_role, with_role, peer_role}
use Rattle.amqp_session.specs.Relay.{DispositionGives, DispositionQuestion}
use Rattle.amqp_session.specs.Session.{SessionView}
use Rattle.amqp_session.specs.Disposing.{is_forward, in_range, out_of_range, in_order, meant, not_meant, rows_of, own_rows, AsksEach, IsBounded, TakeDispositionStep, SettleStep}

-- the test found no forward range
pub is_backward : {X : Type 0} (b : Bool) (n : X) (o : Option X) → o ≡ cond b (Some n) None → is_some o ≡ false → b ≡ false
is_backward true n o e h = absurd (let x : is_some o ≡ true = ap is_some e in cc)
is_backward false n o e h = refl

none_of : (first : ℕ) (last : Option ℕ) (rows : List Delivery) → is_forward first last ≡ false → in_range first last rows ≡ []
none_of first last [] e = refl
none_of first last (r ∷ rs) e = rw e (none_of first last rs e)

all_left : (first : ℕ) (last : Option ℕ) (rows : List Delivery) → is_forward first last ≡ false → out_of_range first last rows ≡ rows
all_left first last [] e = refl
all_left first last (r ∷ rs) e = rw e (ap (λ xs. r ∷ xs) (all_left first last rs e))

with_same : (r : Role) (o : OpenView) → with_role r (of_role r o) o ≡ o
with_same Receiver o = refl
with_same Sender o = refl

pub backward : {R : Type 0} →
    (gives : DispositionGives R) (d : DispositionModel) (v : SessionView R) (answer : Option (List DispositionModel)) →
    is_forward d.first d.last ≡ false → answer ≡ cond d.settled None (Some []) →
    (asked : List (DispositionQuestion R)) × TakeDispositionStep gives v d asked (Ok answer) v
backward {R} gives d v answer back is = ([], by d.settled refl)
  where
    none : meant d (rows_of d v) ≡ []
    none = none_of d.first d.last (in_order d.first (rows_of d v)) back

    asks : AsksEach gives d (meant d (rows_of d v)) [] v.links v.links
    asks = rw none (refl, refl)

    left : record v { deliveries = with_role d.role (not_meant d (rows_of d v)) v.deliveries } ≡ v
    left = ap (λ rows. record v { deliveries = with_role d.role rows v.deliveries }) (all_left d.first d.last (rows_of d v) back) ∙ ap (λ o. record v { deliveries = o }) (with_same d.role v.deliveries)

    by : (b : Bool) → d.settled ≡ b → TakeDispositionStep gives v d [] (Ok answer) v
    by true s = subst (λ (a : Option (List DispositionModel)). TakeDispositionStep gives v d [] (Ok a) v) (sym (is ∙ ap (λ b. cond b None (Some [])) s)) (s, asks, sym left)
    by false s = subst (λ (a : Option (List DispositionModel)). TakeDispositionStep gives v d [] (Ok a) v) (sym (is ∙ ap (λ b. cond b None (Some [])) s)) (s, (asks, refl), record { runs = []; are_runs = record { apart = tt; hold = λ n h. refl }; are_said = refl })

pub backward_bound : {X : Type 0} → (d : DispositionModel) (rows : List Delivery) (result : X) (walk : WalkCount) →
    is_forward d.first d.last ≡ false → walk ≡ nothing_read → IsBounded {X = X} d rows (Ok result) walk
backward_bound d rows result walk back is =
    let none = ap length (none_of d.first d.last (in_order d.first rows) back) in
    rw is record { turns = omega arith; each_read = omega (arith, none); comparisons = omega arith; backward = λ e. refl }

pub backward_same : {R : Type 0} →
    (gives : DispositionGives R) (d : DispositionModel) (v w : SessionView R) (answer : Option (List DispositionModel)) →
    is_forward d.first d.last ≡ false → answer ≡ cond d.settled None (Some []) → w ≡ v →
    (asked : List (DispositionQuestion R)) × TakeDispositionStep gives v d asked (Ok answer) w
backward_same {R} gives d v w answer back is same = subst (λ (u : SessionView R). (asked : List (DispositionQuestion R)) × TakeDispositionStep gives v d asked (Ok answer) u) (sym same) (backward gives d v answer back is)

-- this side settles none
pub settles_none : {R : Type 0} → (v : SessionView R) (role : Role) (first : ℕ) (last : Option ℕ) → is_forward first last ≡ false →
    SettleStep v role first last 0 v
settles_none v role first last back = (ap length (sym (none_of first last rows back)), sym left)
  where
    rows : List Delivery
    rows = own_rows role v

    left : record v { deliveries = with_role (peer_role role) (out_of_range first last rows) v.deliveries } ≡ v
    left = ap (λ xs. record v { deliveries = with_role (peer_role role) xs v.deliveries }) (all_left first last rows back) ∙ ap (λ o. record v { deliveries = o }) (with_same (peer_role role) v.deliveries)
