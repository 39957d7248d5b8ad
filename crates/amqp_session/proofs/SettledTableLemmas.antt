-- What a settled disposition, or this side's own settling, leaves of a table.
use Rattle.std.proofs.Common.{◌≡◌, ℕ, ◌^◌, ◌<◌, ◌&&◌, List, [], ◌∷◌, refl, ap, ◌∙◌, subst, arith, cond, Bool, true, false, not, nat_eq, Option, Some, None, Ok}
use Rattle.std.proofs.lemmas.Bool.Decides.{nat_tests}
use Rattle.std.proofs.lemmas.Grind.{common_steps}
use Rattle.amqp_types.specs.declared.definitions.Role.{Role}
use Rattle.amqp_types.specs.declared.definitions.Role.TheVariants.{Sender, Receiver}
use Rattle.amqp_session.specs.declared.deliveries.Delivery.{Delivery}
use Rattle.amqp_session.specs.Deliveries.{EachNumber, IsRising, IsTable, record_at, OpenView, of_role, with_role, is_role, peer_role}
use Rattle.amqp_session.specs.Disposing.{is_meant, not_meant, out_of_range}
use Rattle.amqp_session.specs.History.{SessionCall, TakesDisposition, Settles}
use Rattle.amqp_session.specs.Received.{takes_away}

-- the records of a role that a call leaves
abbrev pub keeps : {R : Type 0} → Role → SessionCall R → List Delivery → List Delivery
keeps role (TakesDisposition d asked (Ok None)) rows = cond (is_role role d.role) (not_meant d rows) rows
keeps role (Settles own first last count) rows = cond (is_role role (peer_role own)) (out_of_range first last rows) rows
keeps role e rows = rows

each_left : (P : ℕ → Type 0) (first : ℕ) (last : Option ℕ) (rows : List Delivery) → EachNumber P rows → EachNumber P (out_of_range first last rows)
each_left P first last [] a = tt
each_left P first last (e ∷ es) a = by (each_left P first last es a.1) (is_meant first last e.number)
  where
    by : EachNumber P (out_of_range first last es) → (b : Bool) → EachNumber P (cond (not b) (e ∷ out_of_range first last es) (out_of_range first last es))
    by rest true = rest
    by rest false = (a.0, rest)

rising_left : (first : ℕ) (last : Option ℕ) (rows : List Delivery) → IsRising rows → IsRising (out_of_range first last rows)
rising_left first last [] r = tt
rising_left first last (e ∷ es) r = by (rising_left first last es r.1) (is_meant first last e.number)
  where
    by : IsRising (out_of_range first last es) → (b : Bool) → IsRising (cond (not b) (e ∷ out_of_range first last es) (out_of_range first last es))
    by rest true = rest
    by rest false = (each_left (λ k. e.number < k) first last es r.0, rest)

record_left : (first : ℕ) (last : Option ℕ) (n : ℕ) (rows : List Delivery) →
    record_at n (out_of_range first last rows) ≡ cond (is_meant first last n) None (record_at n rows)
record_left first last n [] = none (is_meant first last n)
  where
    none : (b : Bool) → None ≡ cond b None (let o : Option Delivery = None in o)
    none true = refl
    none false = refl
record_left first last n (e ∷ es) = by (record_left first last n es) (is_meant first last e.number) (nat_eq e.number n) refl refl
  where
    same : (b : Bool) → nat_eq e.number n ≡ true → is_meant first last e.number ≡ b → is_meant first last n ≡ b
    same b q m = let is : e.number ≡ n = grind (arith, nat_tests, common_steps) in subst (λ k. is_meant first last k ≡ b) is m

    by : record_at n (out_of_range first last es) ≡ cond (is_meant first last n) None (record_at n es) → (b c : Bool) →
        is_meant first last e.number ≡ b → nat_eq e.number n ≡ c →
        record_at n (cond (not b) (e ∷ out_of_range first last es) (out_of_range first last es)) ≡ cond (is_meant first last n) None (cond c (Some e) (record_at n es))
    by rest true true m q = rest ∙ rw (same true q m) refl
    by rest true false m q = rest
    by rest false true m q = ap (λ t. cond t (Some e) (record_at n (out_of_range first last es))) q ∙ rw (same false q m) refl
    by rest false false m q = ap (λ t. cond t (Some e) (record_at n (out_of_range first last es))) q ∙ rest

-- a table where each number's record was this, without those of a range, where they go
without : (t : Bool) (first : ℕ) (last : Option ℕ) (rows : List Delivery) (old : ℕ → Option Delivery) →
    IsTable rows × ((n : ℕ) → record_at n rows ≡ old n) →
    IsTable (cond t (out_of_range first last rows) rows)
    × ((n : ℕ) → record_at n (cond t (out_of_range first last rows) rows) ≡ cond (t && is_meant first last n) None (old n))
without true first last rows old b =
    ((rising_left first last rows b.0.0, each_left (λ k. k < 2 ^ 32) first last rows b.0.1), λ n. record_left first last n rows ∙ ap (cond (is_meant first last n) None) (b.1 n))
without false first last rows old b = b

-- a table of a role after a call, where each number's record was this before
pub keeps_each : {R : Type 0} → (role : Role) (e : SessionCall R) (rows : List Delivery) (old : ℕ → Option Delivery) →
    IsTable rows × ((n : ℕ) → record_at n rows ≡ old n) →
    IsTable (keeps role e rows) × ((n : ℕ) → record_at n (keeps role e rows) ≡ cond (takes_away role e n) None (old n))
keeps_each role (TakesDisposition d asked (Ok None)) rows old b = without (is_role role d.role) d.first d.last rows old b
keeps_each role (Settles own first last count) rows old b = without (is_role role (peer_role own)) first last rows old b
keeps_each role e rows old b = b

-- both roles, where those of a range are gone of one
pub role_keeps : (r : Role) (first : ℕ) (last : Option ℕ) (o : OpenView) →
    ((with_role r (out_of_range first last (of_role r o)) o).receiver ≡ cond (is_role Receiver r) (out_of_range first last o.receiver) o.receiver)
    × ((with_role r (out_of_range first last (of_role r o)) o).sender ≡ cond (is_role Sender r) (out_of_range first last o.sender) o.sender)
role_keeps Receiver first last o = (refl, refl)
role_keeps Sender first last o = (refl, refl)
