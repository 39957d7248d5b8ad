-- The record at each number of a table, and what new records change.
use Rattle.std.proofs.Common.{◌≡◌, ℕ, ◌<◌, ◌+◌, ◌%◌, ◌^◌, List, [], ◌∷◌, ◌++◌, refl, ap, ◌∙◌, arith, cond, Bool, true, false, nat_eq, Option, Some, None, inl, inr}
use Rattle.std.proofs.lemmas.Bool.{cases_order}
use Rattle.std.proofs.lemmas.Bool.Decides.{nat_tests}
use Rattle.std.proofs.lemmas.Grind.{common_steps}
use Rattle.std.specs.Option.{option_map}
use Rattle.amqp_session.specs.declared.deliveries.Delivery.{Delivery}
use Rattle.amqp_session.specs.Deliveries.{recorded, with_record, listed, RecordFits, newest, record_at, IsTable}
use Rattle.amqp_session.specs.Transfers.{RequestedTransfer, first_of, record_of, records, opened, kept_tag}
use Rattle.amqp_session.proofs.SortedTableLemmas.{recorded_less, recorded_same, recorded_more, recorded_table}

-- a number that two records have
by_number : (n : ℕ) (d e : Delivery) (old : Option Delivery) → e.number ≡ d.number → cond (nat_eq d.number n) (Some d) old ≡ cond (nat_eq d.number n) (Some d) (cond (nat_eq e.number n) (Some e) old)
by_number n d e old h = by (nat_eq d.number n) (nat_eq e.number n) (ap (λ k. nat_eq k n) h)
  where
    by : (a b : Bool) → b ≡ a → cond a (Some d) old ≡ cond a (Some d) (cond b (Some e) old)
    by true b q = refl
    by false b q = rw q refl

-- two records of other numbers
either : (n : ℕ) (d e : Delivery) (old : Option Delivery) → e.number < d.number → cond (nat_eq e.number n) (Some e) (cond (nat_eq d.number n) (Some d) old) ≡ cond (nat_eq d.number n) (Some d) (cond (nat_eq e.number n) (Some e) old)
either n d e old h = by (nat_eq e.number n) (nat_eq d.number n) refl refl
  where
    by : (a b : Bool) → nat_eq e.number n ≡ a → nat_eq d.number n ≡ b → cond a (Some e) (cond b (Some d) old) ≡ cond b (Some d) (cond a (Some e) old)
    by true true p q = absurd (let x : e.number ≡ n = grind (arith, nat_tests, common_steps) in let y : d.number ≡ n = grind (arith, nat_tests, common_steps) in omega (arith, x, y, h))
    by true false p q = refl
    by false b p q = refl

pub recorded_at_number : (n : ℕ) (d : Delivery) (rows : List Delivery) → record_at n (recorded d rows) ≡ cond (nat_eq d.number n) (Some d) (record_at n rows)
recorded_at_number n d [] = refl
recorded_at_number n d (e ∷ es) =
    elim (cases_order e.number d.number) [
      | inl same ↦ ap (record_at n) (recorded_same d e es same) ∙ by_number n d e (record_at n es) same
      | inr (inl less) ↦ ap (record_at n) (recorded_less d e es less) ∙ ap (cond (nat_eq e.number n) (Some e)) (recorded_at_number n d es) ∙ either n d e (record_at n es) less
      | inr (inr more) ↦ ap (record_at n) (recorded_more d e es more)
    ]

with_record_at_number : (n : ℕ) (d : Option Delivery) (rows : List Delivery) → record_at n (with_record d rows) ≡ newest n (record_at n rows) (listed d)
with_record_at_number n None rows = refl
with_record_at_number n (Some d) rows = recorded_at_number n d rows

newest_after : (n : ℕ) (old d : Option Delivery) (ds : List Delivery) → newest n (newest n old (listed d)) ds ≡ newest n old (listed d ++ ds)
newest_after n old None ds = refl
newest_after n old (Some d) ds = refl

opened_at_number : (n k : ℕ) (hs : List RequestedTransfer) (rows : List Delivery) → record_at n (opened k hs rows) ≡ newest n (record_at n rows) (records k hs)
opened_at_number n k [] rows = refl
opened_at_number n k (h ∷ hs) rows =
    opened_at_number n (k + first_of h) hs (with_record (record_of k h) rows)
    ∙ ap (λ old. newest n old (records (k + first_of h) hs)) (with_record_at_number n (record_of k h) rows)
    ∙ newest_after n (record_at n rows) (record_of k h) (records (k + first_of h) hs)

with_record_table : (d : Option Delivery) (rows : List Delivery) → RecordFits d → IsTable rows → IsTable (with_record d rows)
with_record_table None rows fits t = t
with_record_table (Some d) rows fits t = recorded_table d rows fits t

record_fits : (n : ℕ) (h : RequestedTransfer) → RecordFits (record_of n h)
record_fits n h = by (kept_tag h.is_first h.transfer)
  where
    by : (tag : Option (List ℕ)) → RecordFits (option_map (λ t. let d : Delivery = record { number = n % 2 ^ 32; input_handle = record { 0 = h.input_handle }; tag = record { 0 = t } } in d) tag)
    by None = tt
    by (Some t) = omega arith

opened_table : (k : ℕ) (hs : List RequestedTransfer) (rows : List Delivery) → IsTable rows → IsTable (opened k hs rows)
opened_table k [] rows t = t
opened_table k (h ∷ hs) rows t = opened_table (k + first_of h) hs (with_record (record_of k h) rows) (with_record_table (record_of k h) rows (record_fits k h) t)

-- a table with these records more, where each number's record was this before
pub opened_each : (k : ℕ) (hs : List RequestedTransfer) (rows rows' : List Delivery) (old : ℕ → Option Delivery) → rows' ≡ opened k hs rows → IsTable rows × ((n : ℕ) → record_at n rows ≡ old n) →
    IsTable rows' × ((n : ℕ) → record_at n rows' ≡ newest n (old n) (records k hs))
opened_each k hs rows rows' old e b = rw e (opened_table k hs rows b.0, λ n. opened_at_number n k hs rows ∙ ap (λ o. newest n o (records k hs)) (b.1 n))

pub with_record_each : (d : Option Delivery) (rows rows' : List Delivery) (old : ℕ → Option Delivery) → rows' ≡ with_record d rows → RecordFits d → IsTable rows × ((n : ℕ) → record_at n rows ≡ old n) →
    IsTable rows' × ((n : ℕ) → record_at n rows' ≡ newest n (old n) (listed d))
with_record_each d rows rows' old e fits b = rw e (with_record_table d rows fits b.0, λ n. with_record_at_number n d rows ∙ ap (λ o. newest n o (listed d)) (b.1 n))
