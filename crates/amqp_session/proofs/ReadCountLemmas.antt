-- The counts of a table: they count modulo 2^64.
use Rattle.std.proofs.Common.{◌≡◌, ℕ, ◌+◌, ◌-◌, ◌%◌, ◌^◌, ◌<◌, arith, ap, sym, ◌∙◌}
use Rattle.amqp_types.specs.declared.definitions.Role.{Role}
use Rattle.amqp_types.specs.declared.definitions.Role.TheVariants.{Sender, Receiver}
use Rattle.amqp_session.specs.declared.deliveries.ReadCount.{ReadCount}
use Rattle.amqp_session.specs.declared.deliveries.WalkCount.{WalkCount}
use Rattle.amqp_session.specs.Deliveries.{AreCounts, OpenReads, TableView, compared, nothing_read, read_more, risen, stepped}

with_comparisons : (t : TableView) (m n : ℕ) → m ≡ n →
    (let s : TableView = record t { reads = record t.reads { comparisons = m } } in s) ≡ record t { reads = record t.reads { comparisons = n } }
with_comparisons t m n e = ap (λ (k : ℕ). let s : TableView = record t { reads = record t.reads { comparisons = k } } in s) e

pub not_compared : (t : TableView) → t.reads.comparisons < 2 ^ 64 → t ≡ compared 0 t
not_compared t h = with_comparisons t t.reads.comparisons ((t.reads.comparisons + 0) % 2 ^ 64) (omega (arith, h))

pub compared_rows : (t u : TableView) (k : ℕ) → u ≡ compared k t → u.rows ≡ t.rows
compared_rows t u k e = ap (λ (s : TableView). s.rows) e

pub compared_both : (t u v : TableView) (k n : ℕ) → u ≡ compared k t → v ≡ compared n u → v ≡ compared (k + n) t
compared_both t u v k n e f =
    let sum : ((t.reads.comparisons + k) % 2 ^ 64 + n) % 2 ^ 64 ≡ (t.reads.comparisons + (k + n)) % 2 ^ 64 = omega arith in
    f ∙ ap (λ (s : TableView). compared n s) e ∙ with_comparisons t _ _ sum

pub compared_more : (t u v : TableView) (k : ℕ) → u ≡ compared k t → v ≡ compared 1 u → v ≡ compared (k + 1) t
compared_more t u v k e f = compared_both t u v k 1 e f

with_turns : (t : TableView) (m n : ℕ) → m ≡ n →
    (let s : TableView = record t { reads = record t.reads { turns = m } } in s) ≡ record t { reads = record t.reads { turns = n } }
with_turns t m n e = ap (λ (k : ℕ). let s : TableView = record t { reads = record t.reads { turns = k } } in s) e

pub not_stepped : (t : TableView) → t.reads.turns < 2 ^ 64 → t ≡ stepped 0 t
not_stepped t h = with_turns t t.reads.turns ((t.reads.turns + 0) % 2 ^ 64) (omega (arith, h))

pub stepped_rows : (t u : TableView) (k : ℕ) → u ≡ stepped k t → u.rows ≡ t.rows
stepped_rows t u k e = ap (λ (s : TableView). s.rows) e

pub stepped_more : (t u v : TableView) (k : ℕ) → u ≡ stepped k t → v ≡ stepped 1 u → v ≡ stepped (k + 1) t
stepped_more t u v k e f =
    let n : ((t.reads.turns + k) % 2 ^ 64 + 1) % 2 ^ 64 ≡ (t.reads.turns + (k + 1)) % 2 ^ 64 = omega arith in
    f ∙ ap (λ (s : TableView). stepped 1 s) e ∙ with_turns t _ _ n

-- a search and a walk after it
pub read_by : (t u v : TableView) (k n : ℕ) → u ≡ compared k t → v ≡ stepped n u → v.reads ≡ risen (record { turns = n; comparisons = k }) t.reads
read_by t u v k n e f = ap (λ (s : TableView). s.reads) f ∙ ap (λ (s : TableView). (stepped n s).reads) e

-- where nothing is read the count stays
pub still : (r : ReadCount) → r.turns < 2 ^ 64 → r.comparisons < 2 ^ 64 → r ≡ risen nothing_read r
still r t c =
    let m : r.turns ≡ (r.turns + 0) % 2 ^ 64 = omega (arith, t) in
    let n : r.comparisons ≡ (r.comparisons + 0) % 2 ^ 64 = omega (arith, c) in
    ap (λ (k : ℕ). let s : ReadCount = record r { turns = k } in s) m
    ∙ ap (λ (k : ℕ). let s : ReadCount = record { turns = (r.turns + 0) % 2 ^ 64; comparisons = k } in s) n

-- The difference of two counts is the walk between them.
pub walk_since : (w : WalkCount) (r s : ReadCount) → s.turns < 2 ^ 64 → s.comparisons < 2 ^ 64 → w.turns < 2 ^ 64 → w.comparisons < 2 ^ 32 → r ≡ risen w s →
    (let o : WalkCount = record { turns = (r.turns + (2 ^ 64 - s.turns)) % 2 ^ 64; comparisons = (r.comparisons + (2 ^ 64 - s.comparisons)) % 2 ^ 64 % 2 ^ 32 } in o) ≡ w
walk_since w r s ht hk t k e =
    let turns : r.turns ≡ (s.turns + w.turns) % 2 ^ 64 = ap (λ (x : ReadCount). x.turns) e in
    let comparisons : r.comparisons ≡ (s.comparisons + w.comparisons) % 2 ^ 64 = ap (λ (x : ReadCount). x.comparisons) e in
    let m : (r.turns + (2 ^ 64 - s.turns)) % 2 ^ 64 ≡ w.turns = omega (arith, turns, t, ht) in
    let n : (r.comparisons + (2 ^ 64 - s.comparisons)) % 2 ^ 64 % 2 ^ 32 ≡ w.comparisons = omega (arith, comparisons, k, hk) in
    ap (λ (x : ℕ). let o : WalkCount = record { turns = x; comparisons = (r.comparisons + (2 ^ 64 - s.comparisons)) % 2 ^ 64 % 2 ^ 32 } in o) m
    ∙ ap (λ (x : ℕ). let o : WalkCount = record { turns = w.turns; comparisons = x } in o) n

-- what a search and a walk after it have counted
pub since_is : (walk : WalkCount) (t u v : TableView) (r b : ReadCount) (k n : ℕ) →
    ((w : WalkCount) → w.turns < 2 ^ 64 → w.comparisons < 2 ^ 32 → r ≡ risen w b → walk ≡ w) →
    u ≡ compared k t → v ≡ stepped n u → r ≡ v.reads → b ≡ t.reads → n < 2 ^ 64 → k < 2 ^ 32 → walk ≡ record { turns = n; comparisons = k }
since_is walk t u v r b k n since e f rv bt hn hk =
    let w : WalkCount = record { turns = n; comparisons = k } in
    since w hn hk (rv ∙ read_by t u v k n e f ∙ ap (risen w) (sym bt))

-- so the count has risen by it
pub risen_by : (walk : WalkCount) (t u v : TableView) (k n : ℕ) → walk ≡ record { turns = n; comparisons = k } → u ≡ compared k t → v ≡ stepped n u →
    v.reads ≡ risen walk t.reads
risen_by walk t u v k n is e f = read_by t u v k n e f ∙ ap (λ (w : WalkCount). risen w t.reads) (sym is)

-- Where nothing is read of the tables of both roles, their counts stay.
pub still_open : (role : Role) (r : OpenReads) (w : WalkCount) → AreCounts r → w ≡ nothing_read → r ≡ read_more role w r
still_open Receiver r w a e = ap (λ (x : ReadCount). let s : OpenReads = record r { receiver = x } in s) (still r.receiver a.0 a.1 ∙ ap (λ (u : WalkCount). risen u r.receiver) (sym e))
still_open Sender r w a e = ap (λ (x : ReadCount). let s : OpenReads = record r { sender = x } in s) (still r.sender a.2 a.3 ∙ ap (λ (u : WalkCount). risen u r.sender) (sym e))
