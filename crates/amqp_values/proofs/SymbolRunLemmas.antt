-- A run of symbols, counted and read one by one.
use Rattle.std.proofs.Common.{◌≡◌, ℕ, suc, ◌+◌, ◌-◌, ◌<◌, ◌≤◌, Bool, true, false, List, [], ◌∷◌, ◌++◌, Option, Some, None, is_some, refl, sym, ap, ◌∙◌, arith, append_assoc, eqb, length}
use Rattle.std.proofs.lemmas.List.{append-nil}
use Rattle.std.proofs.lemmas.Bool.{ne_eqb}
use Rattle.std.specs.Prelude.{Err}
use Rattle.amqp_values.specs.declared.error.ReadError.{ReadError}
use Rattle.amqp_values.specs.declared.error.ReadError.TheVariants.{Malformed, OutOfMemory}
use Rattle.amqp_values.specs.Reading.{◌>>=◌, Gives, Answers, is_empty}
use Rattle.amqp_values.specs.Symbols.{item_at, run_at}

push_bind : (r : Option (List (List ℕ))) (items : List (List ℕ)) (s : List ℕ)
    → (r >>= (λ o. Some (s ∷ o)) >>= λ o. Some (items ++ o)) ≡ (r >>= λ o. Some ((items ++ s ∷ []) ++ o))
push_bind None items s = refl
push_bind (Some x) items s = ap (λ (y : List (List ℕ)). Some y) (sym (append_assoc items (s ∷ []) x))

pub run_more : (total : Option (List (List ℕ))) (n i : ℕ) (long : Bool) (bytes s rest : List ℕ) (items : List (List ℕ)) → i < n → item_at long bytes ≡ Some (s, rest)
    → total ≡ (run_at (n - i) long bytes >>= λ o. Some (items ++ o)) → total ≡ (run_at (n - (i + 1)) long rest >>= λ o. Some ((items ++ s ∷ []) ++ o))
unfolding run_at
run_more total n i long bytes s rest items lt e so_far =
    let k : n - i ≡ suc (n - (i + 1)) = omega arith in
    let one : run_at (n - i) long bytes ≡ (run_at (n - (i + 1)) long rest >>= λ o. Some (s ∷ o)) = rw (k, e) refl in
    so_far ∙ ap (λ (r : Option (List (List ℕ))). r >>= λ o. Some (items ++ o)) one ∙ push_bind (run_at (n - (i + 1)) long rest) items s

pub run_fails : (total : Option (List (List ℕ))) (n i : ℕ) (long : Bool) (bytes : List ℕ) (items : List (List ℕ)) → i < n → item_at long bytes ≡ None
    → total ≡ (run_at (n - i) long bytes >>= λ o. Some (items ++ o)) → total ≡ None
unfolding run_at
run_fails total n i long bytes items lt e so_far =
    let k : n - i ≡ suc (n - (i + 1)) = omega arith in
    let one : run_at (n - i) long bytes ≡ None = rw (k, e) refl in
    so_far ∙ ap (λ (r : Option (List (List ℕ))). r >>= λ o. Some (items ++ o)) one

pub run_done : (total : Option (List (List ℕ))) (n i : ℕ) (long : Bool) (bytes : List ℕ) (items : List (List ℕ)) → n ≤ i → is_empty bytes ≡ true
    → total ≡ (run_at (n - i) long bytes >>= λ o. Some (items ++ o)) → total ≡ Some items
unfolding run_at
run_done total n i long bytes items le e so_far =
    let k : n - i ≡ 0 = omega arith in
    let one : run_at (n - i) long bytes ≡ Some [] = rw (k, e) refl in
    so_far ∙ ap (λ (r : Option (List (List ℕ))). r >>= λ o. Some (items ++ o)) one ∙ ap (λ (y : List (List ℕ)). Some y) (append-nil items)

run_left : (total : Option (List (List ℕ))) (n i : ℕ) (long : Bool) (bytes : List ℕ) (items : List (List ℕ)) → n ≤ i → is_empty bytes ≡ false
    → total ≡ (run_at (n - i) long bytes >>= λ o. Some (items ++ o)) → total ≡ None
unfolding run_at
run_left total n i long bytes items le e so_far =
    let k : n - i ≡ 0 = omega arith in
    let one : run_at (n - i) long bytes ≡ None = rw (k, e) refl in
    so_far ∙ ap (λ (r : Option (List (List ℕ))). r >>= λ o. Some (items ++ o)) one

pub run_whole : (total : Option (List (List ℕ))) (n i : ℕ) (long : Bool) (bytes : List ℕ) (items : List (List ℕ)) → n ≤ i → is_some total ≡ true
    → total ≡ (run_at (n - i) long bytes >>= λ o. Some (items ++ o)) → total ≡ Some items
run_whole total n i long [] items le whole so_far = run_done total n i long [] items le refl so_far
run_whole total n i long (b ∷ bytes) items le whole so_far = let left = run_left total n i long (b ∷ bytes) items le refl so_far in absurd (let none = sym (ap is_some left) ∙ whole in cc)

pub run_failed : {X Y : Type 0} (v : X → List ℕ) (w : Y → List (List ℕ)) (e : ReadError) (left : List ℕ) (total : Option (List (List ℕ))) (n i : ℕ) (long : Bool) (bytes : List ℕ) (items : List (List ℕ)) → i < n
    → Gives v (Err e) left (item_at long bytes) → total ≡ (run_at (n - i) long bytes >>= λ o. Some (items ++ o)) → Answers w (Err e) total
run_failed v w Malformed left total n i long bytes items lt g so_far = run_fails total n i long bytes items lt g so_far
run_failed v w OutOfMemory left total n i long bytes items lt g so_far = g

pub no_bytes : (bytes : List ℕ) (b : Bool) → eqb (length bytes) 0 ≡ b → is_empty bytes ≡ b
no_bytes [] b e = e
no_bytes (x ∷ xs) b e = sym (ne_eqb (suc (length xs)) 0 (omega arith)) ∙ e

-- ---- counted

more_are_some : (r : Option (List (List ℕ))) (s : List ℕ) → is_some (r >>= λ o. Some (s ∷ o)) ≡ is_some r
more_are_some None s = refl
more_are_some (Some o) s = refl

pub counted_more : (n i : ℕ) (long : Bool) (bytes s rest : List ℕ) → i < n → item_at long bytes ≡ Some (s, rest) → is_some (run_at (n - (i + 1)) long rest) ≡ is_some (run_at (n - i) long bytes)
unfolding run_at
counted_more n i long bytes s rest lt e =
    let k : n - i ≡ suc (n - (i + 1)) = omega arith in
    rw (k, e) (sym (more_are_some (run_at (n - (i + 1)) long rest) s))

pub counted_fails : (n i : ℕ) (long : Bool) (bytes : List ℕ) → i < n → item_at long bytes ≡ None → is_some (run_at (n - i) long bytes) ≡ false
unfolding run_at
counted_fails n i long bytes lt e =
    let k : n - i ≡ suc (n - (i + 1)) = omega arith in
    rw (k, e) refl

pub counted_done : (n i : ℕ) (long : Bool) (bytes : List ℕ) → n ≤ i → is_some (run_at (n - i) long bytes) ≡ is_empty bytes
unfolding run_at
counted_done n i long bytes le =
    let k : n - i ≡ 0 = omega arith in
    rw k (at_end bytes)
  where
    at_end : (bytes : List ℕ) → is_some (run_at 0 long bytes) ≡ is_empty bytes
    at_end [] = refl
    at_end (b ∷ bytes) = refl
