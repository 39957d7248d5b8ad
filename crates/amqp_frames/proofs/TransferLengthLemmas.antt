-- A transfer that says that more follow is no shorter than the same one that does not say it.
use Rattle.std.proofs.Common.{◌≡◌, ℕ, ◌+◌, ◌≤◌, Bool, true, false, cond, eqb, nat_lt, List, [], ◌∷◌, ◌++◌, length, Some, None, refl, ◌∙◌, arith}
use Rattle.std.proofs.lemmas.Bool.{ne_eqb}
use Rattle.std.proofs.lemmas.List.{length-append}
use Rattle.amqp_values.specs.Slots.{null, is_null}
use Rattle.amqp_values.specs.Reading.{joined}
use Rattle.std.proofs.lemmas.Bool.Decides.{nat_tests}
use Rattle.amqp_types.specs.Definitions.{flag_text, receiver_mode_text, value_text}
use Rattle.amqp_values.specs.Writing.{binary_text, boolean_text, optional_text, uint_text, keep, trim, list_head, list_text}
use Rattle.amqp_types.specs.Transfer.{TransferModel, continuation, transfer_table}
use Rattle.std.specs.Int.{w32, to_be_bytes}
use Rattle.amqp_frames.specs.Split.{numbered_widest}
use Rattle.amqp_frames.specs.Cut.{transfer_text, first_text, middle_text, last_text}

-- one list of parts is no longer than the other, which has parts
record Under (xs ys : List (List ℕ)) : Type 0 where
  size : length (joined xs) ≤ length (joined ys)
  some : 1 ≤ length ys

keep_under : (p : List ℕ) (xs ys : List (List ℕ)) → Under xs ys → Under (keep p xs) (keep p ys)
keep_under p [] [] u = absurd (let h = u.some in omega arith)
keep_under p (x ∷ xs) [] u = absurd (let h = u.some in omega arith)
keep_under p [] (y ∷ ys) u = record { size = go (is_null p); some = omega arith }
  where
    go : (b : Bool) → length (joined (cond b [] (p ∷ []))) ≤ length (p ++ joined (y ∷ ys))
    go true = omega arith
    go false = let a = length-append p [] in let b = length-append p (joined (y ∷ ys)) in let c : length (joined (p ∷ [])) ≡ length (p ++ []) = refl in omega arith
keep_under p (x ∷ xs) (y ∷ ys) u = record {
  size = let h = u.size in let a = length-append p (joined (x ∷ xs)) in let b = length-append p (joined (y ∷ ys)) in omega arith;
  some = omega arith;
}

flag_under : (post : List (List ℕ)) → Under (trim (null ∷ post)) (trim ((0x41 ∷ []) ∷ post))
flag_under post = go (trim post)
  where
    go : (ts : List (List ℕ)) → Under (keep null ts) (keep (0x41 ∷ []) ts)
    go [] = record { size = omega arith; some = omega arith }
    go (t ∷ ts) = record { size = omega arith; some = omega arith }

trim_under : (pre : List (List ℕ)) (xs ys : List (List ℕ)) → Under (trim xs) (trim ys) → Under (trim (pre ++ xs)) (trim (pre ++ ys))
trim_under [] xs ys u = u
trim_under (p ∷ pre) xs ys u = keep_under p (trim (pre ++ xs)) (trim (pre ++ ys)) (trim_under pre xs ys u)

-- the length of a list's text, by the size of its parts
spread : ℕ → ℕ
spread size = cond (nat_lt size 255) (size + 3) (size + 9)

branch : (b : Bool) (xs ys : List ℕ) (size m n : ℕ) → length xs + size ≡ m → length ys + size ≡ n → length (cond b xs ys) + size ≡ cond b m n
branch true xs ys size m n a b = a
branch false xs ys size m n a b = b

head_len : (count size : ℕ) → length (list_head count size) + size ≡ spread size
unfolding spread
head_len count size = branch (nat_lt size 255) _ _ size (size + 3) (size + 9) (omega arith) (omega arith)

spread_up : (m n : ℕ) → m ≤ n → spread m ≤ spread n
unfolding spread
spread_up m n h = grind (arith, nat_tests)

spread_some : (m : ℕ) → 1 ≤ spread m
unfolding spread
spread_some m = grind (arith, nat_tests)

text_some : (x : List ℕ) (xs : List (List ℕ)) → length (list_text (x ∷ xs)) ≡ spread (length (joined (x ∷ xs)))
unfolding list_text
text_some x xs =
    let e : eqb (length (x ∷ xs)) 0 ≡ false = ne_eqb _ _ (omega arith) in
    rw e (length-append (list_head (length (x ∷ xs)) (length (joined (x ∷ xs)))) (joined (x ∷ xs)) ∙ head_len _ _)

text_under : (xs ys : List (List ℕ)) → Under xs ys → length (list_text xs) ≤ length (list_text ys)
unfolding list_text
text_under xs [] u = absurd (let h = u.some in omega arith)
text_under [] (y ∷ ys) u = let e = text_some y ys in let s = spread_some (length (joined (y ∷ ys))) in omega arith
text_under (x ∷ xs) (y ∷ ys) u = let e = text_some x xs in let f = text_some y ys in let s = spread_up _ _ u.size in omega arith

more_under : (b : Bool) (t : TransferModel) → length (transfer_text (record t { more = b })) ≤ length (transfer_text (record t { more = true }))
unfolding transfer_table
more_under true t = omega arith
more_under false t =
    let pre : List (List ℕ) = uint_text t.handle ∷ optional_text uint_text t.delivery_id ∷ optional_text binary_text t.delivery_tag ∷ optional_text uint_text t.message_format ∷ optional_text boolean_text t.settled ∷ [] in
    let post : List (List ℕ) = optional_text receiver_mode_text t.rcv_settle_mode ∷ optional_text value_text t.state ∷ flag_text t.resume ∷ flag_text t.aborted ∷ flag_text t.batchable ∷ [] in
    let h = text_under (trim (pre ++ null ∷ post)) (trim (pre ++ (0x41 ∷ []) ∷ post)) (trim_under pre (null ∷ post) ((0x41 ∷ []) ∷ post) (flag_under post)) in
    omega arith

pub first_longer : (t : TransferModel) → length (transfer_text t) ≤ length (first_text t)
first_longer t = more_under t.more t

pub middle_longer : (t : TransferModel) → length (last_text t) ≤ length (middle_text t)
middle_longer t = more_under t.more (continuation t)

-- ---- the widest number

wider_under : (p q : List ℕ) (post : List (List ℕ)) → length p ≤ length q → is_null q ≡ false → Under (trim (p ∷ post)) (trim (q ∷ post))
wider_under p q post le other = go (trim post)
  where
    size : (b : Bool) → length (joined (cond b [] (p ∷ []))) ≤ length (q ++ [])
    size true = omega arith
    size false = let a = length-append p [] in let b = length-append q [] in let c : length (joined (p ∷ [])) ≡ length (p ++ []) = refl in omega arith

    go : (ts : List (List ℕ)) → Under (keep p ts) (keep q ts)
    go [] = rw other record { size = size (is_null p); some = omega arith }
    go (t ∷ ts) = record {
      size = let a = length-append p (joined (t ∷ ts)) in let b = length-append q (joined (t ∷ ts)) in omega arith;
      some = omega arith;
    }

uint_short : (n : ℕ) → length (uint_text n) ≤ 5
uint_short n = go (eqb n 0) (nat_lt n 256)
  where
    go : (a b : Bool) → length (cond a (0x43 ∷ []) (cond b (0x52 ∷ n ∷ []) (0x70 ∷ to_be_bytes w32 n))) ≤ 5
    go true b = omega arith
    go false true = omega arith
    go false false = omega arith

-- no number that a session gives makes the text longer than the widest one
pub number_under : (n : ℕ) (first : Bool) (t : TransferModel)
    → length (transfer_text (record t { delivery_id = cond first (Some n) None })) ≤ length (transfer_text (numbered_widest first t))
unfolding transfer_table
number_under n false t = omega arith
number_under n true t =
    let post : List (List ℕ) = optional_text binary_text t.delivery_tag ∷ optional_text uint_text t.message_format ∷ optional_text boolean_text t.settled ∷ flag_text t.more
    ∷ optional_text receiver_mode_text t.rcv_settle_mode ∷ optional_text value_text t.state ∷ flag_text t.resume ∷ flag_text t.aborted ∷ flag_text t.batchable ∷ [] in
    let pre : List (List ℕ) = uint_text t.handle ∷ [] in
    let short : length (uint_text n) ≤ length (uint_text 4294967295) = uint_short n in
    let h = text_under (trim (pre ++ uint_text n ∷ post)) (trim (pre ++ uint_text 4294967295 ∷ post))
    (trim_under pre (uint_text n ∷ post) (uint_text 4294967295 ∷ post) (wider_under (uint_text n) (uint_text 4294967295) post short refl)) in
    omega arith
