-- Pieces that are read one after the other, by their heads.
use Rattle.std.proofs.Common.{◌≡◌, ℕ, zero, suc, ◌+◌, ◌<◌, ◌≤◌, ◌&&◌, List, [], ◌∷◌, ◌++◌, Bool, true, false, Option, Some, None, get_or, ltb, eqb, nat_lt, nat_eq, cond, take, refl, sym, ap, ◌∙◌, length, drop, arith, append_assoc}
use Rattle.std.proofs.lemmas.List.{append-nil, length-take-le}
use Rattle.std.proofs.Math.ListN.{drop_of_length-le}
use Rattle.std.proofs.lemmas.Bool.Decides.{nat_tests}
use Rattle.std.proofs.lemmas.Grind.{common_steps}
use Rattle.std.specs.Prelude.{Result, Ok, Err, MatchResult, IsOk}
use Rattle.amqp_values.specs.Text.{is_ascii}
use Rattle.std.proofs.lemmas.Bool.{ltb-true, ltb-false, ne_eqb}
use Rattle.std.specs.Str.{IsUtf8, is_utf8}
use Rattle.std.proofs.lemmas.Str.{is_utf8-from_IsUtf8, IsUtf8-from_is_utf8, IsUtf8-from_ascii}
use Rattle.amqp_values.specs.declared.error.ReadError.{ReadError}
use Rattle.amqp_values.specs.declared.error.ReadError.TheVariants.{Malformed, OutOfMemory}
use Rattle.amqp_values.specs.Reading.{◌>>=◌, Answers}
use Rattle.amqp1.specs.declared.logins.LoginHead.{LoginHead}
use Rattle.amqp1.specs.Logins.{all_in, front_in, text_in, no_size}

first_of : Option (List ℕ × List ℕ) → List ℕ
first_of None = []
first_of (Some x) = x.0

push_bind : {X : Type 0} (r : Option (List X)) (items : List X) (x : X)
    → (r >>= (λ o. Some (x ∷ o)) >>= λ o. Some (items ++ o)) ≡ (r >>= λ o. Some ((items ++ x ∷ []) ++ o))
push_bind None items x = refl
push_bind {X = X} (Some xs) items x = ap (λ (y : List X). Some y) (sym (append_assoc items (x ∷ []) xs))

-- a piece more was read
pub all_more : {X : Type 0} (one : LoginHead → List ℕ → Option (X × List ℕ)) (total : Option (List X)) (heads : List LoginHead) (i : ℕ) (h : LoginHead)
    (bytes rest : List ℕ) (x : X) (items : List X) → drop i heads ≡ h ∷ drop (i + 1) heads → one h bytes ≡ Some (x, rest)
    → total ≡ (all_in one (drop i heads) bytes >>= λ o. Some (items ++ o))
    → total ≡ (all_in one (drop (i + 1) heads) rest >>= λ o. Some ((items ++ x ∷ []) ++ o))
unfolding all_in
all_more {X = X} one total heads i h bytes rest x items is e so_far =
    so_far ∙ ap (λ (hs : List LoginHead). all_in one hs bytes >>= λ o. Some (items ++ o)) is
    ∙ ap (λ (r : Option (X × List ℕ)). (r >>= λ y. all_in one (drop (i + 1) heads) y.1 >>= λ others. Some (y.0 ∷ others)) >>= λ o. Some (items ++ o)) e
    ∙ push_bind (all_in one (drop (i + 1) heads) rest) items x

-- a piece was not read
all_fails : {X : Type 0} (one : LoginHead → List ℕ → Option (X × List ℕ)) (total : Option (List X)) (heads : List LoginHead) (i : ℕ) (h : LoginHead)
    (bytes : List ℕ) (items : List X) → drop i heads ≡ h ∷ drop (i + 1) heads → one h bytes ≡ None
    → total ≡ (all_in one (drop i heads) bytes >>= λ o. Some (items ++ o)) → total ≡ None
unfolding all_in
all_fails {X = X} one total heads i h bytes items is e so_far =
    so_far ∙ ap (λ (hs : List LoginHead). all_in one hs bytes >>= λ o. Some (items ++ o)) is
    ∙ ap (λ (r : Option (X × List ℕ)). (r >>= λ y. all_in one (drop (i + 1) heads) y.1 >>= λ others. Some (y.0 ∷ others)) >>= λ o. Some (items ++ o)) e

pub all_failed : {X Y Z : Type 0} (v : Z → X × List ℕ) (w : Y → List X) (e : ReadError) (one : LoginHead → List ℕ → Option (X × List ℕ))
    (total : Option (List X)) (heads : List LoginHead) (i : ℕ) (h : LoginHead) (bytes : List ℕ) (items : List X)
    → drop i heads ≡ h ∷ drop (i + 1) heads → Answers v (Err e) (one h bytes)
    → total ≡ (all_in one (drop i heads) bytes >>= λ o. Some (items ++ o)) → Answers w (Err e) total
all_failed v w Malformed one total heads i h bytes items is a so_far = all_fails one total heads i h bytes items is a so_far
all_failed v w OutOfMemory one total heads i h bytes items is a so_far = a

-- no head is left
at_end : {X : Type 0} (one : LoginHead → List ℕ → Option (X × List ℕ)) (total : Option (List X)) (heads : List LoginHead) (i : ℕ) (bytes : List ℕ)
    (items : List X) → length heads ≤ i → total ≡ (all_in one (drop i heads) bytes >>= λ o. Some (items ++ o))
    → total ≡ (all_in one [] bytes >>= λ o. Some (items ++ o))
at_end one total heads i bytes items le so_far =
    so_far ∙ ap (λ (hs : List LoginHead). all_in one hs bytes >>= λ o. Some (items ++ o)) (drop_of_length-le heads le)

pub all_done : {X : Type 0} (one : LoginHead → List ℕ → Option (X × List ℕ)) (total : Option (List X)) (heads : List LoginHead) (i : ℕ) (bytes : List ℕ)
    (items : List X) → length heads ≤ i → true ≡ eqb (length bytes) 0 → total ≡ (all_in one (drop i heads) bytes >>= λ o. Some (items ++ o)) → total ≡ Some items
unfolding all_in
all_done {X = X} one total heads i [] items le e so_far = at_end one total heads i [] items le so_far ∙ ap (λ (y : List X). Some y) (append-nil items)
all_done one total heads i (b ∷ bytes) items le e so_far = absurd (let f = e ∙ ne_eqb (suc (length bytes)) 0 (omega arith) in cc)

pub all_left : {X : Type 0} (one : LoginHead → List ℕ → Option (X × List ℕ)) (total : Option (List X)) (heads : List LoginHead) (i : ℕ) (bytes : List ℕ)
    (items : List X) → length heads ≤ i → false ≡ eqb (length bytes) 0 → total ≡ (all_in one (drop i heads) bytes >>= λ o. Some (items ++ o)) → total ≡ None
unfolding all_in
all_left one total heads i [] items le e so_far = absurd cc
all_left one total heads i (b ∷ bytes) items le e so_far = at_end one total heads i (b ∷ bytes) items le so_far

-- ---- texts

differs : (n k : ℕ) → ¬ (n ≡ k) → nat_eq n k ≡ false
differs n k h = grind (arith, nat_tests, common_steps)

both : (a b : Bool) → (a && b) ≡ true → (a ≡ true) × (b ≡ true)
both true b e = (refl, e)
both false b e = absurd cc

ascii_at : (bs : List ℕ) → is_ascii bs ≡ true → (i : ℕ) → get_or bs i 0 < 128
ascii_at [] h i = omega arith
ascii_at (b ∷ bs) h zero = let s = both (ltb b 128) (is_ascii bs) h in ltb-true b 128 s.0
ascii_at (b ∷ bs) h (suc i) = let s = both (ltb b 128) (is_ascii bs) h in ascii_at bs s.1 i

-- bytes of ASCII are UTF-8
pub ascii_utf8 : (bs : List ℕ) → is_ascii bs ≡ true → IsUtf8 bs
ascii_utf8 bs h = IsUtf8-from_ascii bs (ascii_at bs h)

pub ok_of : {T E : Type 0} (r : Result T E) (P : T → Type 0) (Q : E → Type 0) → MatchResult r P Q → ((e : E) → Q e → ⊥) → IsOk r
ok_of (Ok x) P Q m h = refl
ok_of (Err e) P Q m h = absurd (h e m)

-- what was read has its size
pub front_length : (size : ℕ) (bytes part rest : List ℕ) → Some (part, rest) ≡ front_in size bytes → length part ≡ size
unfolding front_in first_of
front_length size bytes part rest e = front_by (nat_lt (length bytes) size) refl e
  where
    whole : Option (List ℕ × List ℕ)
    whole = Some (take size bytes, drop size bytes)

    read : Option (List ℕ × List ℕ)
    read = Some (part, rest)

    front_by : (b : Bool) → nat_lt (length bytes) size ≡ b → read ≡ cond b None whole → length part ≡ size
    front_by true t f = absurd cc
    front_by false t f =
        let p : part ≡ take size bytes = ap first_of f in
        ap length p ∙ length-take-le size bytes (let k = ltb-false (length bytes) size t in omega arith)

utf8_is : (bs : List ℕ) (b : Bool) → is_utf8 bs ≡ b → (IsUtf8 bs → ⊥) → b ≡ false
utf8_is bs true e h = absurd (h (IsUtf8-from_is_utf8 bs e))
utf8_is bs false e h = refl

pub text_found : (size : ℕ) (bytes t rest said : List ℕ) → ¬ (size ≡ no_size) → Some (t, rest) ≡ front_in size bytes → said ≡ t → IsUtf8 t
    → Some (Some said, rest) ≡ text_in size bytes
unfolding text_in
text_found size bytes t rest said n e is h = rw (is, differs size no_size n, sym e, is_utf8-from_IsUtf8 t h) refl

pub text_not : (size : ℕ) (bytes t rest : List ℕ) → ¬ (size ≡ no_size) → Some (t, rest) ≡ front_in size bytes → (IsUtf8 t → ⊥)
    → None ≡ text_in size bytes
unfolding text_in
text_not size bytes t rest n e h = rw (differs size no_size n, sym e, utf8_is t (is_utf8 t) refl h) refl
