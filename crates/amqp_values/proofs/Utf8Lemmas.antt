use Rattle.std.proofs.Common.{◌≡◌, ℕ, Bool, true, false, List, [], ◌∷◌, zero, suc, ◌<◌, get_or, ltb, ◌&&◌, Some, None, refl, arith}
use Rattle.std.specs.Prelude.{Result, Ok, Err, MatchResult, IsOk}
use Rattle.amqp_values.specs.Text.{var_at, string_at, is_ascii}
use Rattle.std.specs.Str.{IsUtf8, is_utf8}
use Rattle.std.proofs.lemmas.Str.{is_utf8-from_IsUtf8, IsUtf8-from_is_utf8, IsUtf8-from_ascii}
use Rattle.std.proofs.lemmas.Bool.{ltb-true}

pub utf8_true : (bs : List ℕ) → IsUtf8 bs → is_utf8 bs ≡ true
utf8_true bs h = is_utf8-from_IsUtf8 bs h

go : (bs : List ℕ) (b : Bool) → is_utf8 bs ≡ b → (IsUtf8 bs → ⊥) → b ≡ false
go bs true e h = absurd (h (IsUtf8-from_is_utf8 bs e))
go bs false e h = refl

pub utf8_false : (bs : List ℕ) → (IsUtf8 bs → ⊥) → is_utf8 bs ≡ false
utf8_false bs h = go bs (is_utf8 bs) refl h

pub string_is : (bytes t rest : List ℕ) → var_at 0xa1 0xb1 bytes ≡ Some (t, rest) → IsUtf8 t → string_at bytes ≡ Some (t, rest)
unfolding string_at
string_is bytes t rest e h = rw (e, utf8_true t h) refl

pub no_string : (bytes t rest : List ℕ) → var_at 0xa1 0xb1 bytes ≡ Some (t, rest) → (IsUtf8 t → ⊥) → string_at bytes ≡ None
unfolding string_at
no_string bytes t rest e h = rw (e, utf8_false t h) refl

both : (a b : Bool) → (a && b) ≡ true → (a ≡ true) × (b ≡ true)
both true b e = (refl, e)
both false b e = absurd cc

ascii_at : (bs : List ℕ) → is_ascii bs ≡ true → (i : ℕ) → get_or bs i 0 < 128
ascii_at [] h i = omega arith
ascii_at (b ∷ bs) h zero = let s = both (ltb b 128) (is_ascii bs) h in ltb-true b 128 s.0
ascii_at (b ∷ bs) h (suc i) = let s = both (ltb b 128) (is_ascii bs) h in ascii_at bs s.1 i

pub ascii_utf8 : (bs : List ℕ) → is_ascii bs ≡ true → IsUtf8 bs
ascii_utf8 bs h = IsUtf8-from_ascii bs (ascii_at bs h)

pub ok_of : {T E : Type 0} (r : Result T E) (P : T → Type 0) (Q : E → Type 0) → MatchResult r P Q → ((e : E) → Q e → ⊥) → IsOk r
ok_of (Ok x) P Q m h = refl
ok_of (Err e) P Q m h = absurd (h e m)
