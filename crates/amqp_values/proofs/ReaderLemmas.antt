-- Readers that read exactly a grammar, and what follows for the functions that answer as they do.
use Rattle.std.proofs.Common.{◌≡◌, ℕ, Bool, true, false, cond, List, ◌∷◌, ◌++◌, Option, Some, None, refl, ap, subst, ◌∙◌, inl, inr, ◌⊎◌}
use Rattle.std.specs.Prelude.{Result, Ok, Err, IfOk, IfErr}
use Rattle.amqp_memory.specs.Refusal.{SomeRefused}
use Rattle.amqp_values.specs.declared.error.ReadError.{ReadError}
use Rattle.amqp_values.specs.declared.error.ReadError.TheVariants.{Malformed, OutOfMemory}
use Rattle.amqp_values.specs.Reading.{◌>>=◌, Answers, Takes, ReadsFront}

-- ---- steps of a reader

-- each step before a result gave one
pub bind_some : {A B : Type 0} (r : Option A) (f : A → Option B) (y : B) → (r >>= f) ≡ Some y → (x : A) × (r ≡ Some x) × (f x ≡ Some y)
bind_some (Some x) f y e = (x, refl, e)
bind_some None f y e = absurd cc

pub some_is : {A : Type 0} (x y : A) → Some x ≡ Some y → x ≡ y
some_is x y e = cc

pub pair_is : {V S : Type 0} (v w : V) (p q : S) → ◌≡◌ {A = Option (V × S)} (Some (v, p)) (Some (w, q)) → (v ≡ w) × (p ≡ q)
pair_is {V} {S} v w p q e = let s : ◌≡◌ {A = V × S} (v, p) (w, q) = cc in (ap (λ (r : V × S). r.0) s, ap (λ (r : V × S). r.1) s)

-- which way a test went
pub chosen : {A : Type 0} (b : Bool) (x y z : A) → cond b x y ≡ z → ((b ≡ true) × (x ≡ z)) ⊎ ((b ≡ false) × (y ≡ z))
chosen true x y z e = inl (refl, e)
chosen false x y z e = inr (refl, e)

-- ---- readers and grammars

-- what is read is in the grammar, what is in the grammar is read, and a null is not read
pub record IsFormat {V : Type 0} (Is : V → List ℕ → Type 0) (at : List ℕ → Option (V × List ℕ)) : Type 0 where
  pub found : (bytes : List ℕ) (v : V) (rest : List ℕ) → at bytes ≡ Some (v, rest) → (text : List ℕ) × Is v text × (bytes ≡ text ++ rest)
  pub again : (v : V) (text rest : List ℕ) → Is v text → at (text ++ rest) ≡ Some (v, rest)
  pub no_null : (rest : List ℕ) → at (0x40 ∷ rest) ≡ None

reads_found : {V : Type 0} (Is : V → List ℕ → Type 0) (at : List ℕ → Option (V × List ℕ)) → IsFormat Is at → (bytes : List ℕ) (r : Result (V × List ℕ) ReadError)
    → Answers {Y = V × List ℕ} (λ x. x) r (at bytes) → IfOk r (λ x. Takes (Is x.0) bytes x.1)
reads_found Is at law bytes (Ok x) a = law.found bytes x.0 x.1 a
reads_found Is at law bytes (Err e) a = tt

reads_refused : {V : Type 0} (bytes : List ℕ) (r : Result (V × List ℕ) ReadError) (read : Option (V × List ℕ))
    → Answers {Y = V × List ℕ} (λ x. x) r read → IfErr r (λ e. e ≡ OutOfMemory → SomeRefused)
reads_refused bytes (Ok x) read a = tt
reads_refused bytes (Err Malformed) read a = λ e. absurd cc
reads_refused bytes (Err OutOfMemory) read a = λ e. a

-- a function that answers what such a reader gives reads exactly the grammar
pub is_read : {V : Type 0} (Is : V → List ℕ → Type 0) (at : List ℕ → Option (V × List ℕ)) → IsFormat Is at → (bytes : List ℕ) (r : Result (V × List ℕ) ReadError)
    → Answers {Y = V × List ℕ} (λ x. x) r (at bytes) → ReadsFront Is bytes r
is_read {V} Is at law bytes r a = record {
  found = reads_found Is at law bytes r a;
  refused = reads_refused bytes r (at bytes) a;
  only = λ v text rest h e. subst (λ (o : Option (V × List ℕ)). Answers {Y = V × List ℕ} (λ x. x) r o) (ap at e ∙ law.again v text rest h) a;
}
