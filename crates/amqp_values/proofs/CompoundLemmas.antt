-- Regions and compound data: read exactly as they are spelled.
use Rattle.std.proofs.Common.{◌≡◌, ℕ, Bool, true, List, [], ◌∷◌, ◌++◌, length, Some, refl, sym, ap, subst, ◌∙◌}
use Rattle.std.proofs.lemmas.List.{append-nil}
use Rattle.amqp_values.specs.Reading.{◌>>=◌, count_at, region_at, is_empty, IsNumber}
use Rattle.amqp_values.proofs.ReaderLemmas.{bind_some, some_is}
use Rattle.amqp_values.proofs.RegionLemmas.{count_found, count_again, region_found, region_again}
use Rattle.amqp_values.specs.declared.format_class.FormatClass.{FormatClass}
use Rattle.amqp_values.specs.Walk.{ended, Level, inside, compound_of}

pub empty_is : (bytes : List ℕ) → is_empty bytes ≡ true → bytes ≡ []
empty_is [] e = refl
empty_is (b ∷ bytes) e = absurd cc

pub region_all : (wide : Bool) (size inner : List ℕ) → IsNumber wide size (length inner) → region_at wide (size ++ inner) ≡ Some (inner, [])
region_all wide size inner h = ap (region_at wide) (sym (append-nil (size ++ inner))) ∙ region_again wide size inner [] h

ended_found : (rest left after : List ℕ) → ended rest left ≡ Some after → (left ≡ []) × (rest ≡ after)
ended_found rest [] after e = (refl, some_is rest after e)
ended_found rest (b ∷ left) after e = absurd cc

-- data with a size, a count and a body: what stands in the body is read to its end
pub record Framed (l : Level) (k : FormatClass) (wide : Bool) (bytes rest : List ℕ) : Type 0 where
  pub size : List ℕ
  pub count : List ℕ
  pub body : List ℕ
  pub n : ℕ
  pub size_is : IsNumber wide size (length (count ++ body))
  pub count_is : IsNumber wide count n
  pub inside_is : inside l k n body ≡ Some []
  pub whole : bytes ≡ (size ++ (count ++ body)) ++ rest

framed : (size inner body bytes after rest : List ℕ) → bytes ≡ (size ++ inner) ++ after → inner ≡ body → after ≡ rest → bytes ≡ (size ++ body) ++ rest
framed size inner body bytes after rest e f g = e ∙ ap (λ (x : List ℕ). (size ++ x) ++ after) f ∙ ap (λ (x : List ℕ). (size ++ body) ++ x) g

pub compound_found : (l : Level) (k : FormatClass) (wide : Bool) (bytes rest : List ℕ) → compound_of (Some l) k wide bytes ≡ Some rest → Framed l k wide bytes rest
compound_found l k wide bytes rest e =
    let r = bind_some (region_at wide bytes) (λ region. count_at wide region.0 >>= λ count. inside l k count.0 count.1 >>= ended region.1) rest e in
    let c = bind_some (count_at wide r.0.0) (λ count. inside l k count.0 count.1 >>= ended r.0.1) rest r.2 in
    let i = bind_some (inside l k c.0.0 c.0.1) (ended r.0.1) rest c.2 in
    let d = ended_found r.0.1 i.0 rest i.2 in
    let f = region_found wide bytes r.0.0 r.0.1 r.1 in
    let n = count_found wide r.0.0 c.0.0 c.0.1 c.1 in
    record {
      size = f.0;
      count = n.0;
      body = c.0.1;
      n = c.0.0;
      size_is = subst (λ (x : List ℕ). IsNumber wide f.0 (length x)) n.2 f.1;
      count_is = n.1;
      inside_is = i.1 ∙ ap (λ (x : List ℕ). Some x) d.0;
      whole = framed f.0 r.0.0 (n.0 ++ c.0.1) bytes r.0.1 rest f.2 n.2 d.1;
    }

pub compound_again : (l : Level) (k : FormatClass) (wide : Bool) (size count body rest : List ℕ) (n : ℕ) → IsNumber wide size (length (count ++ body)) → IsNumber wide count n
    → inside l k n body ≡ Some [] → compound_of (Some l) k wide ((size ++ (count ++ body)) ++ rest) ≡ Some rest
compound_again l k wide size count body rest n s c i =
    rw (region_again wide size (count ++ body) rest s, count_again wide count n body c, i) refl
