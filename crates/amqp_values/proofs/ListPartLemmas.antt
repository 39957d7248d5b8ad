-- The parts of lists and maps are cut where the grammar cuts them.
use Rattle.std.proofs.Common.{eqb, true, ◌≡◌, ◌≢◌, ℕ, zero, suc, ◌-◌, ◌≤◌, Bool, List, [], ◌∷◌, ◌++◌, length, take, drop, Some, None, refl, sym, ap, subst, ◌∙◌, arith}
use Rattle.std.proofs.lemmas.Bool.{eq-eqb, ne_eqb}
use Rattle.std.proofs.lemmas.List.{drop_at}
use Rattle.amqp_values.specs.Reading.{◌>>=◌, byte_at, count_at, region_at, IsNumber, joined}
use Rattle.amqp_values.proofs.ReaderLemmas.{bind_some, pair_is}
use Rattle.amqp_values.specs.declared.format_class.FormatClass.{FormatClass}
use Rattle.amqp_values.specs.FormatClass.{class_of}
use Rattle.amqp_values.specs.Walk.{value_at}
use Rattle.amqp_values.specs.Grammar as g
use Rattle.amqp_values.specs.Grammar.{IsValue, Data, Values, no_values, more_values}
use Rattle.amqp_values.specs.Parts.{ItemsIn, no_items, list_items, map_items, IsItems, front_at, parts_at, AllParts, open_in, open_at, IsDescribed, halves_at}
use Rattle.amqp_values.proofs.CompoundLemmas.{region_all}
use Rattle.amqp_values.proofs.RegionLemmas.{count_again}
use Rattle.amqp_values.proofs.RawValueLemmas.{value_reads, value_is_read, cut_is}
use Rattle.amqp_values.proofs.DepthLemmas.{value_up, values_up}
use Rattle.amqp_values.proofs.GrammarReadLemmas.{not_zero}

front_found : (bytes a b : List ℕ) → front_at bytes ≡ Some (a, b) → IsValue 64 a × (bytes ≡ a ++ b)
unfolding front_at
front_found bytes a b e =
    let r = bind_some (value_at 64 bytes) (λ rest. Some (take (length bytes - length rest) bytes, drop (length bytes - length rest) bytes)) (a, b) e in
    let f = value_reads 64 bytes r.0 r.1 in
    let s = pair_is (take (length bytes - length r.0) bytes) a (drop (length bytes - length r.0) bytes) b r.2 in
    let cut : f.0 ≡ a = sym (cut_is f.0 r.0).0 ∙ ap (λ (x : List ℕ). take (length x - length r.0) x) (sym f.2) ∙ s.0 in
    let left : r.0 ≡ b = sym (cut_is f.0 r.0).1 ∙ ap (λ (x : List ℕ). drop (length x - length r.0) x) (sym f.2) ∙ s.1 in
    (subst (IsValue 64) cut f.1, f.2 ∙ ap (λ (x : List ℕ). x ++ r.0) cut ∙ ap (λ (x : List ℕ). a ++ x) left)

front_again : (a b : List ℕ) → IsValue 64 a → front_at (a ++ b) ≡ Some (a, b)
unfolding front_at
front_again a b v = rw (value_is_read 64 a v b, (cut_is a b).0, (cut_is a b).1) refl

parts_again : (d : ℕ) (parts : List (List ℕ)) → d ≡ 64 → Values d parts → parts_at (length parts) (joined parts) ≡ parts
unfolding parts_at
parts_again d _ e (no_values _) = refl
parts_again d _ e (more_values _ part parts v h) =
    rw (front_again part (joined parts) (subst (λ n. IsValue n part) e v)) (ap (λ (x : List (List ℕ)). part ∷ x) (parts_again d parts e h))

-- ---- one step

pub next_none : (n : ℕ) (bytes : List ℕ) → AllParts n bytes → n ≢ 0 → front_at bytes ≡ None → ⊥
unfolding parts_at
next_none zero bytes h ne e = ne refl
next_none (suc n) bytes h ne e =
    let empty : parts_at (suc n) bytes ≡ [] = rw e refl in
    let count : suc n ≡ 0 = h.count ∙ ap length empty in
    absurd (omega arith)

pub next_parts : (n : ℕ) (bytes a b : List ℕ) → n ≢ 0 → front_at bytes ≡ Some (a, b) → parts_at n bytes ≡ a ∷ parts_at (n - 1) b
unfolding parts_at
next_parts zero bytes a b ne e = absurd (ne refl)
next_parts (suc n) bytes a b ne e = let m : suc n - 1 ≡ n = omega arith in rw (e, m) refl

tail : (d : ℕ) (part : List ℕ) (parts : List (List ℕ)) → Values d (part ∷ parts) → Values d parts
tail d part parts (more_values _ _ _ v h) = h

pub next_all : (n : ℕ) (bytes a b : List ℕ) → AllParts n bytes → n ≢ 0 → front_at bytes ≡ Some (a, b) → AllParts (n - 1) b
next_all n bytes a b h ne e =
    let p = next_parts n bytes a b ne e in
    let f = front_found bytes a b e in
    let whole : a ++ b ≡ a ++ joined (parts_at (n - 1) b) = sym f.1 ∙ h.whole ∙ ap joined p in
    record {
      values = tail 64 a (parts_at (n - 1) b) (subst (Values 64) p h.values);
      whole = sym (drop_at a b (length a) refl) ∙ ap (drop (length a)) whole ∙ drop_at a (joined (parts_at (n - 1) b)) (length a) refl;
      count = let c : length (parts_at n bytes) ≡ suc (length (parts_at (n - 1) b)) = ap length p in omega (arith, h.count, c);
    }

pub next_value : (bytes a b : List ℕ) → front_at bytes ≡ Some (a, b) → IsValue 64 a
next_value bytes a b e = (front_found bytes a b e).0

pub no_more : (bytes : List ℕ) (n : ℕ) → n ≡ 0 → parts_at n bytes ≡ []
unfolding parts_at
no_more bytes n e = rw e refl

-- ---- opening a list or a map

open_is : (wide : Bool) (size count : List ℕ) (parts : List (List ℕ)) → IsNumber wide size (length (count ++ joined parts)) → IsNumber wide count (length parts)
    → (region_at wide (size ++ (count ++ joined parts)) >>= λ r. count_at wide r.0) ≡ Some (length parts, joined parts)
open_is wide size count parts s c = rw (region_all wide size (count ++ joined parts) s) (count_again wide count (length parts) (joined parts) c)

open_again : (k : FormatClass) (body : List ℕ) (parts : List (List ℕ)) → ItemsIn k body parts → open_in k body ≡ Some (length parts, joined parts)
open_again _ _ _ no_items = refl
open_again _ _ _ (list_items wide size count parts s c h) = open_is wide size count parts s c
open_again _ _ _ (map_items wide size count parts s c even h) = open_is wide size count parts s c

items_values : (k : FormatClass) (body : List ℕ) (parts : List (List ℕ)) → ItemsIn k body parts → Values 64 parts
items_values _ _ _ no_items = no_values 64
items_values _ _ _ (list_items wide size count parts s c h) = h
items_values _ _ _ (map_items wide size count parts s c even h) = h

-- what an opened value has before it are its items
opens : (d : ℕ) (k : FormatClass) (body : List ℕ) → d ≤ 64 → Data d k body → (n : ℕ) (bytes : List ℕ) → open_in k body ≡ Some (n, bytes) → (parts : List (List ℕ)) × ItemsIn k body parts
opens d _ _ le (g.fixed _ body) n bytes e = absurd cc
opens d _ _ le (g.flag _ b h) n bytes e = absurd cc
opens d _ _ le (g.variable _ wide size body h) n bytes e = absurd cc
opens _ _ _ le (g.list0 d) n bytes e = ([], no_items)
opens _ _ _ le (g.list d wide size count parts s c h) n bytes e = (parts, list_items wide size count parts s c (values_up d 64 parts (omega arith) h))
opens _ _ _ le (g.map d wide size count parts s c even h) n bytes e = (parts, map_items wide size count parts s c even (values_up d 64 parts (omega arith) h))
opens _ _ _ le (g.array d wide size count constructor elements s c h) n bytes e = absurd cc
opens _ _ _ le (g.no_elements d wide size count constructor s c h) n bytes e = absurd cc
opens _ _ _ le (g.bare d wide size count s c) n bytes e = absurd cc

all_parts : (parts : List (List ℕ)) (n : ℕ) (bytes : List ℕ) → Values 64 parts → n ≡ length parts → bytes ≡ joined parts → AllParts n bytes × (parts_at n bytes ≡ parts)
all_parts parts n bytes h c w =
    let same : parts_at n bytes ≡ parts = ap (λ m. parts_at m bytes) c ∙ ap (parts_at (length parts)) w ∙ parts_again 64 parts refl h in
    (record { values = subst (Values 64) (sym same) h; whole = w ∙ ap joined (sym same); count = c ∙ ap length (sym same) }, same)

pub opened : (d : ℕ) (whole : List ℕ) → d ≤ 64 → IsValue d whole → (n : ℕ) (bytes : List ℕ) → open_at whole ≡ Some (n, bytes) → AllParts n bytes × IsItems whole (parts_at n bytes)
unfolding open_at
opened d _ le (g.plain _ code body h) n bytes e =
    let f = opens d (class_of code) body le h n bytes e in
    let s = pair_is n (length f.0) bytes (joined f.0) (sym e ∙ open_again (class_of code) body f.0 f.1) in
    let a = all_parts f.0 n bytes (items_values (class_of code) body f.0 f.1) s.0 s.1 in
    (a.0, record { code = code; body = body; whole = refl; items = subst (ItemsIn (class_of code) body) (sym a.1) f.1 })
opened _ _ le (g.described d descriptor value v w) n bytes e = absurd cc

pub shut : (whole : List ℕ) → open_at whole ≡ None → (parts : List (List ℕ)) → IsItems whole parts → ⊥
unfolding open_at
shut whole e parts i =
    let none : open_in (class_of i.code) i.body ≡ None = sym (ap (λ (x : List ℕ). byte_at x >>= λ c. open_in (class_of c.0) c.1) i.whole) ∙ e in
    let some = open_again (class_of i.code) i.body parts i.items in
    absurd cc

halves_is : (a b : List ℕ) → IsValue 64 a → halves_at (0x00 ∷ a ++ b) ≡ Some (a, b)
unfolding halves_at
halves_is a b v = front_again a b v

no_halves : (code : ℕ) (bytes : List ℕ) → (code ≡ 0 → ⊥) → halves_at (code ∷ bytes) ≡ None
unfolding halves_at
no_halves code bytes ne = rw (ne_eqb code 0 ne) refl

pub halved : (d : ℕ) (whole : List ℕ) → d ≤ 64 → IsValue d whole → (a b : List ℕ) → halves_at whole ≡ Some (a, b) → IsDescribed whole a b
halved d _ le (g.plain _ code body h) a b e =
    let apart : code ≡ 0 → ⊥ = λ z. let t : eqb code 0 ≡ true = eq-eqb code 0 z in let f = not_zero d code body h in absurd cc in
    let none = no_halves code body apart in
    absurd cc
halved _ _ le (g.described d descriptor value v w) a b e =
    let up_v : IsValue 64 descriptor = value_up d 64 descriptor (omega arith) v in
    let up_w : IsValue 64 value = value_up d 64 value (omega arith) w in
    let s = pair_is descriptor a value b (sym (halves_is descriptor value up_v) ∙ e) in
    record {
      whole = ap (λ (x : List ℕ). 0x00 ∷ x ++ value) s.0 ∙ ap (λ (x : List ℕ). 0x00 ∷ a ++ x) s.1;
      descriptor_is = subst (IsValue 64) s.0 up_v;
      inner_is = subst (IsValue 64) s.1 up_w;
    }

pub unhalved : (whole : List ℕ) → halves_at whole ≡ None → (a b : List ℕ) → IsDescribed whole a b → ⊥
unhalved whole e a b h =
    let some : halves_at whole ≡ Some (a, b) = ap halves_at h.whole ∙ halves_is a b h.descriptor_is in
    absurd cc

-- a value has a first byte
pub coded : (d : ℕ) (bytes : List ℕ) → IsValue d bytes → (code : ℕ) × (others : List ℕ) × (bytes ≡ code ∷ others)
coded d _ (g.plain _ code bytes h) = (code, bytes, refl)
coded _ _ (g.described d descriptor value v w) = (0x00, descriptor ++ value, refl)
