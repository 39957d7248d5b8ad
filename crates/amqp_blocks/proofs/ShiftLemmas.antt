-- Running lengths of which those from a place on are shifted.
use Rattle.std.proofs.Common.{◌≡◌, ℕ, zero, suc, ◌+◌, ◌-◌, ◌<◌, ◌≤◌, ◌%◌, ◌^◌, arith, List, [], ◌∷◌, ◌++◌, length, take, drop, map, ap, sym, ◌∙◌, refl, get_or, set}
use Rattle.std.proofs.Math.Nat.{mod-add-mod, add-mod-mod, add-mod_right, mod-eq_of_lt, mod-lt}
use Rattle.std.specs.List.{insert, remove}
use Rattle.std.proofs.lemmas.List.{take-map, drop-map}
use Rattle.amqp_blocks.specs.Inner.Shifted.{plain, more, shifted, over}

twice : (s t e : ℕ) → more t (more s e) ≡ (e + (s + t)) % 2 ^ 64
twice s t e =
    let z : e + s + t ≡ e + (s + t) = omega arith in
    mod-add-mod (e + s) (2 ^ 64) t ∙ ap (λ n. n % 2 ^ 64) z

swap : (s t e : ℕ) → more s (more t e) ≡ more t (more s e)
swap s t e =
    let z : e + (t + s) ≡ e + (s + t) = omega arith in
    twice t s e ∙ ap (λ n. n % 2 ^ 64) z ∙ sym (twice s t e)

together : (s t e : ℕ) → more ((s + t) % 2 ^ 64) e ≡ more t (more s e)
together s t e = add-mod-mod e (s + t) (2 ^ 64) ∙ sym (twice s t e)

plain_more : (s e : ℕ) → plain (more s e) ≡ more s e
plain_more s e = mod-eq_of_lt (mod-lt (e + s) (omega arith))

more_plain : (s e : ℕ) → more s (plain e) ≡ more s e
more_plain s e = mod-add-mod e (2 ^ 64) s

-- two shifts that are nothing together
back : (s t e : ℕ) → (t + s) % 2 ^ 64 ≡ 0 → more s (more t e) ≡ plain e
back s t e h =
    let z : e + 0 ≡ e = omega arith in
    twice t s e ∙ sym (add-mod-mod e (t + s) (2 ^ 64)) ∙ ap (λ n. (e + n) % 2 ^ 64) h ∙ ap plain z

-- what is less by a shift, and then more by it
pub undone : (s : ℕ) → s < 2 ^ 64 → ((0 + (2 ^ 64 - s)) % 2 ^ 64 + s) % 2 ^ 64 ≡ 0
undone s h =
    let z : 0 + (2 ^ 64 - s) + s ≡ 0 + 2 ^ 64 = omega (arith, h) in
    mod-add-mod (0 + (2 ^ 64 - s)) (2 ^ 64) s ∙ ap plain z ∙ add-mod_right 0 (2 ^ 64)

pub over_from : (a n : ℕ) (f : ℕ → ℕ) (xs : List ℕ) → length xs ≤ a + n → over a n f xs ≡ take a xs ++ map f (drop a xs)
over_from zero zero f [] h = refl
over_from zero zero f (x ∷ xs) h = absurd (omega (arith, h))
over_from zero (suc n) f [] h = refl
over_from zero (suc n) f (x ∷ xs) h = ap (λ ys. f x ∷ ys) (over_from zero n f xs (omega (arith, h)))
over_from (suc a) n f [] h = refl
over_from (suc a) n f (x ∷ xs) h = ap (λ ys. x ∷ ys) (over_from a n f xs (omega (arith, h)))

pub over_to : (n : ℕ) (f : ℕ → ℕ) (xs : List ℕ) → over zero n f xs ≡ map f (take n xs) ++ drop n xs
over_to zero f xs = refl
over_to (suc n) f [] = refl
over_to (suc n) f (x ∷ xs) = ap (λ ys. f x ∷ ys) (over_to n f xs)

-- one number more
over_one : (n : ℕ) (f : ℕ → ℕ) (d : ℕ) (xs : List ℕ) → n < length xs → set (over zero n f xs) n (f (get_or (over zero n f xs) n d)) ≡ over zero (suc n) f xs
over_one n f d [] h = absurd (omega (arith, h))
over_one zero f d (x ∷ xs) h = refl
over_one (suc n) f d (x ∷ xs) h = ap (λ ys. f x ∷ ys) (over_one n f d xs (omega (arith, h)))

pub over_more : (a n q : ℕ) (f : ℕ → ℕ) (d : ℕ) (xs : List ℕ) → q ≡ a + n → q < length xs → set (over a n f xs) q (f (get_or (over a n f xs) q d)) ≡ over a (suc n) f xs
over_more zero n q f d xs e h =
    let z : q ≡ n = omega (arith, e) in
    ap (λ k. set (over zero n f xs) k (f (get_or (over zero n f xs) k d))) z ∙ over_one n f d xs (omega (arith, h, z))
over_more (suc a) n q f d [] e h = absurd (omega (arith, h))
over_more (suc a) n zero f d (x ∷ xs) e h = absurd (omega (arith, e))
over_more (suc a) n (suc q) f d (x ∷ xs) e h = ap (λ ys. x ∷ ys) (over_more a n q f d xs (omega (arith, e)) (omega (arith, h)))

pub over_none : (a : ℕ) (f : ℕ → ℕ) (xs : List ℕ) → over a zero f xs ≡ xs
over_none zero f xs = refl
over_none (suc a) f [] = refl
over_none (suc a) f (x ∷ xs) = ap (λ ys. x ∷ ys) (over_none a f xs)

pub over_long : (a n : ℕ) (f : ℕ → ℕ) (xs : List ℕ) → length (over a n f xs) ≡ length xs
over_long zero zero f xs = refl
over_long zero (suc n) f [] = refl
over_long zero (suc n) f (x ∷ xs) = ap suc (over_long zero n f xs)
over_long (suc a) n f [] = refl
over_long (suc a) n f (x ∷ xs) = ap suc (over_long a n f xs)

-- the numbers up to a later place are written, and the shift begins there
pub later : (a n q s : ℕ) (xs : List ℕ) → q ≡ a + n → shifted q s (over a n (more s) xs) ≡ shifted a s xs
later zero zero zero s xs e = refl
later zero zero (suc q) s xs e = absurd (omega (arith, e))
later zero (suc n) zero s xs e = absurd (omega (arith, e))
later zero (suc n) (suc q) s [] e = refl
later zero (suc n) (suc q) s (x ∷ xs) e = ap (λ y. y ∷ shifted q s (over zero n (more s) xs)) (plain_more s x) ∙ ap (λ ys. more s x ∷ ys) (later zero n q s xs (omega (arith, e)))
later (suc a) n zero s xs e = absurd (omega (arith, e))
later (suc a) n (suc q) s [] e = refl
later (suc a) n (suc q) s (x ∷ xs) e = ap (λ ys. plain x ∷ ys) (later a n q s xs (omega (arith, e)))

-- the numbers from an earlier place on are unwritten, and the shift begins there
pub earlier : (a n q s t : ℕ) (xs : List ℕ) → q ≡ a + n → (t + s) % 2 ^ 64 ≡ 0 → shifted a s (over a n (more t) xs) ≡ shifted q s xs
earlier zero zero zero s t xs e h = refl
earlier zero zero (suc q) s t xs e h = absurd (omega (arith, e))
earlier zero (suc n) zero s t xs e h = absurd (omega (arith, e))
earlier zero (suc n) (suc q) s t [] e h = refl
earlier zero (suc n) (suc q) s t (x ∷ xs) e h = ap (λ y. y ∷ shifted zero s (over zero n (more t) xs)) (back s t x h) ∙ ap (λ ys. plain x ∷ ys) (earlier zero n q s t xs (omega (arith, e)) h)
earlier (suc a) n zero s t xs e h = absurd (omega (arith, e))
earlier (suc a) n (suc q) s t [] e h = refl
earlier (suc a) n (suc q) s t (x ∷ xs) e h = ap (λ ys. plain x ∷ ys) (earlier a n q s t xs (omega (arith, e)) h)

-- numbers that are written so much more are so much more
pub written : (p s a n t : ℕ) (xs : List ℕ) → shifted p s (over a n (more t) xs) ≡ over a n (more t) (shifted p s xs)
written p s zero zero t xs = refl
written zero s zero (suc n) t [] = refl
written (suc p) s zero (suc n) t [] = refl
written zero s zero (suc n) t (x ∷ xs) = ap (λ y. y ∷ shifted zero s (over zero n (more t) xs)) (swap s t x) ∙ ap (λ ys. more t (more s x) ∷ ys) (written zero s zero n t xs)
written (suc p) s zero (suc n) t (x ∷ xs) = ap (λ y. y ∷ shifted p s (over zero n (more t) xs)) (plain_more t x ∙ sym (more_plain t x)) ∙ ap (λ ys. more t (plain x) ∷ ys) (written p s zero n t xs)
written zero s (suc a) n t [] = refl
written (suc p) s (suc a) n t [] = refl
written zero s (suc a) n t (x ∷ xs) = ap (λ ys. more s x ∷ ys) (written zero s a n t xs)
written (suc p) s (suc a) n t (x ∷ xs) = ap (λ ys. plain x ∷ ys) (written p s a n t xs)

all_together : (s t : ℕ) (xs : List ℕ) → map (more ((s + t) % 2 ^ 64)) xs ≡ map (more t) (map (more s) xs)
all_together s t [] = refl
all_together s t (x ∷ xs) = ap (λ y. y ∷ map (more ((s + t) % 2 ^ 64)) xs) (together s t x) ∙ ap (λ ys. more t (more s x) ∷ ys) (all_together s t xs)

-- a greater shift from the same place on
pub greater : (p s t : ℕ) (xs : List ℕ) → shifted p ((s + t) % 2 ^ 64) xs ≡ take p (shifted p s xs) ++ map (more t) (drop p (shifted p s xs))
greater zero s t xs = all_together s t xs
greater (suc p) s t [] = refl
greater (suc p) s t (x ∷ xs) = ap (λ ys. plain x ∷ ys) (greater p s t xs)

pub long : (p s : ℕ) (xs : List ℕ) → length (shifted p s xs) ≡ length xs
long zero s [] = refl
long zero s (x ∷ xs) = ap suc (long zero s xs)
long (suc p) s [] = refl
long (suc p) s (x ∷ xs) = ap suc (long p s xs)

pub before : (p s i d : ℕ) (xs : List ℕ) → i < p → i < length xs → get_or (shifted p s xs) i d ≡ plain (get_or xs i d)
before zero s i d xs h l = absurd (omega (arith, h))
before (suc p) s i d [] h l = absurd (omega (arith, l))
before (suc p) s zero d (x ∷ xs) h l = refl
before (suc p) s (suc i) d (x ∷ xs) h l = before p s i d xs (omega (arith, h)) (omega (arith, l))

pub after : (p s i d : ℕ) (xs : List ℕ) → p ≤ i → i < length xs → get_or (shifted p s xs) i d ≡ more s (get_or xs i d)
after p s i d [] h l = absurd (omega (arith, l))
after zero s zero d (x ∷ xs) h l = refl
after zero s (suc i) d (x ∷ xs) h l = after zero s i d xs (omega arith) (omega (arith, l))
after (suc p) s zero d (x ∷ xs) h l = absurd (omega (arith, h))
after (suc p) s (suc i) d (x ∷ xs) h l = after p s i d xs (omega (arith, h)) (omega (arith, l))

-- where none is shifted
pub all_plain : (p s : ℕ) (xs : List ℕ) → length xs ≤ p → shifted p s xs ≡ map plain xs
all_plain zero s [] h = refl
all_plain zero s (x ∷ xs) h = absurd (omega (arith, h))
all_plain (suc p) s [] h = refl
all_plain (suc p) s (x ∷ xs) h = ap (λ ys. plain x ∷ ys) (all_plain p s xs (omega (arith, h)))

pub small : (p s i : ℕ) (xs : List ℕ) → i < length (shifted p s xs) → get_or (shifted p s xs) i 0 < 2 ^ 64
small zero s i [] h = absurd (omega (arith, h))
small zero s zero (x ∷ xs) h = mod-lt (x + s) (omega arith)
small zero s (suc i) (x ∷ xs) h = small zero s i xs (omega (arith, h))
small (suc p) s i [] h = absurd (omega (arith, h))
small (suc p) s zero (x ∷ xs) h = mod-lt x (omega arith)
small (suc p) s (suc i) (x ∷ xs) h = small p s i xs (omega (arith, h))

map_same : (f g : ℕ → ℕ) (xs : List ℕ) → ((i : ℕ) → i < length xs → f (get_or xs i 0) ≡ g (get_or xs i 0)) → map f xs ≡ map g xs
map_same f g [] h = refl
map_same f g (x ∷ xs) h = ap (λ y. y ∷ map f xs) (h 0 (omega arith)) ∙ ap (λ ys. g x ∷ ys) (map_same f g xs (λ i l. h (suc i) (omega (arith, l))))

pub raised : (n : ℕ) (xs : List ℕ) → ((i : ℕ) → i < length xs → get_or xs i 0 + n < 2 ^ 64) → map (more n) xs ≡ map (λ e. e + n) xs
raised n xs h = map_same (more n) (λ e. e + n) xs (λ i l. mod-eq_of_lt (h i l))

less : (n e : ℕ) → n ≤ e → e < 2 ^ 64 → more ((0 + (2 ^ 64 - n)) % 2 ^ 64) e ≡ e - n
less n e h b =
    let z : e + (0 + (2 ^ 64 - n)) ≡ e - n + 2 ^ 64 = omega (arith, h, b) in
    add-mod-mod e (0 + (2 ^ 64 - n)) (2 ^ 64) ∙ ap plain z ∙ add-mod_right (e - n) (2 ^ 64) ∙ mod-eq_of_lt (omega (arith, b))

pub lowered : (n : ℕ) (xs : List ℕ) → ((i : ℕ) → i < length xs → n ≤ get_or xs i 0) → ((i : ℕ) → i < length xs → get_or xs i 0 < 2 ^ 64) → map (more ((0 + (2 ^ 64 - n)) % 2 ^ 64)) xs ≡ map (λ e. e - n) xs
lowered n xs h b = map_same (more ((0 + (2 ^ 64 - n)) % 2 ^ 64)) (λ e. e - n) xs (λ i l. less n (get_or xs i 0) (h i l) (b i l))

-- what is small is so from a place on
pub small_after : (a : ℕ) (xs : List ℕ) → ((i : ℕ) → i < length xs → get_or xs i 0 < 2 ^ 64) → (i : ℕ) → i < length (drop a xs) → get_or (drop a xs) i 0 < 2 ^ 64
small_after zero xs b i l = b i l
small_after (suc a) [] b i l = absurd (omega (arith, l))
small_after (suc a) (x ∷ xs) b i l = small_after a xs (λ j m. b (suc j) (omega (arith, m))) i l

module _ {X : Type 0} where
  pub map_insert : (f : X → X) (xs : List X) (i : ℕ) (x : X) → map f (insert xs i x) ≡ insert (map f xs) i (f x)
  map_insert f xs zero x = refl
  map_insert f [] (suc i) x = refl
  map_insert f (y ∷ ys) (suc i) x = ap (λ zs. f y ∷ zs) (map_insert f ys i x)

  pub map_remove : (f : X → X) (xs : List X) (i : ℕ) → map f (remove xs i) ≡ remove (map f xs) i
  map_remove f [] zero = refl
  map_remove f [] (suc i) = refl
  map_remove f (y ∷ ys) zero = refl
  map_remove f (y ∷ ys) (suc i) = ap (λ zs. f y ∷ zs) (map_remove f ys i)

  map_join : (f : X → X) (xs ys : List X) → map f (xs ++ ys) ≡ map f xs ++ map f ys
  map_join f [] ys = refl
  map_join f (x ∷ xs) ys = ap (λ zs. f x ∷ zs) (map_join f xs ys)

  pub map_without : (f : X → X) (xs : List X) (i j : ℕ) → map f (take i xs ++ drop j xs) ≡ take i (map f xs) ++ drop j (map f xs)
  map_without f xs i j = map_join f (take i xs) (drop j xs) ∙ ap (λ ys. ys ++ map f (drop j xs)) (sym (take-map f i xs)) ∙ ap (λ ys. take i (map f xs) ++ ys) (sym (drop-map f j xs))
