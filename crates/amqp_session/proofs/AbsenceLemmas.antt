-- What is found missing.
use Rattle.std.proofs.Common.{◌≡◌, Option, Some, None, IsSome, is_some, Result, Ok, Err, IsOk, OnErr, true, false, refl, ap}

pub none_there : {X : Type 0} → (o : Option X) → is_some o ≡ false → o ≡ None
none_there None h = refl
none_there (Some x) h = absurd (cc)

-- nothing was found: so nothing is there
pub none_found : {X Y : Type 0} → (found : Option X) (there : Option Y) → is_some found ≡ is_some there → found ≡ None → there ≡ None
none_found found None e n = refl
none_found found (Some y) e n = absurd (let t : is_some found ≡ true = e in let x : is_some found ≡ false = ap is_some n in cc)

-- it was found: so it is there
pub some_found : {X Y : Type 0} → (found : Option X) (there : Option Y) (x : X) → is_some found ≡ is_some there → found ≡ Some x → IsSome there
some_found found None x e n = absurd (let t : is_some found ≡ false = e in let y : is_some found ≡ true = ap is_some n in cc)
some_found found (Some y) x e n = search

-- what is some thing is there
pub some_is : {X : Type 0} → (o : Option X) (x : X) → o ≡ Some x → IsSome o
some_is None x e = absurd (cc)
some_is (Some y) x e = search

-- where it holds whatever is answered, it holds of an error
pub on_any_err : {X E P : Type 0} → (r : Result X E) → P → OnErr r P
on_any_err (Ok x) h = tt
on_any_err (Err e) h = h

-- a value is put where its key has a value, or there is room
pub is_put : {X E P A : Type 0} → (r : Result X E) → (P → IsOk r) → OnErr r A → (A → P) → IsOk r
is_put (Ok x) succeeds absent room = search
is_put (Err e) succeeds absent room = succeeds (room absent)
