-- A walk over the parts of a list or a map gives them all.
use Rattle.std.proofs.Common.{◌≡◌, ℕ, ◌≤◌, List, [], ◌∷◌, ◌++◌, length, refl, ap, subst, ◌∙◌, arith}
use Rattle.std.proofs.lemmas.List.{length-append, append-nil}
use Rattle.amqp_values.specs.Parts.{IsItems}
use Rattle.amqp_types.specs.Items.{Gave, nothing_yet, one_more, WalksGiveItems}

given_first : (items parts left : List (List ℕ)) → Gave items parts left → items ≡ parts ++ left
given_first _ _ _ (nothing_yet items) = refl
given_first _ _ _ (one_more items part others parts left gives gave) = gives ∙ ap (λ (x : List (List ℕ)). part ∷ x) (given_first others parts left gave)

no_more : (items parts left : List (List ℕ)) → items ≡ parts ++ left → length parts ≤ length items
no_more items parts left e = let n = ap length e in let l = length-append parts left in omega arith

all_given : (items parts left : List (List ℕ)) → items ≡ parts ++ left → left ≡ [] → items ≡ parts
all_given items parts left e none = e ∙ ap (λ (x : List (List ℕ)). parts ++ x) none ∙ append-nil parts

pub walks_give_items : WalksGiveItems
walks_give_items bytes items parts left lent gave =
    let e = given_first items parts left gave in
    (no_more items parts left e, λ after ends. subst (λ (x : List (List ℕ)). IsItems bytes x) (all_given items parts left e ends.0) lent)
