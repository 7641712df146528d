-- The cost of picks, summed pick by pick.
use Rattle.std.proofs.Common.{◌≡◌, ℕ, ◌+◌, ◌<◌, List, [], ◌∷◌, ◌++◌, length, get_or, take, ap, ◌∙◌, arith}
use Rattle.std.specs.Prelude.{◌+ℤ◌}
use Rattle.std.proofs.lemmas.Int.{ints}
use Rattle.std.proofs.lemmas.List.{take_more}
use Rattle.auc_claim.specs.declared.lists.Pick.{Pick}
use Rattle.auc_graph.specs.Assignment.{total_cost}
use Rattle.auc_claim.specs.Claim.{chosen}

cost_push : (k : ℕ) (xs : List Pick) (y : Pick) → total_cost (chosen k (xs ++ y ∷ [])) ≡ total_cost (chosen k xs) +ℤ y.cost
cost_push k [] y = omega (arith, ints)
cost_push k (x ∷ xs) y = omega (arith, ints, cost_push (k + 1) xs y)

pub cost_more : (xs : List Pick) (i : ℕ) (d : Pick) → i < length xs → total_cost (chosen 0 (take (i + 1) xs)) ≡ total_cost (chosen 0 (take i xs)) +ℤ (get_or xs i d).cost
cost_more xs i d lt = ap (λ (ys : List Pick). total_cost (chosen 0 ys)) (take_more xs i d lt) ∙ cost_push 0 (take i xs) (get_or xs i d)
