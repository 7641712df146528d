-- The ends of a pool's lists come after those of its free nodes.
use Rattle.std.proofs.Common.{◌≡◌, ℕ, suc, ◌+◌, ◌<◌, List, ◌∷◌, length, get_or, set, ap, sym, ◌∙◌, arith}
use Rattle.std.proofs.lemmas.List.{get_or_default}
use Rattle.auc_nodes.specs.Links.{end_of, no_ends}
use Rattle.auc_nodes.specs.declared.links.Ends.{Ends}

up : (k : ℕ) → k + 1 ≡ suc k
up k = omega arith

pub get_up : (f : Ends) (ends : List Ends) (k : ℕ) (d : Ends) → get_or (f ∷ ends) (k + 1) d ≡ get_or ends k d
get_up f ends k d = ap (λ (i : ℕ). get_or (f ∷ ends) i d) (up k)

pub set_up : (f : Ends) (ends : List Ends) (k : ℕ) (e : Ends) → set (f ∷ ends) (k + 1) e ≡ f ∷ set ends k e
set_up f ends k e = ap (λ (i : ℕ). set (f ∷ ends) i e) (up k)

pub list_below : (f : Ends) (ends : List Ends) (k : ℕ) → k + 1 < length (f ∷ ends) → k < length ends
list_below f ends k has = omega (arith, has)

-- what was read of a list's ends
pub read_up : (f : Ends) (ends : List Ends) (k : ℕ) (e : Ends) → e ≡ get_or ends k e → e ≡ get_or (f ∷ ends) (k + 1) e
read_up f ends k e read = read ∙ sym (get_up f ends k e)

-- the ends of a list, as they would be read
pub end_read : (f : Ends) (ends : List Ends) (k : ℕ) → k < length ends → end_of ends k ≡ get_or (f ∷ ends) (k + 1) (end_of ends k)
end_read f ends k lt = get_or_default ends k no_ends (end_of ends k) lt ∙ sym (get_up f ends k (end_of ends k))
