-- The phases of some problems, computed by the definitions.
use Rattle.std.proofs.Common.{◌≡◌, ℕ, zero, suc, List, [], ◌∷◌, refl, replicate}
use Rattle.std.specs.Prelude.{ℤ, pos, Option, Some, None}
use Rattle.auc_graph.specs.Table.{Table}
use Rattle.auc_phases.specs.Eps.{first_eps, next_eps}

-- the eps of a phase, if there is one, and of those after it, at most this number
abbrev phases : ℕ → Option ℤ → List ℤ
phases zero eps = []
phases (suc n) None = []
phases (suc n) (Some eps) = eps ∷ phases n (next_eps eps)

-- rows of this number of persons, without arcs
abbrev persons_with_spread : ℕ → ℤ → Table
persons_with_spread n spread = record { objects = n; spread = spread; rows = replicate n [] }

three_persons : phases 9 (Some (first_eps (persons_with_spread 3 (pos 5)))) ≡ pos 2 ∷ pos 1 ∷ []
three_persons = refl

five_thousand_persons : phases 9 (Some (first_eps (persons_with_spread 5000 (pos 100)))) ≡ pos 62512 ∷ pos 12502 ∷ pos 2500 ∷ pos 500 ∷ pos 100 ∷ pos 20 ∷ pos 4 ∷ pos 1 ∷ []
five_thousand_persons = refl

one_person : phases 9 (Some (first_eps (persons_with_spread 1 (pos 0)))) ≡ pos 1 ∷ []
one_person = refl
