-- The dual bound as it is computed: the values of arcs have 64 bits, and the table of least values adds up to the
-- bound.
use Rattle.std.proofs.Common.{◌≡◌, ℕ, ◌+◌, ◌-◌, ◌*◌, ◌^◌, ◌<◌, ◌≤◌, List, [], ◌∷◌, ◌++◌, length, get_or, take, ap, ◌∙◌, arith}
use Rattle.std.specs.Prelude.{ℤ, pos, neg_ℤ, ◌+ℤ◌, ◌-ℤ◌, ◌*ℤ◌, ◌≤ℤ◌, unsigned_abs, All, FitsSigned}
use Rattle.std.specs.Int.{w64}
use Rattle.std.proofs.Math.Nat.{mul-le-mul_left}
use Rattle.std.proofs.lemmas.Int.{ints, unsigned_abs-mul}
use Rattle.std.proofs.lemmas.List.{take_more}
use Rattle.std.proofs.lemmas.List.Elements.{All-get_or}
use Rattle.auc_graph.specs.declared.arc.Arc.{Arc}
use Rattle.auc_graph.specs.declared.limits.TheConstants.{MOST_PERSONS, MOST_COST}
use Rattle.auc_graph.specs.Problem.{Problem, IsProblem}
use Rattle.auc_graph.specs.Assignment.{total}
use Rattle.auc_graph.specs.Price.{IsPrice}
use Rattle.auc_graph.specs.Dual.{arc_value, lowest, values, dual, scale_of, EachHasArc}
use Rattle.auc_graph.proofs.LeastLaws.{table_is}

-- ---- sums, number by number

total_push : (xs : List ℤ) (y : ℤ) → total (xs ++ y ∷ []) ≡ total xs +ℤ y
total_push [] y = omega (arith, ints)
total_push (x ∷ xs) y = omega (arith, ints, total_push xs y)

pub total_more : (xs : List ℤ) (i : ℕ) (d : ℤ) → i < length xs → total (take (i + 1) xs) ≡ total (take i xs) +ℤ get_or xs i d
total_more xs i d lt = ap total (take_more xs i d lt) ∙ total_push (take i xs) (get_or xs i d)

-- ---- values of arcs

pub scaled_abs : (s : ℕ) (c : ℤ) → s ≤ MOST_PERSONS + 1 → neg_ℤ MOST_COST ≤ℤ c → c ≤ℤ MOST_COST → unsigned_abs (pos s *ℤ c) ≤ 4194305 * 10 ^ 9
scaled_abs s c le low high =
    let abs : unsigned_abs (pos s *ℤ c) ≡ s * unsigned_abs c = unsigned_abs-mul (pos s) c in
    let small : unsigned_abs c ≤ 10 ^ 9 = omega (arith, ints, low, high) in
    let more : s * unsigned_abs c ≤ s * 10 ^ 9 = mul-le-mul_left s small in
    omega (arith, abs, more, le)

pub value_fits : (scaled price : ℤ) → unsigned_abs scaled ≤ 4194305 * 10 ^ 9 → IsPrice price → FitsSigned w64 (scaled +ℤ price)
value_fits scaled price small is = omega (arith, ints, small, is.low, is.high)

-- ---- the bound

values_within : (p : Problem) (prices : List ℤ) → IsProblem p → length prices ≡ p.objects → All IsPrice prices → All (λ (a : Arc). arc_value (scale_of p) prices a ≤ℤ pos (2 ^ 63 - 1)) p.arcs
values_within p prices is len fair k d lt =
    let within = is.within k d lt in
    let price = All-get_or IsPrice prices (get_or p.arcs k d).object (pos 0) (omega (arith, len, within.object)) fair in
    let small = scaled_abs (scale_of p) (get_or p.arcs k d).cost (omega (arith, is.most)) within.low within.high in
    omega (arith, ints, small, price.high)

pub bound_is : (p : Problem) (prices table : List ℤ) → IsProblem p → EachHasArc p → length prices ≡ p.objects → All IsPrice prices → length table ≡ p.persons
    → ((i : ℕ) → i < p.persons → get_or table i (pos 0) ≡ lowest (pos (2 ^ 63 - 1)) (values (arc_value (scale_of p) prices) p.arcs i)) → (total table -ℤ total prices) ≡ dual p prices
bound_is p prices table is some len fair many each =
    ap (λ (zs : List ℤ). total zs -ℤ total prices)
    (table_is (arc_value (scale_of p) prices) (pos (2 ^ 63 - 1)) p.persons p.arcs table some (values_within p prices is len fair) many each)
