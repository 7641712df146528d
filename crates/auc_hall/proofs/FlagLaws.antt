-- Flags: how many are set, and the list of their places.
use Rattle.std.proofs.Common.{◌≡◌, ℕ, zero, suc, ◌+◌, ◌<◌, ◌≤◌, Bool, true, false, List, [], ◌∷◌, ◌++◌, length, get_or, set, drop, refl, sym, ap, ◌∙◌, arith, inl, inr, Contains, append_assoc, replicate}
use Rattle.std.proofs.lemmas.List.{drop_more, get_or_past, get_or-set_same, get_or-set_other}
use Rattle.std.proofs.lemmas.Bool.{cases_eq, cases_lt, both_ways, false≢true}
use Rattle.auc_graph.specs.Rising.{IsRising}
use Rattle.auc_hall.specs.Search.{marked, WasSeen}
use Rattle.auc_hall.specs.Chosen.{places}
use Rattle.auc_hall.proofs.Membership.{first_or_behind, behind, nothing}

pub count_set : (xs : List Bool) (i : ℕ) → i < length xs → get_or xs i false ≡ false → marked (set xs i true) ≡ marked xs + 1
count_set [] i h e = absurd (omega arith)
count_set (false ∷ xs) zero h e = omega arith
count_set (true ∷ xs) zero h e = absurd (false≢true (sym e))
count_set (false ∷ xs) (suc i) h e = count_set xs i (omega arith) e
count_set (true ∷ xs) (suc i) h e = omega (arith, count_set xs i (omega arith) e)

pub count_none : (xs : List Bool) → ((j : ℕ) → get_or xs j false ≡ false) → marked xs ≡ 0
count_none [] h = refl
count_none (false ∷ xs) h = count_none xs (λ j. h (suc j))
count_none (true ∷ xs) h = absurd (false≢true (sym (h 0)))

pub count_most : (xs : List Bool) → marked xs ≤ length xs
count_most [] = omega arith
count_most (false ∷ xs) = omega (arith, count_most xs)
count_most (true ∷ xs) = omega (arith, count_most xs)

pub seen_kept : (seen : List Bool) (j k : ℕ) → j < length seen → WasSeen seen k → WasSeen (set seen j true) k
seen_kept seen j k lt h = elim (cases_eq k j) [
  | inl e ↦ ap (λ (n : ℕ). get_or (set seen j true) n false) e ∙ get_or-set_same seen j true false lt
  | inr n ↦ get_or-set_other seen j k true false n ∙ h
]

pub seen_within : (flags : List Bool) (i : ℕ) → WasSeen flags i → i < length flags
seen_within flags i h = elim (cases_lt i (length flags)) [ inl lt ↦ lt | inr le ↦ absurd (both_ways (get_or flags i false) (get_or_past flags i false le) h) ]

pub no_flag : (n j : ℕ) → get_or (replicate n false) j false ≡ false
no_flag zero j = refl
no_flag (suc n) zero = refl
no_flag (suc n) (suc j) = no_flag n j

pub place_only : (k : ℕ) (flags : List Bool) (i : ℕ) → Contains (places k flags) i → (j : ℕ) × (i ≡ k + j) × WasSeen flags j
place_only k [] i c = absurd (nothing i c)
place_only k (true ∷ flags) i c = elim (first_or_behind k (places (k + 1) flags) i c) [
  | inl e ↦ (0, omega arith, refl)
  | inr b ↦ (let r = place_only (k + 1) flags i b in (suc r.0, omega (arith, r.1), r.2))
]
place_only k (false ∷ flags) i c = let r = place_only (k + 1) flags i c in (suc r.0, omega (arith, r.1), r.2)

pub place_all : (k : ℕ) (flags : List Bool) (j : ℕ) → WasSeen flags j → (i : ℕ) → i ≡ k + j → Contains (places k flags) i
place_all k [] j h i e = absurd (false≢true h)
place_all k (true ∷ flags) zero h i e = (0, omega arith, omega arith)
place_all k (true ∷ flags) (suc j) h i e = behind k (places (k + 1) flags) i (place_all (k + 1) flags j h i (omega arith))
place_all k (false ∷ flags) zero h i e = absurd (false≢true h)
place_all k (false ∷ flags) (suc j) h i e = place_all (k + 1) flags j h i (omega arith)

pub length-places : (k : ℕ) (flags : List Bool) → length (places k flags) ≡ marked flags
length-places k [] = refl
length-places k (true ∷ flags) = omega (arith, length-places (k + 1) flags)
length-places k (false ∷ flags) = length-places (k + 1) flags

places_low : (k : ℕ) (flags : List Bool) (p d : ℕ) → p < length (places k flags) → k ≤ get_or (places k flags) p d
places_low k [] p d lt = absurd (omega arith)
places_low k (true ∷ flags) zero d lt = omega arith
places_low k (true ∷ flags) (suc p) d lt = omega (arith, places_low (k + 1) flags p d (omega arith))
places_low k (false ∷ flags) p d lt = omega (arith, places_low (k + 1) flags p d lt)

pub places_rise : (k : ℕ) (flags : List Bool) → IsRising (places k flags)
places_rise k [] i m d lt in_list = absurd (omega arith)
places_rise k (true ∷ flags) i zero d lt in_list = absurd (omega arith)
places_rise k (true ∷ flags) zero (suc m) d lt in_list = omega (arith, places_low (k + 1) flags m d (omega arith))
places_rise k (true ∷ flags) (suc i) (suc m) d lt in_list = places_rise (k + 1) flags i m d (omega arith) (omega arith)
places_rise k (false ∷ flags) i m d lt in_list = places_rise (k + 1) flags i m d lt in_list

places_true : (i : ℕ) (b : Bool) (rest : List Bool) → b ≡ true → places i (b ∷ rest) ≡ i ∷ places (i + 1) rest
places_true i true rest h = refl
places_true i false rest h = absurd (false≢true h)

places_false : (i : ℕ) (b : Bool) (rest : List Bool) → b ≡ false → places i (b ∷ rest) ≡ places (i + 1) rest
places_false i false rest h = refl
places_false i true rest h = absurd (false≢true (sym h))

pub place_more : (out : List ℕ) (flags : List Bool) (all : List ℕ) (i : ℕ) → i < length flags → get_or flags i false ≡ true → out ++ places i (drop i flags) ≡ all → (out ++ i ∷ []) ++ places (i + 1) (drop (i + 1) flags) ≡ all
place_more out flags all i lt h told =
    append_assoc out (i ∷ []) (places (i + 1) (drop (i + 1) flags))
    ∙ ap (λ (x : List ℕ). out ++ x) (sym (ap (places i) (drop_more flags i false lt) ∙ places_true i (get_or flags i false) (drop (i + 1) flags) h)) ∙ told

pub place_past : (out : List ℕ) (flags : List Bool) (all : List ℕ) (i : ℕ) → i < length flags → get_or flags i false ≡ false → out ++ places i (drop i flags) ≡ all → out ++ places (i + 1) (drop (i + 1) flags) ≡ all
place_past out flags all i lt h told =
    ap (λ (x : List ℕ). out ++ x) (sym (ap (places i) (drop_more flags i false lt) ∙ places_false i (get_or flags i false) (drop (i + 1) flags) h)) ∙ told
