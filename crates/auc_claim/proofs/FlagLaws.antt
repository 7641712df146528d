-- A flag for each person, updated arc by arc.
use Rattle.std.proofs.Common.{◌≡◌, ◌≢◌, ℕ, zero, suc, ◌+◌, ◌<◌, Bool, true, false, not, ◌&&◌, List, [], ◌∷◌, ◌++◌, length, map, get_or, take, set, replicate, refl, sym, ap, ◌∙◌, arith, eqb}
use Rattle.std.specs.Prelude.{ℤ}
use Rattle.std.specs.List.{list_all}
use Rattle.std.proofs.lemmas.Bool.Decides.{nat_tests}
use Rattle.std.proofs.lemmas.List.{take_more}
use Rattle.std.proofs.lemmas.List.Folds.{list_all-append}
use Rattle.auc_graph.specs.declared.arc.Arc.{Arc}
use Rattle.auc_claim.specs.declared.lists.Pick.{Pick}
use Rattle.auc_claim.specs.Claim.{arc_of, chosen, same_arc, is_slack_beside}

-- a test that passes for two arcs of different persons
abbrev pub IsOwn : (Arc → Arc → Bool) → Type 0
IsOwn test = (c a : Arc) → c.person ≢ a.person → test c a ≡ true

abbrev pub flags_of : (Arc → Arc → Bool) → List Arc → ℕ → List Pick → List Bool
flags_of test arcs k picks = map (λ c. list_all (test c) arcs) (chosen k picks)

and_true : (b : Bool) → (b && true) ≡ b
and_true true = refl
and_true false = refl

more_arcs : (test : Arc → Arc → Bool) (c : Arc) (arcs : List Arc) (a : Arc) → list_all (test c) (arcs ++ a ∷ []) ≡ (list_all (test c) arcs && test c a)
more_arcs test c arcs a = list_all-append (test c) arcs (a ∷ []) ∙ ap (λ (b : Bool). list_all (test c) arcs && b) (and_true (test c a))

same_flag : (test : Arc → Arc → Bool) → IsOwn test → (c : Arc) (arcs : List Arc) (a : Arc) → c.person ≢ a.person → list_all (test c) (arcs ++ a ∷ []) ≡ list_all (test c) arcs
same_flag test own c arcs a other = more_arcs test c arcs a ∙ ap (λ (b : Bool). list_all (test c) arcs && b) (own c a other) ∙ and_true (list_all (test c) arcs)

same_flags : (test : Arc → Arc → Bool) → IsOwn test → (arcs : List Arc) (a : Arc) (k : ℕ) (picks : List Pick) → a.person < k → flags_of test (arcs ++ a ∷ []) k picks ≡ flags_of test arcs k picks
same_flags test own arcs a k [] lt = refl
same_flags test own arcs a k (p ∷ picks) lt =
    let other : k ≢ a.person = omega arith in
    ap (λ (b : Bool). b ∷ flags_of test (arcs ++ a ∷ []) (k + 1) picks) (same_flag test own (arc_of k p) arcs a other)
    ∙ ap (λ (bs : List Bool). list_all (test (arc_of k p)) arcs ∷ bs) (same_flags test own arcs a (k + 1) picks (omega arith))

step_from : (test : Arc → Arc → Bool) → IsOwn test → (arcs : List Arc) (a : Arc) (k i : ℕ) (picks : List Pick) (d : Pick) → a.person ≡ k + i → i < length picks
    → flags_of test (arcs ++ a ∷ []) k picks ≡ set (flags_of test arcs k picks) i (get_or (flags_of test arcs k picks) i true && test (arc_of (k + i) (get_or picks i d)) a)
step_from test own arcs a k i [] d is lt = absurd (omega arith)
step_from test own arcs a k zero (p ∷ picks) d is lt =
    let here : k ≡ k + 0 = omega arith in
    let head : list_all (test (arc_of k p)) (arcs ++ a ∷ []) ≡ (list_all (test (arc_of k p)) arcs && test (arc_of (k + 0) p) a) = more_arcs test (arc_of k p) arcs a ∙ ap (λ (m : ℕ). list_all (test (arc_of k p)) arcs && test (arc_of m p) a) here in
    ap (λ (b : Bool). b ∷ flags_of test (arcs ++ a ∷ []) (k + 1) picks) head
    ∙ ap (λ (bs : List Bool). (list_all (test (arc_of k p)) arcs && test (arc_of (k + 0) p) a) ∷ bs) (same_flags test own arcs a (k + 1) picks (omega arith))
step_from test own arcs a k (suc i) (p ∷ picks) d is lt =
    let other : k ≢ a.person = omega arith in
    let sum : k + 1 + i ≡ k + suc i = omega arith in
    ap (λ (b : Bool). b ∷ flags_of test (arcs ++ a ∷ []) (k + 1) picks) (same_flag test own (arc_of k p) arcs a other)
    ∙ ap (λ (bs : List Bool). list_all (test (arc_of k p)) arcs ∷ bs)
    (step_from test own arcs a (k + 1) i picks d (omega arith) (omega arith)
    ∙ ap (λ (m : ℕ). set (flags_of test arcs (k + 1) picks) i (get_or (flags_of test arcs (k + 1) picks) i true && test (arc_of m (get_or picks i d)) a)) sum)

-- one more arc
pub step : (test : Arc → Arc → Bool) → IsOwn test → (arcs : List Arc) (i : ℕ) (d : Arc) (picks : List Pick) (e : Pick) (flags : List Bool) → i < length arcs → (get_or arcs i d).person < length picks → flags ≡ flags_of test (take i arcs) 0 picks
    → set flags (get_or arcs i d).person (get_or flags (get_or arcs i d).person true && test (arc_of (get_or arcs i d).person (get_or picks (get_or arcs i d).person e)) (get_or arcs i d)) ≡ flags_of test (take (i + 1) arcs) 0 picks
step test own arcs i d picks e flags lt within is =
    let made = step_from test own (take i arcs) (get_or arcs i d) 0 (get_or arcs i d).person picks e (omega arith) within in
    let zero_sum : (get_or arcs i d).person ≡ 0 + (get_or arcs i d).person = omega arith in
    ap (λ (fs : List Bool). set fs (get_or arcs i d).person (get_or fs (get_or arcs i d).person true && test (arc_of (get_or arcs i d).person (get_or picks (get_or arcs i d).person e)) (get_or arcs i d))) is
    ∙ ap (λ (m : ℕ). set (flags_of test (take i arcs) 0 picks) (get_or arcs i d).person (get_or (flags_of test (take i arcs) 0 picks) (get_or arcs i d).person true && test (arc_of m (get_or picks (get_or arcs i d).person e)) (get_or arcs i d))) zero_sum
    ∙ sym made
    ∙ ap (λ (xs : List Arc). flags_of test xs 0 picks) (sym (take_more arcs i d lt))

pub none_yet : (test : Arc → Arc → Bool) (k : ℕ) (picks : List Pick) → replicate (length picks) true ≡ flags_of test [] k picks
none_yet test k [] = refl
none_yet test k (p ∷ picks) = ap (λ (bs : List Bool). true ∷ bs) (none_yet test (k + 1) picks)

pub missing_own : IsOwn (λ c a. not (same_arc c a))
missing_own c a other = let ne : eqb c.person a.person ≡ false = grind (arith, nat_tests) in rw ne refl

pub slack_beside_own : (s : ℕ) (prices : List ℤ) → IsOwn (is_slack_beside s prices)
slack_beside_own s prices c a other = let ne : eqb c.person a.person ≡ false = grind (arith, nat_tests) in rw ne refl

length_flags : (test : Arc → Arc → Bool) (arcs : List Arc) (k : ℕ) (picks : List Pick) → length (flags_of test arcs k picks) ≡ length picks
length_flags test arcs k [] = refl
length_flags test arcs k (p ∷ picks) = ap suc (length_flags test arcs (k + 1) picks)

any_default : (xs : List Bool) (i : ℕ) (d e : Bool) → i < length xs → get_or xs i d ≡ get_or xs i e
any_default [] i d e h = absurd (omega arith)
any_default (x ∷ xs) zero d e h = refl
any_default (x ∷ xs) (suc i) d e h = any_default xs i d e (omega arith)

-- the same, as the code writes it: `was` is the flag that it read
pub written : (test : Arc → Arc → Bool) → IsOwn test → (arcs : List Arc) (i : ℕ) (d : Arc) (picks : List Pick) (e : Pick) (flags : List Bool) (was now : Bool) → i < length arcs → (get_or arcs i d).person < length picks → flags ≡ flags_of test (take i arcs) 0 picks
    → was ≡ get_or flags (get_or arcs i d).person was → now ≡ (was && test (arc_of (get_or arcs i d).person (get_or picks (get_or arcs i d).person e)) (get_or arcs i d))
    → set flags (get_or arcs i d).person now ≡ flags_of test (take (i + 1) arcs) 0 picks
written test own arcs i d picks e flags was now lt within is read made =
    let room : (get_or arcs i d).person < length flags = omega (arith, within, ap length is, length_flags test (take i arcs) 0 picks) in
    let same : was ≡ get_or flags (get_or arcs i d).person true = read ∙ any_default flags (get_or arcs i d).person was true room in
    ap (set flags (get_or arcs i d).person) (made ∙ ap (λ (b : Bool). b && test (arc_of (get_or arcs i d).person (get_or picks (get_or arcs i d).person e)) (get_or arcs i d)) same)
    ∙ step test own arcs i d picks e flags lt within is
