-- A list in which each number below n occurs at most once, and no other, has at most n entries.
use Rattle.std.proofs.Common.{ℕ, zero, suc, ◌+◌, ◌≤◌, ◌≡◌, refl, arith, List, [], ◌∷◌, length, cond, inl, inr, ap, ◌∙◌}
use Rattle.std.specs.Prelude.{◌==◌}
use Rattle.std.proofs.lemmas.Bool.{cases_eq, eq-eqb, ne_eqb}
use Rattle.auc_model.specs.Start.{occurs}

abbrev without : ℕ → List ℕ → List ℕ
without n [] = []
without n (x ∷ xs) = cond (x == n) (without n xs) (x ∷ without n xs)

pub occurs_here : (x : ℕ) (xs : List ℕ) → occurs x (x ∷ xs) ≡ suc (occurs x xs)
occurs_here x xs = ap (λ b. cond b (suc (occurs x xs)) (occurs x xs)) (eq-eqb x x refl)

split : (n : ℕ) (xs : List ℕ) → length xs ≡ occurs n xs + length (without n xs)
split n [] = refl
split n (x ∷ xs) =
    let later = split n xs in
    elim (cases_eq x n) [
      | inl e ↦ (let yes = eq-eqb x n e in rw yes (omega (arith, later)))
      | inr ne ↦ (let no = ne_eqb x n ne in rw no (omega (arith, later)))
    ]

gone : (n : ℕ) (xs : List ℕ) → occurs n (without n xs) ≡ 0
gone n [] = refl
gone n (x ∷ xs) =
    elim (cases_eq x n) [
      | inl e ↦ (let yes = eq-eqb x n e in rw yes (gone n xs))
      | inr ne ↦ (let no = ne_eqb x n ne in rw (no, no) (gone n xs))
    ]

fewer : (n i : ℕ) (xs : List ℕ) → occurs i (without n xs) ≤ occurs i xs
fewer n i [] = omega arith
fewer n i (x ∷ xs) =
    let later = fewer n i xs in
    elim (cases_eq x n) [
      | inl e ↦ (let yes = eq-eqb x n e in elim (cases_eq x i) [ inl f ↦ (let at = eq-eqb x i f in rw (yes, at) (omega (arith, later))) | inr f ↦ (let off = ne_eqb x i f in rw (yes, off) later) ])
      | inr ne ↦ (let no = ne_eqb x n ne in elim (cases_eq x i) [ inl f ↦ (let at = eq-eqb x i f in rw (no, at) (omega (arith, later))) | inr f ↦ (let off = ne_eqb x i f in rw (no, off) later) ])
    ]

pub at_most : (n : ℕ) (xs : List ℕ) → ((i : ℕ) → occurs i xs ≤ 1) → ((i : ℕ) → n ≤ i → occurs i xs ≡ 0) → length xs ≤ n
at_most zero [] once below = omega arith
at_most zero (x ∷ xs) once below = absurd (let none = below x (omega arith) in let some = occurs_here x xs in omega (arith, none, some))
at_most (suc n) xs once below =
    let smaller = at_most n (without n xs) (λ i. (let a = fewer n i xs in let b = once i in omega (arith, a, b))) (λ i l. elim (cases_eq i n) [
      | inl e ↦ ap (λ k. occurs k (without n xs)) e ∙ gone n xs
      | inr ne ↦ (let a = fewer n i xs in let b = below i (omega (arith, l, ne)) in omega (arith, a, b))
    ]) in
    let parts = split n xs in
    let here = once n in
    omega (arith, smaller, parts, here)
