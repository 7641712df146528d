-- The persons of a shard.
use Rattle.std.proofs.Common.{◌≡◌, ◌≢◌, ℕ, ◌+◌, ◌%◌, eqb, eq-eqb, Bool, cond, List, [], ◌∷◌, ◌++◌, false, refl, sym, ap, ◌∙◌, arith}
use Rattle.std.specs.Prelude.{map}
use Rattle.std.proofs.lemmas.Bool.Decides.{nat_tests}
use Rattle.std.proofs.lemmas.List.{append-nil}
use Rattle.std.specs.List.{range_with_len, filter}
use Rattle.std.proofs.lemmas.List.FromFn.{filter_of_map_range_with_len_more}
use Rattle.auc_letters.specs.Persons.{persons_of}
use Rattle.auc_graph.proofs.RowLaws.{not_equal}

same : (xs : List ℕ) → map (λ x. x) xs ≡ xs
same [] = refl
same (x ∷ xs) = ap (λ ys. x ∷ ys) (same xs)

abbrev test : ℕ → ℕ → ℕ → Bool
test s o i = eqb (i % o) s

step : (s o n : ℕ) → persons_of s o (n + 1) ≡ persons_of s o n ++ cond (eqb (n % o) s) (n ∷ []) []
step s o n = ap (filter (test s o)) (sym (same (range_with_len 0 (n + 1)))) ∙ filter_of_map_range_with_len_more (test s o) (λ x. x) 0 n n (omega arith) ∙ ap (λ xs. filter (test s o) xs ++ cond (eqb (n % o) s) (n ∷ []) []) (same (range_with_len 0 n))

pub own_yes : (s o n : ℕ) → n % o ≡ s → persons_of s o (n + 1) ≡ persons_of s o n ++ n ∷ []
own_yes s o n e = step s o n ∙ ap (λ b. persons_of s o n ++ cond b (n ∷ []) []) (eq-eqb (n % o) s e)

pub own_no : (s o n : ℕ) → n % o ≢ s → persons_of s o (n + 1) ≡ persons_of s o n
own_no s o n ne = step s o n ∙ ap (λ b. persons_of s o n ++ cond b (n ∷ []) []) (not_equal (n % o) s ne) ∙ append-nil (persons_of s o n)
