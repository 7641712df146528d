-- Chains of nodes: the occurrences of a node, the effect of a changed link, and how two are joined.
use Rattle.std.proofs.Common.{◌≡◌, ◌≢◌, ℕ, zero, suc, ◌+◌, ◌<◌, ◌≤◌, ◌==◌, Bool, true, false, cond, List, [], ◌∷◌, ◌++◌, length, get_or, refl, ap, ◌∙◌, arith}
use Rattle.std.proofs.lemmas.List.Sums.{sum_by-cons, sum_by-append}
use Rattle.std.proofs.lemmas.Bool.Decides.{nat_tests}
use Rattle.auc_nodes.specs.Links.{chain, times, EndsWith}

-- one where it is that node
abbrev pub one_at : ℕ → ℕ → ℕ
one_at i j = cond (j == i) 1 0

pub test_same : (a b : ℕ) → a ≡ b → (a == b) ≡ true
test_same a b e = grind (arith, nat_tests)

pub test_other : (a b : ℕ) → a ≢ b → (a == b) ≡ false
test_other a b ne = grind (arith, nat_tests)

pub one_at_same : (i j : ℕ) → j ≡ i → one_at i j ≡ 1
one_at_same i j e = let pass : Bool → ℕ = λ b. cond b 1 0 in ap pass (test_same j i e)

pub one_at_other : (i j : ℕ) → j ≢ i → one_at i j ≡ 0
one_at_other i j ne = let pass : Bool → ℕ = λ b. cond b 1 0 in ap pass (test_other j i ne)

pub times-cons : (i j : ℕ) (xs : List ℕ) → times i (j ∷ xs) ≡ one_at i j + times i xs
times-cons i j xs = sum_by-cons (λ (j : ℕ). cond (j == i) 1 0) j xs

pub times-append : (i : ℕ) (xs ys : List ℕ) → times i (xs ++ ys) ≡ times i xs + times i ys
times-append i xs ys = sum_by-append (λ (j : ℕ). cond (j == i) 1 0) xs ys

pub times_first : (i : ℕ) (xs : List ℕ) → 0 < times i (i ∷ xs)
times_first i xs = omega (arith, times-cons i i xs, one_at_same i i refl)

pub times_one : (i : ℕ) → times i (i ∷ []) ≡ 1
times_one i = omega (arith, times-cons i i [], one_at_same i i refl)

pub length-chain : (links : List ℕ) (at n : ℕ) → length (chain links at n) ≡ n
length-chain links at zero = refl
length-chain links at (suc n) = ap suc (length-chain links (get_or links at 0) n)

-- the last node of a list occurs in it
pub last_in : (i : ℕ) (c : List ℕ) (w : ℕ) → EndsWith (i ∷ c) w → 0 < times w (i ∷ c)
last_in i [] w e = omega (arith, times-cons w i [], one_at_same w i e)
last_in i (j ∷ c) w e = omega (arith, times-cons w i (j ∷ c), last_in j c w e)

pub ends_tail : (i : ℕ) (c : List ℕ) (w : ℕ) → EndsWith (i ∷ c) w → EndsWith c w
ends_tail i [] w e = tt
ends_tail i (j ∷ c) w e = e

pub ends_append : (xs : List ℕ) (j : ℕ) (ys : List ℕ) (w : ℕ) → EndsWith (j ∷ ys) w → EndsWith (xs ++ j ∷ ys) w
ends_append [] j ys w e = e
ends_append (x ∷ []) j ys w e = e
ends_append (x ∷ y ∷ xs) j ys w e = ends_append (y ∷ xs) j ys w e

-- a chain without the node whose link is changed stays
pub chain_same : (links links' : List ℕ) (w : ℕ) → ((j : ℕ) → j ≢ w → get_or links' j 0 ≡ get_or links j 0)
    → (at n : ℕ) → times w (chain links at n) ≡ 0 → chain links' at n ≡ chain links at n
chain_same links links' w same at zero none = refl
chain_same links links' w same at (suc n) none =
    let split = times-cons w at (chain links (get_or links at 0) n) in
    let other : at ≢ w = λ e. omega (arith, none, split, one_at_same w at e) in
    ap (λ (c : List ℕ). at ∷ c)
    (ap (λ (x : ℕ). chain links' x n) (same at other) ∙ chain_same links links' w same (get_or links at 0) n (omega (arith, none, split)))

-- a chain whose last node w now leads to b goes on with the chain from b
pub chain_join : (links links' : List ℕ) (w b : ℕ) → ((j : ℕ) → j ≢ w → get_or links' j 0 ≡ get_or links j 0) → get_or links' w 0 ≡ b
    → (at m n : ℕ) → EndsWith (chain links at (suc m)) w → times w (chain links at (suc m)) ≤ 1 → times w (chain links b n) ≡ 0
    → chain links' at (suc (m + n)) ≡ chain links at (suc m) ++ chain links b n
chain_join links links' w b same here at zero n e once none =
    let sum : zero + n ≡ n = omega arith in
    ap (λ (k : ℕ). chain links' at (suc k)) sum
    ∙ ap (λ (c : List ℕ). at ∷ c)
    (ap (λ (x : ℕ). chain links' x n) (ap (λ (j : ℕ). get_or links' j 0) e ∙ here) ∙ chain_same links links' w same b n none)
chain_join links links' w b same here at (suc m) n e once none =
    let x = get_or links at 0 in
    let split = times-cons w at (chain links x (suc m)) in
    let some = last_in x (chain links (get_or links x 0) m) w e in
    let other : at ≢ w = λ q. omega (arith, once, split, some, one_at_same w at q) in
    let sum : suc m + n ≡ suc (m + n) = omega arith in
    ap (λ (k : ℕ). chain links' at (suc k)) sum
    ∙ ap (λ (c : List ℕ). at ∷ c)
    (ap (λ (y : ℕ). chain links' y (suc (m + n))) (same at other) ∙ chain_join links links' w b same here x m n e (omega (arith, once, split)) none)
