-- Sums over the numbers below n, and over lists.
use Rattle.std.proofs.Common.{ℕ, zero, suc, ◌+◌, ◌*◌, ◌<◌, ◌≤◌, ◌≡◌, ◌≢◌, refl, arith, List, [], ◌∷◌, length, get_or, sum_by, inl, inr, ap}
use Rattle.std.proofs.Math.Nat.{suc-mul}
use Rattle.std.proofs.lemmas.Bool.{cases_eq}
use Rattle.std.proofs.lemmas.List.Sums.{sum_by-cons}
use Rattle.auc_model.specs.Counts.{total}
use Rattle.auc_model.specs.Put.{put}
use Rattle.auc_model.proofs.Places.{put_at, put_off}

pub total_same : (f h : ℕ → ℕ) (n : ℕ) → ((k : ℕ) → h k ≡ f k) → total h n ≡ total f n
total_same f h zero e = refl
total_same f h (suc n) e = rw (total_same f h n e, e n)

pub total_cong : (f h : ℕ → ℕ) (n : ℕ) → ((k : ℕ) → k < n → h k ≡ f k) → total h n ≡ total f n
total_cong f h zero e = refl
total_cong f h (suc n) e = rw (total_cong f h n (λ k l. e k (omega arith)), e n (omega arith))

pub total_zero : (f : ℕ → ℕ) (n : ℕ) → ((k : ℕ) → f k ≡ 0) → total f n ≡ 0
total_zero f zero e = refl
total_zero f (suc n) e = rw (total_zero f n e, e n) (omega arith)

pub total_add : (f h : ℕ → ℕ) (n : ℕ) → total (λ k. f k + h k) n ≡ total f n + total h n
total_add f h zero = refl
total_add f h (suc n) = let a = total_add f h n in omega (arith, a)

pub total_le : (f h : ℕ → ℕ) (n : ℕ) → ((k : ℕ) → k < n → f k ≤ h k) → total f n ≤ total h n
total_le f h zero e = omega arith
total_le f h (suc n) e = let a = total_le f h n (λ k l. e k (omega arith)) in let b = e n (omega arith) in omega (arith, a, b)

-- a change at one place below n
pub total_change : (f h : ℕ → ℕ) (n k : ℕ) → k < n → ((m : ℕ) → m ≢ k → h m ≡ f m) → total h n + f k ≡ total f n + h k
total_change f h zero k l e = absurd (omega arith)
total_change f h (suc n) k l e = elim (cases_eq n k) [ inl p ↦ at n k p e | inr p ↦ below n k l p e (total_change f h n k) ]
  where
    at : (n k : ℕ) → n ≡ k → ((m : ℕ) → m ≢ k → h m ≡ f m) → total h (suc n) + f k ≡ total f (suc n) + h k
    at n k p e = let s = total_cong f h n (λ m l. e m (omega arith)) in rw (s, p) (omega arith)

    below : (n k : ℕ) → k < suc n → n ≢ k → ((m : ℕ) → m ≢ k → h m ≡ f m) → (k < n → ((m : ℕ) → m ≢ k → h m ≡ f m) → total h n + f k ≡ total f n + h k) → total h (suc n) + f k ≡ total f (suc n) + h k
    below n k l p e ih = let i = ih (omega arith) e in let s = e n p in omega (arith, i, s)

pub total_put : {X : Type 0} (f : X → ℕ) (t : ℕ → X) (k : ℕ) (v : X) (n : ℕ) → k < n → total (λ m. f (put t k v m)) n + f (t k) ≡ total (λ m. f (t m)) n + f v
total_put f t k v n l =
    let e = total_change (λ m. f (t m)) (λ m. f (put t k v m)) n k l (λ m p. ap f (put_off t k v m p)) in
    let s : f (put t k v k) ≡ f v = ap f (put_at t k v k refl) in
    omega (arith, e, s)

-- and by one more at one place
pub total_more : (f h : ℕ → ℕ) (n k d : ℕ) → k < n → ((m : ℕ) → m < n → f m ≤ h m) → f k + d ≤ h k → total f n + d ≤ total h n
total_more f h zero k d l e m = absurd (omega arith)
total_more f h (suc n) k d l e m = elim (cases_eq n k) [ inl p ↦ at n k d e m p | inr p ↦ below n k d l e m p (total_more f h n k d) ]
  where
    at : (n k d : ℕ) → ((m : ℕ) → m < suc n → f m ≤ h m) → f k + d ≤ h k → n ≡ k → total f (suc n) + d ≤ total h (suc n)
    at n k d e m p = let a = total_le f h n (λ i l. e i (omega arith)) in let b : f n + d ≤ h n = rw p m in omega (arith, a, b)

    below : (n k d : ℕ) → k < suc n → ((m : ℕ) → m < suc n → f m ≤ h m) → f k + d ≤ h k → n ≢ k → (k < n → ((m : ℕ) → m < n → f m ≤ h m) → f k + d ≤ h k → total f n + d ≤ total h n) → total f (suc n) + d ≤ total h (suc n)
    below n k d l e m p ih = let a = ih (omega arith) (λ i j. e i (omega arith)) m in let b = e n (omega arith) in omega (arith, a, b)

pub zero_at : (f : ℕ → ℕ) (n k : ℕ) → total f n ≡ 0 → k < n → f k ≡ 0
zero_at f zero k e l = absurd (omega arith)
zero_at f (suc n) k e l = elim (cases_eq k n) [ inl p ↦ rw p (omega arith) | inr p ↦ zero_at f n k (omega arith) (omega arith) ]

pub full_at : (f : ℕ → ℕ) (n k : ℕ) → ((m : ℕ) → f m ≤ 1) → total f n ≡ n → k < n → f k ≡ 1
full_at f zero k le e l = absurd (omega arith)
full_at f (suc n) k le e l = elim (cases_eq k n) [ inl p ↦ rw p (omega (arith, le n, below f n le)) | inr p ↦ full_at f n k le (omega (arith, le n, below f n le)) (omega arith) ]
  where
    below : (f : ℕ → ℕ) (n : ℕ) → ((m : ℕ) → f m ≤ 1) → total f n ≤ n
    below f zero le = omega arith
    below f (suc n) le = omega (arith, below f n le, le n)

pub total_shift : (f : ℕ → ℕ) (n : ℕ) → total f (suc n) ≡ f 0 + total (λ k. f (suc k)) n
total_shift f zero = omega arith
total_shift f (suc n) = let e = total_shift f n in omega (arith, e)

pub total_join : (f : ℕ → ℕ) (m n : ℕ) → total f (m + n) ≡ total f m + total (λ x. f (m + x)) n
total_join f m zero = let e : m + 0 ≡ m = omega arith in rw e (omega arith)
total_join f m (suc n) = let e : m + suc n ≡ suc (m + n) = omega arith in let a = total_join f m n in rw e (omega (arith, a))

-- a sum over k rows of n places each
pub total_grid : (f : ℕ → ℕ) (k n : ℕ) → total f (k * n) ≡ total (λ b. total (λ x. f (b * n + x)) n) k
total_grid f zero n = let e : 0 * n ≡ 0 = omega arith in rw e
total_grid f (suc k) n = let e : suc k * n ≡ k * n + n = suc-mul k n in let a = total_grid f k n in let b = total_join f (k * n) n in rw e (omega (arith, a, b))

-- a sum over a list, by places
pub sum_by-total : {X : Type 0} (f : X → ℕ) (d : X) (xs : List X) → sum_by f xs ≡ total (λ k. f (get_or xs k d)) (length xs)
sum_by-total f d [] = refl
sum_by-total f d (x ∷ xs) = let e = sum_by-total f d xs in let s = total_shift (λ k. f (get_or (x ∷ xs) k d)) (length xs) in let c = sum_by-cons f x xs in omega (arith, e, s, c)

pub sum_by_add : {X : Type 0} (f h : X → ℕ) (xs : List X) → sum_by (λ x. f x + h x) xs ≡ sum_by f xs + sum_by h xs
sum_by_add f h [] = refl
sum_by_add f h (x ∷ xs) = let a = sum_by_add f h xs in let b = sum_by-cons (λ x. f x + h x) x xs in let c = sum_by-cons f x xs in let d = sum_by-cons h x xs in omega (arith, a, b, c, d)

pub sum_by_le : {X : Type 0} (f h : X → ℕ) → ((x : X) → f x ≤ h x) → (xs : List X) → sum_by f xs ≤ sum_by h xs
sum_by_le f h e [] = omega arith
sum_by_le f h e (x ∷ xs) = let a = sum_by_le f h e xs in let b = e x in let c = sum_by-cons f x xs in let d = sum_by-cons h x xs in omega (arith, a, b, c, d)
