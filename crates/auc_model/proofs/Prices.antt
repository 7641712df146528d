-- Prices under way, and what keeps their order.
use Rattle.std.proofs.Common.{ℕ, ℤ, ◌≤ℤ◌, ◌≡◌, ◌≢◌, arith, List, [], ◌∷◌, ◌++◌, inl, inr}
use Rattle.std.proofs.lemmas.Bool.{cases_eq}
use Rattle.std.proofs.lemmas.Int.{ints}
use Rattle.auc_model.specs.Prices.{NeverFalls, Prices, Rising, learn, lose, raise, tell}
use Rattle.auc_model.specs.Put.{put}

pub rising_up : (low : ℤ) (ps : List ℤ) (high top : ℤ) → Rising low ps high → high ≤ℤ top → Rising low ps top
rising_up low [] high top r h = omega (arith, ints)
rising_up low (p ∷ ps) high top r h = (r.0, rising_up p ps high top r.1 h)

pub rising_push : (low : ℤ) (ps : List ℤ) (high : ℤ) → Rising low ps high → Rising low (ps ++ high ∷ []) high
rising_push low [] high r = (r, omega (arith, ints))
rising_push low (p ∷ ps) high r = (r.0, rising_push p ps high r.1)

pub rising_down : (low first : ℤ) (ps : List ℤ) (high : ℤ) → low ≤ℤ first → Rising first ps high → Rising low ps high
rising_down low first [] high h r = omega (arith, ints)
rising_down low first (p ∷ ps) high h r = (omega (arith, ints), r.1)

pub rising_lose : (low : ℤ) (xs : List ℤ) (p : ℤ) (ps : List ℤ) (high : ℤ) → Rising low (xs ++ p ∷ ps) high → Rising low (xs ++ ps) high
rising_lose low [] p ps high r = rising_down low p ps high r.0 r.1
rising_lose low (x ∷ xs) p ps high r = (r.0, rising_lose x xs p ps high r.1)

pub rising_ends : (low : ℤ) (ps : List ℤ) (high : ℤ) → Rising low ps high → low ≤ℤ high
rising_ends low [] high r = r
rising_ends low (p ∷ ps) high r = let e = rising_ends p ps high r.1 in omega (arith, ints)

pub keeps_raise : (w : Prices) (j : ℕ) (p : ℤ) → w.price j ≤ℤ p → NeverFalls w → NeverFalls (raise w j p)
keeps_raise w j p h r t k = elim (cases_eq k j) [ inl e ↦ at_j w j p h r t k e | inr e ↦ off_j w j p r t k e ]
  where
    at_j : (w : Prices) (j : ℕ) (p : ℤ) → w.price j ≤ℤ p → NeverFalls w → (t k : ℕ) → k ≡ j → Rising (w.copy t k) (w.news t k) (put w.price j p k)
    at_j w j p h r t k e = rising_up (w.copy t k) (w.news t k) (w.price k) (put w.price j p k) (r t k) (grind (arith, ints))

    off_j : (w : Prices) (j : ℕ) (p : ℤ) → NeverFalls w → (t k : ℕ) → k ≢ j → Rising (w.copy t k) (w.news t k) (put w.price j p k)
    off_j w j p r t k e = grind (arith, r t k)

abbrev AtShard : Prices → ℕ → ℕ → Type 0
AtShard w s j = Rising (w.copy s j) (w.news s j) (w.price j)

tell_here : (w : Prices) (s j t k : ℕ) → t ≡ s → k ≡ j → AtShard w t k → AtShard (tell w s j) t k
tell_here w s j t k e f r =
    let here : (tell w s j).news t k ≡ w.news t k ++ w.price k ∷ [] = grind arith in
    rw here (rising_push (w.copy t k) (w.news t k) (w.price k) r)

tell_other : (w : Prices) (s j t k : ℕ) → ((t ≡ s) × (k ≡ j) → ⊥) → AtShard w t k → AtShard (tell w s j) t k
tell_other w s j t k e r =
    let here : (tell w s j).news t k ≡ w.news t k = grind arith in
    rw here r

pub keeps_tell : (w : Prices) (s j : ℕ) → NeverFalls w → NeverFalls (tell w s j)
keeps_tell w s j r t k =
    elim (cases_eq t s) [
      | inl e ↦ elim (cases_eq k j) [ inl f ↦ tell_here w s j t k e f (r t k) | inr f ↦ tell_other w s j t k (λ q. f q.1) (r t k) ]
      | inr e ↦ tell_other w s j t k (λ q. e q.0) (r t k)
    ]

learn_here : (w : Prices) (s j : ℕ) (p : ℤ) (ps : List ℤ) (t k : ℕ) → w.news s j ≡ p ∷ ps → t ≡ s → k ≡ j → AtShard w s j → AtShard (learn w s j p ps) t k
learn_here w s j p ps t k n e f r =
    let new : (learn w s j p ps).news t k ≡ ps = grind arith in
    let copy : (learn w s j p ps).copy t k ≡ p = grind arith in
    let price : w.price k ≡ w.price j = grind arith in
    rw (new, copy, price) ((rw n at r).1)

learn_other : (w : Prices) (s j : ℕ) (p : ℤ) (ps : List ℤ) (t k : ℕ) → ((t ≡ s) × (k ≡ j) → ⊥) → AtShard w t k → AtShard (learn w s j p ps) t k
learn_other w s j p ps t k e r =
    let new : (learn w s j p ps).news t k ≡ w.news t k = grind arith in
    let copy : (learn w s j p ps).copy t k ≡ w.copy t k = grind arith in
    rw (new, copy) r

pub keeps_learn : (w : Prices) (s j : ℕ) (p : ℤ) (ps : List ℤ) → w.news s j ≡ p ∷ ps → NeverFalls w → NeverFalls (learn w s j p ps)
keeps_learn w s j p ps n r t k =
    elim (cases_eq t s) [
      | inl e ↦ elim (cases_eq k j) [ inl f ↦ learn_here w s j p ps t k n e f (r s j) | inr f ↦ learn_other w s j p ps t k (λ q. f q.1) (r t k) ]
      | inr e ↦ learn_other w s j p ps t k (λ q. e q.0) (r t k)
    ]

-- the first price under way is no less than the copy
pub no_fell : (w : Prices) (s j : ℕ) (p : ℤ) (ps : List ℤ) → w.news s j ≡ p ∷ ps → NeverFalls w → w.copy s j ≤ℤ p
no_fell w s j p ps n r = (rw n at (r s j)).0

pub copy_low : (w : Prices) (s j : ℕ) → NeverFalls w → w.copy s j ≤ℤ w.price j
copy_low w s j r = rising_ends (w.copy s j) (w.news s j) (w.price j) (r s j)

lose_here : (w : Prices) (s j : ℕ) (xs : List ℤ) (p : ℤ) (ps : List ℤ) (t k : ℕ) → w.news s j ≡ xs ++ p ∷ ps → t ≡ s → k ≡ j → AtShard w s j → AtShard (lose w s j (xs ++ ps)) t k
lose_here w s j xs p ps t k n e f r =
    let new : (lose w s j (xs ++ ps)).news t k ≡ xs ++ ps = grind arith in
    let copy : w.copy t k ≡ w.copy s j = grind arith in
    let price : w.price k ≡ w.price j = grind arith in
    rw (new, copy, price) (rising_lose (w.copy s j) xs p ps (w.price j) (rw n at r))

lose_other : (w : Prices) (s j : ℕ) (ps : List ℤ) (t k : ℕ) → ((t ≡ s) × (k ≡ j) → ⊥) → AtShard w t k → AtShard (lose w s j ps) t k
lose_other w s j ps t k e r =
    let new : (lose w s j ps).news t k ≡ w.news t k = grind arith in
    rw new r

pub keeps_lose : (w : Prices) (s j : ℕ) (xs : List ℤ) (p : ℤ) (ps : List ℤ) → w.news s j ≡ xs ++ p ∷ ps → NeverFalls w → NeverFalls (lose w s j (xs ++ ps))
keeps_lose w s j xs p ps n r t k =
    elim (cases_eq t s) [
      | inl e ↦ elim (cases_eq k j) [ inl f ↦ lose_here w s j xs p ps t k n e f (r s j) | inr f ↦ lose_other w s j (xs ++ ps) t k (λ q. f q.1) (r t k) ]
      | inr e ↦ lose_other w s j (xs ++ ps) t k (λ q. e q.0) (r t k)
    ]
