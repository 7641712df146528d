-- Tables that are dealt out over shards, for the code above, where each shard is an element of a list: number i belongs
-- to the shard i mod k. What one table over all numbers makes of a shard that is set.
use Rattle.std.proofs.Common.{ℕ, ◌%◌, ◌<◌, ◌≡◌, ◌≢◌, List, length, get_or, set, inl, inr, ap, sym, ◌∙◌}
use Rattle.std.proofs.lemmas.Bool.{cases_eq}
use Rattle.std.proofs.lemmas.List.{get_or-set_same, get_or-set_other}
use Rattle.auc_model.specs.Put.{put, put2}
use Rattle.auc_model.proofs.Places.{put_at, put_off}
use Rattle.auc_model.proofs.Views.{cases_both, put2_at, put2_off}

-- the tables: an entry for each shard, for each shard and number, and for each number, which is its own shard's
module _ {S X : Type 0} (xs : List S) (d : S) where
  abbrev pub of_shards : (S → X) → ℕ → X
  of_shards f = λ t. f (get_or xs t d)

  abbrev pub of_both : (S → ℕ → X) → ℕ → ℕ → X
  of_both f = λ t k. f (get_or xs t d) k

  abbrev pub of_numbers : ℕ → (S → ℕ → X) → ℕ → X
  of_numbers shards f = λ k. f (get_or xs (k % shards) d) k

module _ {S : Type 0} (xs : List S) (d : S) (s : ℕ) (new : S) (known : s < length xs) where
  here : (t : ℕ) → t ≡ s → get_or (set xs s new) t d ≡ new
  here t e = rw e (get_or-set_same xs s new d known)

  there : (t : ℕ) → t ≢ s → get_or (set xs s new) t d ≡ get_or xs t d
  there t n = get_or-set_other xs s t new d n

  pub shards_set : {X : Type 0} (f : S → X) → of_shards (set xs s new) d f ≡ put (of_shards xs d f) s (f new)
  shards_set f = λ c t. at t c
    where
      at : (t : ℕ) → f (get_or (set xs s new) t d) ≡ put (of_shards xs d f) s (f new) t
      at t =
          elim (cases_eq t s) [
            | inl e ↦ ap f (here t e) ∙ sym (put_at (of_shards xs d f) s (f new) t e)
            | inr n ↦ ap f (there t n) ∙ sym (put_off (of_shards xs d f) s (f new) t n)
          ]

  -- the shard's own entry stays
  pub shards_same : {X : Type 0} (f : S → X) → f new ≡ f (get_or xs s d) → of_shards (set xs s new) d f ≡ of_shards xs d f
  shards_same f e = λ c t. at t c
    where
      at : (t : ℕ) → f (get_or (set xs s new) t d) ≡ f (get_or xs t d)
      at t = elim (cases_eq t s) [ inl h ↦ ap f (here t h) ∙ (e ∙ ap (λ (n : ℕ). f (get_or xs n d)) (sym h)) | inr n ↦ ap f (there t n) ]

  -- one of the shard's entries is set
  pub both_set : {X : Type 0} (f : S → ℕ → X) (j : ℕ) (v : X) → f new j ≡ v → ((k : ℕ) → k ≢ j → f new k ≡ f (get_or xs s d) k)
      → of_both (set xs s new) d f ≡ put2 (of_both xs d f) s j v
  both_set f j v e same = λ c t k. at t k c
    where
      off : (t k : ℕ) → ((t ≡ s) × (k ≡ j) → ⊥) → f (get_or (set xs s new) t d) k ≡ put2 (of_both xs d f) s j v t k
      off t k n =
          elim (cases_eq t s) [
            | inl h ↦ ap (λ (x : S). f x k) (here t h) ∙ (same k (λ q. n (h, q)) ∙ (ap (λ (m : ℕ). f (get_or xs m d) k) (sym h) ∙ sym (put2_off (of_both xs d f) s j v t k n)))
            | inr h ↦ ap (λ (x : S). f x k) (there t h) ∙ sym (put2_off (of_both xs d f) s j v t k n)
          ]

      at : (t k : ℕ) → f (get_or (set xs s new) t d) k ≡ put2 (of_both xs d f) s j v t k
      at t k =
          elim (cases_both t s k j) [
            | inl p ↦ ap (λ (x : S). f x k) (here t p.0) ∙ (ap (f new) p.1 ∙ (e ∙ sym (put2_at (of_both xs d f) s j v t k p.0 p.1)))
            | inr n ↦ off t k n
          ]

  pub both_same : {X : Type 0} (f : S → ℕ → X) → ((k : ℕ) → f new k ≡ f (get_or xs s d) k) → of_both (set xs s new) d f ≡ of_both xs d f
  both_same f same = λ c t k. at t k c
    where
      at : (t k : ℕ) → f (get_or (set xs s new) t d) k ≡ f (get_or xs t d) k
      at t k = elim (cases_eq t s) [ inl h ↦ ap (λ (x : S). f x k) (here t h) ∙ (same k ∙ ap (λ (m : ℕ). f (get_or xs m d) k) (sym h)) | inr h ↦ ap (λ (x : S). f x k) (there t h) ]

  -- one entry of the shard's own numbers is set
  pub numbers_set : {X : Type 0} (shards : ℕ) (f : S → ℕ → X) (i : ℕ) (v : X) → i % shards ≡ s → f new i ≡ v → ((k : ℕ) → k ≢ i → f new k ≡ f (get_or xs s d) k)
      → of_numbers (set xs s new) d shards f ≡ put (of_numbers xs d shards f) i v
  numbers_set shards f i v own e same = λ c k. at k c
    where
      at : (k : ℕ) → f (get_or (set xs s new) (k % shards) d) k ≡ put (of_numbers xs d shards f) i v k
      at k =
          elim (cases_eq k i) [
            | inl p ↦ ap (λ (x : S). f x k) (here (k % shards) (ap (λ (n : ℕ). n % shards) p ∙ own)) ∙ (ap (f new) p ∙ (e ∙ sym (put_at (of_numbers xs d shards f) i v k p)))
            | inr n ↦ elim (cases_eq (k % shards) s) [
              | inl h ↦ ap (λ (x : S). f x k) (here (k % shards) h) ∙ (same k n ∙ (ap (λ (m : ℕ). f (get_or xs m d) k) (sym h) ∙ sym (put_off (of_numbers xs d shards f) i v k n)))
              | inr h ↦ ap (λ (x : S). f x k) (there (k % shards) h) ∙ sym (put_off (of_numbers xs d shards f) i v k n)
            ]
          ]

  pub numbers_same : {X : Type 0} (shards : ℕ) (f : S → ℕ → X) → ((k : ℕ) → f new k ≡ f (get_or xs s d) k) → of_numbers (set xs s new) d shards f ≡ of_numbers xs d shards f
  numbers_same shards f same = λ c k. at k c
    where
      at : (k : ℕ) → f (get_or (set xs s new) (k % shards) d) k ≡ f (get_or xs (k % shards) d) k
      at k =
          elim (cases_eq (k % shards) s) [
            | inl h ↦ ap (λ (x : S). f x k) (here (k % shards) h) ∙ (same k ∙ ap (λ (m : ℕ). f (get_or xs m d) k) (sym h))
            | inr h ↦ ap (λ (x : S). f x k) (there (k % shards) h)
          ]
