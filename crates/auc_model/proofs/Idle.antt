-- The lists of free persons: each free person is once in that of its shard.
use Rattle.std.proofs.Common.{ℕ, suc, ◌%◌, ◌<◌, ◌≡◌, ◌≢◌, refl, arith, true, false, List, [], ◌∷◌, ◌++◌, inl, inr, sym, ◌∙◌}
use Rattle.std.specs.Prelude.{if◌then◌else◌, ◌==◌}
use Rattle.std.proofs.lemmas.Bool.{cases_eq, eq-eqb}
use Rattle.std.proofs.lemmas.Bool.Decides.{nat_tests}
use Rattle.auc_letters.specs.declared.state.PersonState.{PersonState}
use Rattle.auc_letters.specs.declared.state.PersonState.TheVariants.{Free, Holds, Waits}
use Rattle.auc_model.specs.Places.{Answer, Award, Outbid, Refused, heard}
use Rattle.auc_model.specs.Put.{put}
use Rattle.auc_letters.specs.Persons.{is_free}
use Rattle.auc_model.specs.Start.{free_in, occurs}
use Rattle.auc_model.specs.World.{Phase}
use Rattle.auc_model.proofs.Places.{put_at, put_off}

-- the free persons after one of the shard has taken an answer
abbrev pub freed : Answer → ℕ → List ℕ → List ℕ
freed Award i xs = xs
freed Refused i xs = xs ++ i ∷ []
freed Outbid i xs = xs ++ i ∷ []

pub occurs_push : (i k : ℕ) (xs : List ℕ) → occurs i (xs ++ k ∷ []) ≡ (if k == i then suc (occurs i xs) else occurs i xs)
occurs_push i k [] = refl
occurs_push i k (x ∷ xs) = grind (arith, occurs_push i k xs)

is_free-true : (t : PersonState) → is_free t ≡ true → t ≡ Free
is_free-true Free e = refl
is_free-true (Waits j) e = cc
is_free-true (Holds j) e = cc

-- an entry of the list of a shard is a free person of it, and it is n times among the others
pub record IsIdle (g : Phase) (t : PersonState) (s i n : ℕ) : Type 0 where
  pub free : t ≡ Free
  pub shard : i % g.shards ≡ s
  pub known : i < g.persons
  pub once : n ≡ 0

pub idle_facts : (g : Phase) (t : PersonState) (s i n : ℕ) → suc n ≡ free_in g t s i → IsIdle g t s i n
idle_facts g t s i n e = record { free = is_free-true t free; shard = shard; known = known; once = once }
  where
    free : is_free t ≡ true
    free = grind (arith, nat_tests)

    shard : i % g.shards ≡ s
    shard = grind (arith, nat_tests)

    known : i < g.persons
    known = grind (arith, nat_tests)

    once : n ≡ 0
    once = grind (arith, nat_tests)

free_in_busy : (g : Phase) (t : PersonState) (s i : ℕ) → is_free t ≡ false → free_in g t s i ≡ 0
free_in_busy g t s i e = grind (arith, nat_tests)

free_in_else : (g : Phase) (t : PersonState) (s i : ℕ) → i % g.shards ≢ s → free_in g t s i ≡ 0
free_in_else g t s i e = grind (arith, nat_tests)

free_in_free : (g : Phase) (s i : ℕ) → i % g.shards ≡ s → i < g.persons → free_in g Free s i ≡ 1
free_in_free g s i e h = grind (arith, nat_tests)

module _ (g : Phase) (state : ℕ → PersonState) (idle : ℕ → List ℕ) (all : (s i : ℕ) → occurs i (idle s) ≡ free_in g (state i) s i) where
  -- the first one bids
  module _ (s i j : ℕ) (rest : List ℕ) (first : idle s ≡ i ∷ rest) where
    pub bid_facts : IsIdle g (state i) s i (occurs i rest)
    bid_facts = let h = all s i in idle_facts g (state i) s i (occurs i rest) (grind (arith, nat_tests))

    bid_same : (k : ℕ) → k ≢ i → occurs k (idle s) ≡ occurs k rest
    bid_same k n = grind (arith, nat_tests)

    pub idle_bid : (t k : ℕ) → occurs k (put idle s rest t) ≡ free_in g (put state i (Waits j) k) t k
    idle_bid t k =
        elim (cases_eq k i) [
          | inl e ↦ elim (cases_eq t s) [ inl f ↦ itself t k e f | inr f ↦ itself_else t k e f ]
          | inr e ↦ elim (cases_eq t s) [ inl f ↦ other t k e f | inr f ↦ other_else t k e f ]
        ]
      where
        itself : (t k : ℕ) → k ≡ i → t ≡ s → occurs k (put idle s rest t) ≡ free_in g (put state i (Waits j) k) t k
        itself t k e f = rw (put_at idle s rest t f, put_at state i (Waits j) k e, e) (bid_facts.once ∙ sym (free_in_busy g (Waits j) t i refl))

        itself_else : (t k : ℕ) → k ≡ i → t ≢ s → occurs k (put idle s rest t) ≡ free_in g (put state i (Waits j) k) t k
        itself_else t k e f =
            rw (put_off idle s rest t f, put_at state i (Waits j) k e, e)
            (all t i ∙ (free_in_else g (state i) t i (λ h. f (sym h ∙ bid_facts.shard)) ∙ sym (free_in_busy g (Waits j) t i refl)))

        other : (t k : ℕ) → k ≢ i → t ≡ s → occurs k (put idle s rest t) ≡ free_in g (put state i (Waits j) k) t k
        other t k e f = rw (put_at idle s rest t f, put_off state i (Waits j) k e, f) (sym (bid_same k e) ∙ all s k)

        other_else : (t k : ℕ) → k ≢ i → t ≢ s → occurs k (put idle s rest t) ≡ free_in g (put state i (Waits j) k) t k
        other_else t k e f = rw (put_off idle s rest t f, put_off state i (Waits j) k e) (all t k)

  -- one takes an answer
  module _ (s i j : ℕ) (a : Answer) (busy : is_free (state i) ≡ false) (his : i % g.shards ≡ s) (in_range : i < g.persons) where
    none_yet : (t : ℕ) → occurs i (idle t) ≡ 0
    none_yet t = all t i ∙ free_in_busy g (state i) t i busy

    freed_other : (b : Answer) (k : ℕ) (xs : List ℕ) → k ≢ i → occurs k (freed b i xs) ≡ occurs k xs
    freed_other Award k xs n = refl
    freed_other Refused k xs n = occurs_push k i xs ∙ grind (arith, nat_tests)
    freed_other Outbid k xs n = occurs_push k i xs ∙ grind (arith, nat_tests)

    freed_itself : (b : Answer) (xs : List ℕ) → occurs i xs ≡ 0 → occurs i (freed b i xs) ≡ free_in g (heard b j) s i
    freed_itself Award xs e = e ∙ sym (free_in_busy g (Holds j) s i refl)
    freed_itself Refused xs e = occurs_push i i xs ∙ (rw (eq-eqb i i refl, e) (sym (free_in_free g s i his in_range)))
    freed_itself Outbid xs e = occurs_push i i xs ∙ (rw (eq-eqb i i refl, e) (sym (free_in_free g s i his in_range)))

    pub idle_hear : (t k : ℕ) → occurs k (put idle s (freed a i (idle s)) t) ≡ free_in g (put state i (heard a j) k) t k
    idle_hear t k =
        elim (cases_eq k i) [
          | inl e ↦ elim (cases_eq t s) [ inl f ↦ itself t k e f | inr f ↦ itself_else t k e f ]
          | inr e ↦ elim (cases_eq t s) [ inl f ↦ other t k e f | inr f ↦ other_else t k e f ]
        ]
      where
        itself : (t k : ℕ) → k ≡ i → t ≡ s → occurs k (put idle s (freed a i (idle s)) t) ≡ free_in g (put state i (heard a j) k) t k
        itself t k e f = rw (put_at idle s (freed a i (idle s)) t f, put_at state i (heard a j) k e, e, f) (freed_itself a (idle s) (none_yet s))

        itself_else : (t k : ℕ) → k ≡ i → t ≢ s → occurs k (put idle s (freed a i (idle s)) t) ≡ free_in g (put state i (heard a j) k) t k
        itself_else t k e f =
            rw (put_off idle s (freed a i (idle s)) t f, put_at state i (heard a j) k e, e)
            (none_yet t ∙ sym (free_in_else g (heard a j) t i (λ h. f (sym h ∙ his))))

        other : (t k : ℕ) → k ≢ i → t ≡ s → occurs k (put idle s (freed a i (idle s)) t) ≡ free_in g (put state i (heard a j) k) t k
        other t k e f = rw (put_at idle s (freed a i (idle s)) t f, put_off state i (heard a j) k e, f) (freed_other a k (idle s) e ∙ all s k)

        other_else : (t k : ℕ) → k ≢ i → t ≢ s → occurs k (put idle s (freed a i (idle s)) t) ≡ free_in g (put state i (heard a j) k) t k
        other_else t k e f = rw (put_off idle s (freed a i (idle s)) t f, put_off state i (heard a j) k e) (all t k)
