-- What the tables of a problem and the lists of a shard give for a phase.
use Rattle.std.proofs.Common.{ℕ, zero, suc, ◌+◌, ◌%◌, ◌<◌, ◌≡◌, ◌≢◌, refl, arith, true, false, Bool, List, [], ◌∷◌, length, inl, inr, ◌∙◌}
use Rattle.std.specs.Prelude.{ℤ, if◌then◌else◌, ◌&&◌, nat_lt, nat_le, ◌==◌, slice_index_or, drop, All, filter}
use Rattle.std.specs.List.{range_with_len}
use Rattle.std.proofs.lemmas.Bool.{cases_lt, cases_Bool, cases_eq, eq-eqb, ne_eqb}
use Rattle.std.proofs.lemmas.Bool.Decides.{nat_tests}
use Rattle.std.proofs.lemmas.List.{get_or_past}
use Rattle.std.proofs.lemmas.List.Elements.{All-weaker}
use Rattle.auc_graph.specs.Table.{IsRowArc, IsTable, Table, row_of}
use Rattle.auc_letters.specs.Price.{IsEps}
use Rattle.auc_letters.specs.declared.state.PersonState.{PersonState}
use Rattle.auc_letters.specs.Persons.{persons_of}
use Rattle.auc_model.specs.Start.{Lawful, free_in, occurs}
use Rattle.auc_model.specs.World.{Phase, phase_of}

-- the rows of a problem make a lawful phase, where there are shards and eps is at least 1
pub table_lawful : (t : Table) (shards : ℕ) (eps : ℤ) → IsTable t → 0 < shards → IsEps eps → Lawful (phase_of t shards eps)
table_lawful t shards eps table some is_eps = record { some_shards = some; eps_above = is_eps.low; spread_above = table.low; arcs_in_range = each }
  where
    each : (i : ℕ) → All (λ a. a.object < t.objects) (row_of t i)
    each i =
        elim (cases_lt i (length t.rows)) [
          | inl l ↦ All-weaker (IsRowArc t.objects) (λ a. a.object < t.objects) (λ a r. r.object) (row_of t i) (table.each i [] l).within
          | inr n ↦ (let e : row_of t i ≡ [] = get_or_past t.rows i [] n in rw e (λ k d l. absurd (omega arith)))
        ]

-- a list that isn't empty is its first element before the rest
pub first_and_rest : {X : Type 0} (xs : List X) (d : X) → xs ≢ [] → xs ≡ slice_index_or xs 0 d ∷ drop 1 xs
first_and_rest [] d n = absurd (n refl)
first_and_rest (x ∷ xs) d n = refl

-- 1 where i is from a to a + n and passes the test, and else 0
abbrev in_range_one : (ℕ → Bool) → ℕ → ℕ → ℕ → ℕ
in_range_one p a n i = if p i && (nat_le a i && nat_lt i (a + n)) then 1 else 0

occurs_range : (p : ℕ → Bool) (i n a : ℕ) → occurs i (filter p (range_with_len a n)) ≡ in_range_one p a n i
occurs_range p i zero a = grind (arith, nat_tests)
occurs_range p i (suc n) a = elim (cases_Bool (p a)) [ inl t ↦ passes t (occurs_range p i n (a + 1)) | inr f ↦ fails f (occurs_range p i n (a + 1)) ]
  where
    passes : p a ≡ true → occurs i (filter p (range_with_len (a + 1) n)) ≡ in_range_one p (a + 1) n i → occurs i (filter p (range_with_len a (suc n))) ≡ in_range_one p a (suc n) i
    passes t e = rw t (elim (cases_eq a i) [ inl h ↦ rw (eq-eqb a i h, e) (rw (← h) (grind (arith, nat_tests, t))) | inr h ↦ rw (ne_eqb a i h, e) (grind (arith, nat_tests, t)) ])

    fails : p a ≡ false → occurs i (filter p (range_with_len (a + 1) n)) ≡ in_range_one p (a + 1) n i → occurs i (filter p (range_with_len a (suc n))) ≡ in_range_one p a (suc n) i
    fails f e = rw (f, e) (elim (cases_eq a i) [ inl h ↦ rw (← h) (grind (arith, nat_tests, f)) | inr h ↦ grind (arith, nat_tests, f) ])

-- each person of a shard is once in the list of its persons, and no other person is
pub occurs_persons : (g : Phase) (s i : ℕ) → occurs i (persons_of s g.shards g.persons) ≡ free_in g PersonState.Free s i
occurs_persons g s i = occurs_range (λ k. (k % g.shards) == s) i g.persons 0 ∙ grind (arith, nat_tests)
