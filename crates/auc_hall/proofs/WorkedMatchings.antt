-- Small rows: what are assignments and Hall sets of them, by the definitions.
use Rattle.std.proofs.Common.{◌≡◌, ◌≢◌, ℕ, zero, suc, ◌<◌, true, false, List, [], ◌∷◌, Some, None, refl, sym, ap, subst, ◌∙◌, arith, inl, inr, Contains, pos}
use Rattle.std.specs.List.{slice_get}
use Rattle.std.proofs.lemmas.Option.{none-some, same_Some}
use Rattle.auc_graph.specs.declared.rows.RowArc.{RowArc}
use Rattle.auc_graph.specs.Table.{Table, row_of}
use Rattle.auc_hall.specs.Assignment.{IsRowAssignment, IsFull}
use Rattle.auc_graph.specs.Rising.{IsRising}
use Rattle.auc_hall.specs.HallSet.{IsRowHallSet}
use Rattle.auc_hall.specs.Partial.{pick, MayPlace}
use Rattle.auc_hall.specs.Chosen.{places, chosen}
use Rattle.auc_hall.proofs.Membership.{first_or_behind, nothing}

-- an arc to this object, at this place of the list
abbrev to : ℕ → ℕ → RowArc
to object place = record { cost = pos 0; object = object; arc = place }

abbrev rows : List (List RowArc) → Table
rows rs = record { objects = 2; spread = pos 0; rows = rs }

abbrev one_object_for_two : Table
one_object_for_two = rows ((to 0 0 ∷ []) ∷ (to 0 1 ∷ []) ∷ [])

abbrev nothing_for_the_second : Table
nothing_for_the_second = rows ((to 0 0 ∷ []) ∷ [] ∷ [])

abbrev all_for_all : Table
all_for_all = rows ((to 0 0 ∷ to 1 1 ∷ []) ∷ (to 0 2 ∷ to 1 3 ∷ []) ∷ [])

-- ---- lists that are computed

places_of_flags : places 0 (true ∷ false ∷ true ∷ []) ≡ 0 ∷ 2 ∷ []
places_of_flags = refl

arcs_that_there_are : chosen (Some (to 1 1) ∷ None ∷ Some (to 0 2) ∷ []) ≡ to 1 1 ∷ to 0 2 ∷ []
arcs_that_there_are = refl

-- ---- assignments

crossed_own : (i : ℕ) (a : RowArc) → slice_get (to 1 1 ∷ to 0 2 ∷ []) i ≡ Some a → Contains (row_of all_for_all i) a
crossed_own zero a h = (1, omega arith, same_Some (to 1 1) a h)
crossed_own (suc zero) a h = (0, omega arith, same_Some (to 0 2) a h)
crossed_own (suc (suc i)) a h = absurd (none-some a h)

crossed_apart : (i k : ℕ) (a b : RowArc) → slice_get (to 1 1 ∷ to 0 2 ∷ []) i ≡ Some a → slice_get (to 1 1 ∷ to 0 2 ∷ []) k ≡ Some b → a.object ≡ b.object → i ≡ k
crossed_apart zero zero a b h g e = refl
crossed_apart (suc zero) (suc zero) a b h g e = refl
crossed_apart zero (suc zero) a b h g e = absurd (omega (arith, e, ap (λ (r : RowArc). r.object) (same_Some (to 1 1) a h), ap (λ (r : RowArc). r.object) (same_Some (to 0 2) b g)))
crossed_apart (suc zero) zero a b h g e = absurd (omega (arith, e, ap (λ (r : RowArc). r.object) (same_Some (to 0 2) a h), ap (λ (r : RowArc). r.object) (same_Some (to 1 1) b g)))
crossed_apart (suc (suc i)) k a b h g e = absurd (none-some a h)
crossed_apart zero (suc (suc k)) a b h g e = absurd (none-some b g)
crossed_apart (suc zero) (suc (suc k)) a b h g e = absurd (none-some b g)

crossed_is_full : IsFull all_for_all (1 ∷ 2 ∷ [])
crossed_is_full = record { choice = to 1 1 ∷ to 0 2 ∷ []; assigned = record { persons = refl; own = crossed_own; objects = crossed_apart }; numbers_are = refl }

not_the_same_object : IsRowAssignment all_for_all (to 0 0 ∷ to 0 2 ∷ []) → ⊥
not_the_same_object h = let e = h.objects 0 1 (to 0 0) (to 0 2) refl refl refl in absurd (omega (arith, e))

not_one_person_alone : IsRowAssignment all_for_all (to 0 0 ∷ []) → ⊥
not_one_person_alone h = absurd (omega (arith, h.persons))

-- ---- one person placed

only_the_first : (i : ℕ) (b : RowArc) → pick (Some (to 0 0) ∷ None ∷ []) i ≡ Some b → b.object ≢ 1
only_the_first zero b h e = absurd (omega (arith, e, ap (λ (r : RowArc). r.object) (same_Some (to 0 0) b h)))
only_the_first (suc zero) b h e = none-some b h
only_the_first (suc (suc i)) b h e = none-some b h

-- the second person may take the second object while the first one has the first
second_may_take_the_second : MayPlace all_for_all (Some (to 0 0) ∷ None ∷ []) 1 3 (to 1 3)
second_may_take_the_second = record { his = (1, omega arith, refl); numbered = refl; unplaced = refl; untaken = only_the_first }

not_a_taken_object : MayPlace all_for_all (Some (to 0 0) ∷ None ∷ []) 1 2 (to 0 2) → ⊥
not_a_taken_object h = h.untaken 0 (to 0 0) refl refl

not_twice : MayPlace all_for_all (Some (to 0 0) ∷ None ∷ []) 0 1 (to 1 1) → ⊥
not_twice h = none-some (to 0 0) (sym h.unplaced)

-- ---- Hall sets

one_number_rises : (n : ℕ) → IsRising (n ∷ [])
one_number_rises n i j d lt in_list = absurd (omega arith)

two_rise : IsRising (0 ∷ 1 ∷ [])
two_rise zero zero d lt in_list = absurd (omega arith)
two_rise zero (suc zero) d lt in_list = omega arith
two_rise zero (suc (suc j)) d lt in_list = absurd (omega arith)
two_rise (suc i) zero d lt in_list = absurd (omega arith)
two_rise (suc i) (suc j) d lt in_list = absurd (omega arith)

-- both persons have arcs to the first object alone
to_the_first : (i : ℕ) (a : RowArc) → i < 2 → Contains (row_of one_object_for_two i) a → a.object ≡ 0
to_the_first zero a lt h = elim (first_or_behind (to 0 0) [] a h) [ inl e ↦ ap (λ (r : RowArc). r.object) (sym e) | inr b ↦ absurd (nothing a b) ]
to_the_first (suc zero) a lt h = elim (first_or_behind (to 0 1) [] a h) [ inl e ↦ ap (λ (r : RowArc). r.object) (sym e) | inr b ↦ absurd (nothing a b) ]
to_the_first (suc (suc i)) a lt h = absurd (omega arith)

below_two : (i : ℕ) → Contains (0 ∷ 1 ∷ []) i → i < 2
below_two i c = elim (first_or_behind 0 (1 ∷ []) i c) [
  | inl e ↦ omega (arith, e)
  | inr b ↦ elim (first_or_behind 1 [] i b) [ inl e ↦ omega (arith, e) | inr n ↦ absurd (nothing i n) ]
]

both_know_too_few : IsRowHallSet one_object_for_two (0 ∷ 1 ∷ []) (0 ∷ [])
both_know_too_few = record {
  within = below_two;
  persons_rise = two_rise;
  objects_rise = one_number_rises 0;
  all = λ i j c k. (0, omega arith, sym (to_the_first i k.0 (below_two i c) k.1) ∙ k.2);
  only = λ j c. elim (first_or_behind 0 [] j c) [ inl e ↦ (0, (0, omega arith, refl), (to 0 0, (0, omega arith, refl), e)) | inr n ↦ absurd (nothing j n) ];
  fewer = omega arith;
}

second_alone : (i : ℕ) → Contains (1 ∷ []) i → i ≡ 1
second_alone i c = elim (first_or_behind 1 [] i c) [ inl e ↦ sym e | inr n ↦ absurd (nothing i n) ]

second_knows_nothing : IsRowHallSet nothing_for_the_second (1 ∷ []) []
second_knows_nothing = record {
  within = λ i c. omega (arith, second_alone i c);
  persons_rise = one_number_rises 1;
  objects_rise = λ i j d lt in_list. absurd (omega arith);
  all = λ i j c k. absurd (nothing k.0 (subst (λ (n : ℕ). Contains (row_of nothing_for_the_second n) k.0) (second_alone i c) k.1));
  only = λ j c. absurd (nothing j c);
  fewer = omega arith;
}

not_without_an_object : IsRowHallSet one_object_for_two (0 ∷ 1 ∷ []) [] → ⊥
not_without_an_object h = absurd (nothing 0 (h.all 0 0 (0, omega arith, refl) (to 0 0, (0, omega arith, refl), refl)))

not_without_a_person : IsRowHallSet one_object_for_two (0 ∷ []) (0 ∷ []) → ⊥
not_without_a_person h = absurd (omega (arith, h.fewer))

not_falling : IsRowHallSet one_object_for_two (1 ∷ 0 ∷ []) (0 ∷ []) → ⊥
not_falling h = let lt = h.persons_rise 0 1 0 (omega arith) (omega arith) in absurd (omega (arith, lt))
