-- The persons of a Hall set can't all be assigned.
use Rattle.std.proofs.Common.{◌≡◌, ◌≢◌, ℕ, zero, suc, ◌+◌, ◌-◌, ◌<◌, ◌≤◌, false, eqb, List, length, get_or, map, sym, ap, subst, ◌∙◌, arith, inl, inr, Contains, pos}
use Rattle.std.specs.Prelude.{nat_eq}
use Rattle.std.specs.List.{remove, IsDistinct}
use Rattle.std.proofs.lemmas.Bool.{cases_lt}
use Rattle.std.proofs.lemmas.Bool.Decides.{nat_tests}
use Rattle.std.proofs.lemmas.List.{length-map, get_or-map, get_or_default}
use Rattle.std.proofs.lemmas.List.Edits.{length-remove, get_or-remove_below, get_or-remove_above}
use Rattle.std.proofs.lemmas.List.Elements.{All-get_or, Contains-get_or}
use Rattle.std.proofs.lemmas.List.FromFn.{length-range_with_len, get_or-range_with_len}
use Rattle.std.proofs.lemmas.Map.Keys.{apart_from_distinct}
use Rattle.auc_graph.specs.declared.arc.Arc.{Arc}
use Rattle.auc_graph.specs.Problem.{Problem}
use Rattle.auc_graph.specs.Assignment.{IsAssignment, person_of, object_of}
use Rattle.auc_graph.specs.HallSet.{IsHallSet}

-- what is at another place stays when one is removed
still_contained : (xs : List ℕ) (k : ℕ) (x : ℕ) → k < length xs → get_or xs k x ≢ x → Contains xs x → Contains (remove xs k) x
still_contained xs k x lt other (m, m_lt, is) = elim (cases_lt m k) [
  | inl below ↦ (m, omega (arith, length-remove xs k lt), get_or-remove_below xs k x m below lt ∙ is)
  | inr above ↦
      let differ : m ≢ k = λ e. other (ap (λ (n : ℕ). get_or xs n x) (sym e) ∙ is) in
      let up : k < m = omega (arith, above, differ) in
      let back : m - 1 + 1 ≡ m = omega arith in
      (m - 1, omega (arith, length-remove xs k lt), get_or-remove_above xs k x (m - 1) (omega arith) lt ∙ ap (λ (n : ℕ). get_or xs n x) back ∙ is)
]

-- n different numbers of a list are at most as many as its places
pub pigeonhole : (n : ℕ) (f : ℕ → ℕ) (ys : List ℕ) → ((i k : ℕ) → i < k → k < n → f i ≢ f k) → ((i : ℕ) → i < n → Contains ys (f i)) → n ≤ length ys
pigeonhole zero f ys apart in_list = omega arith
pigeonhole (suc n) f ys apart in_list =
    let last = in_list n (omega arith) in
    let rest = pigeonhole n f (remove ys last.0) (λ i k lt k_lt. apart i k lt (omega arith))
    (λ i lt. still_contained ys last.0 (f i) last.1 (λ e. apart i n lt (omega arith) (sym e ∙ get_or_default ys last.0 (f i) (f n) last.1 ∙ last.2)) (in_list i (omega arith))) in
    omega (arith, rest, length-remove ys last.0 last.1)

unequal : (m n : ℕ) → eqb m n ≡ false → m ≢ n
unequal m n h e = grind (arith, nat_tests)

-- at different places of a list without repeats are different numbers
differ_at : (ks : List ℕ) (m n : ℕ) → IsDistinct nat_eq ks → m ≢ n → m < length ks → n < length ks → get_or ks m 0 ≢ get_or ks n 0
differ_at ks m n different others m_lt n_lt = elim (cases_lt m n) [
  | inl below ↦ unequal (get_or ks m 0) (get_or ks n 0) (apart_from_distinct nat_eq ks m n 0 different below n_lt)
  | inr above ↦ λ e. unequal (get_or ks n 0) (get_or ks m 0) (apart_from_distinct nat_eq ks n m 0 different (omega (arith, above, others)) m_lt) (sym e)
]

abbrev no_arc : Arc
no_arc = record { person = 0; object = 0; cost = pos 0 }

pub no_assignment : (p : Problem) (persons objects : List ℕ) → IsHallSet p persons objects → (choice : List Arc) → IsAssignment p choice → ⊥
no_assignment p persons objects s choice a =
    let person : ℕ → ℕ = λ i. get_or persons i 0 in
    let object : ℕ → ℕ = λ i. (get_or choice (person i) no_arc).object in
    let len : length choice ≡ p.persons = sym (length-map choice person_of) ∙ ap length a.persons ∙ length-range_with_len 0 p.persons in
    let in_set : (i : ℕ) → i < length persons → Contains persons (person i) = λ i lt. Contains-get_or persons i 0 lt in
    let in_choice : (i : ℕ) → i < length persons → person i < length choice = λ i lt. omega (arith, len, s.within (person i) (in_set i lt)) in
    let is_his : (i : ℕ) → i < length persons → (get_or choice (person i) no_arc).person ≡ person i = λ i lt.
    let below = s.within (person i) (in_set i lt) in
    sym (get_or-map person_of choice (person i) no_arc 0 (in_choice i lt)) ∙ ap (λ (ks : List ℕ). get_or ks (person i) 0) a.persons ∙ get_or-range_with_len 0 p.persons (person i) 0 below ∙ omega arith in
    let known : (i : ℕ) → i < length persons → Contains objects (object i) = λ i lt.
    s.all (get_or choice (person i) no_arc) (All-get_or (Contains p.arcs) choice (person i) no_arc (in_choice i lt) a.arcs) (subst (λ (n : ℕ). Contains persons n) (sym (is_his i lt)) (in_set i lt)) in
    let object_is : (i : ℕ) → i < length persons → get_or (map object_of choice) (person i) 0 ≡ object i = λ i lt. get_or-map object_of choice (person i) no_arc 0 (in_choice i lt) in
    let apart : (i k : ℕ) → i < k → k < length persons → object i ≢ object k = λ i k lt k_lt e.
    let i_lt : i < length persons = omega arith in
    let in_map : (m : ℕ) → m < length persons → person m < length (map object_of choice) = λ m m_lt. omega (arith, in_choice m m_lt, length-map choice object_of) in
    let others : person i ≢ person k = unequal (person i) (person k) (apart_from_distinct nat_eq persons i k 0 s.different lt k_lt) in
    differ_at (map object_of choice) (person i) (person k) a.objects others (in_map i i_lt) (in_map k k_lt) (object_is i i_lt ∙ e ∙ sym (object_is k k_lt)) in
    absurd (omega (arith, pigeonhole (length persons) object objects apart known, s.fewer))
