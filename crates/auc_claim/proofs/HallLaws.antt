-- The test of a Hall set: what it proves, and what passes it.
use Rattle.std.proofs.Common.{◌≡◌, ℕ, ◌+◌, zero, suc, ◌<◌, ◌≤◌, Bool, true, false, not, ◌||◌, List, [], ◌∷◌, length, get_or, refl, sym, ap, subst, ◌∙◌, arith, eqb, Contains, All}
use Rattle.std.specs.Prelude.{◌&&◌, nat_lt}
use Rattle.std.specs.List.{list_all}
use Rattle.std.proofs.lemmas.Bool.{and_parts, and_from}
use Rattle.std.proofs.lemmas.Bool.Decides.{nat_tests}
use Rattle.std.proofs.lemmas.List.Elements.{All-nil, All-cons}
use Rattle.std.proofs.lemmas.Map.Views.{Contains-from_any}
use Rattle.auc_graph.specs.declared.arc.Arc.{Arc}
use Rattle.auc_graph.specs.Problem.{Problem, IsProblem, IsWithin}
use Rattle.auc_graph.specs.HallSet.{IsHallSet}
use Rattle.auc_graph.specs.Rising.{IsRising, Rises}
use Rattle.auc_graph.proofs.RisingLaws.{rising_differ}
use Rattle.auc_claim.specs.InRange.{AreNamesInRange}
use Rattle.auc_claim.specs.Claim.{are_below, is_listed, stays_within, is_hall, AreListed}
use Rattle.auc_graph.specs.declared.limits.TheConstants.{MOST_OBJECTS, MOST_PERSONS}
use Rattle.auc_claim.specs.Spelled.{IsBelow}
use Rattle.auc_claim.proofs.RisingLaws.{is_rising, rises_from, rises_room}

passes_at : {X : Type 0} (test : X → Bool) (xs : List X) (k : ℕ) (x : X) → list_all test xs ≡ true → k < length xs → get_or xs k x ≡ x → test x ≡ true
passes_at test [] k x h lt e = absurd (omega arith)
passes_at test (y ∷ xs) zero x h lt e = let both = and_parts (test y) (list_all test xs) h in ap test (sym e) ∙ both.0
passes_at test (y ∷ xs) (suc k) x h lt e = let both = and_parts (test y) (list_all test xs) h in passes_at test xs k x both.1 (omega arith) e

-- what all pass, each passes
pub passes : {X : Type 0} (test : X → Bool) (xs : List X) (x : X) → list_all test xs ≡ true → Contains xs x → test x ≡ true
passes test xs x h (k, lt, e) = passes_at test xs k x h lt e

-- and the other way round
pub all_pass : {X : Type 0} (test : X → Bool) (xs : List X) → ((x : X) → Contains xs x → test x ≡ true) → list_all test xs ≡ true
all_pass test [] h = refl
all_pass test (x ∷ xs) h = and_from (test x) (list_all test xs) (h x (0, omega arith, refl)) (all_pass test xs (λ y c. h y (suc c.0, omega (arith, c.1), c.2)))

equal_is : (m n : ℕ) → eqb m n ≡ true → m ≡ n
equal_is m n h = grind (arith, nat_tests)

same_equal : (m n : ℕ) → m ≡ n → eqb m n ≡ true
same_equal m n e = grind (arith, nat_tests)

pub listed_is : (numbers : List ℕ) (k : ℕ) → is_listed numbers k ≡ true → Contains numbers k
listed_is numbers k h = Contains-from_any equal_is k numbers h

listed_at : (numbers : List ℕ) (i k : ℕ) → i < length numbers → get_or numbers i k ≡ k → is_listed numbers k ≡ true
listed_at [] i k lt e = absurd (omega arith)
listed_at (n ∷ numbers) zero k lt e = rw (same_equal k n (sym e)) refl
listed_at (n ∷ numbers) (suc i) k lt e = rw (listed_at numbers i k (omega arith) e) (or_true (eqb k n))
  where
    or_true : (b : Bool) → (b || true) ≡ true
    or_true true = refl
    or_true false = refl

pub is_in_list : (numbers : List ℕ) (k : ℕ) → Contains numbers k → is_listed numbers k ≡ true
is_in_list numbers k (i, lt, e) = listed_at numbers i k lt e

less_is : (m n : ℕ) → nat_lt m n ≡ true → m < n
less_is m n h = grind (arith, nat_tests)

is_less : (m n : ℕ) → m < n → nat_lt m n ≡ true
is_less m n h = grind (arith, nat_tests)

known_of : (b c : Bool) → (not b || c) ≡ true → b ≡ true → c ≡ true
known_of true c h e = h
known_of false c h e = absurd cc

known_from : (b c : Bool) → (b ≡ true → c ≡ true) → (not b || c) ≡ true
known_from true c h = h refl
known_from false c h = refl

-- persons and objects that pass the test are a Hall set of the problem
pub hall_set_is : (p : Problem) (persons objects : List ℕ) → AreNamesInRange persons objects → is_hall p persons objects ≡ true → IsHallSet p persons objects
hall_set_is p persons objects named h =
    let outer = and_parts (are_below p.persons persons && are_below p.objects objects) (nat_lt (length objects) (length persons) && list_all (stays_within persons objects) p.arcs) h in
    let below = and_parts (are_below p.persons persons) (are_below p.objects objects) outer.0 in
    let inner = and_parts (nat_lt (length objects) (length persons)) (list_all (stays_within persons objects) p.arcs) outer.1 in
    record {
      within = λ i c. less_is i p.persons (passes (λ k. nat_lt k p.persons) persons i below.0 c);
      different = rising_differ persons (is_rising 0 MOST_PERSONS persons named.persons_rise);
      all = λ a c his. listed_is objects a.object (known_of (is_listed persons a.person) (is_listed objects a.object) (passes (stays_within persons objects) p.arcs a inner.1 c) (is_in_list persons a.person his));
      fewer = less_is (length objects) (length persons) inner.0;
    }

-- and a Hall set of the problem passes it
pub hall_set_passes : (p : Problem) (persons objects : List ℕ) → IsHallSet p persons objects → ((j : ℕ) → Contains objects j → j < p.objects) → is_hall p persons objects ≡ true
hall_set_passes p persons objects s within =
    and_from (are_below p.persons persons && are_below p.objects objects) (nat_lt (length objects) (length persons) && list_all (stays_within persons objects) p.arcs)
    (and_from (are_below p.persons persons) (are_below p.objects objects) (all_pass (λ k. nat_lt k p.persons) persons (λ i c. is_less i p.persons (s.within i c))) (all_pass (λ k. nat_lt k p.objects) objects (λ j c. is_less j p.objects (within j c))))
    (and_from (nat_lt (length objects) (length persons)) (list_all (stays_within persons objects) p.arcs) (is_less (length objects) (length persons) s.fewer)
    (all_pass (stays_within persons objects) p.arcs (λ a c. known_from (is_listed persons a.person) (is_listed objects a.object) (λ his. is_in_list objects a.object (s.all a c (listed_is persons a.person his))))))

all_contained : (most n : ℕ) (numbers : List ℕ) → ((k : ℕ) → Contains numbers k → k < n) → n ≤ most → All (IsBelow most) numbers
all_contained most n [] h le = All-nil (IsBelow most)
all_contained most n (k ∷ numbers) h le =
    let here : k < n = h k (0, omega arith, refl) in
    All-cons (IsBelow most) k numbers (omega arith) (all_contained most n numbers (λ j c. h j (suc c.0, omega (arith, c.1), c.2)) le)

pub none_below_0 : (numbers : List ℕ) → All (λ k. 0 ≤ k) numbers
none_below_0 numbers i d lt = omega arith

-- a Hall set of the problem, named in rising order, has a certificate
pub hall_set_in_range : (p : Problem) (persons objects : List ℕ) → IsProblem p → IsHallSet p persons objects → IsRising persons → IsRising objects → ((j : ℕ) → Contains objects j → j < p.objects) → AreNamesInRange persons objects
hall_set_in_range p persons objects is s persons_rise objects_rise within =
    let most : p.persons ≤ MOST_PERSONS = is.most in
    let most_objects : p.objects ≤ MOST_OBJECTS = is.most_objects in
    let fewer : length objects < length persons = s.fewer in
    let rises : Rises 0 MOST_PERSONS persons = rises_from 0 MOST_PERSONS persons (none_below_0 persons) (all_contained MOST_PERSONS p.persons persons s.within most) persons_rise in
    let room : 0 + length persons ≤ MOST_PERSONS = rises_room 0 MOST_PERSONS persons (omega arith) rises in
    record {
      some = omega arith;
      few = omega arith;
      persons_rise = rises;
      objects_rise = rises_from 0 MOST_OBJECTS objects (none_below_0 objects) (all_contained MOST_OBJECTS p.objects objects within most_objects) objects_rise;
    }

same_all : {X : Type 0} (f g : X → Bool) (xs : List X) → ((x : X) → Contains xs x → f x ≡ g x) → list_all f xs ≡ list_all g xs
same_all f g [] h = refl
same_all f g (x ∷ xs) h = rw (h x (0, omega arith, refl), same_all f g xs (λ y c. h y (suc c.0, omega (arith, c.1), c.2))) refl

-- the test as the code makes it: by two lists of flags
pub told_by_flags : (p : Problem) (persons objects : List ℕ) (listed known : List Bool) → are_below p.persons persons ≡ true → are_below p.objects objects ≡ true → length objects < length persons → All (IsWithin p.persons p.objects) p.arcs
    → length listed ≡ p.persons → length known ≡ p.objects → AreListed persons listed → AreListed objects known → list_all (λ a. not (get_or listed a.person false) || get_or known a.object false) p.arcs ≡ is_hall p persons objects
told_by_flags p persons objects listed known below_persons below_objects fewer within size size2 flags flags2 =
    let told : list_all (λ a. not (get_or listed a.person false) || get_or known a.object false) p.arcs ≡ list_all (stays_within persons objects) p.arcs =
    same_all (λ a. not (get_or listed a.person false) || get_or known a.object false) (stays_within persons objects) p.arcs
    (λ a c.
    let in_range : IsWithin p.persons p.objects a = subst (IsWithin p.persons p.objects) c.2 (within c.0 a c.1) in
    rw (flags a.person (omega (arith, size, in_range.person)), flags2 a.object (omega (arith, size2, in_range.object))) refl) in
    told ∙ sym (rw (below_persons, below_objects, is_less (length objects) (length persons) fewer) refl)

pub all_below : (n : ℕ) (numbers : List ℕ) → are_below n numbers ≡ true → All (λ k. k < n) numbers
all_below n [] h = All-nil (λ k. k < n)
all_below n (k ∷ numbers) h = let both = and_parts (nat_lt k n) (are_below n numbers) h in All-cons (λ m. m < n) k numbers (less_is k n both.0) (all_below n numbers both.1)

-- the same of slices that hold these flags and arcs
pub told_by_slices : (p : Problem) (persons objects : List ℕ) (listed known seen heard : List Bool) (arcs : List Arc) (answer : Bool) → seen ≡ listed → heard ≡ known → arcs ≡ p.arcs
    → answer ≡ list_all (λ a. not (get_or seen a.person false) || get_or heard a.object false) arcs
    → list_all (λ a. not (get_or listed a.person false) || get_or known a.object false) p.arcs ≡ is_hall p persons objects → answer ≡ is_hall p persons objects
told_by_slices p persons objects listed known seen heard arcs answer same same2 same3 is told =
    is ∙ ap (λ (fs : List Bool). list_all (λ a. not (get_or fs a.person false) || get_or heard a.object false) arcs) same
    ∙ ap (λ (fs : List Bool). list_all (λ a. not (get_or listed a.person false) || get_or fs a.object false) arcs) same2
    ∙ ap (λ (xs : List Arc). list_all (λ a. not (get_or listed a.person false) || get_or known a.object false) xs) same3 ∙ told
