-- The picks of a full matching are those of an assignment.
use Rattle.std.proofs.Common.{◌≡◌, ℕ, zero, suc, ◌+◌, ◌<◌, List, [], ◌∷◌, length, get_or, map, Some, refl, sym, ap, subst, ◌∙◌, pos, All}
use Rattle.std.specs.List.{slice_get, range_with_len}
use Rattle.std.proofs.lemmas.List.{length-map}
use Rattle.std.proofs.lemmas.List.Elements.{All-nil, All-cons}
use Rattle.std.proofs.lemmas.List.FromFn.{length-range_with_len}
use Rattle.std.proofs.lemmas.Option.{slice_get_within, get_or_from_slice_get}
use Rattle.auc_graph.specs.declared.arc.Arc.{Arc}
use Rattle.auc_graph.specs.Problem.{Problem}
use Rattle.auc_graph.specs.Assignment.{IsAssignment, person_of}
use Rattle.auc_hall.specs.OfProblem.{IsFullOf}
use Rattle.auc_claim.specs.declared.lists.Pick.{Pick}
use Rattle.auc_claim.specs.Claim.{chosen}
use Rattle.auc_answers.specs.Claims.{pick_at}

-- ---- a full assignment

some_is : {X : Type 0} (x y : X) → Some x ≡ Some y → x ≡ y
some_is x y e = cc

all_within : (arcs : List Arc) (numbers : List ℕ) (choice : List Arc) → map (slice_get arcs) numbers ≡ map Some choice → All (λ n. n < length arcs) numbers
all_within arcs [] choice e = All-nil (λ n. n < length arcs)
all_within arcs (n ∷ numbers) [] e = absurd cc
all_within arcs (n ∷ numbers) (a ∷ choice) e =
    let here : slice_get arcs n ≡ Some a = cc in
    let rest : map (slice_get arcs) numbers ≡ map Some choice = cc in
    All-cons (λ m. m < length arcs) n numbers (slice_get_within arcs n a here) (all_within arcs numbers choice rest)

abbrev named_by : ℕ → Arc → Arc
named_by i b = record { person = i; object = b.object; cost = b.cost }

picks_name : (arcs : List Arc) (k : ℕ) (numbers : List ℕ) (choice : List Arc) (n : ℕ) → map (slice_get arcs) numbers ≡ map Some choice → map person_of choice ≡ range_with_len k n → chosen k (map (pick_at arcs) numbers) ≡ choice
picks_name arcs k [] [] n e f = refl
picks_name arcs k [] (a ∷ choice) n e f = absurd cc
picks_name arcs k (m ∷ numbers) [] n e f = absurd cc
picks_name arcs k (m ∷ numbers) (a ∷ choice) zero e f = absurd cc
picks_name arcs k (m ∷ numbers) (a ∷ choice) (suc n) e f =
    let here : slice_get arcs m ≡ Some a = cc in
    let rest : map (slice_get arcs) numbers ≡ map Some choice = cc in
    let person : a.person ≡ k = cc in
    let persons : map person_of choice ≡ range_with_len (k + 1) n = cc in
    let is : get_or arcs m (record { person = 0; object = 0; cost = pos 0 }) ≡ a = get_or_from_slice_get arcs m a (record { person = 0; object = 0; cost = pos 0 }) here in
    let first : named_by k (get_or arcs m (record { person = 0; object = 0; cost = pos 0 })) ≡ a = ap (named_by k) is ∙ ap (λ (i : ℕ). named_by i a) (sym person) in
    ap (λ (b : Arc). b ∷ chosen (k + 1) (map (pick_at arcs) numbers)) first ∙ ap (λ (bs : List Arc). a ∷ bs) (picks_name arcs (k + 1) numbers choice n rest persons)

is_assignment : (p : Problem) (numbers : List ℕ) → IsFullOf p numbers → IsAssignment p (chosen 0 (map (pick_at p.arcs) numbers))
is_assignment p numbers full = subst (IsAssignment p) (sym (picks_name p.arcs 0 numbers full.choice p.persons full.arcs_are full.assigned.persons)) full.assigned

pub as_many : (p : Problem) (numbers : List ℕ) (picks : List Pick) → IsFullOf p numbers → picks ≡ map (pick_at p.arcs) numbers → length picks ≡ p.persons
as_many p numbers picks full made =
    let chosen_len : length full.choice ≡ p.persons = sym (length-map full.choice person_of) ∙ ap length full.assigned.persons ∙ length-range_with_len 0 p.persons in
    let same : length numbers ≡ length full.choice = sym (length-map numbers (slice_get p.arcs)) ∙ ap length full.arcs_are ∙ length-map full.choice Some in
    ap length made ∙ (length-map numbers (pick_at p.arcs) ∙ (same ∙ chosen_len))

pub full_found : (p : Problem) (numbers : List ℕ) (made : List Pick) → IsFullOf p numbers → made ≡ map (pick_at p.arcs) numbers → IsAssignment p (chosen 0 made)
full_found p numbers made full is = subst (λ (xs : List Pick). IsAssignment p (chosen 0 xs)) (sym is) (is_assignment p numbers full)

pub full_within : (p : Problem) (numbers : List ℕ) → IsFullOf p numbers → All (λ n. n < length p.arcs) numbers
full_within p numbers full = all_within p.arcs numbers full.choice full.arcs_are
