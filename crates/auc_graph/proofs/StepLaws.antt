-- Reading on by one number, and by a whole arc.
use Rattle.std.proofs.Common.{◌≡◌, ℕ, ◌+◌, ◌*◌, ◌<◌, true, List, [], ◌∷◌, ◌++◌, length, Result, Ok, Err, refl, ap, ◌∙◌, arith}
use Rattle.std.specs.Prelude.{◌-◌, ℤ, pos, neg_ℤ, ◌≤ℤ◌, int_le, unsigned_abs}
use Rattle.std.proofs.lemmas.Int.{ints}
use Rattle.std.proofs.lemmas.Bool.{and_from}
use Rattle.std.proofs.lemmas.Bool.Decides.{nat_tests}
use Rattle.auc_graph.specs.declared.number.Number.{Number}
use Rattle.auc_graph.specs.declared.number.Number.TheVariants.{Value}
use Rattle.auc_graph.specs.declared.arc.Arc.{Arc}
use Rattle.auc_graph.specs.declared.read_error.ReadError.{ReadError}
use Rattle.auc_graph.specs.declared.read_error.ReadError.TheVariants.{PersonRange, ObjectRange, CostRange}
use Rattle.auc_graph.specs.declared.stage.Stage.{Stage}
use Rattle.auc_graph.specs.declared.stage.Stage.TheVariants.{AtPerson, AtObject, AtCost}
use Rattle.auc_graph.specs.declared.limits.TheConstants.{MOST_COST}
use Rattle.auc_graph.specs.Problem.{IsWithin}
use Rattle.auc_graph.specs.Reading.{◌>>=◌, within, is_between, index, room, State, step_at, step, finish_at, finish, reading_on}
use Rattle.auc_graph.proofs.InMemoryLaws.{true_from}

-- ---- one number more

-- the first fault stays
pub fault_stays : (limit : ℕ) (e : ReadError) (xs : List Number) → reading_on limit (Err e) xs ≡ Err e
unfolding reading_on step finish
fault_stays limit e [] = refl
fault_stays limit e (x ∷ xs) = fault_stays limit e xs

pub at_number : (limit : ℕ) (stage : Stage) (arcs : List Arc) (x : Number) (xs : List Number) → reading_on limit (Ok (stage, arcs)) (x ∷ xs) ≡ reading_on limit (step_at limit stage arcs x) xs
unfolding reading_on step
at_number limit stage arcs x xs = refl

pub at_end : (limit : ℕ) (stage : Stage) (arcs : List Arc) → reading_on limit (Ok (stage, arcs)) [] ≡ finish_at stage arcs
unfolding reading_on finish
at_end limit stage arcs = refl

pub steps_on : (limit : ℕ) (stage : Stage) (arcs : List Arc) (x : Number) (next : Stage) (arcs_next : List Arc) (xs : List Number) → step_at limit stage arcs x ≡ Ok (next, arcs_next)
    → reading_on limit (Ok (stage, arcs)) (x ∷ xs) ≡ reading_on limit (Ok (next, arcs_next)) xs
steps_on limit stage arcs x next arcs_next xs is = at_number limit stage arcs x xs ∙ ap (λ (s : State). reading_on limit s xs) is

pub steps_off : (limit : ℕ) (stage : Stage) (arcs : List Arc) (x : Number) (e : ReadError) (xs : List Number) → step_at limit stage arcs x ≡ Err e → reading_on limit (Ok (stage, arcs)) (x ∷ xs) ≡ Err e
steps_off limit stage arcs x e xs is = at_number limit stage arcs x xs ∙ ap (λ (s : State). reading_on limit s xs) is ∙ fault_stays limit e xs

-- ---- one arc more

has_room : (limit before : ℕ) → before < limit → room limit before ≡ Ok before
has_room limit before lt = grind (arith, nat_tests)

within_is : (least most z : ℤ) (token : ℕ) (range : ReadError) → least ≤ℤ z → z ≤ℤ most → within least most token range (Value z) ≡ Ok z
within_is least most z token range low high = let t : is_between least most z ≡ true = and_from (int_le least z) (int_le z most) (true_from (int_le least z) low.le) (true_from (int_le z most) high.le) in rw t refl

index_is : (most token i : ℕ) (range : ReadError) → i < most → index most token range (Value (pos (i + 1))) ≡ Ok i
index_is most token i range lt =
    ap (λ (r : Result ℤ ReadError). r >>= λ z. Ok (unsigned_abs z - 1)) (within_is (pos 1) (pos most) (pos (i + 1)) token range (omega (arith, ints)) (omega (arith, ints))) ∙ (let e : i + 1 - 1 ≡ i = omega arith in ap (λ (m : ℕ). Ok m) e)

pub arc_more : (limit persons objects : ℕ) (arcs : List Arc) (a : Arc) (xs : List Number) → length arcs < limit → IsWithin persons objects a
    → reading_on limit (Ok (AtPerson persons objects, arcs)) (Value (pos (a.person + 1)) ∷ Value (pos (a.object + 1)) ∷ Value a.cost ∷ xs) ≡ reading_on limit (Ok (AtPerson persons objects, arcs ++ a ∷ [])) xs
unfolding step_at
arc_more limit persons objects arcs a xs room_is w =
    steps_on limit (AtPerson persons objects) arcs (Value (pos (a.person + 1))) (AtObject persons objects a.person) arcs (Value (pos (a.object + 1)) ∷ Value a.cost ∷ xs) (rw (has_room limit (length arcs) room_is, index_is persons (3 * length arcs + 1) a.person (PersonRange (length arcs)) w.person) refl)
    ∙ steps_on limit (AtObject persons objects a.person) arcs (Value (pos (a.object + 1))) (AtCost persons objects a.person a.object) arcs (Value a.cost ∷ xs) (rw (index_is objects (3 * length arcs + 2) a.object (ObjectRange (length arcs)) w.object) refl)
    ∙ steps_on limit (AtCost persons objects a.person a.object) arcs (Value a.cost) (AtPerson persons objects) (arcs ++ a ∷ []) xs (rw (within_is (neg_ℤ MOST_COST) MOST_COST a.cost (3 * length arcs + 3) (CostRange (length arcs)) w.low w.high) refl)
