-- If there is an assignment by the rows of a problem, each person has an arc, and the problem has an assignment.
use Rattle.std.proofs.Common.{ℕ, pos, ◌≡◌, List, Some, get_or, map, refl, subst, arith, Contains}
use Rattle.std.specs.List.{slice_get}
use Rattle.std.proofs.lemmas.Option.{slice_get-get_or}
use Rattle.auc_hall.proofs.Membership.{nothing}
use Rattle.auc_graph.specs.declared.rows.RowArc.{RowArc}
use Rattle.auc_graph.specs.Problem.{Problem}
use Rattle.auc_graph.specs.Table.{IsTableOf, Table}
use Rattle.auc_hall.specs.Assignment.{IsRowAssignment, number_of}
use Rattle.auc_hall.specs.Full.{HasRowAssignment}
use Rattle.auc_hall.specs.Matching.{IsMatching}
use Rattle.auc_hall.specs.declared.matching.Matching.{Matching}
use Rattle.auc_hall.specs.declared.matching.Matching.TheVariants.{Full}
use Rattle.auc_hall.proofs.ProblemLaws.{full_of}
use Rattle.auc_answers.specs.Answers.{HasAssignment}
use Rattle.auc_answers.specs.Prepared.{IsPrepared, NobodyStuck}
use Rattle.auc_answers.specs.declared.preparing.Prepared.{Prepared}

has_assignment : (p : Problem) (t : Table) → IsTableOf p t → HasRowAssignment t → HasAssignment p
has_assignment p t of has =
    let full = full_of p t (map number_of has.0) of (record { choice = has.0; assigned = has.1; numbers_are = refl }) in
    (full.choice, full.assigned)

a_row_arc : RowArc
a_row_arc = record { cost = pos 0; object = 0; arc = 0 }

chosen_there : (t : Table) (choice : List RowArc) → IsRowAssignment t choice → NobodyStuck t
chosen_there t choice is i l none =
    let arc = get_or choice i a_row_arc in
    let there : slice_get choice i ≡ Some arc = slice_get-get_or choice i a_row_arc (omega (arith, l, is.persons)) in
    nothing arc (subst (λ (row : List RowArc). Contains row arc) none (is.own i arc there))

pub prepared : (p : Problem) (t : Table) → IsTableOf p t → HasRowAssignment t → IsPrepared p (Prepared.Rows t)
prepared p t of has = (of, chosen_there t has.0 has.1, has_assignment p t of has)

pub full_has : (t : Table) (m : Matching) (numbers : List ℕ) → IsMatching t m → m ≡ Full numbers → HasRowAssignment t
full_has t m numbers h is = let full = subst (IsMatching t) is h in (full.choice, full.assigned)
