-- The first fault of a table's problem.
use Rattle.std.proofs.Common.{◌≡◌, ℕ, suc, ◌+◌, Bool, true, false, cond, List, [], ◌∷◌, ◌++◌, length, get_or, Option, Some, None, refl, sym, ap, subst, ◌∙◌, arith}
use Rattle.std.specs.Prelude.{nat_le, not, ◌&&◌, neg_ℤ, Result, Ok, Err, IfErr, IsErrAnd}
use Rattle.std.specs.Option.{option_or, option_map}
use Rattle.std.proofs.Math.Seq.{get_or-append_seam}
use Rattle.auc_graph.specs.declared.arc.Arc.{Arc}
use Rattle.auc_graph.specs.declared.limits.TheConstants.{MOST_PERSONS, MOST_OBJECTS, MOST_ARCS, MOST_COST}
use Rattle.auc_graph.specs.declared.list_faults.ListFault.{ListFault}
use Rattle.auc_graph.specs.declared.list_faults.ListFault.TheVariants.{Persons, Objects, TooManyArcs, Person, Object, Cost}
use Rattle.auc_graph.specs.InMemory.{counts_fault, first_fault, list_fault, listed, objects_or, problem_from, unless}
use Rattle.auc_graph.specs.Problem.{IsProblem, Problem}
use Rattle.auc_graph.specs.Reading.{is_between}
use Rattle.auc_graph.proofs.InMemoryLaws.{room, sound}
use Rattle.auc_call.specs.Memory.{no_arc}
use Rattle.auc_dense.specs.Table.{at_entry, place_in, table_fault}
use Rattle.auc_call.specs.declared.solved.Failed.{Failed}
use Rattle.auc_call.specs.declared.solved.Failed.TheVariants.{Fault}
use Rattle.auc_dense.specs.TableSolving.{IsRefused}
use Rattle.auc_dense.specs.Entries.{IsFirstFault}
use Rattle.auc_dense.proofs.TableLaws.{fault_parts}

or_none : (a : Option ListFault) → option_or a None ≡ a
or_none None = refl
or_none (Some x) = refl

by_counts : (m : ℕ) (arcs : List Arc) (a b : Bool) (rest : Option ListFault) (fault : ListFault) → option_or (cond a (Some Persons) (cond b (Some Objects) None)) None ≡ Some fault
    → option_map (λ f. at_entry m (get_or arcs (place_in f) no_arc) f) (option_or (cond a (Some Persons) (cond b (Some Objects) None)) rest) ≡ Some fault
by_counts m arcs true b rest fault e = e
by_counts m arcs false true rest fault e = e
by_counts m arcs false false rest fault e = absurd cc

-- a wrong number of persons or objects is the first fault of whatever table
pub counts_refused : (n w : ℕ) (arcs : List Arc) (fault : ListFault) → list_fault n w [] ≡ Some fault → table_fault (problem_from n w arcs) ≡ Some fault
counts_refused n w arcs fault e =
    by_counts (objects_or w n) arcs (not (nat_le 1 n && nat_le n MOST_PERSONS)) (not (nat_le n (objects_or w n) && nat_le (objects_or w n) MOST_OBJECTS)) (first_fault n (objects_or w n) 0 arcs) fault e

faults_are : (n w : ℕ) (arcs : List Arc) → list_fault n w [] ≡ None → list_fault n w arcs ≡ first_fault n (objects_or w n) 0 arcs
faults_are n w arcs e = ap (λ (x : Option ListFault). option_or x (first_fault n (objects_or w n) 0 arcs)) (sym (or_none (counts_fault n (objects_or w n))) ∙ e)

-- arcs without a fault make the problem
pub faultless_listed : (n w : ℕ) (arcs : List Arc) → list_fault n w [] ≡ None → first_fault n (objects_or w n) 0 arcs ≡ None → listed n w arcs ≡ Ok (problem_from n w arcs)
faultless_listed n w arcs e f = ap (unless (problem_from n w arcs)) (faults_are n w arcs e ∙ f)

-- and hold to what a problem does
pub counted_problem : (n w : ℕ) (arcs : List Arc) → IsProblem (problem_from n w []) → first_fault n (objects_or w n) 0 arcs ≡ None → IsProblem (problem_from n w arcs)
counted_problem n w arcs counts none = record {
  some = counts.some;
  most = counts.most;
  enough = counts.enough;
  most_objects = counts.most_objects;
  few = let all = room n (objects_or w n) 0 arcs (omega arith) none in omega (arith, all);
  within = sound n (objects_or w n) 0 arcs none;
}

-- where a fault has a place, it is that of its arc
by_place : (m place : ℕ) (arcs : List Arc) (a : Arc) (x y z t : Bool) (found : ListFault) → get_or arcs place no_arc ≡ a → cond x (Some TooManyArcs) (cond y (Some (Person place)) (cond z (Some (Object place)) (cond t None (Some (Cost place))))) ≡ Some found
    → at_entry m (get_or arcs (place_in found) no_arc) found ≡ at_entry m a found
by_place m place arcs a true y z t found is e = let f : TooManyArcs ≡ found = cc in subst (λ (g : ListFault). at_entry m (get_or arcs (place_in g) no_arc) g ≡ at_entry m a g) f refl
by_place m place arcs a false true z t found is e = let f : Person place ≡ found = cc in subst (λ (g : ListFault). at_entry m (get_or arcs (place_in g) no_arc) g ≡ at_entry m a g) f (ap (λ (b : Arc). at_entry m b (Person place)) is)
by_place m place arcs a false false true t found is e = let f : Object place ≡ found = cc in subst (λ (g : ListFault). at_entry m (get_or arcs (place_in g) no_arc) g ≡ at_entry m a g) f (ap (λ (b : Arc). at_entry m b (Object place)) is)
by_place m place arcs a false false false true found is e = absurd cc
by_place m place arcs a false false false false found is e = let f : Cost place ≡ found = cc in subst (λ (g : ListFault). at_entry m (get_or arcs (place_in g) no_arc) g ≡ at_entry m a g) f (ap (λ (b : Arc). at_entry m b (Cost place)) is)

-- the first fault of the arcs is that of the problem
pub first_refused : (n w : ℕ) (arcs : List Arc) (fault : ListFault) → list_fault n w [] ≡ None → IsFirstFault n (objects_or w n) 0 arcs fault → table_fault (problem_from n w arcs) ≡ Some fault
first_refused n w arcs fault e h =
    let m = objects_or w n in
    let here : first_fault n m 0 (h.before ++ h.arc ∷ h.behind) ≡ Some h.found =
    fault_parts n m 0 h.before (h.arc ∷ h.behind) ∙ ap (λ (x : Option ListFault). option_or x (first_fault n m (0 + length h.before) (h.arc ∷ h.behind))) h.faultless
    ∙ ap (λ (x : Option ListFault). option_or x (first_fault n m (suc (0 + length h.before)) h.behind)) h.found_is in
    let found : list_fault n w arcs ≡ Some h.found = faults_are n w arcs e ∙ ap (first_fault n m 0) h.parts ∙ here in
    let front : 0 + length h.before ≡ length h.before = omega arith in
    let at : get_or arcs (0 + length h.before) no_arc ≡ h.arc = ap (λ (xs : List Arc). get_or xs (0 + length h.before) no_arc) h.parts ∙ ap (λ (i : ℕ). get_or (h.before ++ h.arc ∷ h.behind) i no_arc) front ∙ get_or-append_seam h.before h.arc h.behind no_arc in
    let same = by_place m (0 + length h.before) arcs h.arc (nat_le MOST_ARCS (0 + length h.before)) (nat_le n h.arc.person) (nat_le m h.arc.object) (is_between (neg_ℤ MOST_COST) MOST_COST h.arc.cost) h.found at h.found_is in
    ap (option_map (λ f. at_entry m (get_or arcs (place_in f) no_arc) f)) found ∙ ap (λ (x : ListFault). Some x) (same ∙ sym h.told)

-- a `?` hands the fault on
pub handed : {X : Type 0} (p : Problem) (fault : ListFault) (r : Result X Failed) → IsErrAnd r (λ e. e ≡ Fault fault) → table_fault p ≡ Some fault → IfErr r (IsRefused p)
handed p fault (Ok x) h is = absurd h
handed p fault (Err e) h is = subst (IsRefused p) (sym h) is
